-- The rows of the loaded files, a file after the other.
use Rattle.std.proofs.Common.{◌≡◌, ℕ, Bool, true, false, List, [], ◌∷◌, ◌++◌, length, map, take, Option, Some, None, refl, sym, ap, ◌∙◌, subst, append_assoc, append-nil}
use Rattle.std.specs.Prelude.{⊤, slice_get, if◌then◌else◌, ◌||◌, String, string_bytes}
use Rattle.std.specs.Global.{Global}
use Rattle.std.specs.String.{string_eq}
use Rattle.std.specs.Option.{option_map}
use Rattle.std.specs.Str.{bytes_eq}
use Rattle.std.proofs.lemmas.Bool.{false_from_ne_true}
use Rattle.std.proofs.lemmas.Option.{slice_get-map}
use Rattle.std.proofs.lemmas.Slice.Eq.{bytes_eq-Decides}
use Rattle.indexmap.specs.IndexMap.{insert_entry}
use Rattle.syntax_tree.specs.declared.files.File.{File}
use Rattle.file_exports.specs.Imports.{Import, imports_among}
use Rattle.file_exports.specs.Roots.{has_name}
use Rattle.import_paths.specs.Paths.{file_meant}
use Rattle.import_resolver.specs.declared.loaded.SourceFile.{SourceFile}
use Rattle.import_resolver.specs.declared.tables.SeenFile.{SeenFile}
use Rattle.import_resolver.specs.Loaded.{FileRow, numbers_meant, row_of, row_seen, rows_seen, seen_names}
use Rattle.import_resolver.specs.Numbers.{AllMeant, AreNumbers, row_name, row_with}
use Rattle.import_resolver.specs.Tables.{AtEach, names_of, seen_of_file}

-- ---- a new name in the map

bytes_eq-other : (a b : List ℕ) → bytes_eq a b ≡ false → bytes_eq b a ≡ false
bytes_eq-other a b e = false_from_ne_true (bytes_eq b a) (λ yes. let same : bytes_eq a b ≡ true = (bytes_eq-Decides a b).1 (sym ((bytes_eq-Decides b a).0 yes)) in let no : true ≡ false = sym same ∙ e in cc)

or-left : (a b : Bool) → (a || b) ≡ false → a ≡ false
or-left true b e = e
or-left false b e = refl

or-right : (a b : Bool) → (a || b) ≡ false → b ≡ false
or-right true b e = cc
or-right false b e = e

pub rows-insert : (entries : List (String Global × SourceFile)) (key : String Global) (file : SourceFile) → has_name (map row_name (map row_of entries)) (string_bytes key) ≡ false
    → map row_of (insert_entry string_eq entries key file) ≡ map row_of entries ++ row_of (key, file) ∷ []
rows-insert [] key file fresh = refl
rows-insert (entry ∷ entries) key file fresh =
    let other : bytes_eq (string_bytes key) (string_bytes entry.0) ≡ false =
    bytes_eq-other (string_bytes entry.0) (string_bytes key) (or-left (bytes_eq (string_bytes entry.0) (string_bytes key)) (has_name (map row_name (map row_of entries)) (string_bytes key)) fresh) in
    ap (λ b. map row_of (if b then (entry.0, file) ∷ entries else entry ∷ insert_entry string_eq entries key file)) other
    ∙ ap (λ rows. row_of entry ∷ rows) (rows-insert entries key file (or-right (bytes_eq (string_bytes entry.0) (string_bytes key)) (has_name (map row_name (map row_of entries)) (string_bytes key)) fresh))

abbrev row_made : List ℕ → File → List ℕ → List ℕ → FileRow
row_made name tree starts imports = record { name = name; tree = tree; starts = starts; imports = imports }

-- one more file, under a name that none of them has
pub rows-added : (entries more : List (String Global × SourceFile)) (key : String Global) (source : SourceFile) (file : SeenFile) (numbers : List ℕ) → has_name (map row_name (map row_of entries)) file.name ≡ false
    → string_bytes key ≡ file.name → more ≡ insert_entry string_eq entries key source → source.tree ≡ file.tree → source.line_starts.items ≡ file.starts.items → source.imports.items ≡ numbers
    → map row_of more ≡ map row_of entries ++ row_with file numbers ∷ []
rows-added entries more key source file numbers fresh named pushed tree starts imports =
    let row : row_of (key, source) ≡ row_with file numbers =
    ap (λ n. row_made n source.tree source.line_starts.items source.imports.items) named
    ∙ (ap (λ (t : File). row_made file.name t source.line_starts.items source.imports.items) tree
    ∙ (ap (λ s. row_made file.name file.tree s source.imports.items) starts ∙ ap (row_made file.name file.tree file.starts.items) imports)) in
    let new : has_name (map row_name (map row_of entries)) (string_bytes key) ≡ false = ap (has_name (map row_name (map row_of entries))) named ∙ fresh in
    ap (map row_of) pushed ∙ (rows-insert entries key source new ∙ ap (λ (r : FileRow). map row_of entries ++ r ∷ []) row)

-- ---- rows beside their files

pub record IsRow (main : List ℕ) (names : List (List ℕ)) (file : SeenFile) (row : FileRow) : Type 0 where
  pub name : row.name ≡ file.name
  pub tree : row.tree ≡ file.tree
  pub starts : row.starts ≡ file.starts.items
  pub imports : AreNumbers main names file.name (imports_among file.tree.items) row.imports

abbrev pub AreRows : List ℕ → List (List ℕ) → List SeenFile → List FileRow → Type 0
AreRows main names [] [] = ⊤
AreRows main names (file ∷ files) (row ∷ rows) = IsRow main names file row × AreRows main names files rows
AreRows main names _ _ = ⊥

pub rows-push : (main : List ℕ) (names : List (List ℕ)) (files : List SeenFile) (rows : List FileRow) (file : SeenFile) (numbers : List ℕ) → AreRows main names files rows
    → AreNumbers main names file.name (imports_among file.tree.items) numbers → AreRows main names (files ++ file ∷ []) (rows ++ row_with file numbers ∷ [])
rows-push main names [] [] file numbers h k = (record { name = refl; tree = refl; starts = refl; imports = k }, tt)
rows-push main names [] (row ∷ rows) file numbers h k = absurd h
rows-push main names (first ∷ files) [] file numbers h k = absurd h
rows-push main names (first ∷ files) (row ∷ rows) file numbers h k = (h.0, rows-push main names files rows file numbers h.1 k)

cons_name : (a b : List ℕ) (xs ys : List (List ℕ)) → a ≡ b → xs ≡ ys → ◌≡◌ {A = List (List ℕ)} (a ∷ xs) (b ∷ ys)
cons_name a b xs ys e f = cc

names_of-rows : (main : List ℕ) (names : List (List ℕ)) (files : List SeenFile) (rows : List FileRow) → AreRows main names files rows → map row_name rows ≡ names_of files
names_of-rows main names [] [] h = refl
names_of-rows main names [] (row ∷ rows) h = absurd h
names_of-rows main names (file ∷ files) [] h = absurd h
names_of-rows main names (file ∷ files) (row ∷ rows) h = cons_name row.name file.name (map row_name rows) (names_of files) h.0.name (names_of-rows main names files rows h.1)

-- ---- the rows are those of the files

names-seen : (files : List SeenFile) → seen_names (map seen_of_file files) ≡ names_of files
names-seen [] = refl
names-seen (file ∷ files) = ap (λ names. file.name ∷ names) (names-seen files)

row_is : (main : List ℕ) (names : List (List ℕ)) (file : SeenFile) (row : FileRow) → IsRow main names file row → row ≡ row_seen main names (seen_of_file file)
row_is main names file row h = made row.name file.name row.tree file.tree row.starts file.starts.items row.imports (numbers_meant main names file.name (imports_among file.tree.items)) h.name h.tree h.starts h.imports
  where
    made : (a b : List ℕ) (t u : File) (s r : List ℕ) (i j : List ℕ) → a ≡ b → t ≡ u → s ≡ r → i ≡ j → row_made a t s i ≡ row_made b u r j
    made a b t u s r i j p q o e = cc

rows-are : (main : List ℕ) (names : List (List ℕ)) (files : List SeenFile) (rows : List FileRow) → AreRows main names files rows → rows ≡ map (row_seen main names) (map seen_of_file files)
rows-are main names [] [] h = refl
rows-are main names [] (row ∷ rows) h = absurd h
rows-are main names (file ∷ files) [] h = absurd h
rows-are main names (file ∷ files) (row ∷ rows) h =
    let first : row ≡ row_seen main names (seen_of_file file) = row_is main names file row h.0 in
    ap (λ (r : FileRow). r ∷ rows) first ∙ ap (λ (rs : List FileRow). row_seen main names (seen_of_file file) ∷ rs) (rows-are main names files rows h.1)

-- ---- a file after the other: those that have rows, and those that are left

pub record IsSplit (main : List ℕ) (names : List (List ℕ)) (all left : List SeenFile) (rows : List FileRow) : Type 0 where
  pub done : List SeenFile
  pub parts : all ≡ done ++ left
  pub shown : AreRows main names done rows

pub split-first : (main : List ℕ) (names : List (List ℕ)) (all left : List SeenFile) (rows : List FileRow) → all ≡ left → rows ≡ [] → IsSplit main names all left rows
split-first main names all left rows same none = record { done = []; parts = same; shown = let P : List FileRow → Type 0 = AreRows main names [] in subst P (sym none) tt }

slice_get-at : (front : List SeenFile) (file : SeenFile) (back : List SeenFile) → slice_get (front ++ file ∷ back) (length front) ≡ Some file
slice_get-at [] file back = refl
slice_get-at (first ∷ front) file back = slice_get-at front file back

take-front : (front back : List SeenFile) → take (length front) (front ++ back) ≡ front
take-front [] back = refl
take-front (first ∷ front) back = ap (λ (fs : List SeenFile). first ∷ fs) (take-front front back)

-- what holds at each file holds of the next one
pub next_each : (P : ℕ → SeenFile → Type 0) (main : List ℕ) (names : List (List ℕ)) (all left rest : List SeenFile) (rows : List FileRow) (file : SeenFile) → (split : IsSplit main names all left rows) → left ≡ file ∷ rest → AtEach all P → P (length split.done) file
next_each P main names all left rest rows file split first each =
    each (length split.done) file (ap (λ (fs : List SeenFile). slice_get fs (length split.done)) (split.parts ∙ ap (λ (fs : List SeenFile). split.done ++ fs) first) ∙ slice_get-at split.done file rest)

-- the imports of the next one mean files that are there
pub next_meant : (main : List ℕ) (names : List (List ℕ)) (all left rest : List SeenFile) (rows : List FileRow) (file : SeenFile) → IsSplit main names all left rows → left ≡ file ∷ rest → names ≡ names_of all
    → AtEach all (λ k other. AllMeant main (names_of all) other.name (imports_among other.tree.items)) → AllMeant main names file.name (imports_among file.tree.items)
next_meant main names all left rest rows file split first is meant =
    let here : AllMeant main (names_of all) file.name (imports_among file.tree.items) = next_each (λ k other. AllMeant main (names_of all) other.name (imports_among other.tree.items)) main names all left rest rows file split first meant in
    let P : List (List ℕ) → Type 0 = λ ns. AllMeant main ns file.name (imports_among file.tree.items) in
    subst P (sym is) here

-- the next one's name isn't among the rows yet
pub next_fresh : (main : List ℕ) (names : List (List ℕ)) (all left rest : List SeenFile) (rows : List FileRow) (file : SeenFile) → IsSplit main names all left rows → left ≡ file ∷ rest
    → AtEach all (λ k other. has_name (names_of (take k all)) other.name ≡ false) → has_name (map row_name rows) file.name ≡ false
next_fresh main names all left rest rows file split first once =
    let here : has_name (names_of (take (length split.done) all)) file.name ≡ false = next_each (λ k other. has_name (names_of (take k all)) other.name ≡ false) main names all left rest rows file split first once in
    let front : take (length split.done) all ≡ split.done = ap (take (length split.done)) split.parts ∙ take-front split.done left in
    ap (λ ns. has_name ns file.name) (names_of-rows main names split.done rows split.shown ∙ sym (ap names_of front)) ∙ here

pub split-next : (main : List ℕ) (names : List (List ℕ)) (all left rest : List SeenFile) (rows more : List FileRow) (file : SeenFile) (numbers : List ℕ) → IsSplit main names all left rows → left ≡ file ∷ rest
    → AreNumbers main names file.name (imports_among file.tree.items) numbers → more ≡ rows ++ row_with file numbers ∷ [] → IsSplit main names all rest more
split-next main names all left rest rows more file numbers split first meant pushed = record {
  done = split.done ++ file ∷ [];
  parts = split.parts ∙ (ap (λ (fs : List SeenFile). split.done ++ fs) first ∙ sym (append_assoc split.done (file ∷ []) rest));
  shown = let P : List FileRow → Type 0 = AreRows main names (split.done ++ file ∷ []) in subst P (sym pushed) (rows-push main names split.done rows file numbers split.shown meant);
}

pub split-end : (main : List ℕ) (names : List (List ℕ)) (all left : List SeenFile) (rows : List FileRow) → IsSplit main names all left rows → left ≡ [] → names ≡ names_of all → rows ≡ rows_seen main (map seen_of_file all)
split-end main names all left rows split none is =
    let whole : split.done ≡ all = sym (split.parts ∙ (ap (λ (fs : List SeenFile). split.done ++ fs) none ∙ append-nil split.done)) in
    let P : List SeenFile → Type 0 = λ fs. AreRows main names fs rows in
    rows-are main names all rows (subst P whole split.shown) ∙ ap (λ ns. map (row_seen main ns) (map seen_of_file all)) (is ∙ sym (names-seen all))
