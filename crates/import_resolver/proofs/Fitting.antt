-- Files that a world has, and tables that stay right as files are begun and closed.
use Rattle.std.proofs.Common.{◌≡◌, ℕ, zero, suc, ◌+◌, ◌<◌, ◌≤◌, ◌||◌, Bool, true, false, List, [], ◌∷◌, ◌++◌, length, take, map, slice_get, Option, None, Some, IfSome, refl, sym, ap, ◌∙◌, subst, arith, option_map, bytes_eq, append_assoc, append-nil, length-append}
use Rattle.std.specs.Prelude.{if◌then◌else◌}
use Rattle.std.proofs.lemmas.List.{take_all, take-append-le}
use Rattle.std.proofs.Math.Seq.{take-append_seam}
use Rattle.std.proofs.lemmas.List.Folds.{list_any-append}
use Rattle.std.proofs.lemmas.Option.{slice_get_within}
use Rattle.io_edge.specs.Files.{FileList, bytes_named, most_read}
use Rattle.file_exports.specs.Roots.{has_name}
use Rattle.import_paths.specs.Paths.{IsBelow, folder_of}
use Rattle.import_resolver.specs.declared.tables.SeenFile.{SeenFile}
use Rattle.import_resolver.specs.declared.tables.Table.{Table}
use Rattle.import_resolver.specs.Loads.{World, Done, is_done}
use Rattle.import_resolver.specs.Tables.{AtEach, Fits, FitsFrom, FitsLook, Has, IsFitting, IsNewLook, IsRight, IsSeen, Look, NextReads, OwnsExports, done_of_file, names_of}
use Rattle.import_resolver.proofs.Parts.{or_left, or_right, or_more, or_moved, or_last, same_text, text_same, text_other, has_name-push, none_some, some_same}

-- ---- what holds of each file

pub each-push : (P : ℕ → SeenFile → Type 0) (files : List SeenFile) (file : SeenFile) → AtEach files P → P (length files) file → AtEach (files ++ file ∷ []) P
each-push P [] file each last zero x at = subst (P zero) (some_same at) last
each-push P [] file each last (suc k) x at = absurd (none_some at)
each-push P (y ∷ files) file each last zero x at = each zero x at
each-push P (y ∷ files) file each last (suc k) x at = each-push (λ j. P (suc j)) files file (λ j z e. each (suc j) z e) last k x at

-- ---- files that a world has

-- a file of this number is one that a world has
abbrev pub SeenAt : World → ℕ → SeenFile → Type 0
SeenAt w number file = (bytes : List ℕ) × IsSeen number bytes file × Has w file.name (Some bytes)

pub fits-front : (w : World) (n : ℕ) (front back : List SeenFile) → FitsFrom w n (front ++ back) → FitsFrom w n front
fits-front w n [] back fits = tt
fits-front w n (file ∷ front) back fits = (fits.0, fits-front w (n + 1) front back fits.1)

pub fits-at : (w : World) (n k : ℕ) (front : List SeenFile) (file : SeenFile) (back : List SeenFile) → k ≡ n + length front → FitsFrom w n (front ++ file ∷ back) → SeenAt w k file
fits-at w n k [] file back e fits = let same : n ≡ k = omega arith in subst (λ (z : ℕ). SeenAt w z file) same fits.0
fits-at w n k (first ∷ front) file back e fits = fits-at w (n + 1) k front file back (omega arith) fits.1

pub fits-push : (w : World) (n k : ℕ) (files : List SeenFile) (file : SeenFile) → k ≡ n + length files → FitsFrom w n files → SeenAt w k file → FitsFrom w n (files ++ file ∷ [])
fits-push w n k [] file e fits seen = let same : k ≡ n = omega arith in (subst (λ (z : ℕ). SeenAt w z file) same seen, tt)
fits-push w n k (first ∷ files) file e fits seen = (fits.0, fits-push w (n + 1) k files file (omega arith) fits.1 seen)

-- files to which others were added
abbrev pub Grown : List SeenFile → List SeenFile → Type 0
Grown old new = (more : List SeenFile) × (new ≡ old ++ more)

pub grown-same : (files : List SeenFile) → Grown files files
grown-same files = ([], sym (append-nil files))

pub grown-push : (old new : List SeenFile) (file : SeenFile) → new ≡ old ++ file ∷ [] → Grown old new
grown-push old new file e = (file ∷ [], e)

pub grown-trans : (old mid new : List SeenFile) → Grown old mid → Grown mid new → Grown old new
grown-trans old mid new a b = (a.0 ++ b.0, b.1 ∙ (ap (λ files. files ++ b.0) a.1 ∙ append_assoc old a.0 b.0))

pub fits-before : (w : World) (old new : List SeenFile) → Grown old new → Fits w new → Fits w old
fits-before w old new grown fits = fits-front w 0 old grown.0 (subst (Fits w) grown.1 fits)

at_front : (front back : List SeenFile) (j : ℕ) (x : SeenFile) → slice_get front j ≡ Some x → slice_get (front ++ back) j ≡ Some x
at_front [] back j x e = absurd (none_some e)
at_front (y ∷ front) back zero x e = e
at_front (y ∷ front) back (suc j) x e = at_front front back j x e

-- a file stays at its place
pub at-grown : (old new : List SeenFile) (k : ℕ) (file : SeenFile) → Grown old new → slice_get old k ≡ Some file → slice_get new k ≡ Some file
at-grown old new k file grown at = ap (λ files. slice_get files k) grown.1 ∙ at_front old grown.0 k file at

pub length-grown : (old new : List SeenFile) → Grown old new → length old ≤ length new
length-grown old new grown = omega (arith, ap length grown.1, length-append old grown.0)

-- the place behind files
pub at-push : (files : List SeenFile) (file : SeenFile) → slice_get (files ++ file ∷ []) (length files) ≡ Some file
at-push [] file = refl
at-push (first ∷ files) file = at-push files file

-- ---- a list of files with one more in front

has-beside : (held : FileList) (name bytes other : List ℕ) (front : Option (List ℕ)) → bytes_eq name other ≡ false → Has (bytes_named held) other front → Has (bytes_named ((name, bytes) ∷ held)) other front
has-beside held name bytes other front apart has =
    let named : Bool → Option (List ℕ) = λ b. if b then Some bytes else bytes_named held other in
    subst (λ (b : Bool). option_map (take most_read) (named b) ≡ front) (sym apart) has

pub has-itself : (held : FileList) (name bytes : List ℕ) → length bytes ≤ most_read → Has (bytes_named ((name, bytes) ∷ held)) name (Some bytes)
has-itself held name bytes short =
    let named : Bool → Option (List ℕ) = λ b. if b then Some bytes else bytes_named held name in
    subst (λ (b : Bool). option_map (take most_read) (named b) ≡ Some bytes) (sym (text_same name name refl)) (ap Some (take_all most_read bytes short))

pub fits-beside : (held : FileList) (name bytes : List ℕ) (n : ℕ) (files : List SeenFile) → has_name (names_of files) name ≡ false → FitsFrom (bytes_named held) n files
    → FitsFrom (bytes_named ((name, bytes) ∷ held)) n files
fits-beside held name bytes n [] new fits = tt
fits-beside held name bytes n (file ∷ files) new fits =
    let apart = text_other file.name name (or_left (bytes_eq file.name name) (has_name (names_of files) name) new) in
    let seen = fits.0 in (
      (seen.0, seen.1, has-beside held name bytes file.name (Some seen.0) apart seen.2),
      fits-beside held name bytes (n + 1) files (or_right (bytes_eq file.name name) (has_name (names_of files) name) new) fits.1,
    )

none-beside : (held : FileList) (name bytes other : List ℕ) → bytes_eq name other ≡ false → bytes_named held other ≡ None → bytes_named ((name, bytes) ∷ held) other ≡ None
none-beside held name bytes other apart none =
    let named : Bool → Option (List ℕ) = λ b. if b then Some bytes else bytes_named held other in
    subst (λ (b : Bool). named b ≡ None) (sym apart) none

-- ---- a name that is neither loaded nor being loaded isn't among the files

apart_by : (done : List Done) (loading : List (List ℕ)) (other name : List ℕ) (v : Bool) → bytes_eq other name ≡ v → (is_done done other || has_name loading other) ≡ true → is_done done name ≡ false
    → has_name loading name ≡ false → bytes_eq other name ≡ false
apart_by done loading other name false is covered d l = is
apart_by done loading other name true is covered d l =
    let here : (is_done done name || has_name loading name) ≡ true = subst (λ (n : List ℕ). (is_done done n || has_name loading n) ≡ true) (same_text other name is) covered in
    let none : (is_done done name || has_name loading name) ≡ false = ap (λ b. b || has_name loading name) d ∙ l in
    let no : true ≡ false = sym here ∙ none in cc

pub unseen : (done : List Done) (loading : List (List ℕ)) (files : List SeenFile) (name : List ℕ) → AtEach files (λ k file. (is_done done file.name || has_name loading file.name) ≡ true) → is_done done name ≡ false
    → has_name loading name ≡ false → has_name (names_of files) name ≡ false
unseen done loading [] name covered d l = refl
unseen done loading (file ∷ files) name covered d l =
    ap (λ b. b || has_name (names_of files) name) (apart_by done loading file.name name (bytes_eq file.name name) refl (covered zero file refl) d l)
    ∙ unseen done loading files name (λ k x at. covered (suc k) x at) d l

-- ---- a table with one more file

regroup : (a b c : Bool) → (a || (b || c)) ≡ ((a || b) || c)
regroup true b c = refl
regroup false b c = refl

names-push : (files : List SeenFile) (file : SeenFile) (name : List ℕ) → has_name (names_of (files ++ file ∷ [])) name ≡ (has_name (names_of files) name || (bytes_eq file.name name || false))
names-push [] file name = refl
names-push (first ∷ files) file name =
    ap (λ b. bytes_eq first.name name || b) (names-push files file name) ∙ regroup (bytes_eq first.name name) (has_name (names_of files) name) (bytes_eq file.name name || false)

-- what a list of files has, with a file that was read
pub fitting-push : (files : List SeenFile) (file : SeenFile) (bytes : List ℕ) → IsFitting files → has_name (names_of files) file.name ≡ false → IsSeen (length files) bytes file → IsFitting (files ++ file ∷ [])
fitting-push files file bytes fitting new seen = record {
  held = (file.name, bytes) ∷ fitting.held;
  fits = fits-push _ 0 (length files) files file (omega arith) (fits-beside fitting.held file.name bytes 0 files new fitting.fits)
      (bytes, seen, has-itself fitting.held file.name bytes seen.short);
  no_more = λ name none.
      let none_now = sym (names-push files file name) ∙ none in
      none-beside fitting.held file.name bytes name
      (or_left (bytes_eq file.name name) false (or_right (has_name (names_of files) name) (bytes_eq file.name name || false) none_now))
      (fitting.no_more name (or_left (has_name (names_of files) name) (bytes_eq file.name name || false) none_now));
}

once-push : (files : List SeenFile) (file : SeenFile) → AtEach files (λ k x. has_name (names_of (take k files)) x.name ≡ false) → has_name (names_of files) file.name ≡ false
    → AtEach (files ++ file ∷ []) (λ k x. has_name (names_of (take k (files ++ file ∷ []))) x.name ≡ false)
once-push files file once new =
    each-push (λ k x. has_name (names_of (take k (files ++ file ∷ []))) x.name ≡ false) files file
    (λ k x at. let within = slice_get_within files k x at in
    ap (λ front. has_name (names_of front) x.name) (take-append-le k files (file ∷ []) (omega arith)) ∙ once k x at)
    (ap (λ front. has_name (names_of front) file.name) (take-append_seam files (file ∷ [])) ∙ new)

itself : (a b : Bool) → b ≡ true → (a || (b || false)) ≡ true
itself true b e = refl
itself false true e = refl
itself false false e = cc

or_true : (a : Bool) → (a || true) ≡ true
or_true true = refl
or_true false = refl

covered-push : (done : List Done) (loading : List (List ℕ)) (files : List SeenFile) (file : SeenFile) → AtEach files (λ k x. (is_done done x.name || has_name loading x.name) ≡ true)
    → AtEach (files ++ file ∷ []) (λ k x. (is_done done x.name || has_name (loading ++ file.name ∷ []) x.name) ≡ true)
covered-push done loading files file covered =
    each-push (λ k x. (is_done done x.name || has_name (loading ++ file.name ∷ []) x.name) ≡ true) files file
    (λ k x at. ap (λ b. is_done done x.name || b) (has_name-push loading file.name x.name) ∙ or_more (is_done done x.name) (has_name loading x.name) (bytes_eq file.name x.name || false) (covered k x at))
    (ap (λ b. is_done done file.name || b) (has_name-push loading file.name file.name ∙ itself (has_name loading file.name) (bytes_eq file.name file.name) (text_same file.name file.name refl)) ∙ or_true (is_done done file.name))

-- the table of a file that was read and is begun
pub right-begun : (main : List ℕ) (held : Option FileList) (old mid : Table) (name : List ℕ) (file : SeenFile) → IsRight main old → IsBelow (folder_of main) name
    → has_name (names_of old.files) name ≡ false → NextReads held old name file → mid.files ≡ old.files ++ file ∷ [] → mid.done ≡ old.done → mid.loading ≡ old.loading ++ file.name ∷ [] → IsRight main mid
right-begun main held old mid name file right below new next files done loading =
    let new_file : has_name (names_of old.files) file.name ≡ false = ap (has_name (names_of old.files)) next.named ∙ new in
    let below_file : IsBelow (folder_of main) file.name = subst (IsBelow (folder_of main)) (sym next.named) below in
    let Covers : List SeenFile → List Done → List (List ℕ) → Type 0 = λ fs ds ls. AtEach fs (λ k x. (is_done ds x.name || has_name ls x.name) ≡ true) in
    let covered = covered-push (map done_of_file old.done) old.loading old.files file right.covered in
    let covered_done = subst (λ ds. Covers (old.files ++ file ∷ []) (map done_of_file ds) (old.loading ++ file.name ∷ [])) (sym done) covered in
    let covered_loading = subst (λ (ls : List (List ℕ)). Covers (old.files ++ file ∷ []) (map done_of_file mid.done) ls) (sym loading) covered_done in
    record {
      fitted = subst IsFitting (sym files) (fitting-push old.files file next.bytes right.fitted new_file next.seen);
      owned = subst (λ (fs : List SeenFile). AtEach fs (λ k x. OwnsExports x)) (sym files) (each-push (λ k x. OwnsExports x) old.files file right.owned next.owned);
      below = subst (λ (fs : List SeenFile). AtEach fs (λ k x. IsBelow (folder_of main) x.name)) (sym files) (each-push (λ k x. IsBelow (folder_of main) x.name) old.files file right.below below_file);
      covered = subst (λ (fs : List SeenFile). Covers fs (map done_of_file mid.done) mid.loading) (sym files) covered_loading;
      once = subst (λ (fs : List SeenFile). AtEach fs (λ k x. has_name (names_of (take k fs)) x.name ≡ false)) (sym files) (once-push old.files file right.once new_file);
      few = omega (arith, ap length files, length-append old.files (file ∷ []), next.room);
    }

is_done-push : (ds : List Done) (d : Done) (n : List ℕ) → is_done (ds ++ d ∷ []) n ≡ (is_done ds n || (bytes_eq d.name n || false))
is_done-push ds d n = list_any-append (λ (x : Done). bytes_eq x.name n) ds (d ∷ [])

moved : (ds : List Done) (d : Done) (ls : List (List ℕ)) (l n : List ℕ) → d.name ≡ l → (is_done ds n || has_name (ls ++ l ∷ []) n) ≡ true → (is_done (ds ++ d ∷ []) n || has_name ls n) ≡ true
moved ds d ls l n e h =
    ap (λ b. b || has_name ls n) (is_done-push ds d n ∙ ap (λ t. is_done ds n || (bytes_eq t n || false)) e)
    ∙ or_moved (is_done ds n) (has_name ls n) (bytes_eq l n) (sym (ap (λ b. is_done ds n || b) (has_name-push ls l n)) ∙ h)

-- the table of a file that is closed
pub right-closed : (main : List ℕ) (old new : Table) (loading : List (List ℕ)) (name : List ℕ) (last : Done) → IsRight main old → new.files ≡ old.files → old.loading ≡ loading ++ name ∷ [] → new.loading ≡ loading
    → map done_of_file new.done ≡ map done_of_file old.done ++ last ∷ [] → last.name ≡ name → IsRight main new
right-closed main old new loading name last right files was now done named =
    let Covers : List SeenFile → List Done → List (List ℕ) → Type 0 = λ fs ds ls. AtEach fs (λ k x. (is_done ds x.name || has_name ls x.name) ≡ true) in
    let covered : Covers old.files (map done_of_file old.done ++ last ∷ []) loading = λ k x at.
    moved (map done_of_file old.done) last loading name x.name named (ap (λ ls. is_done (map done_of_file old.done) x.name || has_name ls x.name) (sym was) ∙ right.covered k x at) in
    let covered_done = subst (λ (ds : List Done). Covers old.files ds loading) (sym done) covered in
    let covered_loading = subst (λ (ls : List (List ℕ)). Covers old.files (map done_of_file new.done) ls) (sym now) covered_done in
    record {
      fitted = subst IsFitting (sym files) right.fitted;
      owned = subst (λ (fs : List SeenFile). AtEach fs (λ k x. OwnsExports x)) (sym files) right.owned;
      below = subst (λ (fs : List SeenFile). AtEach fs (λ k x. IsBelow (folder_of main) x.name)) (sym files) right.below;
      covered = subst (λ (fs : List SeenFile). Covers fs (map done_of_file new.done) new.loading) (sym files) covered_loading;
      once = subst (λ (fs : List SeenFile). AtEach fs (λ k x. has_name (names_of (take k fs)) x.name ≡ false)) (sym files) right.once;
      few = omega (arith, ap length files, right.few);
    }

-- ---- looks

-- some list of files has those that were read, and what was looked at last
pub fitting-look : (files : List SeenFile) (look : Look) → IsFitting files → IsNewLook files look → (list : FileList) × Fits (bytes_named list) files × FitsLook (bytes_named list) look
fitting-look files None fitting new = (fitting.held, fitting.fits, tt)
fitting-look files (Some (name, None)) fitting new = (fitting.held, fitting.fits, ap (option_map (take most_read)) (fitting.no_more name new.0))
fitting-look files (Some (name, Some bytes)) fitting new =
    ((name, bytes) ∷ fitting.held, fits-beside fitting.held name bytes 0 files new.0 fitting.fits, has-itself fitting.held name bytes new.1)
