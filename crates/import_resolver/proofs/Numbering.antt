-- The numbers of the files that imports mean.
use Rattle.std.proofs.Common.{◌≡◌, ℕ, ◌<◌, ◌+◌, suc, cond, Bool, true, false, List, [], ◌∷◌, ◌++◌, length, take, drop, get_or, Option, Some, None, refl, sym, ap, ◌∙◌, subst, arith}
use Rattle.std.specs.Prelude.{◌||◌, nat_lt, not, slice_get, position}
use Rattle.std.specs.List.{list_any, position_or_len}
use Rattle.std.specs.Option.{option_map}
use Rattle.std.specs.Str.{bytes_eq}
use Rattle.std.proofs.lemmas.List.{take_more, drop_more, map-append}
use Rattle.std.proofs.lemmas.Option.{slice_get-get_or}
use Rattle.std.proofs.lemmas.Slice.Eq.{bytes_eq-Decides}
use Rattle.std.proofs.lemmas.List.Quantifiers.{position-Some}
use Rattle.std.proofs.lemmas.Bool.Decides.{Decides-ltb}
use Rattle.syntax_tree.specs.declared.words.Quoted.{Quoted}
use Rattle.syntax_tree.specs.declared.files.FileItem.{FileItem}
use Rattle.file_exports.specs.Imports.{Import, import_of, imports_among, onto_some}
use Rattle.file_exports.specs.Roots.{has_name}
use Rattle.import_paths.specs.Paths.{file_meant}
use Rattle.import_resolver.specs.declared.tables.SeenFile.{SeenFile}
use Rattle.import_resolver.specs.Loaded.{if_placed, number_meant, numbers_meant, place_among}
use Rattle.import_resolver.specs.Numbers.{IsMeant, AllMeant, AreNumbers}
use Rattle.import_resolver.specs.Tables.{names_of, path_of}

-- ---- names and their places

-- the name at a place that was found
pub place_is : (names : List (List ℕ)) (name : List ℕ) (found : Option ℕ) (place : ℕ) → found ≡ position (λ other. bytes_eq other name) names → found ≡ Some place → slice_get names place ≡ Some name
place_is names name found place is e =
    let some = position-Some (λ other. bytes_eq other name) names place name (sym is ∙ e) in
    slice_get-get_or names place name some.0 ∙ ap Some ((bytes_eq-Decides (get_or names place name) name).0 some.1)

pub place_within : (names : List (List ℕ)) (name : List ℕ) (found : Option ℕ) (place : ℕ) → found ≡ position (λ other. bytes_eq other name) names → found ≡ Some place → place < length names
place_within names name found place is e = (position-Some (λ other. bytes_eq other name) names place name (sym is ∙ e)).0

within_step : (test rest : Bool) (place count : ℕ) → (test || rest) ≡ true → (rest ≡ true → place < count) → cond (not test) (1 + place) 0 < suc count
within_step true rest place count e behind = omega arith
within_step false rest place count e behind = let within : place < count = behind e in omega (arith, within)

first_within : (p : List ℕ → Bool) (names : List (List ℕ)) → list_any p names ≡ true → position_or_len p names < length names
first_within p [] e = cc
first_within p (name ∷ names) e = within_step (p name) (list_any p names) (position_or_len p names) (length names) e (first_within p names)

-- a name that is there has a place
pub place_there : (names : List (List ℕ)) (name : List ℕ) → None ≡ position (λ other. bytes_eq other name) names → has_name names name ≡ true → ⊥
place_there names name none there =
    let p : List ℕ → Bool = λ other. bytes_eq other name in
    let test : nat_lt (position_or_len p names) (length names) ≡ true = (Decides-ltb (position_or_len p names) (length names)).1 (first_within p names there) in
    let some : None ≡ Some (position_or_len p names) = none ∙ ap (λ t. cond t (Some (position_or_len p names)) None) test in cc

-- the file that a path means is there
pub meant_there : (main : List ℕ) (names : List (List ℕ)) (importer path name : List ℕ) → Some name ≡ file_meant main importer path → IsMeant main names importer path → has_name names name ≡ true
meant_there main names importer path name is meant =
    let same : meant.name ≡ name = let e : Some name ≡ Some meant.name = is ∙ meant.meant in cc in
    subst (λ (n : List ℕ). has_name names n ≡ true) same meant.there

pub meant_none : (main : List ℕ) (names : List (List ℕ)) (importer path : List ℕ) → None ≡ file_meant main importer path → IsMeant main names importer path → ⊥
meant_none main names importer path none meant = let e : None ≡ Some meant.name = none ∙ meant.meant in cc

pub meant_number : (main : List ℕ) (names : List (List ℕ)) (importer path name : List ℕ) (number : ℕ) → Some name ≡ file_meant main importer path → position (λ other. bytes_eq other name) names ≡ Some number
    → number ≡ number_meant main names importer path
meant_number main names importer path name number is place = sym (ap (place_among names) (sym is) ∙ ap if_placed place)

-- one more name
pub names-step : (files : List SeenFile) (at : ℕ) (file : SeenFile) (old new : List (List ℕ)) → at < length files → file ≡ get_or files at file → old ≡ names_of (take at files) → new ≡ old ++ file.name ∷ [] → new ≡ names_of (take (at + 1) files)
names-step files at file old new within is so_far pushed =
    let more : take (at + 1) files ≡ take at files ++ file ∷ [] = take_more files at file within ∙ ap (λ (f : SeenFile). take at files ++ f ∷ []) (sym is) in
    pushed ∙ (ap (λ names. names ++ file.name ∷ []) so_far ∙ sym (ap names_of more ∙ map-append (λ (f : SeenFile). f.name) (take at files) (file ∷ [])))

-- ---- the import that an item is

pub meant_some : (main : List ℕ) (names : List (List ℕ)) (importer : List ℕ) (import : Option Import) (path : Quoted) (text : List ℕ) → Some path ≡ option_map path_of import → text ≡ path.text → AllMeant main names importer (onto_some import [])
    → IsMeant main names importer text
meant_some main names importer None path text e is h = cc
meant_some main names importer (Some import) path text e is h =
    let same : import.path.text ≡ text = let paths : import.path ≡ path = cc in ap (λ (p : Quoted). p.text) paths ∙ sym is in
    subst (λ (t : List ℕ). IsMeant main names importer t) same h.0

pub number_some : (main : List ℕ) (names : List (List ℕ)) (importer : List ℕ) (import : Option Import) (path : Quoted) (text : List ℕ) (number : ℕ) → Some path ≡ option_map path_of import → text ≡ path.text
    → number ≡ number_meant main names importer text → AreNumbers main names importer (onto_some import []) (number ∷ [])
number_some main names importer None path text number e is h = cc
number_some main names importer (Some import) path text number e is h =
    let same : text ≡ import.path.text = let paths : path ≡ import.path = cc in is ∙ ap (λ (p : Quoted). p.text) paths in
    ap (λ (n : ℕ). n ∷ []) (h ∙ ap (λ (t : List ℕ). number_meant main names importer t) same)

pub number_none : (main : List ℕ) (names : List (List ℕ)) (importer : List ℕ) (import : Option Import) → None ≡ option_map path_of import → AreNumbers main names importer (onto_some import []) []
number_none main names importer None e = refl
number_none main names importer (Some import) e = cc

-- ---- the imports of a file, an item after the other

abbrev AllMeantFrom : List ℕ → List (List ℕ) → List ℕ → List FileItem → ℕ → Type 0
AllMeantFrom main names importer items at = AllMeant main names importer (imports_among (drop at items))

first_meant : (main : List ℕ) (names : List (List ℕ)) (importer : List ℕ) (import : Option Import) (rest : List Import) → AllMeant main names importer (onto_some import rest) → AllMeant main names importer (onto_some import [])
first_meant main names importer None rest h = tt
first_meant main names importer (Some import) rest h = (h.0, tt)

rest_meant : (main : List ℕ) (names : List (List ℕ)) (importer : List ℕ) (import : Option Import) (rest : List Import) → AllMeant main names importer (onto_some import rest) → AllMeant main names importer rest
rest_meant main names importer None rest h = h
rest_meant main names importer (Some import) rest h = h.1

item_at : (items : List FileItem) (at : ℕ) (item : FileItem) → at < length items → item ≡ get_or items at item → drop at items ≡ item ∷ drop (at + 1) items
item_at items at item within is = drop_more items at item within ∙ ap (λ (first : FileItem). first ∷ drop (at + 1) items) (sym is)

pub meant_here : (main : List ℕ) (names : List (List ℕ)) (importer : List ℕ) (items : List FileItem) (at : ℕ) (item : FileItem) → at < length items → item ≡ get_or items at item → AllMeant main names importer (imports_among (drop at items))
    → AllMeant main names importer (imports_among (item ∷ []))
meant_here main names importer items at item within is h =
    let P : List FileItem → Type 0 = λ left. AllMeant main names importer (imports_among left) in
    first_meant main names importer (import_of item) (imports_among (drop (at + 1) items)) (subst P (item_at items at item within is) h)

pub meant_behind : (main : List ℕ) (names : List (List ℕ)) (importer : List ℕ) (items : List FileItem) (at : ℕ) (item : FileItem) → at < length items → item ≡ get_or items at item → AllMeant main names importer (imports_among (drop at items))
    → AllMeant main names importer (imports_among (drop (at + 1) items))
meant_behind main names importer items at item within is h =
    let P : List FileItem → Type 0 = λ left. AllMeant main names importer (imports_among left) in
    rest_meant main names importer (import_of item) (imports_among (drop (at + 1) items)) (subst P (item_at items at item within is) h)

numbers-append : (main : List ℕ) (names : List (List ℕ)) (importer : List ℕ) (front back : List Import) (numbers more : List ℕ) → AreNumbers main names importer front numbers → AreNumbers main names importer back more
    → AreNumbers main names importer (front ++ back) (numbers ++ more)
numbers-append main names importer front back numbers more h k =
    both numbers (numbers_meant main names importer front) more (numbers_meant main names importer back) h k ∙ sym (map-append (λ (import : Import). number_meant main names importer import.path.text) front back)
  where
    both : (xs us ys vs : List ℕ) → xs ≡ us → ys ≡ vs → xs ++ ys ≡ us ++ vs
    both xs us ys vs p q = ap (λ zs. zs ++ ys) p ∙ ap (λ zs. us ++ zs) q

onto-append : (import : Option Import) (front back : List Import) → onto_some import (front ++ back) ≡ onto_some import front ++ back
onto-append None front back = refl
onto-append (Some import) front back = refl

imports-push : (items : List FileItem) (item : FileItem) → imports_among (items ++ item ∷ []) ≡ imports_among items ++ imports_among (item ∷ [])
imports-push [] item = refl
imports-push (first ∷ items) item = ap (onto_some (import_of first)) (imports-push items item) ∙ onto-append (import_of first) (imports_among items) (imports_among (item ∷ []))

-- the numbers with those of one more item
pub numbers-step : (main : List ℕ) (names : List (List ℕ)) (importer : List ℕ) (items : List FileItem) (at : ℕ) (item : FileItem) (old more new : List ℕ) → at < length items → item ≡ get_or items at item
    → AreNumbers main names importer (imports_among (take at items)) old → AreNumbers main names importer (imports_among (item ∷ [])) more → new ≡ old ++ more
    → AreNumbers main names importer (imports_among (take (at + 1) items)) new
numbers-step main names importer items at item old more new within is h k pushed =
    let next : take (at + 1) items ≡ take at items ++ item ∷ [] = take_more items at item within ∙ ap (λ (i : FileItem). take at items ++ i ∷ []) (sym is) in
    let imports : imports_among (take at items) ++ imports_among (item ∷ []) ≡ imports_among (take (at + 1) items) = sym (ap imports_among next ∙ imports-push (take at items) item) in
    let P : List Import → Type 0 = λ front. AreNumbers main names importer front (old ++ more) in
    let Q : List ℕ → Type 0 = λ numbers. AreNumbers main names importer (imports_among (take (at + 1) items)) numbers in
    subst Q (sym pushed) (subst P imports (numbers-append main names importer (imports_among (take at items)) (imports_among (item ∷ [])) old more h k))
