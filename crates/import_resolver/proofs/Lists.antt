-- What the functions of a table go through, as lists.
use Rattle.std.proofs.Common.{◌≡◌, ◌<◌, ◌≤◌, ◌+◌, ◌-◌, ◌||◌, ℕ, Bool, true, false, List, [], ◌∷◌, ◌++◌, Option, None, Some, get_or, length, length-append, map, take, drop, refl, sym, ap, ◌∙◌, arith, rules}
use Rattle.std.specs.Prelude.{if◌then◌else◌, slice_get}
use Rattle.std.specs.HashSet.{contains_text}
use Rattle.std.specs.List.{list_any}
use Rattle.std.specs.Option.{MatchOption, option_map}
use Rattle.std.specs.Str.{bytes_eq}
use Rattle.std.proofs.lemmas.List.{drop_more, at_drop_all, map-append}
use Rattle.std.proofs.Math.Seq.{take-append_seam}
use Rattle.std.proofs.lemmas.Option.{slice_get-map, slice_get_read}
use Rattle.slint_base.specs.declared.faults.Span.{Span}
use Rattle.syntax_tree.specs.declared.files.Alias.{Alias}
use Rattle.syntax_tree.specs.declared.files.FileItem.{FileItem}
use Rattle.file_exports.specs.Imports.{Import, import_of, onto_some, taken_over, taken_over_among, wanted}
use Rattle.import_resolver.specs.declared.tables.SeenFile.{SeenFile}
use Rattle.import_resolver.specs.declared.tables.DoneFile.{DoneFile}
use Rattle.import_resolver.specs.declared.tables.Table.{Table}
use Rattle.import_resolver.specs.Loads.{Seen, Done, State, closed, exports_itself, first_missing, is_exported, reached_by, reached_named, reached_over, with_number, with_numbers}
use Rattle.import_resolver.specs.Tables.{AtEach, OwnsExports, done_of_file, missing_of, reached_onto, seen_of_file, span_of, state_of}

-- a test of what is made of the elements
pub list_any_map : {A B : Type 0} (p : B → Bool) (f : A → B) (xs : List A) → list_any p (map f xs) ≡ list_any (λ x. p (f x)) xs
list_any_map p f [] = refl
list_any_map p f (x ∷ xs) = ap (λ rest. p (f x) || rest) (list_any_map p f xs)

item_at : {A : Type 0} (items : List A) (place : ℕ) (item : A) → place < length items → item ≡ get_or items place item → drop place items ≡ item ∷ drop (place + 1) items
item_at items place item within is = drop_more items place item within ∙ ap (λ first. first ∷ drop (place + 1) items) (sym is)

-- ---- a search: the element at a place passes the test, or it doesn't, or there is none

pub any-this : (p : ℕ → Bool) (xs : List ℕ) (place : ℕ) → place < length xs → p (get_or xs place 0) ≡ true → true ≡ list_any p (drop place xs)
any-this p xs place within test = sym (ap (list_any p) (drop_more xs place 0 within) ∙ ap (λ b. b || list_any p (drop (place + 1) xs)) test)

pub any-other : (p : ℕ → Bool) (xs : List ℕ) (place : ℕ) → place < length xs → p (get_or xs place 0) ≡ false → list_any p (drop (place + 1) xs) ≡ list_any p (drop place xs)
any-other p xs place within test = sym (ap (list_any p) (drop_more xs place 0 within) ∙ ap (λ b. b || list_any p (drop (place + 1) xs)) test)

pub any-end : (p : ℕ → Bool) (xs : List ℕ) (place : ℕ) → length xs ≤ place → list_any p (drop place xs) ≡ false
any-end p xs place past = at_drop_all (list_any p) xs place past

-- ---- what the file of a name reaches

pub named-this : (items : List DoneFile) (place : ℕ) (item : DoneFile) (name : List ℕ) → place < length items → item ≡ get_or items place item → bytes_eq item.name name ≡ true
    → item.reached.items ≡ reached_named (map done_of_file (drop place items)) name
named-this items place item name within is test =
    sym (ap (λ xs. reached_named (map done_of_file xs) name) (item_at items place item within is)
    ∙ ap (λ b. if b then item.reached.items else reached_named (map done_of_file (drop (place + 1) items)) name) test)

pub named-other : (items : List DoneFile) (place : ℕ) (item : DoneFile) (name : List ℕ) → place < length items → item ≡ get_or items place item → bytes_eq item.name name ≡ false
    → reached_named (map done_of_file (drop (place + 1) items)) name ≡ reached_named (map done_of_file (drop place items)) name
named-other items place item name within is test =
    sym (ap (λ xs. reached_named (map done_of_file xs) name) (item_at items place item within is)
    ∙ ap (λ b. if b then item.reached.items else reached_named (map done_of_file (drop (place + 1) items)) name) test)

pub named-end : (items : List DoneFile) (place : ℕ) (name : List ℕ) → length items ≤ place → reached_named (map done_of_file (drop place items)) name ≡ []
named-end items place name past = at_drop_all (λ xs. reached_named (map done_of_file xs) name) items place past

-- ---- the first name that isn't exported

abbrev pub missing_among : List Seen → List ℕ → List Alias → Option Span
missing_among seen reached names = option_map span_of (first_missing seen reached (map wanted names))

pub missing-this : (seen : List Seen) (reached : List ℕ) (names : List Alias) (place : ℕ) (alias : Alias) → place < length names → alias ≡ get_or names place alias → is_exported seen reached alias.name.name ≡ false
    → Some alias.name.span ≡ missing_among seen reached (drop place names)
missing-this seen reached names place alias within is test =
    sym (ap (missing_among seen reached) (item_at names place alias within is)
    ∙ ap (λ b. option_map span_of (if b then first_missing seen reached (map wanted (drop (place + 1) names)) else Some alias.name)) test)

pub missing-other : (seen : List Seen) (reached : List ℕ) (names : List Alias) (place : ℕ) (alias : Alias) → place < length names → alias ≡ get_or names place alias → is_exported seen reached alias.name.name ≡ true
    → missing_among seen reached (drop (place + 1) names) ≡ missing_among seen reached (drop place names)
missing-other seen reached names place alias within is test =
    sym (ap (missing_among seen reached) (item_at names place alias within is)
    ∙ ap (λ b. option_map span_of (if b then first_missing seen reached (map wanted (drop (place + 1) names)) else Some alias.name)) test)

pub missing-end : (seen : List Seen) (reached : List ℕ) (names : List Alias) (place : ℕ) → length names ≤ place → missing_among seen reached (drop place names) ≡ None
missing-end seen reached names place past = at_drop_all (missing_among seen reached) names place past

-- ---- numbers that are added

pub numbers-step : (numbers next more : List ℕ) (place : ℕ) → place < length more → next ≡ with_number numbers (get_or more place 0) → with_numbers next (drop (place + 1) more) ≡ with_numbers numbers (drop place more)
numbers-step numbers next more place within e = ap (λ xs. with_numbers xs (drop (place + 1) more)) e ∙ sym (ap (with_numbers numbers) (drop_more more place 0 within))

pub numbers-end : (numbers more : List ℕ) (place : ℕ) → length more ≤ place → with_numbers numbers (drop place more) ≡ numbers
numbers-end numbers more place past = at_drop_all (with_numbers numbers) more place past

-- ---- what a file reaches by way of its items

onto-cases : (main : List ℕ) (done : List Done) (importer numbers : List ℕ) (path : Option (List ℕ)) (paths : List (List ℕ))
    → reached_over main done importer numbers (onto_some path paths) ≡ reached_over main done importer (reached_onto main done importer numbers path) paths
onto-cases main done importer numbers None paths = refl
onto-cases main done importer numbers (Some path) paths = refl

pub reach-step : (main : List ℕ) (done : List Done) (importer numbers next : List ℕ) (items : List FileItem) (place : ℕ) (item : FileItem) → place < length items → item ≡ get_or items place item
    → next ≡ reached_onto main done importer numbers (taken_over item)
    → reached_over main done importer next (taken_over_among (drop (place + 1) items)) ≡ reached_over main done importer numbers (taken_over_among (drop place items))
reach-step main done importer numbers next items place item within is e =
    ap (λ xs. reached_over main done importer xs (taken_over_among (drop (place + 1) items))) e
    ∙ sym (ap (λ xs. reached_over main done importer numbers (taken_over_among xs)) (item_at items place item within is)
    ∙ onto-cases main done importer numbers (taken_over item) (taken_over_among (drop (place + 1) items)))

pub reach-end : (main : List ℕ) (done : List Done) (importer numbers : List ℕ) (items : List FileItem) (place : ℕ) → length items ≤ place → reached_over main done importer numbers (taken_over_among (drop place items)) ≡ numbers
reach-end main done importer numbers items place past = at_drop_all (λ xs. reached_over main done importer numbers (taken_over_among xs)) items place past

-- ---- what a file exports by itself

pub exports-some : (files : List SeenFile) (number : ℕ) (file : SeenFile) (name : List ℕ) → AtEach files (λ k file. OwnsExports file) → slice_get files number ≡ Some file
    → contains_text file.own name ≡ exports_itself (slice_get (map seen_of_file files) number) name
exports-some files number file name owned is =
    owned number file is name ∙ sym (ap (λ o. exports_itself o name) (slice_get-map seen_of_file files number ∙ ap (option_map seen_of_file) is))

pub exports-none : (files : List SeenFile) (number : ℕ) (name : List ℕ) → slice_get files number ≡ None → false ≡ exports_itself (slice_get (map seen_of_file files) number) name
exports-none files number name none = sym (ap (λ o. exports_itself o name) (slice_get-map seen_of_file files number ∙ ap (option_map seen_of_file) none))

-- ---- a file that is closed

-- the last name is taken away
pub popped : (old new : List (List ℕ)) (last : Option (List ℕ)) → MatchOption last ((old ≡ []) × (new ≡ [])) (λ name. old ≡ new ++ name ∷ []) → new ≡ take (length old - 1) old
popped old new None empty = empty.1 ∙ sym (ap (λ names. take (length names - 1) names) empty.0)
popped old new (Some name) split =
    let count : length old - 1 ≡ length new = omega (arith, ap length split, length-append new (name ∷ [])) in
    sym (ap (λ n. take n old) count ∙ (ap (take (length new)) split ∙ take-append_seam new (name ∷ [])))

abbrev state_with : List Seen → List Done → State
state_with seen done = record { seen = seen; done = done }

-- the state of a table behind whose files that are done one more is put
pub closes : (main : List ℕ) (number : ℕ) (file : SeenFile) (old new : Table) (done : DoneFile) → new.files ≡ old.files → new.done ≡ old.done ++ done ∷ []
    → done_of_file done ≡ record { name = file.name; reached = reached_by main (map done_of_file old.done) number (seen_of_file file) }
    → state_of new ≡ closed main number (seen_of_file file) (state_of old)
closes main number file old new done files dones made =
    ap (λ xs. state_with (map seen_of_file xs) (map done_of_file new.done)) files
    ∙ (ap (λ xs. state_with (map seen_of_file old.files) (map done_of_file xs)) dones
    ∙ (ap (state_with (map seen_of_file old.files)) (map-append done_of_file old.done (done ∷ []))
    ∙ ap (λ one. state_with (map seen_of_file old.files) (map done_of_file old.done ++ one ∷ [])) made))

pub some_same : {A : Type 0} {o : Option A} {x y : A} → o ≡ Some x → o ≡ Some y → x ≡ y
some_same e f = search (rules, e, f)

-- the file that is read at a place
pub seen-at : (files items : List SeenFile) (number : ℕ) (file : SeenFile) → items ≡ files → number < length files → file ≡ get_or items number file → slice_get files number ≡ Some file
seen-at files items number file same within is = slice_get_read files (length files) number file refl within (is ∙ ap (λ xs. get_or xs number file) same)

abbrev done_with : List ℕ → List ℕ → Done
done_with name numbers = record { name = name; reached = numbers }

pub made-done : (main : List ℕ) (done : List Done) (number : ℕ) (files : List SeenFile) (one file : SeenFile) (name numbers : List ℕ) → slice_get files number ≡ Some one → slice_get files number ≡ Some file → name ≡ one.name
    → numbers ≡ reached_by main done number (seen_of_file one) → done_with name numbers ≡ done_with file.name (reached_by main done number (seen_of_file file))
made-done main done number files one file name numbers is there named reached =
    ap (λ xs. done_with xs numbers) named ∙ (ap (done_with one.name) reached
    ∙ ap (λ (f : SeenFile). done_with f.name (reached_by main done number (seen_of_file f))) (some_same is there))

-- the first missing name of the import that an item of a file is
pub missing-name : (table : Table) (importer place : ℕ) (name reached : List ℕ) (names : List Alias) (one file : SeenFile) (item its_item : FileItem) (import : Import) (result : Option Span)
    → slice_get table.files importer ≡ Some one → slice_get one.tree.items place ≡ Some item → reached ≡ reached_named (map done_of_file table.done) name
    → ((its_import : Import) → import_of item ≡ Some its_import → map wanted names ≡ its_import.names)
    → result ≡ option_map span_of (first_missing (map seen_of_file table.files) reached (map wanted names))
    → slice_get table.files importer ≡ Some file → slice_get file.tree.items place ≡ Some its_item → import_of its_item ≡ Some import
    → result ≡ option_map span_of (missing_of table name import)
missing-name table importer place name reached names one file item its_item import result is item_is reaches listed found there its_item_there is_import =
    let same : one ≡ file = some_same is there in
    let same_item : item ≡ its_item = some_same item_is (ap (λ (f : SeenFile). slice_get f.tree.items place) same ∙ its_item_there) in
    let its_names : map wanted names ≡ import.names = listed import (ap import_of same_item ∙ is_import) in
    found ∙ (ap (λ numbers. option_map span_of (first_missing (map seen_of_file table.files) numbers (map wanted names))) reaches
    ∙ ap (λ idents. option_map span_of (first_missing (map seen_of_file table.files) (reached_named (map done_of_file table.done) name) idents)) its_names)
