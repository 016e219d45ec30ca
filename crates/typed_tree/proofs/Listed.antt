-- What lists of names say of what declares them.
use Rattle.std.specs.Prelude.{ℕ, suc, Bool, true, false, if◌then◌else◌, List, [], ◌∷◌, map, slice_get, length, position, Option, Some, None}
use Rattle.std.specs.List.{position_from}
use Rattle.std.specs.Option.{option_and_then, option_map}
use Rattle.std.specs.Str.{bytes_eq}
use Rattle.std.proofs.Common.{◌≡◌, ◌+◌, ◌<◌, refl, sym, ◌∙◌, ap, add-one, ◌^◌, Fits, w32, arith}
use Rattle.std.proofs.lemmas.Iterator.Adapters.{position_from-zero}
use Rattle.std.proofs.lemmas.List.Quantifiers.{position-Some}
use Rattle.std.proofs.lemmas.Option.{slice_get-map}
use Rattle.std.proofs.Math.ListN.{drop}
use Rattle.syntax_tree.specs.declared.words.Ident.{Ident}
use Rattle.value_types.specs.declared.enums.EnumNames.{EnumNames}
use Rattle.name_index.specs.Places.{places_from, places_of}
use Rattle.typed_tree.specs.declared.outlines.ComponentOutline.{ComponentOutline}
use Rattle.typed_tree.specs.declared.outlines.ElementOutline.{ElementOutline}
use Rattle.typed_tree.specs.declared.outlines.FileName.{FileName}
use Rattle.typed_tree.specs.declared.outlines.FileOutline.{FileOutline}
use Rattle.typed_tree.specs.declared.outlines.GlobalOutline.{GlobalOutline}
use Rattle.typed_tree.specs.Elements.{elements_in, has_id, id_number}
use Rattle.typed_tree.specs.Files.{declared_among, names_in, values_in}
use Rattle.typed_tree.specs.Finding.{declared_in, first_seen, list_in}
use Rattle.typed_tree.specs.Indexes.{id_text, ids_of, member_names, names_of_file}
use Rattle.typed_tree.specs.Members.{global_members_in}
use Rattle.typed_tree.proofs.Numbered.{front}

-- a place among what is made of items is a place among the items
from_map : {A B : Type 0} (test : B → Bool) (f : A → B) (n : ℕ) (xs : List A) → position_from test n (map f xs) ≡ position_from (λ x. test (f x)) n xs
from_map test f n [] = refl
from_map test f n (x ∷ xs) = ap (λ rest. if test (f x) then Some n else rest) (from_map test f (n + 1) xs)

pub position-map : {A B : Type 0} (test : B → Bool) (f : A → B) (xs : List A) → position test (map f xs) ≡ position (λ x. test (f x)) xs
position-map test f xs = position_from-zero test (map f xs) ∙ from_map test f 0 xs ∙ sym (position_from-zero (λ x. test (f x)) xs)

-- globals
listed_members : (g : Option GlobalOutline) → list_in (option_map (λ g. member_names g.members) g) ≡ member_names (global_members_in g)
listed_members None = refl
listed_members (Some g) = refl

pub global_place : (globals : List GlobalOutline) (lists : List (List (List ℕ))) (g : ℕ) (name : List ℕ) → lists ≡ map (λ g. member_names g.members) globals
    → position (λ x. bytes_eq x name) (list_in (slice_get lists g)) ≡ position (λ m. bytes_eq m.name.name name) (global_members_in (slice_get globals g))
global_place globals lists g name are = rw (are, slice_get-map (λ g. member_names g.members) globals g, listed_members (slice_get globals g))
    (position-map (λ x. bytes_eq x name) (λ m. m.name.name) (global_members_in (slice_get globals g)))

-- values of enums
listed_values : (names : Option EnumNames) → list_in (option_map (λ names. names.values) names) ≡ values_in names
listed_values None = refl
listed_values (Some names) = refl

pub value_place : (enums : List EnumNames) (lists : List (List (List ℕ))) (k : ℕ) (name : List ℕ) → lists ≡ map (λ names. names.values) enums
    → position (λ x. bytes_eq x name) (list_in (slice_get lists k)) ≡ position (λ x. bytes_eq x name) (values_in (slice_get enums k))
value_place enums lists k name are = rw (are, slice_get-map (λ names. names.values) enums k, listed_values (slice_get enums k)) refl

pub few_fit : (n m : ℕ) → n < m → m < 2 ^ 32 → Fits w32 n
few_fit n m below few = omega arith

pub place_within : (name : List ℕ) (names : List (List ℕ)) (n : ℕ) → position (λ x. bytes_eq x name) names ≡ Some n → n < length names
place_within name names n at = (position-Some (λ x. bytes_eq x name) names n [] at).0

-- names of files
listed_names : (file : Option FileOutline) → list_in (option_map names_of_file file) ≡ map (λ n. n.name) (names_in file)
listed_names None = refl
listed_names (Some file) = refl

abbrev is_it : List ℕ → FileName → Bool
is_it name n = bytes_eq n.name name

declared_step : (name : List ℕ) (all : List FileName) (n : ℕ) (x : FileName) (xs : List FileName) → drop n all ≡ x ∷ xs → (b : Bool) → is_it name x ≡ b
    → declared_among name xs ≡ option_and_then (λ k. declared_in (slice_get all k)) (position_from (is_it name) (suc n) xs)
    → declared_among name (x ∷ xs) ≡ option_and_then (λ k. declared_in (slice_get all k)) (position_from (is_it name) n (x ∷ xs))
declared_step name all n x xs h true is rest = rw (is, (front all n x xs h).0) refl
declared_step name all n x xs h false is rest = rw (is, add-one n) rest

declared_from : (name : List ℕ) (all : List FileName) (n : ℕ) (xs : List FileName) → drop n all ≡ xs
    → declared_among name xs ≡ option_and_then (λ k. declared_in (slice_get all k)) (position_from (is_it name) n xs)
declared_from name all n [] h = refl
declared_from name all n (x ∷ xs) h = declared_step name all n x xs h (is_it name x) refl (declared_from name all (suc n) xs (front all n x xs h).1)

declared_found : (name : List ℕ) (xs : List FileName) → declared_among name xs ≡ option_and_then (λ k. declared_in (slice_get xs k)) (position (is_it name) xs)
declared_found name xs = declared_from name xs 0 xs refl ∙ ap (option_and_then (λ k. declared_in (slice_get xs k))) (sym (position_from-zero (is_it name) xs))

file_place : (files : List FileOutline) (lists : List (List (List ℕ))) (f : ℕ) (name : List ℕ) → lists ≡ map names_of_file files
    → position (λ x. bytes_eq x name) (list_in (slice_get lists f)) ≡ position (is_it name) (names_in (slice_get files f))
file_place files lists f name are = rw (are, slice_get-map names_of_file files f, listed_names (slice_get files f)) (position-map (λ x. bytes_eq x name) (λ n. n.name) (names_in (slice_get files f)))

pub declared_of : (files : List FileOutline) (lists : List (List (List ℕ))) (f : ℕ) (name : List ℕ) (k : ℕ) → lists ≡ map names_of_file files
    → position (λ x. bytes_eq x name) (list_in (slice_get lists f)) ≡ Some k → declared_in (slice_get (names_in (slice_get files f)) k) ≡ declared_among name (names_in (slice_get files f))
declared_of files lists f name k are has =
    sym (declared_found name (names_in (slice_get files f)) ∙ ap (option_and_then (λ k. declared_in (slice_get (names_in (slice_get files f)) k))) (sym (file_place files lists f name are) ∙ has))

pub undeclared_of : (files : List FileOutline) (lists : List (List (List ℕ))) (f : ℕ) (name : List ℕ) → lists ≡ map names_of_file files
    → position (λ x. bytes_eq x name) (list_in (slice_get lists f)) ≡ None → None ≡ declared_among name (names_in (slice_get files f))
undeclared_of files lists f name are lacks =
    sym (declared_found name (names_in (slice_get files f)) ∙ ap (option_and_then (λ k. declared_in (slice_get (names_in (slice_get files f)) k))) (sym (file_place files lists f name are) ∙ lacks))

-- ids
listed_ids : (comp : Option ComponentOutline) → list_in (option_map (λ comp. ids_of comp.elements) comp) ≡ ids_of (elements_in comp)
listed_ids None = refl
listed_ids (Some comp) = refl

no_id : (name : List ℕ) (id : Option Ident) → bytes_eq (id_text id) name ≡ false → has_id name id ≡ false
no_id name None e = refl
no_id name (Some id) e = e

id_step : (all : List ElementOutline) (from n : ℕ) (name : List ℕ) (e : ElementOutline) (es : List ElementOutline) → drop n all ≡ e ∷ es → (b : Bool) → bytes_eq (id_text e.id) name ≡ b
    → id_number all from (suc n) name es ≡ first_seen all from name (places_from (suc n) name (ids_of es))
    → id_number all from n name (e ∷ es) ≡ first_seen all from name (places_from n name (ids_of (e ∷ es)))
id_step all from n name e es h true is rest = rw (is, (front all n e es h).0, rest) refl
id_step all from n name e es h false is rest = rw (is, no_id name e.id is) rest

id_from : (all : List ElementOutline) (from n : ℕ) (name : List ℕ) (es : List ElementOutline) → drop n all ≡ es
    → id_number all from n name es ≡ first_seen all from name (places_from n name (ids_of es))
id_from all from n name [] h = refl
id_from all from n name (e ∷ es) h = id_step all from n name e es h (bytes_eq (id_text e.id) name) refl (id_from all from (suc n) name es (front all n e es h).1)

pub id_of_places : (comps : List ComponentOutline) (lists : List (List (List ℕ))) (c from : ℕ) (name : List ℕ) (elements : List ElementOutline) (places : List ℕ) {answer : Option ℕ}
    → lists ≡ map (λ comp. ids_of comp.elements) comps → elements ≡ elements_in (slice_get comps c) → places ≡ places_of name (list_in (slice_get lists c))
    → answer ≡ first_seen elements from name places → answer ≡ id_number (elements_in (slice_get comps c)) from 0 name (elements_in (slice_get comps c))
id_of_places comps lists c from name elements places are shown at is =
    is ∙ rw (at, are, slice_get-map (λ comp. ids_of comp.elements) comps c, listed_ids (slice_get comps c), shown) (sym (id_from (elements_in (slice_get comps c)) from 0 name (elements_in (slice_get comps c)) refl))
