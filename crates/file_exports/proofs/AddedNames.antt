-- Names that are added to a set, one part after the other.
use Rattle.std.proofs.Common.{◌≡◌, ◌||◌, ℕ, ◌+◌, ◌<◌, ◌≤◌, Bool, true, false, List, [], ◌∷◌, ◌++◌, cond, get_or, length, map, drop, refl, sym, ap, ◌∙◌}
use Rattle.std.specs.HashSet.{IsEmpty, contains_text}
use Rattle.std.specs.Str.{bytes_eq}
use Rattle.std.specs.String.{string_bytes}
use Rattle.std.specs.List.{list_any}
use Rattle.std.proofs.lemmas.List.{drop_more, at_drop_all}
use Rattle.std.proofs.lemmas.List.Folds.{list_any-append}
use Rattle.syntax_tree.specs.declared.files.Alias.{Alias}
use Rattle.syntax_tree.specs.declared.files.FileItem.{FileItem}
use Rattle.file_exports.specs.Imports.{exported_among, exported_by}
use Rattle.file_exports.specs.Names.{AddsNames, NameSet}
use Rattle.file_exports.specs.Roots.{has_name, listed_among, listed_by}

or_assoc : (a b c : Bool) → ((a || b) || c) ≡ (a || (b || c))
or_assoc true b c = refl
or_assoc false b c = refl

or_false : (a : Bool) → (a || false) ≡ a
or_false true = refl
or_false false = refl

or_cond : (known is : Bool) → cond is true known ≡ (known || (is || false))
or_cond true true = refl
or_cond true false = refl
or_cond false true = refl
or_cond false false = refl

-- nothing is added
pub adds-none : (names : NameSet) → AddsNames names names []
adds-none names = λ name. sym (or_false (contains_text names name))

-- one name is added
pub adds-one : (old new : NameSet) (added : List ℕ) → ((name : List ℕ) → contains_text new name ≡ cond (bytes_eq added name) true (contains_text old name)) → AddsNames old new (added ∷ [])
adds-one old new added updates = λ name. updates name ∙ or_cond (contains_text old name) (bytes_eq added name)

-- what a set has, with the names that are still to be added, is what it is to have
pub record Completes (names : NameSet) (rest : List (List ℕ)) (goal : List ℕ → Bool) : Type 0 where
  pub with_rest : (name : List ℕ) → (contains_text names name || has_name rest name) ≡ goal name

-- at first a new set has none of the names
pub completes-empty : (names : NameSet) (all : List (List ℕ)) → IsEmpty names → Completes names all (has_name all)
completes-empty names all empty = record {
  with_rest = λ name. ap (λ keys. list_any (λ key. bytes_eq name (string_bytes key)) keys || has_name all name) empty;
}

-- or what it had, to which all of the names are to be added
pub completes-first : (names : NameSet) (all : List (List ℕ)) → Completes names all (λ name. contains_text names name || has_name all name)
completes-first names all = record { with_rest = λ name. refl }

-- some of the names are added
pub completes-step : (old new : NameSet) (whole part rest : List (List ℕ)) (goal : List ℕ → Bool) → whole ≡ part ++ rest → AddsNames old new part → Completes old whole goal → Completes new rest goal
completes-step old new whole part rest goal split adds so_far = record {
  with_rest = λ name.
      ap (λ b. b || has_name rest name) (adds name) ∙ (or_assoc (contains_text old name) (has_name part name) (has_name rest name)
      ∙ (ap (λ b. contains_text old name || b) (sym (list_any-append (λ other. bytes_eq other name) part rest) ∙ ap (λ names. has_name names name) (sym split)) ∙ so_far.with_rest name));
}

-- no name is left
pub completes-all : (names : NameSet) (rest : List (List ℕ)) (goal : List ℕ → Bool) → rest ≡ [] → Completes names rest goal → (name : List ℕ) → contains_text names name ≡ goal name
completes-all names rest goal none so_far = λ name.
    sym (or_false (contains_text names name)) ∙ (ap (λ names'. contains_text names name || has_name names' name) (sym none) ∙ so_far.with_rest name)

-- ---- what is left at a place of a list, and behind its end

item_at : {A : Type 0} (items : List A) (place : ℕ) (item : A) → place < length items → item ≡ get_or items place item → drop place items ≡ item ∷ drop (place + 1) items
item_at items place item within is = drop_more items place item within ∙ ap (λ first. first ∷ drop (place + 1) items) (sym is)

pub exported-at : (items : List FileItem) (place : ℕ) (item : FileItem) → place < length items → item ≡ get_or items place item
    → exported_among (drop place items) ≡ exported_by item ++ exported_among (drop (place + 1) items)
exported-at items place item within is = ap exported_among (item_at items place item within is)

pub exported-end : (items : List FileItem) (place : ℕ) → length items ≤ place → exported_among (drop place items) ≡ []
exported-end items place past = at_drop_all exported_among items place past

pub listed-at : (items : List FileItem) (place : ℕ) (item : FileItem) → place < length items → item ≡ get_or items place item
    → listed_among (drop place items) ≡ listed_by item ++ listed_among (drop (place + 1) items)
listed-at items place item within is = ap listed_among (item_at items place item within is)

pub listed-end : (items : List FileItem) (place : ℕ) → length items ≤ place → listed_among (drop place items) ≡ []
listed-end items place past = at_drop_all listed_among items place past

pub mapped-at : (f : Alias → List ℕ) (list : List Alias) (place : ℕ) (alias : Alias) → place < length list → alias ≡ get_or list place alias
    → map f (drop place list) ≡ (f alias ∷ []) ++ map f (drop (place + 1) list)
mapped-at f list place alias within is = ap (λ names. map f names) (item_at list place alias within is)

pub mapped-end : (f : Alias → List ℕ) (list : List Alias) (place : ℕ) → length list ≤ place → map f (drop place list) ≡ []
mapped-end f list place past = at_drop_all (λ names. map f names) list place past
