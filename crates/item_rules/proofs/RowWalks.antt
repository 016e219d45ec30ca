-- The names of repeaters around an element, a step outwards at a time.
use Rattle.std.specs.Prelude.{ℕ, zero, suc, Bool, true, false, ◌||◌, List, [], ◌++◌, length, slice_get, Option, Some, None}
use Rattle.std.proofs.Common.{◌≡◌, refl, sym, ◌∙◌, ap, ◌+◌, ◌-◌, ◌<◌, ◌≤◌, arith}
use Rattle.std.proofs.lemmas.List.Folds.{list_any-append}
use Rattle.typed_tree.specs.declared.scopes.RowNames.{RowNames}
use Rattle.source_elements.specs.Elements.{WrittenElement}
use Rattle.item_rules.specs.Rows.{is_of_row, is_row_name, parent_in, rows_of_element, rows_within}

one_less : (n i : ℕ) → i < n → n - i ≡ suc (n - (i + 1))
one_less n i h = omega arith

none_left : (n i : ℕ) → n ≤ i → n - i ≡ 0
none_left n i h = omega arith

all_left : (n : ℕ) → n ≡ n - 0
all_left n = omega arith

-- a name is one of two lists where it is one of either
of_both : (name : List ℕ) (xs ys : List RowNames) → is_row_name name (xs ++ ys) ≡ (is_row_name name xs || is_row_name name ys)
of_both name xs ys = list_any-append (is_of_row name) xs ys

-- what lies around an element: its own names, and those around its parent
stepped : (name : List ℕ) (elements : List WrittenElement) (n i e : ℕ) → i < n
    → is_row_name name (rows_within (n - i) elements (Some e)) ≡ (is_row_name name (rows_of_element e (slice_get elements e)) || is_row_name name (rows_within (n - (i + 1)) elements (parent_in (slice_get elements e))))
stepped name elements n i e within =
    ap (λ k. is_row_name name (rows_within k elements (Some e))) (one_less n i within)
    ∙ of_both name (rows_of_element e (slice_get elements e)) (rows_within (n - (i + 1)) elements (parent_in (slice_get elements e)))

pub row_found : (name : List ℕ) (elements : List WrittenElement) (n i e : ℕ) {answer own : Bool} {around : Option ℕ} → i < n → own ≡ is_row_name name (rows_of_element e (slice_get elements e)) → own ≡ true
    → answer ≡ is_row_name name (rows_within (n - i) elements around) → around ≡ Some e → true ≡ answer
row_found name elements n i e {answer} {own} {around} within is found all at =
    let here : is_row_name name (rows_of_element e (slice_get elements e)) ≡ true = sym is ∙ found in
    sym (all ∙ ap (λ a. is_row_name name (rows_within (n - i) elements a)) at ∙ stepped name elements n i e within
    ∙ ap (λ b. b || is_row_name name (rows_within (n - (i + 1)) elements (parent_in (slice_get elements e)))) here)

pub rows_go : (name : List ℕ) (elements : List WrittenElement) (n i e : ℕ) {answer own : Bool} {around next : Option ℕ} → i < n → own ≡ is_row_name name (rows_of_element e (slice_get elements e)) → own ≡ false
    → answer ≡ is_row_name name (rows_within (n - i) elements around) → around ≡ Some e → next ≡ parent_in (slice_get elements e)
    → answer ≡ is_row_name name (rows_within (n - (i + 1)) elements next)
rows_go name elements n i e {answer} {own} {around} {next} within is lacks all at goes =
    let here : is_row_name name (rows_of_element e (slice_get elements e)) ≡ false = sym is ∙ lacks in
    all ∙ ap (λ a. is_row_name name (rows_within (n - i) elements a)) at ∙ stepped name elements n i e within
    ∙ ap (λ b. b || is_row_name name (rows_within (n - (i + 1)) elements (parent_in (slice_get elements e)))) here
    ∙ ap (λ a. is_row_name name (rows_within (n - (i + 1)) elements a)) (sym goes)

pub rows_first : (name : List ℕ) (elements : List WrittenElement) (n e : ℕ) → n ≡ length elements
    → is_row_name name (rows_within (length elements) elements (Some e)) ≡ is_row_name name (rows_within (n - 0) elements (Some e))
rows_first name elements n e is = ap (λ k. is_row_name name (rows_within k elements (Some e))) (sym is ∙ all_left n)

nothing_around : (n : ℕ) (elements : List WrittenElement) → rows_within n elements None ≡ []
nothing_around zero elements = refl
nothing_around (suc n) elements = refl

nothing_left : (elements : List WrittenElement) (around : Option ℕ) → rows_within 0 elements around ≡ []
nothing_left elements None = refl
nothing_left elements (Some e) = refl

pub rows_outside : (name : List ℕ) (elements : List WrittenElement) (k : ℕ) {answer : Bool} {around : Option ℕ} → answer ≡ is_row_name name (rows_within k elements around) → around ≡ None → false ≡ answer
rows_outside name elements k all at = sym (all ∙ ap (λ a. is_row_name name (rows_within k elements a)) at ∙ ap (is_row_name name) (nothing_around k elements))

pub rows_last : (name : List ℕ) (elements : List WrittenElement) (n i : ℕ) (around : Option ℕ) {answer : Bool} → n ≤ i → answer ≡ is_row_name name (rows_within (n - i) elements around) → false ≡ answer
rows_last name elements n i around past all = sym (all ∙ ap (λ k. is_row_name name (rows_within k elements around)) (none_left n i past) ∙ ap (is_row_name name) (nothing_left elements around))
