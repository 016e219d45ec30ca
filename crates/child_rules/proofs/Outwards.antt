-- From an element outwards, a step at a time.
use Rattle.std.specs.Prelude.{ℕ, suc, Bool, false, true, List, [], ◌++◌, slice_get, Option, Some, None}
use Rattle.std.specs.List.{list_any}
use Rattle.std.proofs.Common.{◌≡◌, refl, sym, ◌∙◌, ◌+◌, ◌-◌, ◌<◌, ◌≤◌, arith, append_assoc}
use Rattle.std.proofs.lemmas.List.{append-nil}
use Rattle.typed_tree.specs.declared.outlines.ElementOutline.{ElementOutline}
use Rattle.typed_tree.specs.declared.scopes.RowNames.{RowNames}
use Rattle.typed_tree.specs.Elements.{outwards_within, parent_of, repeated_in}
use Rattle.child_rules.specs.Rows.{names_at, rows_within}

-- what is left before a step is one more than what is left behind it
one_less : (n i : ℕ) → i < n → n - i ≡ suc (n - (i + 1))
one_less n i h = omega arith

abbrev pub any_repeated : List ElementOutline → List ℕ → Bool
any_repeated elements es = list_any (λ d. repeated_in (slice_get elements d)) es

-- an element that isn't repeated lies in a repeated one where its parent does
pub repeated_goes : (elements : List ElementOutline) (n i e : ℕ) {answer : Bool} {around next : Option ℕ} → i < n
    → answer ≡ any_repeated elements (outwards_within (n - i) elements around) → around ≡ Some e → repeated_in (slice_get elements e) ≡ false → next ≡ parent_of elements e
    → answer ≡ any_repeated elements (outwards_within (n - (i + 1)) elements next)
repeated_goes elements n i e h k is once goes = rw goes (k ∙ rw (is, one_less n i h, once) refl)

-- one that is ends the walk
pub repeated_here : (elements : List ElementOutline) (n i e : ℕ) {answer : Bool} {around : Option ℕ} → i < n
    → answer ≡ any_repeated elements (outwards_within (n - i) elements around) → around ≡ Some e → repeated_in (slice_get elements e) ≡ true → true ≡ answer
repeated_here elements n i e h k is more = sym (k ∙ rw (is, one_less n i h, more) refl)

-- behind the root element there is none
pub repeated_none : (elements : List ElementOutline) (m : ℕ) {answer : Bool} {around : Option ℕ} → answer ≡ any_repeated elements (outwards_within m elements around) → around ≡ None → false ≡ answer
repeated_none elements m k is = sym (k ∙ rw is refl)

no_steps : (elements : List ElementOutline) (around : Option ℕ) → outwards_within 0 elements around ≡ []
no_steps elements None = refl
no_steps elements (Some e) = refl

pub repeated_last : (elements : List ElementOutline) (n i : ℕ) (around : Option ℕ) {answer : Bool} → n ≤ i
    → answer ≡ any_repeated elements (outwards_within (n - i) elements around) → false ≡ answer
repeated_last elements n i around past k =
    let done : n - i ≡ 0 = omega arith in
    sym (k ∙ rw (done, no_steps elements around) refl)

-- ---- the names around

-- the names of an element are added, and what is left is what stands around its parent
pub names_go : (elements : List ElementOutline) (n i e : ℕ) (rows more : List RowNames) {all : List RowNames} {around next : Option ℕ} → i < n
    → all ≡ rows ++ rows_within (n - i) elements around → around ≡ Some e → more ≡ rows ++ names_at e (slice_get elements e) → next ≡ parent_of elements e
    → all ≡ more ++ rows_within (n - (i + 1)) elements next
names_go elements n i e rows more h k is adds goes =
    rw (adds, goes) (k ∙ rw (is, one_less n i h) (sym (append_assoc rows (names_at e (slice_get elements e)) (rows_within (n - (i + 1)) elements (parent_of elements e)))))

pub names_end : (elements : List ElementOutline) (m : ℕ) (rows : List RowNames) {all : List RowNames} {around : Option ℕ} → all ≡ rows ++ rows_within m elements around → around ≡ None → rows ≡ all
names_end elements m rows k is = sym (k ∙ rw is (append-nil rows))

no_names : (elements : List ElementOutline) (around : Option ℕ) → rows_within 0 elements around ≡ []
no_names elements None = refl
no_names elements (Some e) = refl

pub names_last : (elements : List ElementOutline) (n i : ℕ) (rows : List RowNames) (around : Option ℕ) {all : List RowNames} → n ≤ i → all ≡ rows ++ rows_within (n - i) elements around → rows ≡ all
names_last elements n i rows around past k =
    let done : n - i ≡ 0 = omega arith in
    sym (k ∙ rw (done, no_names elements around) (append-nil rows))
