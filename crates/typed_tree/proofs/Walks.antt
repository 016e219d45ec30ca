-- Walks along bases and outwards, a step at a time.
use Rattle.std.specs.Prelude.{ℕ, suc, Bool, true, false, List, [], ◌∷◌, length, filter, Option, Some, None}
use Rattle.std.specs.List.{list_all}
use Rattle.std.proofs.Common.{◌≡◌, refl, sym, ◌∙◌, ◌+◌, ◌-◌, ◌<◌, ◌≤◌, arith}
use Rattle.std.proofs.lemmas.Bool.{ne_eqb}
use Rattle.typed_tree.specs.declared.outlines.ComponentOutline.{ComponentOutline}
use Rattle.typed_tree.specs.declared.outlines.ElementOutline.{ElementOutline}
use Rattle.typed_tree.specs.declared.outlines.ElementType.{ElementType}
use Rattle.typed_tree.specs.declared.outlines.ElementType.TheVariants as element_type
use Rattle.typed_tree.specs.Declarers.{declares, first_declaring}
use Rattle.typed_tree.specs.Elements.{type_of, lineage_within, outwards_within, is_among, parent_of}

-- what is left before a step is one more than what is left behind it
pub one_less : (n i : ℕ) → i < n → n - i ≡ suc (n - (i + 1))
one_less n i h = omega arith

-- an element that isn't looked for stands around another one where it stands around that one's parent
pub around_goes : (elements : List ElementOutline) (n i e d : ℕ) {answer : Bool} {around next : Option ℕ} → i < n → (e ≡ d → ⊥)
    → answer ≡ is_among (outwards_within (n - i) elements around) d → around ≡ Some e → next ≡ parent_of elements e
    → answer ≡ is_among (outwards_within (n - (i + 1)) elements next) d
around_goes elements n i e d h apart k is goes = rw goes (k ∙ rw (is, one_less n i h, ne_eqb e d apart) refl)

-- an item that isn't looked at, or passes, changes nothing
pub not_looked_at : (test looked : ℕ → Bool) (e : ℕ) (es : List ℕ) → looked e ≡ false → list_all test (filter looked (e ∷ es)) ≡ list_all test (filter looked es)
not_looked_at test looked e es no_look = rw no_look refl

pub passing : (test looked : ℕ → Bool) (e : ℕ) (es : List ℕ) → looked e ≡ true → test e ≡ true → list_all test (filter looked (e ∷ es)) ≡ list_all test (filter looked es)
passing test looked e es look pass = rw (look, pass) refl

-- around an element all that are looked at pass where they do around its parent
pub seen_goes : (elements : List ElementOutline) (test looked : ℕ → Bool) (n i e : ℕ) {answer : Bool} {around next : Option ℕ} → i < n
    → ((es : List ℕ) → list_all test (filter looked (e ∷ es)) ≡ list_all test (filter looked es))
    → answer ≡ list_all test (filter looked (outwards_within (n - i) elements around)) → around ≡ Some e → next ≡ parent_of elements e
    → answer ≡ list_all test (filter looked (outwards_within (n - (i + 1)) elements next))
seen_goes elements test looked n i e h passes k is goes = rw goes (k ∙ rw (is, one_less n i h) (passes _))

-- a component that isn't looked for stands below a type where it stands below its base
pub base_goes : (comps : List ComponentOutline) (n i c d : ℕ) {answer : Bool} {below next : ElementType} → i < n → (c ≡ d → ⊥)
    → answer ≡ is_among (lineage_within (n - i) comps below).comps d → below ≡ element_type.Component c → next ≡ type_of comps c 0
    → answer ≡ is_among (lineage_within (n - (i + 1)) comps next).comps d
base_goes comps n i c d h apart k is goes = rw goes (k ∙ rw (is, one_less n i h, ne_eqb c d apart) refl)

-- a component that declares no member of a name passes the question on to its base
pub declaring_goes : (comps : List ComponentOutline) (name : List ℕ) (n i c : ℕ) {answer : Option ℕ} {below next : ElementType} → i < n
    → answer ≡ first_declaring comps name (lineage_within (n - i) comps below).comps → below ≡ element_type.Component c → declares comps name c ≡ false → next ≡ type_of comps c 0
    → answer ≡ first_declaring comps name (lineage_within (n - (i + 1)) comps next).comps
declaring_goes comps name n i c h k is lacks goes = rw goes (k ∙ rw (is, one_less n i h, lacks) refl)

pub declaring_first : (comps : List ComponentOutline) (name : List ℕ) (n : ℕ) (t : ElementType) → n ≡ length comps
    → first_declaring comps name (lineage_within (length comps) comps t).comps ≡ first_declaring comps name (lineage_within (n - 0) comps t).comps
declaring_first comps name n t same =
    let all_left : n - 0 ≡ length comps = omega arith in
    rw all_left refl

no_steps : (comps : List ComponentOutline) (t : ElementType) → (lineage_within 0 comps t).comps ≡ []
no_steps comps (element_type.BuiltIn k) = refl
no_steps comps (element_type.Component c) = refl

pub declaring_last : (comps : List ComponentOutline) (name : List ℕ) (n i : ℕ) (below : ElementType) {answer : Option ℕ} → n ≤ i
    → answer ≡ first_declaring comps name (lineage_within (n - i) comps below).comps → None ≡ answer
declaring_last comps name n i below past k =
    let done : n - i ≡ 0 = omega arith in
    sym (k ∙ rw (done, no_steps comps below) refl)

-- where no component declares a name, none of a lineage does
pub none_declares : (comps : List ComponentOutline) (name : List ℕ) (cs : List ℕ) → ((c : ℕ) → declares comps name c ≡ false) → None ≡ first_declaring comps name cs
none_declares comps name [] none = refl
none_declares comps name (c ∷ cs) none = rw (none c) (none_declares comps name cs none)

pub no_items : (xs : List ℕ) → length xs ≡ 0 → xs ≡ []
no_items [] e = refl
no_items (x ∷ xs) e = cc

-- the same of a component that is looked for among those below
pub built_first : (comps : List ComponentOutline) (n d : ℕ) (t : ElementType) → n ≡ length comps
    → is_among (lineage_within (length comps) comps t).comps d ≡ is_among (lineage_within (n - 0) comps t).comps d
built_first comps n d t same =
    let all_left : n - 0 ≡ length comps = omega arith in
    rw all_left refl

pub built_last : (comps : List ComponentOutline) (n i d : ℕ) (below : ElementType) {answer : Bool} → n ≤ i
    → answer ≡ is_among (lineage_within (n - i) comps below).comps d → false ≡ answer
built_last comps n i d below past k =
    let done : n - i ≡ 0 = omega arith in
    sym (k ∙ rw (done, no_steps comps below) refl)
