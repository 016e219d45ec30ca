-- Where bases lead, by jumps whose length doubles.
use Rattle.std.specs.Prelude.{ℕ, zero, suc, Bool, true, false, ◌==◌, if◌then◌else◌, List, [], ◌∷◌, map, length, slice_get, Option, Some, None}
use Rattle.std.specs.Option.{option_map}
use Rattle.std.proofs.Common.{◌≡◌, refl, sym, ◌∙◌, ap, ◌+◌, ◌-◌, ◌*◌, ◌/◌, ◌%◌, arith}
use Rattle.std.proofs.lemmas.Grind.{common_steps}
use Rattle.std.proofs.lemmas.List.{length-map}
use Rattle.std.proofs.lemmas.Option.{slice_get-map}
use Rattle.std.proofs.Math.Nat.{add-mul, mul-add}
use Rattle.element_tables.specs.declared.elements.ElementKind.{ElementKind}
use Rattle.typed_tree.specs.declared.outlines.ComponentOutline.{ComponentOutline}
use Rattle.typed_tree.specs.declared.outlines.ElementType.{ElementType}
use Rattle.typed_tree.specs.declared.outlines.ElementType.TheVariants as element_type
use Rattle.typed_tree.specs.declared.bases.Bases.{Bases}
use Rattle.typed_tree.specs.Bases.{AreAfter, AreBases, IsAfter, go, kind_by, kind_of, kind_or_empty, root_type, type_or_empty, walked}
use Rattle.typed_tree.specs.Elements.{elements_in, lineage, lineage_within, type_in, type_of}

walked_none : (comps : List ComponentOutline) (t : ElementType) → walked 0 comps t ≡ t
walked_none comps (element_type.BuiltIn k) = refl
walked_none comps (element_type.Component c) = refl

walked_on : (a b : ℕ) (comps : List ComponentOutline) (t : ElementType) → walked (a + b) comps t ≡ walked b comps (walked a comps t)
walked_on a b comps (element_type.BuiltIn k) = refl
walked_on zero b comps (element_type.Component c) =
    let none : 0 + b ≡ b = omega arith in
    rw none refl
walked_on (suc a) b comps (element_type.Component c) =
    let one : suc a + b ≡ suc (a + b) = omega arith in
    rw one (walked_on a b comps (type_of comps c 0))

after_one : (comps : List ComponentOutline) (p c : ℕ) (o : Option ElementType) → IsAfter (suc p) comps c o → type_or_empty o ≡ walked (suc p) comps (element_type.Component c)
after_one comps p c None h = sym (ap (λ o. walked p comps (type_in (slice_get (elements_in o) 0))) h)
after_one comps p c (Some t) h = h

go_is : (comps : List ComponentOutline) (p : ℕ) (jumps : List ElementType) (t : ElementType) → AreAfter (suc p) comps jumps → go jumps t ≡ walked (suc p) comps t
go_is comps p jumps (element_type.BuiltIn k) held = refl
go_is comps p jumps (element_type.Component c) held = after_one comps p c (slice_get jumps c) (held c)

after_next : (comps : List ComponentOutline) (d p c : ℕ) (jumps : List ElementType) (o : Option ElementType) → IsAfter d comps c o → AreAfter (suc p) comps jumps → IsAfter (d + suc p) comps c (option_map (go jumps) o)
after_next comps d p c jumps None h held = h
after_next comps d p c jumps (Some t) h held = go_is comps p jumps t held ∙ ap (walked (suc p) comps) h ∙ sym (walked_on d (suc p) comps (element_type.Component c))

after_all : (comps : List ComponentOutline) (d p : ℕ) (types jumps : List ElementType) → AreAfter d comps types → AreAfter (suc p) comps jumps → AreAfter (d + suc p) comps (map (go jumps) types)
after_all comps d p types jumps h held = λ c. rw (slice_get-map (go jumps) types c) (after_next comps d p c jumps (slice_get types c) (h c) held)

root_one : (comps : List ComponentOutline) (c : ℕ) (o : Option ComponentOutline) → slice_get comps c ≡ o → IsAfter 1 comps c (option_map root_type o)
root_one comps c None e = e
root_one comps c (Some comp) e = sym (walked_none comps (type_of comps c 0) ∙ ap (λ o. type_in (slice_get (elements_in o) 0)) e)

after_root : (comps : List ComponentOutline) (types : List ElementType) → types ≡ map root_type comps → AreAfter 1 comps types
after_root comps types is = λ c. rw (is, slice_get-map root_type comps c) (root_one comps c (slice_get comps c) refl)

-- what is done, how long a jump is, and how many jumps are left
abbrev pub Leads : List ComponentOutline → ℕ → List ElementType → List ElementType → ℕ → Type 0
Leads comps n ends jumps left = (d : ℕ) × (p : ℕ) × (d + suc p * left ≡ n) × AreAfter d comps ends × AreAfter (suc p) comps jumps

pub leads_first : (comps : List ComponentOutline) (types : List ElementType) (n left : ℕ) → types ≡ map root_type comps → 1 + left ≡ n → Leads comps n types types left
leads_first comps types n left is all = (1, 0, omega arith, after_root comps types is, after_root comps types is)

odd_left : (d p q left n : ℕ) → d + suc p * left ≡ n → left ≡ q + q + 1 → d + suc p + suc (p + suc p) * q ≡ n
odd_left d p q left n all is =
    let twice : (suc p + suc p) * q ≡ suc (p + suc p) * q = ap (λ x. x * q) (omega arith) in
    let each : (suc p + suc p) * q ≡ suc p * q + suc p * q = add-mul (suc p) (suc p) q in
    let last : suc p * (q + q + 1) ≡ suc p * (q + q) + suc p * 1 = mul-add (suc p) (q + q) 1 in
    let both : suc p * (q + q) ≡ suc p * q + suc p * q = mul-add (suc p) q q in
    let one : suc p * 1 ≡ suc p = omega arith in
    let whole : d + suc p * (q + q + 1) ≡ n = rw is at all in
    omega (arith, twice, each, last, both, one, whole)

even_left : (d p q left n : ℕ) → d + suc p * left ≡ n → left ≡ q + q → d + suc (p + suc p) * q ≡ n
even_left d p q left n all is =
    let twice : (suc p + suc p) * q ≡ suc (p + suc p) * q = ap (λ x. x * q) (omega arith) in
    let each : (suc p + suc p) * q ≡ suc p * q + suc p * q = add-mul (suc p) (suc p) q in
    let both : suc p * (q + q) ≡ suc p * q + suc p * q = mul-add (suc p) q q in
    let whole : d + suc p * (q + q) ≡ n = rw is at all in
    omega (arith, twice, each, both, whole)

none_left : (d p left n : ℕ) → d + suc p * left ≡ n → left ≡ 0 → d ≡ n
none_left d p left n all is =
    let whole : d + suc p * 0 ≡ n = rw is at all in
    omega (arith, whole)

leads_by : (comps : List ComponentOutline) (n : ℕ) (ends jumps : List ElementType) (left : ℕ) (b : Bool) → b ≡ (left % 2 == 1) → Leads comps n ends jumps left
    → Leads comps n (if b then map (go jumps) ends else ends) (map (go jumps) jumps) (left / 2)
leads_by comps n ends jumps left true odd h =
    let twice : suc h.1 + suc h.1 ≡ suc (h.1 + suc h.1) = omega arith in
    let halves : left ≡ left / 2 + left / 2 + 1 = grind (arith, common_steps) in
    (h.0 + suc h.1, h.1 + suc h.1, odd_left h.0 h.1 (left / 2) left n h.2 halves, after_all comps h.0 h.1 ends jumps h.3 h.4, rw (← twice) (after_all comps (suc h.1) h.1 jumps jumps h.4 h.4))
leads_by comps n ends jumps left false even h =
    let twice : suc h.1 + suc h.1 ≡ suc (h.1 + suc h.1) = omega arith in
    let halves : left ≡ left / 2 + left / 2 = grind (arith, common_steps) in
    (h.0, h.1 + suc h.1, even_left h.0 h.1 (left / 2) left n h.2 halves, h.3, rw (← twice) (after_all comps (suc h.1) h.1 jumps jumps h.4 h.4))

pub leads_on : (comps : List ComponentOutline) (n : ℕ) (ends jumps ends_on jumps_on : List ElementType) (left : ℕ) (b : Bool) → b ≡ (left % 2 == 1) → ends_on ≡ (if b then map (go jumps) ends else ends) → jumps_on ≡ map (go jumps) jumps
    → Leads comps n ends jumps left → Leads comps n ends_on jumps_on (left / 2)
leads_on comps n ends jumps ends_on jumps_on left b odd goes jump h = rw (goes, jump) (leads_by comps n ends jumps left b odd h)

pub leads_last : (comps : List ComponentOutline) (n : ℕ) (ends jumps : List ElementType) (left : ℕ) → left ≡ 0 → Leads comps n ends jumps left → AreAfter n comps ends
leads_last comps n ends jumps left none h =
    let all : h.0 ≡ n = none_left h.0 h.1 left n h.2 none in
    rw (← all) h.3

-- the kind below a component
kind_walked : (n : ℕ) (comps : List ComponentOutline) (t : ElementType) → (lineage_within n comps t).kind ≡ kind_of (walked n comps t)
kind_walked n comps (element_type.BuiltIn k) = refl
kind_walked zero comps (element_type.Component c) = refl
kind_walked (suc n) comps (element_type.Component c) = kind_walked n comps (type_of comps c 0)

no_component : (comps : List ComponentOutline) (c : ℕ) → slice_get comps c ≡ None → kind_or_empty None ≡ (lineage comps (element_type.Component c)).kind
no_component [] c none = refl
no_component (x ∷ xs) c none = sym (ap (λ o. (lineage_within (length xs) (x ∷ xs) (type_in (slice_get (elements_in o) 0))).kind) none)

all_steps : (comps : List ComponentOutline) (c : ℕ) → kind_of (walked (1 + (length comps - 1)) comps (element_type.Component c)) ≡ (lineage comps (element_type.Component c)).kind
all_steps [] c = refl
all_steps (x ∷ xs) c =
    let all : 1 + (suc (length xs) - 1) ≡ suc (length xs) = omega arith in
    rw all (sym (kind_walked (suc (length xs)) (x ∷ xs) (element_type.Component c)))

kind_one : (comps : List ComponentOutline) (c : ℕ) (o : Option ElementType) → IsAfter (1 + (length comps - 1)) comps c o → kind_or_empty (option_map kind_of o) ≡ (lineage comps (element_type.Component c)).kind
kind_one comps c None h = no_component comps c h
kind_one comps c (Some t) h = ap kind_of h ∙ all_steps comps c

pub kinds_are : (comps : List ComponentOutline) (ends : List ElementType) (kinds : List ElementKind) → kinds ≡ map kind_of ends → AreAfter (1 + (length comps - 1)) comps ends
    → (c : ℕ) → kind_or_empty (slice_get kinds c) ≡ (lineage comps (element_type.Component c)).kind
kinds_are comps ends kinds is held c = rw (is, slice_get-map kind_of ends c) (kind_one comps c (slice_get ends c) (held c))

pub kind_is : (comps : List ComponentOutline) (bases : Bases) (t : ElementType) → AreBases comps bases → kind_by bases t ≡ (lineage comps t).kind
kind_is comps bases (element_type.BuiltIn k) are = refl
kind_is comps bases (element_type.Component c) are = are.kinds c

-- a table of types has the base of each component
base_one : (comps : List ComponentOutline) (c : ℕ) (o : Option ComponentOutline) → slice_get comps c ≡ o → type_or_empty (option_map root_type o) ≡ type_of comps c 0
base_one comps c None e = sym (ap (λ o. type_in (slice_get (elements_in o) 0)) e)
base_one comps c (Some comp) e = sym (ap (λ o. type_in (slice_get (elements_in o) 0)) e)

pub base_is : (comps : List ComponentOutline) (types : List ElementType) (next : ElementType) (c : ℕ) → types ≡ map root_type comps → next ≡ type_or_empty (slice_get types c) → next ≡ type_of comps c 0
base_is comps types next c are goes = goes ∙ rw (are, slice_get-map root_type comps c) (base_one comps c (slice_get comps c) refl)

pub as_many : (comps : List ComponentOutline) (types : List ElementType) → types ≡ map root_type comps → length types ≡ length comps
as_many comps types are = ap length are ∙ simp length-map
