-- Where takers lead, by jumps whose length doubles.
use Rattle.std.specs.Prelude.{ℕ, zero, suc, Bool, true, false, ◌==◌, if◌then◌else◌, List, [], ◌∷◌, map, length, slice_get, Option, Some, None}
use Rattle.std.specs.Option.{option_map}
use Rattle.std.proofs.Common.{◌≡◌, refl, sym, ◌∙◌, ap, ◌+◌, ◌-◌, ◌*◌, ◌/◌, ◌%◌, arith}
use Rattle.std.proofs.lemmas.Grind.{common_steps}
use Rattle.std.proofs.lemmas.Option.{slice_get-map}
use Rattle.std.proofs.Math.Nat.{add-mul, mul-add}
use Rattle.element_tables.specs.declared.elements.ElementKind.{ElementKind}
use Rattle.element_tables.specs.declared.elements.ElementKind.TheVariants as element_kind
use Rattle.typed_tree.specs.declared.outlines.ComponentOutline.{ComponentOutline}
use Rattle.typed_tree.specs.declared.outlines.ElementType.{ElementType}
use Rattle.typed_tree.specs.declared.outlines.ElementType.TheVariants as element_type
use Rattle.child_rules.specs.Jumps.{AreAfter, AreLandings, IsAfter, jumped, kind_of, kind_or_empty, landing_by, type_or_empty, walked}
use Rattle.child_rules.specs.Landing.{landing, landing_within, taker, taker_in, taker_of}

abbrev Takers : Type 0
Takers = ℕ → ElementType

walked_none : (takes : Takers) (t : ElementType) → walked 0 takes t ≡ t
walked_none takes (element_type.BuiltIn k) = refl
walked_none takes (element_type.Component c) = refl

walked_on : (a b : ℕ) (takes : Takers) (t : ElementType) → walked (a + b) takes t ≡ walked b takes (walked a takes t)
walked_on a b takes (element_type.BuiltIn k) = refl
walked_on zero b takes (element_type.Component c) =
    let none : 0 + b ≡ b = omega arith in
    rw none refl
walked_on (suc a) b takes (element_type.Component c) =
    let one : suc a + b ≡ suc (a + b) = omega arith in
    rw one (walked_on a b takes (takes c))

after_one : (takes : Takers) (p c : ℕ) (o : Option ElementType) → IsAfter (suc p) takes c o → type_or_empty o ≡ walked (suc p) takes (element_type.Component c)
after_one takes p c None h = sym (ap (walked p takes) h)
after_one takes p c (Some t) h = h

jumped_is : (takes : Takers) (p : ℕ) (jumps : List ElementType) (t : ElementType) → AreAfter (suc p) takes jumps → jumped jumps t ≡ walked (suc p) takes t
jumped_is takes p jumps (element_type.BuiltIn k) held = refl
jumped_is takes p jumps (element_type.Component c) held = after_one takes p c (slice_get jumps c) (held c)

after_next : (takes : Takers) (d p c : ℕ) (jumps : List ElementType) (o : Option ElementType) → IsAfter d takes c o → AreAfter (suc p) takes jumps → IsAfter (d + suc p) takes c (option_map (jumped jumps) o)
after_next takes d p c jumps None h held = h
after_next takes d p c jumps (Some t) h held = jumped_is takes p jumps t held ∙ ap (walked (suc p) takes) h ∙ sym (walked_on d (suc p) takes (element_type.Component c))

after_all : (takes : Takers) (d p : ℕ) (types jumps : List ElementType) → AreAfter d takes types → AreAfter (suc p) takes jumps → AreAfter (d + suc p) takes (map (jumped jumps) types)
after_all takes d p types jumps h held = λ c. rw (slice_get-map (jumped jumps) types c) (after_next takes d p c jumps (slice_get types c) (h c) held)

taker_one : (comps : List ComponentOutline) (c : ℕ) (o : Option ComponentOutline) → slice_get comps c ≡ o → IsAfter 1 (taker comps) c (option_map taker_of o)
taker_one comps c None e = ap taker_in e
taker_one comps c (Some comp) e = sym (walked_none (taker comps) (taker comps c) ∙ ap taker_in e)

after_takers : (comps : List ComponentOutline) (types : List ElementType) → types ≡ map taker_of comps → AreAfter 1 (taker comps) types
after_takers comps types is = λ c. rw (is, slice_get-map taker_of comps c) (taker_one comps c (slice_get comps c) refl)

-- what is done, how long a jump is, and how many jumps are left
abbrev pub Leads : List ComponentOutline → ℕ → List ElementType → List ElementType → ℕ → Type 0
Leads comps n ends jumps left = (d : ℕ) × (p : ℕ) × (d + suc p * left ≡ n) × AreAfter d (taker comps) ends × AreAfter (suc p) (taker comps) jumps

pub leads_first : (comps : List ComponentOutline) (types : List ElementType) (n left : ℕ) → types ≡ map taker_of comps → 1 + left ≡ n → Leads comps n types types left
leads_first comps types n left is all = (1, 0, omega arith, after_takers comps types is, after_takers comps types is)

odd_left : (d p q left n : ℕ) → d + suc p * left ≡ n → left ≡ q + q + 1 → d + suc p + suc (p + suc p) * q ≡ n
odd_left d p q left n all is =
    let twice : (suc p + suc p) * q ≡ suc (p + suc p) * q = ap (λ x. x * q) (omega arith) in
    let each : (suc p + suc p) * q ≡ suc p * q + suc p * q = add-mul (suc p) (suc p) q in
    let last : suc p * (q + q + 1) ≡ suc p * (q + q) + suc p * 1 = mul-add (suc p) (q + q) 1 in
    let both : suc p * (q + q) ≡ suc p * q + suc p * q = mul-add (suc p) q q in
    let one : suc p * 1 ≡ suc p = omega arith in
    let whole : d + suc p * (q + q + 1) ≡ n = rw is at all in
    omega (arith, twice, each, last, both, one, whole)

even_left : (d p q left n : ℕ) → d + suc p * left ≡ n → left ≡ q + q → d + suc (p + suc p) * q ≡ n
even_left d p q left n all is =
    let twice : (suc p + suc p) * q ≡ suc (p + suc p) * q = ap (λ x. x * q) (omega arith) in
    let each : (suc p + suc p) * q ≡ suc p * q + suc p * q = add-mul (suc p) (suc p) q in
    let both : suc p * (q + q) ≡ suc p * q + suc p * q = mul-add (suc p) q q in
    let whole : d + suc p * (q + q) ≡ n = rw is at all in
    omega (arith, twice, each, both, whole)

none_left : (d p left n : ℕ) → d + suc p * left ≡ n → left ≡ 0 → d ≡ n
none_left d p left n all is =
    let whole : d + suc p * 0 ≡ n = rw is at all in
    omega (arith, whole)

leads_by : (comps : List ComponentOutline) (n : ℕ) (ends jumps : List ElementType) (left : ℕ) (b : Bool) → b ≡ (left % 2 == 1) → Leads comps n ends jumps left
    → Leads comps n (if b then map (jumped jumps) ends else ends) (map (jumped jumps) jumps) (left / 2)
leads_by comps n ends jumps left true odd h =
    let twice : suc h.1 + suc h.1 ≡ suc (h.1 + suc h.1) = omega arith in
    let halves : left ≡ left / 2 + left / 2 + 1 = grind (arith, common_steps) in
    (h.0 + suc h.1, h.1 + suc h.1, odd_left h.0 h.1 (left / 2) left n h.2 halves, after_all (taker comps) h.0 h.1 ends jumps h.3 h.4, rw (← twice) (after_all (taker comps) (suc h.1) h.1 jumps jumps h.4 h.4))
leads_by comps n ends jumps left false even h =
    let twice : suc h.1 + suc h.1 ≡ suc (h.1 + suc h.1) = omega arith in
    let halves : left ≡ left / 2 + left / 2 = grind (arith, common_steps) in
    (h.0, h.1 + suc h.1, even_left h.0 h.1 (left / 2) left n h.2 halves, h.3, rw (← twice) (after_all (taker comps) (suc h.1) h.1 jumps jumps h.4 h.4))

pub leads_on : (comps : List ComponentOutline) (n : ℕ) (ends jumps ends_on jumps_on : List ElementType) (left : ℕ) (b : Bool) → b ≡ (left % 2 == 1) → ends_on ≡ (if b then map (jumped jumps) ends else ends) → jumps_on ≡ map (jumped jumps) jumps
    → Leads comps n ends jumps left → Leads comps n ends_on jumps_on (left / 2)
leads_on comps n ends jumps ends_on jumps_on left b odd goes jump h = rw (goes, jump) (leads_by comps n ends jumps left b odd h)

pub leads_last : (comps : List ComponentOutline) (n : ℕ) (ends jumps : List ElementType) (left : ℕ) → left ≡ 0 → Leads comps n ends jumps left → AreAfter n (taker comps) ends
leads_last comps n ends jumps left none h =
    let all : h.0 ≡ n = none_left h.0 h.1 left n h.2 none in
    rw (← all) h.3

-- the kind in which children of a component's instances land
kind_walked : (n : ℕ) (takes : Takers) (t : ElementType) → landing_within n takes t ≡ kind_of (walked n takes t)
kind_walked n takes (element_type.BuiltIn k) = refl
kind_walked zero takes (element_type.Component c) = refl
kind_walked (suc n) takes (element_type.Component c) = kind_walked n takes (takes c)

no_taker : (n : ℕ) (takes : Takers) (c : ℕ) → takes c ≡ element_type.BuiltIn element_kind.Empty → element_kind.Empty ≡ landing_within n takes (element_type.Component c)
no_taker zero takes c none = refl
no_taker (suc n) takes c none = sym (ap (landing_within n takes) none)

all_steps : (comps : List ComponentOutline) (c : ℕ) → kind_of (walked (1 + (length comps - 1)) (taker comps) (element_type.Component c)) ≡ landing comps (element_type.Component c)
all_steps [] c = refl
all_steps (x ∷ xs) c =
    let all : 1 + (suc (length xs) - 1) ≡ suc (length xs) = omega arith in
    rw all (sym (kind_walked (suc (length xs)) (taker (x ∷ xs)) (element_type.Component c)))

kind_one : (comps : List ComponentOutline) (c : ℕ) (o : Option ElementType) → IsAfter (1 + (length comps - 1)) (taker comps) c o → kind_or_empty (option_map kind_of o) ≡ landing comps (element_type.Component c)
kind_one comps c None h = no_taker (length comps) (taker comps) c h
kind_one comps c (Some t) h = ap kind_of h ∙ all_steps comps c

pub kinds_are : (comps : List ComponentOutline) (ends : List ElementType) (kinds : List ElementKind) → kinds ≡ map kind_of ends → AreAfter (1 + (length comps - 1)) (taker comps) ends → AreLandings comps kinds
kinds_are comps ends kinds is held = λ c. rw (is, slice_get-map kind_of ends c) (kind_one comps c (slice_get ends c) (held c))

pub landing_is : (comps : List ComponentOutline) (kinds : List ElementKind) (t : ElementType) → AreLandings comps kinds → landing_by kinds t ≡ landing comps t
landing_is comps kinds (element_type.BuiltIn k) are = refl
landing_is comps kinds (element_type.Component c) are = are c
