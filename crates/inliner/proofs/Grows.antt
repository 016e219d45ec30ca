-- Bodies and places, step by step.
use Rattle.std.specs.Prelude.{ℕ, zero, suc, Bool, true, false, ◌==◌, List, [], ◌∷◌, ◌++◌, length, slice_get, Option, Some, None, ◌⊎◌}
use Rattle.std.proofs.Common.{◌≡◌, ◌≢◌, inl, inr, refl, sym, ap, ◌∙◌, ◌+◌, ◌-◌, ◌<◌, ◌≤◌, arith, add-one, get_or, drop}
use Rattle.std.proofs.Math.Seq.{drop-cons}
use Rattle.std.proofs.lemmas.Bool.Decides.{eqb_tells}
use Rattle.std.proofs.lemmas.List.{drop_all}
use Rattle.typed_tree.specs.declared.outlines.ElementOutline.{ElementOutline}
use Rattle.typed_tree.specs.declared.outlines.ElementType.{ElementType}
use Rattle.typed_tree.specs.declared.outlines.ElementType.TheVariants as element_type
use Rattle.typed_tree.specs.declared.trees.TypedComponent.{TypedComponent}
use Rattle.expanded_tree.specs.declared.bodies.Body.{Body}
use Rattle.expanded_tree.specs.declared.bodies.Place.{Place}
use Rattle.expanded_tree.specs.declared.bodies.Spot.{Spot}
use Rattle.expanded_tree.specs.Bodies.{Growth, deepened, grown, growth_of, inner_of, place_with, spot_of, with_body, with_element, with_elements, with_inside, with_lineage}
use Rattle.expanded_tree.specs.Components.{base_at}
use Rattle.inliner.specs.Components.{component_of}

-- what is left before a step is one more than what is left behind it
pub one_less : (n i : ℕ) → i < n → n - i ≡ suc (n - (i + 1))
one_less n i h = omega arith

pub from_item : {A : Type 0} (xs : List A) (i : ℕ) (x : A) → x ≡ get_or xs i x → i < length xs → drop i xs ≡ x ∷ drop (i + 1) xs
from_item xs i x e h = drop-cons xs i x h ∙ ap (λ y. y ∷ drop (suc i) xs) (sym e) ∙ ap (λ n. x ∷ drop n xs) (sym (add-one i))

-- ---- the bodies of bases

component_is : (ty : ElementType) (c : ℕ) → Some c ≡ component_of ty → ty ≡ element_type.Component c
component_is (element_type.BuiltIn kind) c e = cc
component_is (element_type.Component d) c e = cc

pub lineage_goes : (comps : List TypedComponent) (n i c depth : ℕ) (spot : Option Spot) (ty : ElementType) (bodies : List Body)
    {spot2 : Option Spot} {depth2 : ℕ} {ty2 : ElementType} {bodies2 all : List Body} → i < n
    → all ≡ with_lineage (n - i) comps spot depth ty bodies → Some c ≡ component_of ty → bodies2 ≡ with_body comps spot depth c bodies
    → spot2 ≡ Some (spot_of (length bodies) 0) → depth2 ≡ depth + 1 → ty2 ≡ base_at comps c
    → all ≡ with_lineage (n - (i + 1)) comps spot2 depth2 ty2 bodies2
lineage_goes comps n i c depth spot ty bodies h k is adds spots depths types =
    rw (types, depths, spots, adds, add-one depth) (k ∙ rw (component_is ty c is, one_less n i h) refl)

pub lineage_stops : (comps : List TypedComponent) (n depth : ℕ) (spot : Option Spot) (ty : ElementType) (bodies : List Body) {all : List Body}
    → all ≡ with_lineage n comps spot depth ty bodies → None ≡ component_of ty → bodies ≡ all
lineage_stops comps n depth spot (element_type.BuiltIn kind) bodies k is = sym k
lineage_stops comps n depth spot (element_type.Component d) bodies k is = cc

no_lineage : (comps : List TypedComponent) (depth : ℕ) (spot : Option Spot) (ty : ElementType) (bodies : List Body) → with_lineage 0 comps spot depth ty bodies ≡ bodies
no_lineage comps depth spot (element_type.BuiltIn kind) bodies = refl
no_lineage comps depth spot (element_type.Component d) bodies = refl

pub lineage_ends : (comps : List TypedComponent) (n i depth : ℕ) (spot : Option Spot) (ty : ElementType) (bodies : List Body) {all : List Body} → n ≤ i
    → all ≡ with_lineage (n - i) comps spot depth ty bodies → bodies ≡ all
lineage_ends comps n i depth spot ty bodies past k =
    let done : n - i ≡ 0 = omega arith in
    sym (k ∙ rw done (no_lineage comps depth spot ty bodies))

-- ---- the places of a body

apart : {yes b : Bool} → yes ≡ b → yes ≡ true → b ≡ false → ⊥
apart e t f = cc

together : {yes b : Bool} → yes ≡ b → yes ≡ false → b ≡ true → ⊥
together e t f = cc

zero_by : (e : ℕ) {yes : Bool} → yes ≡ (e == 0) → yes ≡ true → (((e == 0) ≡ true) × (e ≡ 0)) ⊎ (((e == 0) ≡ false) × (e ≢ 0)) → e ≡ 0
zero_by e tells t (inl s) = s.1
zero_by e tells t (inr s) = absurd (apart tells t s.0)

zero_is : (e : ℕ) {yes : Bool} → yes ≡ (e == 0) → yes ≡ true → e ≡ 0
zero_is e tells t = zero_by e tells t (eqb_tells e 0)

other_by : (e : ℕ) {yes : Bool} → yes ≡ (e == 0) → yes ≡ false → (((e == 0) ≡ true) × (e ≡ 0)) ⊎ (((e == 0) ≡ false) × (e ≢ 0)) → e ≢ 0
other_by e tells t (inl s) = absurd (together tells t s.0)
other_by e tells t (inr s) = s.1

not_zero : (e : ℕ) {yes : Bool} → yes ≡ (e == 0) → yes ≡ false → e ≢ 0
not_zero e tells t = other_by e tells t (eqb_tells e 0)

pub root_pushed : (comps : List TypedComponent) (b depth e : ℕ) (ty : ElementType) (places : List Place) {yes : Bool} {bodies bodies2 : List Body} {places2 : List Place} → yes ≡ (e == 0) → yes ≡ true
    → bodies2 ≡ bodies → places2 ≡ places ++ place_with b 0 (inner_of (suc b) ty) ∷ [] → growth_of bodies2 places2 ≡ with_element comps b depth (growth_of bodies places) e ty
root_pushed comps b depth e ty places tells t same adds = rw (same, adds, zero_is e tells t) refl

other_element : (comps : List TypedComponent) (b depth : ℕ) (growth : Growth) (e : ℕ) (ty : ElementType) → (e ≡ 0 → ⊥)
    → growth_of (with_lineage (length comps) comps (Some (spot_of b e)) (suc depth) ty growth.bodies) (growth.places ++ place_with b e (inner_of (length growth.bodies) ty) ∷ [])
    ≡ with_element comps b depth growth e ty
other_element comps b depth growth zero ty is = absurd (is refl)
other_element comps b depth growth (suc e) ty is = refl

pub other_pushed : (comps : List TypedComponent) (b depth within e : ℕ) (ty : ElementType) (bodies : List Body) (places : List Place) {yes : Bool} {inner : Option ℕ} {bodies2 : List Body} {places2 : List Place}
    → yes ≡ (e == 0) → yes ≡ false → within ≡ depth + 1 → inner ≡ inner_of (length bodies) ty → bodies2 ≡ with_lineage (length comps) comps (Some (spot_of b e)) within ty bodies
    → places2 ≡ places ++ place_with b e inner ∷ [] → growth_of bodies2 places2 ≡ with_element comps b depth (growth_of bodies places) e ty
other_pushed comps b depth within e ty bodies places tells other goes inside grows adds =
    rw (grows, adds, inside, goes, add-one depth) (other_element comps b depth (growth_of bodies places) e ty (not_zero e tells other))

pub elements_turn : (comps : List TypedComponent) (b depth : ℕ) (xs : List ElementOutline) (i : ℕ) (x : ElementOutline) (growth : Growth) {growth2 all : Growth} → x ≡ get_or xs i x → i < length xs
    → growth2 ≡ with_element comps b depth growth i x.ty → with_elements comps b depth growth i (drop i xs) ≡ all
    → with_elements comps b depth growth2 (i + 1) (drop (i + 1) xs) ≡ all
elements_turn comps b depth xs i x growth is within goes k =
    ap (λ g. with_elements comps b depth g (i + 1) (drop (i + 1) xs)) goes
    ∙ ap (λ n. with_elements comps b depth (with_element comps b depth growth i x.ty) n (drop (i + 1) xs)) (add-one i)
    ∙ ap (λ ys. with_elements comps b depth growth i ys) (sym (from_item xs i x is within))
    ∙ k

pub elements_end : (comps : List TypedComponent) (b depth : ℕ) (xs : List ElementOutline) (i : ℕ) {growth all : Growth} → length xs ≤ i
    → with_elements comps b depth growth i (drop i xs) ≡ all → growth ≡ all
elements_end comps b depth xs i {growth = growth} past k = sym (ap (λ ys. with_elements comps b depth growth i ys) (drop_all i xs past)) ∙ k

-- ---- level by level

pub level_turn : (comps : List TypedComponent) (end b : ℕ) (growth : Growth) {growth2 all : Growth} → b < end → growth2 ≡ with_inside comps growth b (slice_get growth.bodies b)
    → grown (end - b) comps b growth ≡ all → grown (end - (b + 1)) comps (b + 1) growth2 ≡ all
level_turn comps end b growth h goes k =
    ap (λ g. grown (end - (b + 1)) comps (b + 1) g) goes
    ∙ ap (λ n. grown (end - (b + 1)) comps n (with_inside comps growth b (slice_get growth.bodies b))) (add-one b)
    ∙ ap (λ n. grown n comps b growth) (sym (one_less end b h))
    ∙ k

pub level_end : (comps : List TypedComponent) (end b : ℕ) {growth all : Growth} → end ≤ b → grown (end - b) comps b growth ≡ all → growth ≡ all
level_end comps end b {growth = growth} past k =
    let done : end - b ≡ 0 = omega arith in
    sym (ap (λ n. grown n comps b growth) done) ∙ k

-- where no body is left to look at, nothing is added
no_more : (n : ℕ) (comps : List TypedComponent) (growth : Growth) → deepened n comps (length growth.bodies) growth ≡ growth
no_more zero comps growth = refl
no_more (suc n) comps growth =
    let none : length growth.bodies - length growth.bodies ≡ 0 = omega arith in
    rw none (no_more n comps growth)

pub levels_stop : (n : ℕ) (comps : List TypedComponent) (first : ℕ) {growth all : Growth} → first ≡ length growth.bodies → deepened n comps first growth ≡ all → growth ≡ all
levels_stop n comps first {growth = growth} is k = sym (no_more n comps growth) ∙ ap (λ b. deepened n comps b growth) (sym is) ∙ k

pub levels_turn : (comps : List TypedComponent) (n i first end : ℕ) (growth : Growth) {growth2 all : Growth} → i < n → end ≡ length growth.bodies
    → growth2 ≡ grown (length growth.bodies - first) comps first growth → deepened (n - i) comps first growth ≡ all → deepened (n - (i + 1)) comps end growth2 ≡ all
levels_turn comps n i first end growth h is goes k =
    ap (λ g. deepened (n - (i + 1)) comps end g) goes
    ∙ ap (λ b. deepened (n - (i + 1)) comps b (grown (length growth.bodies - first) comps first growth)) is
    ∙ ap (λ m. deepened m comps first growth) (sym (one_less n i h))
    ∙ k

pub levels_end : (comps : List TypedComponent) (n i first : ℕ) {growth all : Growth} → n ≤ i → deepened (n - i) comps first growth ≡ all → growth ≡ all
levels_end comps n i first {growth = growth} past k =
    let done : n - i ≡ 0 = omega arith in
    sym (ap (λ m. deepened m comps first growth) done) ∙ k
