-- Tables of extents: what is whole doesn't change when one looks deeper.
use Rattle.std.specs.Prelude.{ℕ, zero, suc, Bool, true, false, ◌&&◌, List, [], ◌∷◌, ◌++◌, length, min, replicate, slice_get, slice_set, sum_by, Option, Some, None, ◌⊎◌}
use Rattle.std.specs.List.{list_all}
use Rattle.std.specs.Bool.{OnTrue}
use Rattle.std.proofs.Common.{◌≡◌, refl, sym, ap, ◌∙◌, subst, ◌+◌, ◌<◌, ◌≤◌, arith, inl, inr, add-one}
use Rattle.std.proofs.lemmas.List.Sums.{sum_by-cons}
use Rattle.slint_base.specs.declared.faults.Fault.{Fault}
use Rattle.typed_tree.specs.declared.outlines.ElementOutline.{ElementOutline}
use Rattle.typed_tree.specs.declared.outlines.ElementType.{ElementType}
use Rattle.typed_tree.specs.declared.outlines.ElementType.TheVariants as element_type
use Rattle.typed_tree.specs.declared.trees.TypedComponent.{TypedComponent}
use Rattle.typed_tree.specs.Elements.{type_in}
use Rattle.fault_order.specs.Order.{earlier_of}
use Rattle.expanded_tree.specs.Components.{each_below, elements_at, elements_in}
use Rattle.expanded_tree.specs.Repeaters.{depth_in, most_repeaters}
use Rattle.expanded_tree.specs.Sizes.{most_elements}
use Rattle.inliner.specs.declared.extents.Extent.{Extent}
use Rattle.inliner.specs.Extents.{AreExtents, AreKnown, deep_from, extent_at, extent_in, extent_of, extent_within, first_at, first_deep, measured, measured_in, sized_in, unknown, whole_in}
use Rattle.inliner.proofs.Rows.{length-push, length-set, less_or_not, none_past, push_each, set_past, some_or_past, some_within}

-- two ways to look components up agree on what elements are
abbrev pub Agrees : (ℕ → Extent) → (ℕ → Extent) → List ElementOutline → Type 0
Agrees look other [] = Unit {0}
Agrees look other (x ∷ xs) = (extent_of look x.ty ≡ extent_of other x.ty) × Agrees look other xs

same_whole : (look other : ℕ → Extent) (xs : List ElementOutline) → Agrees look other xs → list_all (whole_in look) xs ≡ list_all (whole_in other) xs
same_whole look other [] a = refl
same_whole look other (x ∷ xs) a = ap (λ (y : Extent). y.is_whole && list_all (whole_in look) xs) a.0 ∙ ap (λ b. whole_in other x && b) (same_whole look other xs a.1)

same_size : (look other : ℕ → Extent) (xs : List ElementOutline) → Agrees look other xs → sum_by (sized_in look) xs ≡ sum_by (sized_in other) xs
same_size look other [] a = refl
same_size look other (x ∷ xs) a = sum_by-cons (sized_in look) x xs ∙ ap (λ (y : Extent). y.size + sum_by (sized_in look) xs) a.0
    ∙ ap (λ n. sized_in other x + n) (same_size look other xs a.1) ∙ sym (sum_by-cons (sized_in other) x xs)

same_height : (look other : ℕ → Extent) (xs : List ElementOutline) → Agrees look other xs → (extent_of look (type_in (slice_get xs 0))).height ≡ (extent_of other (type_in (slice_get xs 0))).height
same_height look other [] a = refl
same_height look other (x ∷ xs) a = ap (λ (y : Extent). y.height) a.0

same_deep : (look other : ℕ → Extent) (around : ℕ) (all : List ElementOutline) (e : ℕ) (xs : List ElementOutline) → Agrees look other xs
    → first_deep look around all e xs ≡ first_deep other around all e xs
same_deep look other around all e [] a = refl
same_deep look other around all e (x ∷ xs) a = ap (λ (y : Extent). earlier_of (first_at (depth_in around all e) x y) (first_deep look around all (suc e) xs)) a.0
    ∙ ap (earlier_of (first_at (depth_in around all e) x (extent_of other x.ty))) (same_deep look other around all (suc e) xs a.1)

each_same : {B : Type 0} (f g : ℕ → B) (n : ℕ) → ((x : ℕ) → f x ≡ g x) → each_below f n ≡ each_below g n
each_same f g zero same = refl
each_same f g (suc n) same = ap (λ ys. ys ++ f n ∷ []) (each_same f g n same) ∙ ap (λ y. each_below g n ++ y ∷ []) (same n)

abbrev extent_with : Bool → ℕ → ℕ → List (Option Fault) → Extent
extent_with whole size height deep = record { is_whole = whole; size = size; height = height; deep = deep }

same_parts : {a a2 : Bool} {b b2 h h2 : ℕ} {d d2 : List (Option Fault)} → a ≡ a2 → b ≡ b2 → h ≡ h2 → d ≡ d2 → extent_with a b h d ≡ extent_with a2 b2 h2 d2
same_parts {a2 = a2} {b = b} {b2 = b2} {h = h} {h2 = h2} {d = d} p q r s =
    ap (λ x. extent_with x b h d) p ∙ ap (λ x. extent_with a2 x h d) q ∙ ap (λ x. extent_with a2 b2 x d) r ∙ ap (λ x. extent_with a2 b2 h2 x) s

pub same_measure : (look other : ℕ → Extent) (xs : List ElementOutline) → Agrees look other xs → measured look xs ≡ measured other xs
same_measure look other xs a = same_parts (same_whole look other xs a) (ap (min (suc most_elements)) (same_size look other xs a)) (ap suc (same_height look other xs a))
    (each_same (deep_from look xs) (deep_from other xs) (most_repeaters + 2) (λ around. same_deep look other around xs 0 xs a))

-- where all that elements contain is whole, the ways agree that agree on what is whole
abbrev pub AgreesOnWhole : (ℕ → Extent) → (ℕ → Extent) → Type 0
AgreesOnWhole look other = (c : ℕ) → (look c).is_whole ≡ true → look c ≡ other c

and_left : (a b : Bool) → (a && b) ≡ true → a ≡ true
and_left true b t = refl
and_left false b t = cc

and_right : (a b : Bool) → (a && b) ≡ true → b ≡ true
and_right true b t = t
and_right false b t = cc

of_type : (look other : ℕ → Extent) → AgreesOnWhole look other → (t : ElementType) → (extent_of look t).is_whole ≡ true → extent_of look t ≡ extent_of other t
of_type look other agree (element_type.BuiltIn kind) t = refl
of_type look other agree (element_type.Component c) t = agree c t

pub whole_agrees : (look other : ℕ → Extent) → AgreesOnWhole look other → (xs : List ElementOutline) → list_all (whole_in look) xs ≡ true → Agrees look other xs
whole_agrees look other agree [] t = tt
whole_agrees look other agree (x ∷ xs) t =
    (of_type look other agree x.ty (and_left (whole_in look x) (list_all (whole_in look) xs) t), whole_agrees look other agree xs (and_right (whole_in look x) (list_all (whole_in look) xs) t))

all_agree : (look other : ℕ → Extent) → ((c : ℕ) → look c ≡ other c) → (t : ElementType) → extent_of look t ≡ extent_of other t
all_agree look other same (element_type.BuiltIn kind) = refl
all_agree look other same (element_type.Component c) = same c

pub same_agrees : (look other : ℕ → Extent) → ((c : ℕ) → look c ≡ other c) → (xs : List ElementOutline) → Agrees look other xs
same_agrees look other same [] = tt
same_agrees look other same (x ∷ xs) = (all_agree look other same x.ty, same_agrees look other same xs)

stable_in : (look other : ℕ → Extent) → AgreesOnWhole look other → (o : Option TypedComponent) → (measured_in look o).is_whole ≡ true → measured_in look o ≡ measured_in other o
stable_in look other agree None t = refl
stable_in look other agree (Some comp) t = same_measure look other comp.outline.elements (whole_agrees look other agree comp.outline.elements t)

-- what is whole stays as it is
pub stable : (n : ℕ) (comps : List TypedComponent) → AgreesOnWhole (extent_within n comps) (extent_within (suc n) comps)
stable zero comps c t = cc
stable (suc n) comps c t = stable_in (extent_within n comps) (extent_within (suc n) comps) (stable n comps) (slice_get comps c) t

-- ---- tables

pub set_each : {A : Type 0} (P : ℕ → Option A → Type 0) (xs : List A) (i : ℕ) (x : A) → ((k : ℕ) → P k (slice_get xs k)) → P i (Some x) → (k : ℕ) → P k (slice_get (slice_set xs i x) k)
set_each P [] i x each at k = each k
set_each P (y ∷ ys) zero x each at zero = at
set_each P (y ∷ ys) zero x each at (suc k) = each (suc k)
set_each P (y ∷ ys) (suc i) x each at zero = each zero
set_each P (y ∷ ys) (suc i) x each at (suc k) = set_each (λ n. P (suc n)) ys i x (λ n. each (suc n)) at k

unknown_each : (n k : ℕ) → extent_at (replicate n unknown) k ≡ unknown
unknown_each zero k = refl
unknown_each (suc n) zero = refl
unknown_each (suc n) (suc k) = unknown_each n k

length-unknown : (n : ℕ) → length (replicate n unknown) ≡ n
length-unknown zero = refl
length-unknown (suc n) = ap suc (length-unknown n)

pub extents_begin : (comps : List TypedComponent) (table : List Extent) → table ≡ replicate (length comps) unknown → AreExtents 0 comps table
extents_begin comps table is = record { sized = ap length is ∙ length-unknown (length comps); each = λ c. ap (λ t. extent_at t c) is ∙ unknown_each (length comps) c }

pub known_begin : (comps : List TypedComponent) (table : List Extent) → table ≡ replicate (length comps) unknown → AreKnown 0 comps table
known_begin comps table is =
    let all : AreExtents 0 comps table = extents_begin comps table is in
    record { sized = all.sized; each = λ c t. all.each c }

-- one step deeper, what was known still is
pub known_stays : (n : ℕ) (comps : List TypedComponent) (table : List Extent) → AreKnown n comps table → AreKnown (suc n) comps table
known_stays n comps table known = record {
  sized = known.sized;
  each = λ c t. known.each c t ∙ stable n comps c (ap (λ (x : Extent). x.is_whole) (sym (known.each c t)) ∙ t);
}

measured_here : (n : ℕ) (comps : List TypedComponent) (table : List Extent) → AreKnown n comps table → (c : ℕ) (comp : TypedComponent) → slice_get comps c ≡ Some comp
    → (measured (extent_at table) (elements_at comps c)).is_whole ≡ true → measured (extent_at table) (elements_at comps c) ≡ extent_within (suc n) comps c
measured_here n comps table known c comp is t =
    same_measure (extent_at table) (extent_within n comps) (elements_at comps c) (whole_agrees (extent_at table) (extent_within n comps) known.each (elements_at comps c) t)
    ∙ ap (λ o. measured (extent_within n comps) (elements_in o)) is ∙ sym (ap (measured_in (extent_within n comps)) is)

pub known_goes : (n : ℕ) (comps : List TypedComponent) (table : List Extent) (c : ℕ) {extent : Extent} {table2 : List Extent} → c < length table
    → extent ≡ measured (extent_at table) (elements_at comps c) → table2 ≡ slice_set table c extent → AreKnown n comps table → AreKnown (suc n) comps table2
known_goes n comps table c {extent = extent} {table2 = table2} within is goes known = subst (λ t. AreKnown (suc n) comps t) (sym goes) (record {
  sized = length-set table c extent ∙ known.sized;
  each = set_each (λ k o. (extent_in o).is_whole ≡ true → extent_in o ≡ extent_within (suc n) comps k) table c extent (known_stays n comps table known).each
      (by (some_or_past comps c));
})
  where
    by : ((comp : TypedComponent) × (slice_get comps c ≡ Some comp)) ⊎ (length comps ≤ c) → extent.is_whole ≡ true → extent ≡ extent_within (suc n) comps c
    by (inl some) t = is ∙ measured_here n comps table known c some.0 some.1 (ap (λ (x : Extent). x.is_whole) (sym is) ∙ t)
    by (inr past) t = absurd (omega (arith, known.sized))

unknown_past : (n : ℕ) (comps : List TypedComponent) (c : ℕ) → length comps ≤ c → extent_within n comps c ≡ unknown
unknown_past zero comps c past = refl
unknown_past (suc n) comps c past = ap (measured_in (extent_within n comps)) (none_past comps c past)

pub known_all : (n : ℕ) (comps : List TypedComponent) (table : List Extent) → AreKnown n comps table → ((c : ℕ) → c < length table → (extent_at table c).is_whole ≡ true) → AreExtents n comps table
known_all n comps table known whole = record { sized = known.sized; each = λ c. by c (less_or_not c (length table)) }
  where
    by : (c : ℕ) → (c < length table) ⊎ (length table ≤ c) → extent_at table c ≡ extent_within n comps c
    by c (inl h) = known.each c (whole c h)
    by c (inr h) = ap extent_in (none_past table c h) ∙ sym (unknown_past n comps c (subst (λ m. m ≤ c) known.sized h))

-- ---- all components by what is known of them all

pub record AreMeasured (comps : List TypedComponent) (look : ℕ → Extent) (n : ℕ) (made : List Extent) : Type 0 where
  pub sized : length made ≡ n
  pub each : (c : ℕ) → c < n → extent_at made c ≡ measured look (elements_at comps c)

pub measured_begin : (comps : List TypedComponent) (look : ℕ → Extent) (made : List Extent) → made ≡ [] → AreMeasured comps look 0 made
measured_begin comps look made is = record { sized = ap length is; each = λ c below. absurd (omega arith) }

pub measured_goes : (comps : List TypedComponent) (look : ℕ → Extent) (i : ℕ) (comp : TypedComponent) (made : List Extent) {extent : Extent} {made2 : List Extent}
    → slice_get comps i ≡ Some comp → extent ≡ measured look comp.outline.elements → made2 ≡ made ++ extent ∷ [] → AreMeasured comps look i made → AreMeasured comps look (i + 1) made2
measured_goes comps look i comp made {extent = extent} is right goes known = subst (λ x. AreMeasured comps look (i + 1) x) (sym goes) (record {
  sized = length-push made extent ∙ ap (λ n. n + 1) known.sized;
  each = λ c below. push_each (λ k o. extent_in o ≡ measured look (elements_at comps k)) made extent (λ k less. known.each k (subst (λ n. k < n) known.sized less))
      (right ∙ ap (λ o. measured look (elements_in o)) (sym is) ∙ ap (λ n. measured look (elements_at comps n)) (sym known.sized))
      c (subst (λ n. c < n + 1) (sym known.sized) below);
})

pub deeper_end : (n : ℕ) (comps : List TypedComponent) (table : List Extent) (i : ℕ) (made : List Extent) → length comps ≤ i → i ≤ length comps
    → AreMeasured comps (extent_at table) i made → AreExtents n comps table → AreExtents (suc n) comps made
deeper_end n comps table i made past within known right = record { sized = known.sized ∙ (let same : i ≡ length comps = omega arith in same); each = λ c. by c (some_or_past comps c) }
  where
    by : (c : ℕ) → ((comp : TypedComponent) × (slice_get comps c ≡ Some comp)) ⊎ (length comps ≤ c) → extent_at made c ≡ extent_within (suc n) comps c
    by c (inl some) =
        let below : c < length comps = some_within comps c some.0 some.1 in
        known.each c (omega arith)
        ∙ same_measure (extent_at table) (extent_within n comps) (elements_at comps c) (same_agrees (extent_at table) (extent_within n comps) right.each (elements_at comps c))
        ∙ ap (λ o. measured (extent_within n comps) (elements_in o)) some.1 ∙ sym (ap (measured_in (extent_within n comps)) some.1)
    by c (inr past_it) = ap extent_in (none_past made c (let behind : length made ≤ c = omega (arith, known.sized) in behind)) ∙ sym (unknown_past (suc n) comps c past_it)

pub levels_go : (comps : List TypedComponent) (i : ℕ) (table slice made : List Extent) → slice ≡ table → ((n : ℕ) → AreExtents n comps slice → AreExtents (suc n) comps made)
    → AreExtents i comps table → AreExtents (i + 1) comps made
levels_go comps i table slice made is goes right = subst (λ n. AreExtents n comps made) (sym (add-one i)) (goes i (subst (λ t. AreExtents i comps t) (sym is) right))

pub known_turn : (i : ℕ) (comps : List TypedComponent) (table : List Extent) (c : ℕ) {table2 : List Extent} → table2 ≡ slice_set table c (measured (extent_at table) (elements_at comps c))
    → AreKnown i comps table → AreKnown (i + 1) comps table2
known_turn i comps table c {table2 = table2} goes known = subst (λ n. AreKnown n comps table2) (sym (add-one i)) (by (less_or_not c (length table)))
  where
    by : (c < length table) ⊎ (length table ≤ c) → AreKnown (suc i) comps table2
    by (inl h) = known_goes i comps table c h refl goes known
    by (inr h) = subst (λ t. AreKnown (suc i) comps t) (sym (goes ∙ set_past table c (measured (extent_at table) (elements_at comps c)) h)) (known_stays i comps table known)

on_true : {P : Type 0} (b : Bool) → OnTrue b P → b ≡ true → P
on_true true p e = p
on_true false p e = cc

pub all_known : (n : ℕ) (comps : List TypedComponent) (table slice : List Extent) {b : Bool} → slice ≡ table → OnTrue b ((c : ℕ) → c < length slice → (extent_at slice c).is_whole ≡ true) → b ≡ true
    → AreKnown n comps table → AreExtents n comps table
all_known n comps table slice {b = b} is tells t known =
    known_all n comps table known (subst (λ x. (c : ℕ) → c < length x → (extent_at x c).is_whole ≡ true) is (on_true b tells t))

pub known_at : (n m : ℕ) (comps : List TypedComponent) (table : List Extent) → n ≡ m → AreKnown n comps table → AreKnown m comps table
known_at n m comps table is known = subst (λ k. AreKnown k comps table) is known
