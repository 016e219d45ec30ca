-- What tables of extents say of sizes, heights and repeaters.
use Rattle.std.specs.Prelude.{ℕ, zero, suc, true, false, List, [], ◌∷◌, length, min, nat_lt, slice_get, sum_by, Option, Some, None}
use Rattle.std.proofs.Common.{◌≡◌, refl, sym, ap, ◌∙◌, ◌+◌, ◌<◌, ◌≤◌, arith}
use Rattle.std.proofs.lemmas.List.Sums.{sum_by-cons}
use Rattle.std.proofs.lemmas.Bool.{lt-ltb, le-ltb}
use Rattle.std.proofs.lemmas.Bool.Decides.{nat_tests}
use Rattle.expanded_tree.specs.Limits.{at_name, count_faults}
use Rattle.slint_base.specs.declared.faults.Fault.{Fault}
use Rattle.typed_tree.specs.declared.outlines.ElementOutline.{ElementOutline}
use Rattle.typed_tree.specs.declared.outlines.ElementType.{ElementType}
use Rattle.typed_tree.specs.declared.outlines.ElementType.TheVariants as element_type
use Rattle.typed_tree.specs.declared.trees.TypedComponent.{TypedComponent}
use Rattle.typed_tree.specs.Elements.{type_in}
use Rattle.fault_order.specs.Order.{earlier_of, first_of, numbered}
use Rattle.fault_order.proofs.First.{first_of-append}
use Rattle.expanded_tree.specs.Components.{elements_in}
use Rattle.expanded_tree.specs.Repeaters.{depth_faults, depth_in, element_faults, most_repeaters, numbered_faults, repeat_faults, repeater_faults}
use Rattle.expanded_tree.specs.Sizes.{height_in, height_within, most_elements, size, size_in, size_within}
use Rattle.inliner.proofs.Rows.{each_read}
use Rattle.inliner.specs.declared.extents.Extent.{Extent}
use Rattle.inliner.specs.Extents.{AreExtents, deep_at, deep_from, extent_at, extent_of, extent_within, fault_in, first_deep, measured, measured_in, sized_in}

-- ---- sizes

abbrev capped : ℕ → ℕ
capped n = min (suc most_elements) n

added : (o a b s t : ℕ) → min o s ≡ min o t → a ≡ min o b → min o (a + s) ≡ min o (b + t)
added o a b s t e f = omega arith

sizes_in : (look : ℕ → Extent) (inner : ElementType → ℕ) → ((t : ElementType) → (extent_of look t).size ≡ capped (inner t)) → (xs : List ElementOutline)
    → capped (sum_by (sized_in look) xs) ≡ capped (sum_by (λ x. inner x.ty) xs)
sizes_in look inner each [] = refl
sizes_in look inner each (x ∷ xs) =
    ap capped (sum_by-cons (sized_in look) x xs)
    ∙ added (suc most_elements) (sized_in look x) (inner x.ty) (sum_by (sized_in look) xs) (sum_by (λ y. inner y.ty) xs) (sizes_in look inner each xs) (each x.ty)
    ∙ sym (ap capped (sum_by-cons (λ y. inner y.ty) x xs))

size_by : (look : ℕ → Extent) (inner : ElementType → ℕ) → ((t : ElementType) → (extent_of look t).size ≡ capped (inner t)) → (o : Option TypedComponent)
    → (measured_in look o).size ≡ capped (size_in inner o)
size_by look inner each None = refl
size_by look inner each (Some comp) = sizes_in look inner each comp.outline.elements

pub size_is : (n : ℕ) (comps : List TypedComponent) (t : ElementType) → (extent_of (extent_within n comps) t).size ≡ capped (size_within n comps t)
size_is n comps (element_type.BuiltIn kind) = refl
size_is zero comps (element_type.Component c) = refl
size_is (suc n) comps (element_type.Component c) = size_by (extent_within n comps) (size_within n comps) (size_is n comps) (slice_get comps c)

too_large : (o n : ℕ) → nat_lt o (min (suc o) n) ≡ nat_lt o n
too_large o n = grind (arith, nat_tests)

pub count_is : (comps : List TypedComponent) (table : List Extent) (root : ℕ) → AreExtents (length comps) comps table
    → nat_lt most_elements (extent_at table root).size ≡ nat_lt most_elements (size comps root)
count_is comps table root right =
    ap (λ (x : Extent). nat_lt most_elements x.size) (right.each root) ∙ ap (nat_lt most_elements) (size_is (length comps) comps (element_type.Component root))
    ∙ too_large most_elements (size comps root)

-- ---- heights

height_by : (look : ℕ → Extent) (inner : ElementType → ℕ) → ((t : ElementType) → (extent_of look t).height ≡ inner t) → (o : Option TypedComponent)
    → (measured_in look o).height ≡ height_in inner o
height_by look inner each None = refl
height_by look inner each (Some comp) = ap suc (each (type_in (slice_get comp.outline.elements 0)))

pub height_is : (n : ℕ) (comps : List TypedComponent) (t : ElementType) → (extent_of (extent_within n comps) t).height ≡ height_within n comps t
height_is n comps (element_type.BuiltIn kind) = refl
height_is zero comps (element_type.Component c) = refl
height_is (suc n) comps (element_type.Component c) = height_by (extent_within n comps) (height_within n comps) (height_is n comps) (slice_get comps c)

-- ---- repeaters

-- what is known of a type, and the faults in it
abbrev Tells : (ℕ → Extent) → (ℕ → ElementType → List Fault) → Type 0
Tells look inner = (depth : ℕ) (t : ElementType) → depth ≤ suc most_repeaters → deep_at (extent_of look t) depth ≡ first_of (inner depth t)

first_in : (look : ℕ → Extent) (inner : ℕ → ElementType → List Fault) → Tells look inner → (around : ℕ) (all : List ElementOutline) (e : ℕ) (xs : List ElementOutline)
    → first_deep look around all e xs ≡ first_of (numbered (numbered_faults inner around all) e xs)
first_in look inner tells around all e [] = refl
first_in look inner tells around all e (x ∷ xs) =
    let depth : ℕ = depth_in around all e in
    let low : depth_in around all e ≤ suc most_repeaters = omega arith in
    ap (λ f. earlier_of (earlier_of (first_of (repeat_faults depth x.repeat)) f) (first_deep look around all (suc e) xs)) (tells depth x.ty low)
    ∙ ap (λ f. earlier_of f (first_deep look around all (suc e) xs)) (sym (first_of-append (repeat_faults depth x.repeat) (inner depth x.ty)))
    ∙ ap (earlier_of (first_of (element_faults inner depth x))) (first_in look inner tells around all (suc e) xs)
    ∙ sym (first_of-append (numbered_faults inner around all e x) (numbered (numbered_faults inner around all) (suc e) xs))

deep_read : (look : ℕ → Extent) (all : List ElementOutline) (depth : ℕ) → depth ≤ suc most_repeaters → deep_at (measured look all) depth ≡ first_deep look depth all 0 all
deep_read look all depth low = ap fault_in (each_read (deep_from look all) (most_repeaters + 2) depth (omega arith))

deep_by : (look : ℕ → Extent) (inner : ℕ → ElementType → List Fault) → Tells look inner → (o : Option TypedComponent) (depth : ℕ) → depth ≤ suc most_repeaters
    → deep_at (measured_in look o) depth ≡ first_of (numbered (numbered_faults inner depth (elements_in o)) 0 (elements_in o))
deep_by look inner tells None depth low = refl
deep_by look inner tells (Some comp) depth low = deep_read look comp.outline.elements depth low ∙ first_in look inner tells depth comp.outline.elements 0 comp.outline.elements

pub deep_is : (n : ℕ) (comps : List TypedComponent) → Tells (extent_within n comps) (depth_faults n comps)
deep_is n comps depth (element_type.BuiltIn kind) low = refl
deep_is zero comps depth (element_type.Component c) low = refl
deep_is (suc n) comps depth (element_type.Component c) low = deep_by (extent_within n comps) (depth_faults n comps) (deep_is n comps) (slice_get comps c) depth low

pub repeater_is : (comps : List TypedComponent) (table : List Extent) (root : ℕ) → AreExtents (length comps) comps table → deep_at (extent_at table root) 0 ≡ first_of (repeater_faults comps root)
repeater_is comps table root right = ap (λ (x : Extent). deep_at x 0) (right.each root) ∙ deep_is (length comps) comps 0 (element_type.Component root) (omega arith)

-- ---- faults

pub too_many : (comps : List TypedComponent) (table : List Extent) (root : ℕ) {size_read : ℕ} {told : Option Fault} → AreExtents (length comps) comps table
    → size_read ≡ (extent_at table root).size → most_elements < size_read → told ≡ first_of (at_name (slice_get comps root)) → told ≡ first_of (count_faults comps root)
too_many comps table root right is more tells =
    let yes_it_is : nat_lt most_elements (size comps root) ≡ true = sym (count_is comps table root right) ∙ ap (nat_lt most_elements) (sym is) ∙ lt-ltb _ _ more in
    rw yes_it_is tells

pub not_many : (comps : List TypedComponent) (table : List Extent) (root : ℕ) {size_read : ℕ} → AreExtents (length comps) comps table
    → size_read ≡ (extent_at table root).size → size_read ≤ most_elements → None ≡ first_of (count_faults comps root)
not_many comps table root right is few =
    let it_is_not : nat_lt most_elements (size comps root) ≡ false = sym (count_is comps table root right) ∙ ap (nat_lt most_elements) (sym is) ∙ le-ltb _ _ few in
    rw it_is_not refl
