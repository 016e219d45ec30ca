-- How large what stands for the components in the expanded tree is, as a table that is filled in an order in which what is contained comes first.
use Rattle.std.specs.Prelude.{◌≡◌, ℕ, zero, suc, ◌+◌, Bool, true, false, List, [], ◌∷◌, length, min, slice_get, sum_by, Option, Some, None}
use Rattle.std.specs.List.{list_all}
use Rattle.slint_base.specs.declared.faults.Fault.{Fault}
use Rattle.typed_tree.specs.declared.outlines.ElementOutline.{ElementOutline}
use Rattle.typed_tree.specs.declared.outlines.ElementType.{ElementType}
use Rattle.typed_tree.specs.declared.outlines.ElementType.TheVariants as element_type
use Rattle.typed_tree.specs.declared.trees.TypedComponent.{TypedComponent}
use Rattle.typed_tree.specs.Elements.{type_in}
use Rattle.fault_order.specs.Order.{earlier_of, first_of}
use Rattle.expanded_tree.specs.Components.{each_below}
use Rattle.expanded_tree.specs.Repeaters.{depth_in, most_repeaters, repeat_faults}
use Rattle.expanded_tree.specs.Sizes.{most_elements}
use Rattle.inliner.specs.declared.extents.Extent.{Extent}

-- of a built-in element, and of a component of which nothing is known
abbrev pub built_in : Extent
built_in = record { is_whole = true; size = 1; height = 0; deep = [] }

abbrev pub unknown : Extent
unknown = record { is_whole = false; size = suc most_elements; height = 0; deep = [] }

-- of a type, by what is known of components
abbrev pub extent_of : (ℕ → Extent) → ElementType → Extent
extent_of look (element_type.BuiltIn kind) = built_in
extent_of look (element_type.Component c) = look c

-- the first repeater that is one too many, where so many are around
abbrev pub fault_in : Option (Option Fault) → Option Fault
fault_in None = None
fault_in (Some fault) = fault

abbrev pub deep_at : Extent → ℕ → Option Fault
deep_at extent depth = fault_in (slice_get extent.deep depth)

abbrev pub first_at : ℕ → ElementOutline → Extent → Option Fault
first_at depth x extent = earlier_of (first_of (repeat_faults depth x.repeat)) (deep_at extent depth)

-- the same of the elements of a component, which are counted from e
abbrev pub first_deep : (ℕ → Extent) → ℕ → List ElementOutline → ℕ → List ElementOutline → Option Fault
first_deep look around all e [] = None
first_deep look around all e (x ∷ xs) = earlier_of (first_at (depth_in around all e) x (extent_of look x.ty)) (first_deep look around all (suc e) xs)

abbrev pub deep_from : (ℕ → Extent) → List ElementOutline → ℕ → Option Fault
deep_from look all around = first_deep look around all 0 all

abbrev pub deep_in : (ℕ → Extent) → List ElementOutline → List (Option Fault)
deep_in look all = each_below (deep_from look all) (most_repeaters + 2)

-- of a component of these elements
abbrev pub whole_in : (ℕ → Extent) → ElementOutline → Bool
whole_in look x = (extent_of look x.ty).is_whole

abbrev pub sized_in : (ℕ → Extent) → ElementOutline → ℕ
sized_in look x = (extent_of look x.ty).size

abbrev pub measured : (ℕ → Extent) → List ElementOutline → Extent
measured look all = record {
  is_whole = list_all (whole_in look) all;
  size = min (suc most_elements) (sum_by (sized_in look) all);
  height = suc (extent_of look (type_in (slice_get all 0))).height;
  deep = deep_in look all;
}

abbrev pub measured_in : (ℕ → Extent) → Option TypedComponent → Extent
measured_in look None = unknown
measured_in look (Some comp) = measured look comp.outline.elements

-- of a component, looking so many components deep
abbrev pub extent_within : ℕ → List TypedComponent → ℕ → Extent
extent_within zero comps c = unknown
extent_within (suc n) comps c = measured_in (extent_within n comps) (slice_get comps c)

-- a table
abbrev pub extent_in : Option Extent → Extent
extent_in None = unknown
extent_in (Some extent) = extent

abbrev pub extent_at : List Extent → ℕ → Extent
extent_at table c = extent_in (slice_get table c)

-- the table of all components, as far as one gets so many components deep
pub record AreExtents (n : ℕ) (comps : List TypedComponent) (table : List Extent) : Type 0 where
  pub sized : length table ≡ length comps
  pub each : (c : ℕ) → extent_at table c ≡ extent_within n comps c

-- a table in which what is whole is right
pub record AreKnown (n : ℕ) (comps : List TypedComponent) (table : List Extent) : Type 0 where
  pub sized : length table ≡ length comps
  pub each : (c : ℕ) → (extent_at table c).is_whole ≡ true → extent_at table c ≡ extent_within n comps c
