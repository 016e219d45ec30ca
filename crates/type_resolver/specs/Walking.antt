-- The elements of a component, one after the other: what is known of those that were looked at.
use Rattle.std.specs.Prelude.{◌≡◌, ℕ, List, [], ◌∷◌, Option, Some, None, Result, Ok, Err, slice_get, length, take}
use Rattle.slint_base.specs.declared.faults.Fault.{Fault}
use Rattle.syntax_tree.specs.declared.items.Item.{Item}
use Rattle.typed_tree.specs.declared.outlines.Outline.{Outline}
use Rattle.typed_tree.specs.declared.scopes.RowNames.{RowNames}
use Rattle.typed_tree.specs.declared.scopes.Site.{Site}
use Rattle.typed_tree.specs.declared.trees.TypedElement.{TypedElement}
use Rattle.typed_tree.specs.declared.trees.TypedItem.{TypedItem}
use Rattle.typed_tree.specs.declared.trees.TypedRepeat.{TypedRepeat}
use Rattle.fault_order.specs.Order.{IsFirst}
use Rattle.source_elements.specs.Elements.{WrittenElement}
use Rattle.item_types.specs.Judging.{Tells, added, each, made}
use Rattle.type_resolver.specs.declared.elements.Inside.{Inside}
use Rattle.type_resolver.specs.Bodies.{RowsIn, body, counted, element, in_body, repeated, site_around, with_items}

-- the names of repeaters in an element, or that there are none since a model or condition breaks a rule
abbrev pub Stands : Outline → ℕ → List WrittenElement → Option ℕ → Option (List RowNames) → Type 0
Stands o c ws p (Some rows) = RowsIn o c ws p rows
Stands o c ws p None = (rows : List RowNames) → RowsIn o c ws p rows → ⊥

-- what is told of an element, if it is looked at, and the names in it
pub data ElementTold (o : Outline) (c : ℕ) (ws : List WrittenElement) (p : ℕ × WrittenElement) : Option (Result TypedElement Fault) → Option (List RowNames) → Type 0 where
  skipped : Stands o c ws p.1.parent None → ElementTold o c ws p None None
  failed : {around : List RowNames} {f : Fault} → RowsIn o c ws p.1.parent around → IsFirst (repeated o (site_around c p.1.parent) p.0 p.1.repeating around).breaks f
      → ElementTold o c ws p (Some (Err f)) None
  went : {around : List RowNames} {inside : Inside} {v : Result TypedElement Fault} → RowsIn o c ws p.1.parent around
      → (repeated o (site_around c p.1.parent) p.0 p.1.repeating around).comes inside → Tells (in_body o c p.0 p.1.body inside) v
      → ElementTold o c ws p (Some v) (Some inside.rows)

-- an element, of what is told of its items
abbrev pub element_of : TypedRepeat → Result (List TypedItem) Fault → Result TypedElement Fault
element_of repeat (Ok items) = Ok (with_items repeat items)
element_of repeat (Err f) = Err f

-- what is told of a body of an element, where it is known how often that is there
pub data WentIn (o : Outline) (here : Site) (items : List Item) (inside : Inside) : Option (Result TypedElement Fault) → Option (List RowNames) → Type 0 where
  went_in : {v : Result TypedElement Fault} → Tells (made (body o here inside.rows items) (with_items inside.repeat)) v → WentIn o here items inside (Some v) (Some inside.rows)

-- with what is told of one more
abbrev pub seen_with : Result (List TypedElement) Fault → Option (Result TypedElement Fault) → Result (List TypedElement) Fault
seen_with seen None = seen
seen_with seen (Some v) = added seen v

abbrev pub IsErr : Result (List TypedElement) Fault → Type 0
IsErr (Ok xs) = ⊥
IsErr (Err f) = Unit {0}

-- so many elements were looked at: what is told of them, and the names in each
pub record Walked (o : Outline) (c : ℕ) (ws : List WrittenElement) (n : ℕ) (seen : Result (List TypedElement) Fault) (known : List (Option (List RowNames))) : Type 0 where
  pub sized : length known ≡ n
  pub told : Tells (each (element o c ws) (counted 0 (take n ws))) seen
  pub stand : (e : ℕ) (rows : Option (List RowNames)) → slice_get known e ≡ Some rows → Stands o c ws (Some e) rows
  pub broken : (e : ℕ) → slice_get known e ≡ Some None → IsErr seen

-- the names around an element, by those in the elements before it
abbrev pub known_at : Option (Option (List RowNames)) → Option (List RowNames)
known_at None = None
known_at (Some rows) = rows

abbrev pub rows_at : List (Option (List RowNames)) → Option ℕ → Option (List RowNames)
rows_at known None = Some []
rows_at known (Some p) = known_at (slice_get known p)
