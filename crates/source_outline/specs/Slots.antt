-- Where `@children` stands in a component.
use Rattle.std.specs.Prelude.{ℕ, suc, ◌+◌, if◌then◌else◌, nat_lt, List, [], ◌∷◌, ◌++◌, Option, Some, None}
use Rattle.std.specs.Option.{option_map}
use Rattle.syntax_tree.specs.declared.items.Item.{Item, out-Item}
use Rattle.syntax_tree.specs.declared.items.Item.TheOpen.{Item-F}
use Rattle.source_elements.specs.Elements.{WrittenElement}
use Rattle.source_outline.specs.Members.{ItemLayer, in_front}
use Rattle.source_outline.specs.declared.slots.SlotAt.{SlotAt}
use Rattle.typed_tree.specs.declared.outlines.Slot.{Slot}

abbrev pub slot_at : ℕ → ℕ → ℕ → SlotAt
slot_at e before start = record { slot = record { element = e; before = before }; start = start }

-- `@children`, with its first byte
abbrev pub slot_by : ℕ → ℕ → ItemLayer → Option SlotAt
slot_by e before (Item-F.Children span) = Some (slot_at e before span.start)
slot_by e before _ = None

-- how many of the children of the element around an item is
abbrev pub children_by : ItemLayer → ℕ
children_by (Item-F.Element element) = 1
children_by (Item-F.If conditional) = 1
children_by (Item-F.For repeated) = 1
children_by _ = 0

-- in the body of an element, behind so many of its children
abbrev pub body_slots : ℕ → ℕ → List Item → List SlotAt
body_slots e before [] = []
body_slots e before (item ∷ items) = in_front (slot_by e before (out-Item item)) (body_slots e (before + children_by (out-Item item)) items)

abbrev pub element_slots : ℕ → List WrittenElement → List SlotAt
element_slots e [] = []
element_slots e (w ∷ ws) = body_slots e 0 w.body ++ element_slots (suc e) ws

-- the one that comes first in the text
abbrev pub sooner : Option SlotAt → SlotAt → Option SlotAt
sooner None s = Some s
sooner (Some best) s = if nat_lt s.start best.start then Some s else Some best

abbrev pub first_slot : Option SlotAt → List SlotAt → Option SlotAt
first_slot best [] = best
first_slot best (s ∷ ss) = first_slot (sooner best s) ss

abbrev pub slot_only : SlotAt → Slot
slot_only s = s.slot

abbrev pub slot_of : List WrittenElement → Option Slot
slot_of ws = option_map slot_only (first_slot None (element_slots 0 ws))
