-- Places of `@children` that are collected in a loop.
use Rattle.std.proofs.Common.{◌≡◌, ℕ, List, [], ◌∷◌, ◌++◌, ◌+◌, ◌<◌, ◌≤◌, length, drop, get_or, refl, sym, ◌∙◌, ap, subst, append_assoc, arith}
use Rattle.std.proofs.lemmas.List.{append-nil, drop_all}
use Rattle.syntax_tree.specs.declared.items.Element.{Element}
use Rattle.syntax_tree.specs.declared.items.For.{For}
use Rattle.syntax_tree.specs.declared.items.IfElement.{IfElement}
use Rattle.syntax_tree.specs.declared.items.Item.{Item, out-Item}
use Rattle.syntax_tree.specs.declared.items.Item.TheOpen.{Item-F}
use Rattle.source_outline.specs.declared.slots.SlotAt.{SlotAt}
use Rattle.source_outline.specs.Members.{ItemLayer, in_front}
use Rattle.source_outline.specs.Slots.{body_slots, children_by, slot_by}
use Rattle.source_outline.proofs.Turns.{from_item, front}

one_at_most : (z : ItemLayer) → children_by z ≤ 1
one_at_most (Item-F.Element x) = omega arith
one_at_most (Item-F.If x) = omega arith
one_at_most (Item-F.For x) = omega arith
one_at_most (Item-F.Property x) = omega arith
one_at_most (Item-F.Callback x) = omega arith
one_at_most (Item-F.Function x) = omega arith
one_at_most (Item-F.Binding x) = omega arith
one_at_most (Item-F.Link x) = omega arith
one_at_most (Item-F.Handler x) = omega arith
one_at_most (Item-F.Changed x) = omega arith
one_at_most (Item-F.States x) = omega arith
one_at_most (Item-F.Children x) = omega arith

pub few_more : (before next i : ℕ) (item : Item) → before ≤ i → next ≡ before + children_by (out-Item item) → next ≤ i + 1
few_more before next i item h e = let l : children_by (out-Item item) ≤ 1 = one_at_most (out-Item item) in omega arith

pub slots_turn : (e before more : ℕ) (items : List Item) (i : ℕ) (item : Item) (out next whole : List SlotAt) → item ≡ get_or items i item → i < length items
    → next ≡ out ++ in_front (slot_by e before (out-Item item)) [] → more ≡ before + children_by (out-Item item)
    → out ++ body_slots e before (drop i items) ≡ whole → next ++ body_slots e more (drop (i + 1) items) ≡ whole
slots_turn e before more items i item out next whole at_i h added counted is =
    ap (λ ys. ys ++ body_slots e more (drop (i + 1) items)) added
    ∙ ap (λ n. (out ++ in_front (slot_by e before (out-Item item)) []) ++ body_slots e n (drop (i + 1) items)) counted
    ∙ append_assoc out (in_front (slot_by e before (out-Item item)) []) (body_slots e (before + children_by (out-Item item)) (drop (i + 1) items))
    ∙ ap (λ ys. out ++ ys) (front (slot_by e before (out-Item item)) (body_slots e (before + children_by (out-Item item)) (drop (i + 1) items)))
    ∙ ap (λ xs. out ++ body_slots e before xs) (sym (from_item items i item at_i h))
    ∙ is

pub slots_ended : (e before : ℕ) (items : List Item) (i : ℕ) (out whole : List SlotAt) → length items ≤ i → out ++ body_slots e before (drop i items) ≡ whole → out ≡ whole
slots_ended e before items i out whole h is = sym (append-nil out) ∙ ap (λ xs. out ++ body_slots e before xs) (sym (drop_all i items h)) ∙ is
