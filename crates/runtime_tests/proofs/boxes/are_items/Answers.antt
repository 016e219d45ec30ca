use Rattle.std.proofs.Common.{◌≡◌, ◌<◌, ◌≤◌, ◌+◌, ℤ, pos, length, All, take, take_all, subst, arith}
use Rattle.std.proofs.lemmas.List.Elements.{All-more}
use Rattle.layout_solve.specs.Items.{IsItem}
use Rattle.runtime_tests.proofs.boxes.are_items.Goals as goal

pub loop-item-preserved : goal.loop-item-preserved
loop-item-preserved c = All-more (IsItem) c.args.items.now c.loop-item.item-index _ c.loop-item-test.true c.loop-item.invariant (c.if-not-is_item.ensures)

pub returns : goal.returns
returns c = subst (All (IsItem)) (take_all c.loop-item.item-index c.args.items.now c.loop-item-test.false) c.loop-item.invariant
