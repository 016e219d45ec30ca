use Rattle.std.proofs.Common.{take}
use Rattle.type_resolver.proofs.Seeing.{SeenItems}
use Rattle.type_resolver.proofs.bodies.judge_body.Given as goal

-- what is told of the items so far
abbrev pub invariant-loop-item : goal.invariant-loop-item
invariant-loop-item l = SeenItems l.names l.here l.rows (take l.item-index l.items) l.seen
