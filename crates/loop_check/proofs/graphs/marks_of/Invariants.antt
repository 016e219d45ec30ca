use Rattle.std.proofs.Common.{◌≡◌, map, take}
use Rattle.loop_check.specs.Graphs.{is_marked}
use Rattle.loop_check.proofs.graphs.marks_of.Given as goal

-- what there is so far
abbrev pub invariant-loop-thing : goal.invariant-loop-thing
invariant-loop-thing l = l.marks ≡ map (is_marked l.tree) (take l.thing-index l.things)
