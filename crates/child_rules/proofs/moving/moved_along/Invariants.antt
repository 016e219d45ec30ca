use Rattle.std.proofs.Common.{◌≡◌, drop}
use Rattle.child_rules.specs.Grids.{moved_along}
use Rattle.child_rules.proofs.moving.moved_along.Given as goal

-- the cursor so far, and the elements that are left, come to where all of them do
abbrev pub invariant-loop-number : goal.invariant-loop-number
invariant-loop-number l = moved_along l.places.comps l.component l.grid l.number (drop l.number l.written) l.moving ≡ moved_along l.places.comps l.component l.grid 0 l.written l.fn.cursor
