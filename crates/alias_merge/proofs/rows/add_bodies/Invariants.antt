use Rattle.std.proofs.Common.{◌≡◌, ◌++◌, take}
use Rattle.alias_merge.specs.Candidates.{numbered_all}
use Rattle.alias_merge.specs.Rows.{rows_of_body}
use Rattle.alias_merge.proofs.rows.add_bodies.Given as goal

-- what there is so far
abbrev pub invariant-loop-number : goal.invariant-loop-number
invariant-loop-number l = l.rows ≡ l.initial.rows ++ numbered_all (rows_of_body l.expanded) 0 (take l.number l.bodies)
