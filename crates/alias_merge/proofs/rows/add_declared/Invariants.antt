use Rattle.std.proofs.Common.{◌≡◌, ◌++◌, take}
use Rattle.alias_merge.specs.Rows.{declared_rows}
use Rattle.alias_merge.proofs.rows.add_declared.Given as goal

-- what there is so far
abbrev pub invariant-loop-number : goal.invariant-loop-number
invariant-loop-number l = l.rows ≡ l.initial.rows ++ declared_rows l.expanded l.body (take l.number l.members)
