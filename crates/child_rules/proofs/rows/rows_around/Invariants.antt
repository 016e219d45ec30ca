use Rattle.std.proofs.Common.{◌≡◌, ◌-◌, ◌++◌}
use Rattle.child_rules.specs.Rows.{rows_around, rows_within}
use Rattle.child_rules.proofs.rows.rows_around.Given as goal

-- the names so far, and those that stand further around, are all of them
abbrev pub invariant-loop : goal.invariant-loop
invariant-loop l = rows_around l.elements l.fn.element ≡ l.rows ++ rows_within (l.end - l.counter) l.elements l.around
