use Rattle.std.proofs.Common.{◌≡◌, ◌++◌, ◌-◌, Some}
use Rattle.source_outline.specs.Following.{rows_around, rows_within}
use Rattle.source_outline.proofs.rows.rows_around.Given as goal

-- the names so far and those further outwards
abbrev pub invariant-loop : goal.invariant-loop
invariant-loop l = l.rows ++ rows_within (l.end - l.counter) l.elements l.around ≡ rows_within l.end l.elements (Some l.fn.element)
