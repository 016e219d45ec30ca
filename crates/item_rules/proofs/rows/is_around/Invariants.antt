use Rattle.std.proofs.Common.{◌≡◌, ◌-◌, Some, length}
use Rattle.item_rules.specs.Rows.{is_row_name, rows_within}
use Rattle.item_rules.proofs.rows.is_around.Given as goal

-- a name is one around the element where it is one around the element that is come to
abbrev pub invariant-loop : goal.invariant-loop
invariant-loop l = is_row_name l.name (rows_within (length l.elements) l.elements (Some l.fn.element)) ≡ is_row_name l.name (rows_within (l.end - l.counter) l.elements l.around)
