use Rattle.std.proofs.Common.{◌≡◌, drop}
use Rattle.name_lookup.specs.Names.{row_among}
use Rattle.name_lookup.proofs.near.row_name.Given as goal

-- the row is among those that are left, if there is one
abbrev pub invariant-loop-row : goal.invariant-loop-row
invariant-loop-row l = row_among l.name l.rows l.span ≡ row_among l.name (drop l.row-index l.rows) l.span
