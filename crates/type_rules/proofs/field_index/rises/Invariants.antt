use Rattle.std.proofs.Common.{◌≡◌, drop}
use Rattle.element_tables.specs.Rows.{byte_order, is_rising}
use Rattle.type_rules.proofs.field_index.rises.Given as goal

-- the names rise if those that are left do
abbrev pub invariant-loop-place : goal.invariant-loop-place
invariant-loop-place l = is_rising byte_order l.fields ≡ is_rising byte_order (drop l.place l.fields)
