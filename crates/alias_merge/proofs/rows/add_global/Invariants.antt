use Rattle.std.proofs.Common.{◌≡◌, ◌++◌}
use Rattle.expanded_tree.specs.Components.{each_below}
use Rattle.alias_merge.specs.Rows.{global_row}
use Rattle.alias_merge.proofs.rows.add_global.Given as goal

-- what there is so far
abbrev pub invariant-loop-number : goal.invariant-loop-number
invariant-loop-number l = l.rows ≡ l.initial.rows ++ each_below (global_row l.global) l.number
