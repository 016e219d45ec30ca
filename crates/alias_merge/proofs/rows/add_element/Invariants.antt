use Rattle.std.proofs.Common.{◌≡◌, ◌++◌}
use Rattle.expanded_tree.specs.Components.{each_below}
use Rattle.alias_merge.specs.Rows.{built_in_row}
use Rattle.alias_merge.proofs.rows.add_element.Given as goal

-- what there is so far
abbrev pub invariant-loop-number : goal.invariant-loop-number
invariant-loop-number l = l.rows ≡ l.initial.rows ++ each_below (built_in_row l.element l.found.repeaters) l.number
