use Rattle.std.proofs.Common.{◌≡◌, ◌-◌}
use Rattle.typed_tree.specs.Elements.{outwards_within}
use Rattle.child_rules.specs.Rows.{is_in_rows}
use Rattle.child_rules.proofs.Outwards.{any_repeated}
use Rattle.child_rules.proofs.rows.is_in_rows.Given as goal

-- the answer is the one for the element at hand and those around it
abbrev pub invariant-loop : goal.invariant-loop
invariant-loop l = is_in_rows l.elements l.fn.element ≡ any_repeated l.elements (outwards_within (l.end - l.counter) l.elements l.around)
