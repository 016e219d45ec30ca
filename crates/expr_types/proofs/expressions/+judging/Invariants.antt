use Rattle.std.proofs.Common.{◌≡◌, ◌+◌, ◌*◌, max, [], map, take, reverse, Some}
use Rattle.std.specs.Option.{option_copied}
use Rattle.syntax_tree.specs.declared.expressions.Expr.{size-Expr}
use Rattle.syntax_tree.specs.declared.expressions.Suffix.{size-Suffix}
use Rattle.expr_types.specs.Nodes.{Suffixed, Chained, argument_nodes, at_all, field_nodes, hole_nodes}
use Rattle.expr_types.specs.Verdicts.{Seen, Tells}
use Rattle.expr_types.proofs.Turns.{field_names}
use Rattle.expr_types.proofs.expressions.+judging.Given as goal

-- what is seen so far

abbrev pub invariant-see_each-loop-e : goal.invariant-see_each-loop-e
invariant-see_each-loop-e l = Seen l.scope (at_all (option_copied l.place) (take l.e-index l.es)) l.seen

abbrev pub invariant-see_holes-loop-hole : goal.invariant-see_holes-loop-hole
invariant-see_holes-loop-hole l = Seen l.scope (hole_nodes (take l.hole-index l.holes)) l.seen

abbrev pub invariant-see_fields-loop-field : goal.invariant-see_fields-loop-field
invariant-see_fields-loop-field l = Seen l.scope (field_nodes (option_copied l.place) [] (take l.field-index l.fields)) l.seen × (l.before ≡ field_names (take l.field-index l.fields))

abbrev pub invariant-see_suffixed-loop-at : goal.invariant-see_suffixed-loop-at
invariant-see_suffixed-loop-at l = Tells l.scope (Suffixed l.first (reverse (take l.at l.suffixes))) l.front

abbrev pub invariant-see_passed-loop-number : goal.invariant-see_passed-loop-number
invariant-see_passed-loop-number l = Seen l.scope (argument_nodes (map (λ t. Some t) l.wanted) (take l.number l.arguments)) l.seen

abbrev pub invariant-see_chained-loop-at : goal.invariant-see_chained-loop-at
invariant-see_chained-loop-at l = Tells l.scope (Chained l.first (reverse (take l.at l.operands))) l.front

-- how deep what is judged is, and how far each function is from those that go deeper

abbrev pub decreases-judge : goal.decreases-judge
decreases-judge l = 6 * size-Expr l.e.now + 2

abbrev pub decreases-denote : goal.decreases-denote
decreases-denote l = 6 * size-Expr l.e.now + 1

abbrev pub decreases-parts_of : goal.decreases-parts_of
decreases-parts_of l = 6 * size-Expr l.e.now

abbrev pub decreases-see : goal.decreases-see
decreases-see l = 6 * size-Expr l.e.now + 3

abbrev pub decreases-see_alone : goal.decreases-see_alone
decreases-see_alone l = 6 * size-Expr l.e.now + 3

abbrev pub decreases-see_inside : goal.decreases-see_inside
decreases-see_inside l = 6 * size-Expr l.e.now + 3

abbrev pub decreases-see_each : goal.decreases-see_each
decreases-see_each l = 6 * goal.size-see_each l + 4

abbrev pub decreases-see_holes : goal.decreases-see_holes
decreases-see_holes l = 6 * goal.size-see_holes l + 4

abbrev pub decreases-see_fields : goal.decreases-see_fields
decreases-see_fields l = 6 * goal.size-see_fields l + 4

abbrev pub decreases-see_choice : goal.decreases-see_choice
decreases-see_choice l = 6 * max (size-Expr l.condition.now) (max (size-Expr l.yes.now) (size-Expr l.no.now)) + 4

abbrev pub decreases-see_suffixed : goal.decreases-see_suffixed
decreases-see_suffixed l = 6 * max (goal.size-see_suffixed l) (size-Expr l.first.now) + 4

abbrev pub decreases-see_behind : goal.decreases-see_behind
decreases-see_behind l = 6 * size-Suffix l.suffix.now

abbrev pub decreases-see_arguments : goal.decreases-see_arguments
decreases-see_arguments l = 6 * size-Suffix l.suffix.now

abbrev pub decreases-see_passed : goal.decreases-see_passed
decreases-see_passed l = 6 * goal.size-see_passed l + 4

abbrev pub decreases-see_chained : goal.decreases-see_chained
decreases-see_chained l = 6 * max (goal.size-see_chained l) (size-Expr l.first.now) + 4
