use Rattle.std.proofs.Common.{ℕ, ◌+◌, ◌*◌, max, List, map, drop}
use Rattle.slint_lexer.specs.declared.tokens.Symbol.TheVariants.{CloseBrace, CloseParen}
use Rattle.syntax_tree.specs.declared.expressions.Expr.{size-Expr}
use Rattle.syntax_tree.specs.Printed.{in_order, tokens_of_expr, tokens_of_suffix, tokens_of_field_value, tokens_of_hole, tokens_of_operand, with_commas, behind_commas, with_holes}
use Rattle.syntax_tree.specs.Writes.{Writes}
use Rattle.syntax_tree.proofs.InOrder.{commas_from, holes_from}
use Rattle.syntax_tree.proofs.print_exprs.+print_exprs.Given as goal

-- whatever end comes to be written behind, all is written to that end
abbrev pub invariant-print_listed-loop-at : goal.invariant-print_listed-loop-at
invariant-print_listed-loop-at l = (end : List ℕ) → Writes l.out.items end (commas_from l.at l.closer (map tokens_of_expr (drop l.at l.exprs))) → Writes l.initial.out.items end (with_commas l.closer (map tokens_of_expr l.exprs))

abbrev pub invariant-print_field_values-loop-at : goal.invariant-print_field_values-loop-at
invariant-print_field_values-loop-at l = (end : List ℕ) → Writes l.out.items end (commas_from l.at CloseBrace (map tokens_of_field_value (drop l.at l.fields))) → Writes l.initial.out.items end (with_commas CloseBrace (map tokens_of_field_value l.fields))

abbrev pub invariant-print_template-loop-at : goal.invariant-print_template-loop-at
invariant-print_template-loop-at l = (end : List ℕ) → Writes l.out.items end (holes_from l.at l.before (map tokens_of_hole (drop l.at l.holes))) → Writes l.initial.out.items end (with_holes l.text (map tokens_of_hole l.holes))

abbrev pub invariant-print_arguments-loop-expr : goal.invariant-print_arguments-loop-expr
invariant-print_arguments-loop-expr l = (end : List ℕ) → Writes l.out.items end (behind_commas CloseParen (map tokens_of_expr (drop l.expr-index l.exprs))) → Writes l.initial.out.items end (behind_commas CloseParen (map tokens_of_expr l.exprs))

abbrev pub invariant-print_suffixes-loop-suffix : goal.invariant-print_suffixes-loop-suffix
invariant-print_suffixes-loop-suffix l = (end : List ℕ) → Writes l.out.items end (in_order (map tokens_of_suffix (drop l.suffix-index l.suffixes))) → Writes l.initial.out.items end (in_order (map tokens_of_suffix l.suffixes))

abbrev pub invariant-print_operands-loop-operand : goal.invariant-print_operands-loop-operand
invariant-print_operands-loop-operand l = (end : List ℕ) → Writes l.out.items end (in_order (map tokens_of_operand (drop l.operand-index l.operands))) → Writes l.initial.out.items end (in_order (map tokens_of_operand l.operands))

-- how deep what is printed is
abbrev pub decreases-print_expr : goal.decreases-print_expr
decreases-print_expr l = 3 * goal.size-print_expr l

abbrev pub decreases-print_enclosed : goal.decreases-print_enclosed
decreases-print_enclosed l = 3 * goal.size-print_enclosed l + 1

abbrev pub decreases-print_listed : goal.decreases-print_listed
decreases-print_listed l = 3 * goal.size-print_listed l + 1

abbrev pub decreases-print_field_value : goal.decreases-print_field_value
decreases-print_field_value l = 3 * goal.size-print_field_value l

abbrev pub decreases-print_field_values : goal.decreases-print_field_values
decreases-print_field_values l = 3 * goal.size-print_field_values l + 1

abbrev pub decreases-print_template : goal.decreases-print_template
decreases-print_template l = 3 * goal.size-print_template l + 1

abbrev pub decreases-print_tr : goal.decreases-print_tr
decreases-print_tr l = 3 * goal.size-print_tr l + 2

abbrev pub decreases-print_arguments : goal.decreases-print_arguments
decreases-print_arguments l = 3 * goal.size-print_arguments l + 1

abbrev pub decreases-print_suffix : goal.decreases-print_suffix
decreases-print_suffix l = 3 * goal.size-print_suffix l

abbrev pub decreases-print_suffixes : goal.decreases-print_suffixes
decreases-print_suffixes l = 3 * max (goal.size-print_suffixes l) (size-Expr l.first.now) + 1

abbrev pub decreases-print_operand : goal.decreases-print_operand
decreases-print_operand l = 3 * goal.size-print_operand l

abbrev pub decreases-print_operands : goal.decreases-print_operands
decreases-print_operands l = 3 * max (goal.size-print_operands l) (size-Expr l.first.now) + 1

abbrev pub decreases-print_prefix : goal.decreases-print_prefix
decreases-print_prefix l = 3 * goal.size-print_prefix l + 1

abbrev pub decreases-print_choice : goal.decreases-print_choice
decreases-print_choice l = 3 * max (size-Expr l.condition.now) (max (size-Expr l.first.now) (size-Expr l.second.now)) + 1
