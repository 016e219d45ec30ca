use Rattle.std.proofs.Common.{arith}
use Rattle.slint_lexer.specs.declared.tokens.Symbol.TheVariants.{CloseBrace, CloseParen}
use Rattle.syntax_tree.specs.Printed.{tokens_of_expr, tokens_of_suffix, tokens_of_field_value, tokens_of_operand}
use Rattle.syntax_tree.proofs.InOrder.{behind, comma_turn, commas_end, behind_turn, behind_end, turn, end_of_turns, hole_turn, holes_end}
use Rattle.syntax_tree.proofs.print_exprs.+print_exprs.Goals as goal

pub print_enclosed-returns : goal.print_enclosed-returns
print_enclosed-returns t c = behind c.in_ok-write_symbol.ensures (behind c.in_ok-print_expr.ensures c.in_ok-write_symbol-2.ensures)

pub print_listed-loop-at-init : goal.print_listed-loop-at-init
print_listed-loop-at-init t c = λ end w. w

pub print_listed-loop-at-preserved : goal.print_listed-loop-at-preserved
print_listed-loop-at-preserved t c = λ end w. c.loop-at.invariant end (comma_turn tokens_of_expr c.args.closer c.args.exprs.now c.loop-at.at c.index-exprs-at.result c.index-exprs-at.is c.loop-at-test.true c.in_ok-write_comma.ensures c.in_ok-print_expr.ensures w)

pub print_listed-returns : goal.print_listed-returns
print_listed-returns t c = behind c.in_ok-write_symbol.ensures (c.loop-at.invariant _ (commas_end tokens_of_expr c.args.closer c.args.exprs.now c.loop-at.at c.loop-at-test.false c.in_ok-write_symbol-2.ensures))

pub print_field_values-loop-at-init : goal.print_field_values-loop-at-init
print_field_values-loop-at-init t c = λ end w. w

pub print_field_values-loop-at-preserved : goal.print_field_values-loop-at-preserved
print_field_values-loop-at-preserved t c = λ end w. c.loop-at.invariant end (comma_turn tokens_of_field_value CloseBrace c.args.fields.now c.loop-at.at c.index-fields-at.result c.index-fields-at.is c.loop-at-test.true c.in_ok-write_comma.ensures c.in_ok-print_field_value.ensures w)

pub print_field_values-returns : goal.print_field_values-returns
print_field_values-returns t c = behind c.in_ok-write_symbol.ensures (c.loop-at.invariant _ (commas_end tokens_of_field_value CloseBrace c.args.fields.now c.loop-at.at c.loop-at-test.false c.in_ok-write_symbol-2.ensures))

pub print_template-loop-at-init : goal.print_template-loop-at-init
print_template-loop-at-init t c = λ end w. w

pub print_template-loop-at-preserved : goal.print_template-loop-at-preserved
print_template-loop-at-preserved t c = λ end w. c.loop-at.invariant end (hole_turn c.loop-at.before.now c.args.holes.now c.loop-at.at c.index-holes-at.result c.index-holes-at.is c.loop-at-test.true c.in_ok-write_opening.ensures c.in_ok-print_expr.ensures w)

pub print_template-returns : goal.print_template-returns
print_template-returns t c = c.loop-at.invariant _ (holes_end c.loop-at.before.now c.args.holes.now c.loop-at.at (omega arith) c.loop-at-test.false c.in_ok-write_closing.ensures)

pub print_tr-returns : goal.print_tr-returns
print_tr-returns t c = behind c.in_ok-write_symbol.ensures (behind c.in_ok-write_word.ensures (behind c.in_ok-write_symbol-2.ensures (behind c.in_ok-print_context.ensures (behind c.in_ok-write_text.ensures c.in_ok-print_arguments.ensures))))

pub print_arguments-loop-expr-init : goal.print_arguments-loop-expr-init
print_arguments-loop-expr-init t c = λ end w. w

pub print_arguments-loop-expr-preserved : goal.print_arguments-loop-expr-preserved
print_arguments-loop-expr-preserved t c = λ end w. c.loop-expr.invariant end (behind_turn tokens_of_expr CloseParen c.args.exprs.now c.loop-expr.expr-index c.expr-item.result c.expr-item.is c.loop-expr-test.true c.in_ok-write_symbol.ensures c.in_ok-print_expr.ensures w)

pub print_arguments-returns : goal.print_arguments-returns
print_arguments-returns t c = c.loop-expr.invariant _ (behind_end tokens_of_expr CloseParen c.args.exprs.now c.loop-expr.expr-index c.loop-expr-test.false c.in_ok-write_symbol-2.ensures)

pub print_suffixes-loop-suffix-init : goal.print_suffixes-loop-suffix-init
print_suffixes-loop-suffix-init t c = λ end w. w

pub print_suffixes-loop-suffix-preserved : goal.print_suffixes-loop-suffix-preserved
print_suffixes-loop-suffix-preserved t c = λ end w. c.loop-suffix.invariant end (turn tokens_of_suffix c.args.suffixes.now c.loop-suffix.suffix-index c.suffix-item.result c.suffix-item.is c.loop-suffix-test.true c.in_ok-print_suffix.ensures w)

pub print_suffixes-returns : goal.print_suffixes-returns
print_suffixes-returns t c = behind c.in_ok-print_expr.ensures (c.loop-suffix.invariant _ (end_of_turns tokens_of_suffix c.args.suffixes.now c.loop-suffix.suffix-index _ c.loop-suffix-test.false))

pub print_operands-loop-operand-init : goal.print_operands-loop-operand-init
print_operands-loop-operand-init t c = λ end w. w

pub print_operands-loop-operand-preserved : goal.print_operands-loop-operand-preserved
print_operands-loop-operand-preserved t c = λ end w. c.loop-operand.invariant end (turn tokens_of_operand c.args.operands.now c.loop-operand.operand-index c.operand-item.result c.operand-item.is c.loop-operand-test.true c.in_ok-print_operand.ensures w)

pub print_operands-returns : goal.print_operands-returns
print_operands-returns t c = behind c.in_ok-print_expr.ensures (c.loop-operand.invariant _ (end_of_turns tokens_of_operand c.args.operands.now c.loop-operand.operand-index _ c.loop-operand-test.false))

pub print_prefix-returns : goal.print_prefix-returns
print_prefix-returns t c = behind c.in_ok-print_prefix_sign.ensures c.in_ok-print_expr.ensures

pub print_choice-returns : goal.print_choice-returns
print_choice-returns t c = behind c.in_ok-print_expr.ensures (behind c.in_ok-write_symbol.ensures (behind c.in_ok-print_expr-2.ensures (behind c.in_ok-write_symbol-2.ensures c.in_ok-print_expr-3.ensures)))
