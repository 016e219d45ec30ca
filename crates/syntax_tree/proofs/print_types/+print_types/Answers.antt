use Rattle.slint_lexer.specs.declared.tokens.Symbol.TheVariants.{CloseBrace}
use Rattle.syntax_tree.specs.Printed.{tokens_of_field}
use Rattle.syntax_tree.proofs.InOrder.{behind, comma_turn, commas_end}
use Rattle.syntax_tree.proofs.print_types.+print_types.Goals as goal

pub print_array_type-returns : goal.print_array_type-returns
print_array_type-returns t c = behind c.in_ok-write_symbol.ensures (behind c.in_ok-print_type.ensures c.in_ok-write_symbol-2.ensures)

pub print_fields-loop-at-init : goal.print_fields-loop-at-init
print_fields-loop-at-init t c = λ end w. w

pub print_fields-loop-at-preserved : goal.print_fields-loop-at-preserved
print_fields-loop-at-preserved t c = λ end w. c.loop-at.invariant end (comma_turn tokens_of_field CloseBrace c.args.fields.now c.loop-at.at c.index-fields-at.result c.index-fields-at.is c.loop-at-test.true c.in_ok-write_comma.ensures c.in_ok-print_field.ensures w)

pub print_fields-returns : goal.print_fields-returns
print_fields-returns t c = behind c.in_ok-write_symbol.ensures (c.loop-at.invariant _ (commas_end tokens_of_field CloseBrace c.args.fields.now c.loop-at.at c.loop-at-test.false c.in_ok-write_symbol-2.ensures))
