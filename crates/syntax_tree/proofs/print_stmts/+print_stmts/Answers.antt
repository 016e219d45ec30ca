use Rattle.syntax_tree.specs.Printed.{tokens_of_stmt}
use Rattle.syntax_tree.proofs.InOrder.{behind, turn, end_of_turns}
use Rattle.syntax_tree.proofs.print_stmts.+print_stmts.Goals as goal

pub print_in_braces-loop-stmt-init : goal.print_in_braces-loop-stmt-init
print_in_braces-loop-stmt-init t c = λ end w. w

pub print_in_braces-loop-stmt-preserved : goal.print_in_braces-loop-stmt-preserved
print_in_braces-loop-stmt-preserved t c = λ end w. c.loop-stmt.invariant end (turn tokens_of_stmt c.args.stmts.now c.loop-stmt.stmt-index c.stmt-item.result c.stmt-item.is c.loop-stmt-test.true c.in_ok-print_stmt.ensures w)

pub print_in_braces-returns : goal.print_in_braces-returns
print_in_braces-returns t c = behind c.in_ok-write_symbol.ensures (behind (c.loop-stmt.invariant _ (end_of_turns tokens_of_stmt c.args.stmts.now c.loop-stmt.stmt-index _ c.loop-stmt-test.false)) c.in_ok-write_symbol-2.ensures)

pub print_if-returns : goal.print_if-returns
print_if-returns t c = behind c.in_ok-write_word.ensures (behind c.in_ok-print_expr.ensures (behind c.in_ok-print_block.ensures c.in_ok-print_else.ensures))

pub print_else_if-returns : goal.print_else_if-returns
print_else_if-returns t c = behind c.in_ok-write_word.ensures c.in_ok-print_if.ensures

pub print_else_block-returns : goal.print_else_block-returns
print_else_block-returns t c = behind c.in_ok-write_word.ensures c.in_ok-print_block.ensures
