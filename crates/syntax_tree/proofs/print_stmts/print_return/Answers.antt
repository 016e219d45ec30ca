use Rattle.syntax_tree.proofs.InOrder.{behind}
use Rattle.syntax_tree.proofs.print_stmts.print_return.Goals as goal

pub returns : goal.returns
returns c = behind (behind c.in_ok-write_word.ensures c.in_ok-print_some_expr.ensures) c.in_ok-write_symbol.ensures
