use Rattle.syntax_tree.proofs.InOrder.{behind}
use Rattle.syntax_tree.proofs.print_stmts.print_closed_expr.Goals as goal

pub returns : goal.returns
returns c = behind c.in_ok-print_expr.ensures c.in_ok-write_symbol.ensures
