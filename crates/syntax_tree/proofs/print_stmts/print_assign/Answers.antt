use Rattle.syntax_tree.proofs.InOrder.{behind}
use Rattle.syntax_tree.proofs.print_stmts.print_assign.Goals as goal

pub returns : goal.returns
returns c = behind (behind c.in_ok-print_expr.ensures (behind c.in_ok-print_assign_sign.ensures c.in_ok-print_expr-2.ensures)) c.in_ok-write_symbol.ensures
