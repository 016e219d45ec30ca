use Rattle.syntax_tree.specs.Printed.{tokens_of_point}
use Rattle.syntax_tree.proofs.InOrder.{turn, end_of_turns}
use Rattle.syntax_tree.proofs.print_members.print_points.Goals as goal

pub loop-ident-init : goal.loop-ident-init
loop-ident-init c = λ end w. w

pub loop-ident-preserved : goal.loop-ident-preserved
loop-ident-preserved c = λ end w. c.loop-ident.invariant end (turn tokens_of_point c.args.idents.now c.loop-ident.ident-index c.ident-item.result c.ident-item.is c.loop-ident-test.true c.in_ok-print_point.ensures w)

pub returns : goal.returns
returns c = c.loop-ident.invariant _ (end_of_turns tokens_of_point c.args.idents.now c.loop-ident.ident-index _ c.loop-ident-test.false)
