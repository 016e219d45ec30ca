use Rattle.std.proofs.Common.{sym, ap, ◌∙◌}
use Rattle.slint_parser.specs.Statements.{assign_sign}
use Rattle.slint_grammar.specs.Grammar.{Alt as alts}
use Rattle.slint_parser.proofs.Joining.{chosen_reads}
use Rattle.slint_parser.proofs.ChosenStatements.{no_assignment, at_sign}
use Rattle.slint_parser.proofs.statements.may_assign.Goals as goal

pub returns-in-None : goal.returns-in-None
returns-in-None c = no_assignment c.args.depth c.args.cursor.now (c.in-None.ensures ∙ ap assign_sign c.seen.ensures)

pub returns-in-Some : goal.returns-in-Some
returns-in-Some c =
    chosen_reads alts.assign c.args.depth c.args.cursor.now c.assignment.new.cursor c.assignment.result
    (at_sign c.args.depth c.args.cursor.now c.in-Some.sign c.in-Some.op (sym (c.in-Some.ensures ∙ ap assign_sign c.seen.ensures))).chosen c.assignment.ensures
