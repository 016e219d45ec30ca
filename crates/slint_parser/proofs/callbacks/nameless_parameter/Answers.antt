use Rattle.slint_grammar.specs.Grammar.{Alt as alts}
use Rattle.slint_parser.proofs.Joining.{alt_error, took_by, end_all, and_deep, at_deep}
use Rattle.slint_parser.proofs.callbacks.nameless_parameter.Goals as goal

pub returns-in_err-ty : goal.returns-in_err-ty
returns-in_err-ty c =
    alt_error alts.nameless_parameter c.args.depth c.args.cursor.now c.type_name.new.cursor _ c.from_residual.result c.from_residual.ensures.1 (at_deep c.args.depth c.in_err-ty.ensures)

pub returns : goal.returns
returns c =
    took_by alts.nameless_parameter (and_deep c.args.depth c.in_ok-ty.ensures (end_all c.args.depth c.type_name.new.cursor))
