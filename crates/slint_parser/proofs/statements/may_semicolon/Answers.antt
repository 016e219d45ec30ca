use Rattle.slint_parser.proofs.ChosenValues.{may_close}
use Rattle.slint_parser.proofs.statements.may_semicolon.Goals as goal

pub returns : goal.returns
returns c = may_close c.args.depth c.args.cursor.now c.closes.new.self c.closes.result c.closes.ensures
