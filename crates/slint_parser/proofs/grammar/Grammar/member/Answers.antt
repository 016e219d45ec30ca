use Rattle.std.proofs.Common.{refl}
use Rattle.slint_grammar.specs.Grammar.{Alt as alts}
use Rattle.slint_parser.proofs.Joining.{took_as, and_one, end_all, at_one, past_one, alt_error}
use Rattle.slint_parser.proofs.grammar.Grammar.member.Goals as goal

pub returns-in_err-symbol : goal.returns-in_err-symbol
returns-in_err-symbol g c =
    alt_error alts.member c.args.self.now.depth c.args.cursor.now c.symbol.new.self _ c.from_residual.result c.from_residual.ensures.1 (at_one c.in_err-symbol.ensures)

pub returns-in_err-name : goal.returns-in_err-name
returns-in_err-name g c =
    alt_error alts.member c.args.self.now.depth c.args.cursor.now c.name.new.self _ c.from_residual-in_err-name.result c.from_residual-in_err-name.ensures.1 (past_one c.in_ok-symbol.ensures (at_one c.in_err-name.ensures))

pub returns : goal.returns
returns g c =
    took_as alts.member (and_one c.in_ok-symbol.ensures (and_one c.in_ok-name.ensures (end_all c.args.self.now.depth c.name.new.self))) refl
