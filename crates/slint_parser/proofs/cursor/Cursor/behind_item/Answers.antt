use Rattle.slint_parser.proofs.Lists.{behind_end_error, behind_end, behind_none_error, behind_none}
use Rattle.slint_parser.proofs.cursor.Cursor.behind_item.Goals as goal

pub returns-in_err-end : goal.returns-in_err-end
returns-in_err-end c = behind_end_error c.args.closer c.args.depth c.args.self.now c.closes.new.self _ c.from_residual.result c.from_residual.ensures.1 c.in_err-end.ensures

pub returns-in-Some : goal.returns-in-Some
returns-in-Some c = behind_end c.args.closer c.args.depth c.args.self.now c.closes.new.self _ c.in-Some.end c.in-Some.is c.in_ok-end.ensures

pub returns-in_err-symbol : goal.returns-in_err-symbol
returns-in_err-symbol c =
    behind_none_error c.args.closer c.args.depth c.args.self.now c.closes.new.self c.symbol.new.self c.in_ok-end.field-0 _ c.from_residual-in_err-symbol.result
    c.in_default.not-Some c.in_ok-end.ensures c.from_residual-in_err-symbol.ensures.1 c.in_err-symbol.ensures

pub returns : goal.returns
returns c =
    behind_none c.args.closer c.args.depth c.args.self.now c.closes.new.self c.symbol.new.self c.closes-2.new.self c.in_ok-end.field-0 c.in_ok-symbol.field-0 c.closes-2.result
    c.in_default.not-Some c.in_ok-end.ensures c.in_ok-symbol.ensures c.closes-2.ensures
