use Rattle.std.proofs.Common.{sym}
use Rattle.slint_lexer.proofs.Fronts.{line_is, slash_is}
use Rattle.slint_lexer.proofs.found.slash.Goals as goal

pub returns-in-Line : goal.returns-in-Line
returns-in-Line c = line_is c.args.ends c.args.bytes.now c.split_at.result.1.now c.line_walk.result c.requires c.split_at.ensures.back (sym c.in-Line.ensures) c.line_walk.ensures

pub returns-in-Neither : goal.returns-in-Neither
returns-in-Neither c =
    slash_is c.args.ends c.args.bytes.now c.split_at.result.1.now c.top_symbol.result 1 c.symbol_found.result c.requires c.split_at.ensures.back (sym c.in-Neither.ensures) c.top_symbol.ensures c.symbol_found.ensures
