use Rattle.slint_lexer.proofs.Fronts.{other_is}
use Rattle.slint_lexer.proofs.found.other.Goals as goal

pub returns : goal.returns
returns c = other_is c.args.ends c.args.bytes.now c.top_symbol.result c.char_len.result c.symbol_found.result c.requires.class c.requires.some c.top_symbol.ensures c.char_len.ensures c.symbol_found.ensures
