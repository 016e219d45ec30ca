use Rattle.slint_grammar.specs.Grammar.{Alt as alts}
use Rattle.slint_parser.proofs.Joining.{took_as, and_one, end_all, at_one, past_one, alt_error, alt_memory}
use Rattle.slint_parser.proofs.Links as links
use Rattle.slint_parser.proofs.primaries.image.Goals as goal

pub returns-in_err-at : goal.returns-in_err-at
returns-in_err-at c h =
    alt_error (alts.image_url {h = h}) c.args.depth c.args.cursor.now c.symbol.new.self _ c.from_residual.result c.from_residual.ensures.1 (at_one c.in_err-at.ensures)

pub returns-in_err-word : goal.returns-in_err-word
returns-in_err-word c h =
    alt_error (alts.image_url {h = h}) c.args.depth c.args.cursor.now c.word.new.self _ c.from_residual-in_err-word.result c.from_residual-in_err-word.ensures.1 (past_one c.in_ok-at.ensures (at_one c.in_err-word.ensures))

pub returns-in_err-symbol : goal.returns-in_err-symbol
returns-in_err-symbol c h =
    alt_error (alts.image_url {h = h}) c.args.depth c.args.cursor.now c.symbol-2.new.self _ c.from_residual-in_err-symbol.result c.from_residual-in_err-symbol.ensures.1 (past_one c.in_ok-at.ensures (past_one c.in_ok-word.ensures (at_one c.in_err-symbol.ensures)))

pub returns-in_err-path : goal.returns-in_err-path
returns-in_err-path c h =
    alt_error (alts.image_url {h = h}) c.args.depth c.args.cursor.now c.text.new.self _ c.from_residual-in_err-path.result c.from_residual-in_err-path.ensures.1 (past_one c.in_ok-at.ensures (past_one c.in_ok-word.ensures (past_one c.in_ok-symbol.ensures (at_one c.in_err-path.ensures))))

pub returns-in_err-close : goal.returns-in_err-close
returns-in_err-close c h =
    alt_error (alts.image_url {h = h}) c.args.depth c.args.cursor.now c.symbol-3.new.self _ c.from_residual-in_err-close.result c.from_residual-in_err-close.ensures.1 (past_one c.in_ok-at.ensures (past_one c.in_ok-word.ensures (past_one c.in_ok-symbol.ensures (past_one c.in_ok-path.ensures (at_one c.in_err-close.ensures)))))

pub returns-in_err-new : goal.returns-in_err-new
returns-in_err-new c h =
    alt_memory (alts.image_url {h = h}) c.args.depth c.args.cursor.now c.symbol-3.new.self c.from_residual-in_err-new.result c.from_residual-in_err-new.ensures.1

pub returns : goal.returns
returns c h =
    took_as (alts.image_url {h = h}) (and_one c.in_ok-at.ensures (and_one c.in_ok-word.ensures (and_one c.in_ok-symbol.ensures (and_one c.in_ok-path.ensures (and_one c.in_ok-close.ensures (end_all c.args.depth c.symbol-3.new.self)))))) (links.image_made c.in_ok-path.path c.in_ok-new.field-0 _ c.join.result c.join.ensures c.in_ok-new.ensures)
