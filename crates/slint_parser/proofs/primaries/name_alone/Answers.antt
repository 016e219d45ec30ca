use Rattle.std.proofs.Common.{sym}
use Rattle.slint_grammar.specs.Grammar.{Alt as alts}
use Rattle.slint_parser.proofs.Joining.{took_as, and_one, end_all, at_one, alt_error, alt_memory}
use Rattle.slint_parser.proofs.Links as links
use Rattle.slint_parser.proofs.primaries.name_alone.Goals as goal

pub returns-in_err-ident : goal.returns-in_err-ident
returns-in_err-ident c h may = alt_error (alts.name_alone {h = h}) c.args.depth c.args.cursor.now c.name.new.self _ c.from_residual.result c.from_residual.ensures.1 (at_one (links.stuck_name_but h c.args.depth c.args.cursor.now _ may c.in_err-ident.ensures))

pub returns-in_err-new : goal.returns-in_err-new
returns-in_err-new c h may = alt_memory (alts.name_alone {h = h}) c.args.depth c.args.cursor.now c.name.new.self c.from_residual-in_err-new.result c.from_residual-in_err-new.ensures.1

pub returns : goal.returns
returns c h may = took_as (alts.name_alone {h = h}) (and_one (links.name_but h c.args.depth c.args.cursor.now c.name.new.self c.in_ok-ident.ident may c.in_ok-ident.ensures) (end_all c.args.depth c.name.new.self)) (sym c.in_ok-new.ensures)
