use Rattle.slint_grammar.specs.Parts as parts
use Rattle.slint_grammar.specs.Grammar.{Alt as alts}
use Rattle.slint_parser.proofs.Joining.{part_error, took_by, end_all, and_one, and_same, at_one, at_same, past_one, chosen_took, chosen_stuck}
use Rattle.slint_parser.proofs.ChosenGlobals as chosen
use Rattle.slint_parser.proofs.globals.global_body.Goals as goal

pub returns-in_err-symbol : goal.returns-in_err-symbol
returns-in_err-symbol c =
    part_error parts.GlobalBody c.args.depth c.args.cursor.now c.symbol.new.self _ c.from_residual.result c.from_residual.ensures.1 (chosen_stuck (chosen.chosen_global_body c.args.depth c.args.cursor.now) (at_one c.in_err-symbol.ensures))

pub returns-in_err-items : goal.returns-in_err-items
returns-in_err-items c =
    part_error parts.GlobalBody c.args.depth c.args.cursor.now c.global_items.new.cursor _ c.from_residual-in_err-items.result c.from_residual-in_err-items.ensures.1 (chosen_stuck (chosen.chosen_global_body c.args.depth c.args.cursor.now) (past_one c.in_ok-symbol.ensures (at_same c.in_err-items.ensures)))

pub returns : goal.returns
returns c =
    chosen_took (chosen.chosen_global_body c.args.depth c.args.cursor.now) (took_by alts.global_body (and_one c.in_ok-symbol.ensures (and_same c.in_ok-items.ensures (end_all c.args.depth c.global_items.new.cursor))))
