use Rattle.std.proofs.Common.{refl}
use Rattle.slint_grammar.specs.Parts as parts
use Rattle.slint_parser.proofs.Joining.{part_error}
use Rattle.slint_parser.proofs.Among.{unlike}
use Rattle.slint_parser.proofs.Shorter.{shorter}
use Rattle.slint_parser.proofs.ChosenGlobals as chosen
use Rattle.slint_parser.proofs.globals.global_items.Goals as goal

pub items-init : goal.items-init
items-init c = rw c.new-all.ensures (chosen.globals_begin c.args.depth c.args.cursor.now)

pub items-preserved : goal.items-preserved
items-preserved c =
    chosen.globals_next c.args.depth c.args.cursor.now c.items.cursor c.global_item.new.cursor c.items.all c.push.new.self c.in_ok-one.one c.items.invariant (unlike c.sees.result c.items-test.true c.sees.ensures.1) c.in_ok-one.ensures c.in_ok-push.ensures.ok

pub items-smaller : goal.items-smaller
items-smaller c = shorter c.in_ok-one.ensures.x refl

pub returns-in_err-one : goal.returns-in_err-one
returns-in_err-one c = part_error parts.GlobalItems c.args.depth c.args.cursor.now c.global_item.new.cursor _ c.from_residual.result c.from_residual.ensures.1 (chosen.globals_no_global_item c.args.depth c.args.cursor.now c.items.cursor c.items.all _ c.items.invariant (unlike c.sees.result c.items-test.true c.sees.ensures.1) c.in_err-one.ensures)

pub returns-in_err-symbol : goal.returns-in_err-symbol
returns-in_err-symbol c = part_error parts.GlobalItems c.args.depth c.args.cursor.now c.symbol.new.self _ c.from_residual-in_err-symbol.result c.from_residual-in_err-symbol.ensures.1 (chosen.globals_open c.args.depth c.args.cursor.now c.items.cursor c.items.all _ c.items.invariant (c.sees.ensures.0 c.items-test.false) c.in_err-symbol.ensures)

pub returns : goal.returns
returns c = chosen.globals_took c.args.depth c.args.cursor.now c.items.cursor c.symbol.new.self c.items.all c.in_ok-symbol.field-0 c.items.invariant (c.sees.ensures.0 c.items-test.false) c.in_ok-symbol.ensures
