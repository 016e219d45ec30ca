use Rattle.std.proofs.Common.{arith}
use Rattle.slint_grammar.specs.Parts as parts
use Rattle.slint_parser.proofs.Joining.{part_error}
use Rattle.slint_parser.proofs.Among.{unlike}
use Rattle.slint_parser.proofs.Shorter.{no_longer, taken_shorter}
use Rattle.slint_parser.proofs.ChosenStates as chosen
use Rattle.slint_parser.proofs.states.changes.Goals as goal

pub changes-init : goal.changes-init
changes-init c = rw c.new-all.ensures (chosen.changes_begin c.args.depth c.args.cursor.now)

pub changes-preserved : goal.changes-preserved
changes-preserved c =
    chosen.changes_next c.args.depth c.args.cursor.now c.changes.cursor c.path.new.cursor c.symbol.new.self c.value.new.cursor c.changes.all c.push.new.self c.in_ok-path.path c.in_ok-symbol.field-0 c.in_ok-value.value c.in_ok-value.field-0-1 c.changes.invariant
    (unlike c.sees.result c.changes-test.true c.sees.ensures.1) c.in_ok-path.ensures c.in_ok-symbol.ensures c.in_ok-value.ensures c.in_ok-push.ensures.ok

pub changes-smaller : goal.changes-smaller
changes-smaller c = omega (arith, no_longer c.in_ok-path.ensures.x, taken_shorter c.in_ok-symbol.ensures.x, no_longer c.in_ok-value.ensures.x)

pub returns-in_err-path : goal.returns-in_err-path
returns-in_err-path c = part_error parts.Changes c.args.depth c.args.cursor.now c.path.new.cursor _ c.from_residual.result c.from_residual.ensures.1 (chosen.changes_no_path c.args.depth c.args.cursor.now c.changes.cursor c.changes.all _ c.changes.invariant (unlike c.sees.result c.changes-test.true c.sees.ensures.1) c.in_err-path.ensures)

pub returns-in_err-symbol : goal.returns-in_err-symbol
returns-in_err-symbol c = part_error parts.Changes c.args.depth c.args.cursor.now c.symbol.new.self _ c.from_residual-in_err-symbol.result c.from_residual-in_err-symbol.ensures.1 (chosen.changes_no_colon c.args.depth c.args.cursor.now c.changes.cursor c.path.new.cursor c.changes.all c.in_ok-path.path _ c.changes.invariant (unlike c.sees.result c.changes-test.true c.sees.ensures.1) c.in_ok-path.ensures c.in_err-symbol.ensures)

pub returns-in_err-value : goal.returns-in_err-value
returns-in_err-value c = part_error parts.Changes c.args.depth c.args.cursor.now c.value.new.cursor _ c.from_residual-in_err-value.result c.from_residual-in_err-value.ensures.1 (chosen.changes_no_value c.args.depth c.args.cursor.now c.changes.cursor c.path.new.cursor c.symbol.new.self c.changes.all c.in_ok-path.path c.in_ok-symbol.field-0 _ c.changes.invariant (unlike c.sees.result c.changes-test.true c.sees.ensures.1) c.in_ok-path.ensures c.in_ok-symbol.ensures c.in_err-value.ensures)

pub returns-in_err-symbol-2 : goal.returns-in_err-symbol-2
returns-in_err-symbol-2 c = part_error parts.Changes c.args.depth c.args.cursor.now c.symbol-2.new.self _ c.from_residual-in_err-symbol-2.result c.from_residual-in_err-symbol-2.ensures.1 (chosen.changes_open c.args.depth c.args.cursor.now c.changes.cursor c.changes.all _ c.changes.invariant (c.sees.ensures.0 c.changes-test.false) c.in_err-symbol-2.ensures)

pub returns : goal.returns
returns c = chosen.changes_took c.args.depth c.args.cursor.now c.changes.cursor c.symbol-2.new.self c.changes.all c.in_ok-symbol-2.field-0 c.changes.invariant (c.sees.ensures.0 c.changes-test.false) c.in_ok-symbol-2.ensures
