use Rattle.std.proofs.Common.{arith}
use Rattle.slint_grammar.specs.Parts as parts
use Rattle.slint_parser.proofs.Joining.{part_error}
use Rattle.slint_parser.proofs.Among.{unlike}
use Rattle.slint_parser.proofs.Shorter.{taken_shorter}
use Rattle.slint_parser.proofs.ChosenMembers as chosen
use Rattle.slint_parser.proofs.paths.path_rest.Goals as goal

pub points-init : goal.points-init
points-init c = rw c.new-rest.ensures (chosen.points_begin c.args.depth c.args.cursor.now)

pub points-preserved : goal.points-preserved
points-preserved c =
    chosen.points_next c.args.depth c.args.cursor.now c.points.cursor c.symbol.new.self c.name.new.self c.points.rest c.push.new.self c.in_ok-symbol.field-0 c.in_ok-name.name c.points.invariant
    (c.sees.ensures.0 c.points-test.true) c.in_ok-symbol.ensures c.in_ok-name.ensures c.in_ok-push.ensures.ok

pub points-smaller : goal.points-smaller
points-smaller c = omega (arith, taken_shorter c.in_ok-symbol.ensures.x, taken_shorter c.in_ok-name.ensures.x)

pub returns-in_err-symbol : goal.returns-in_err-symbol
returns-in_err-symbol c =
    part_error parts.PathRest c.args.depth c.args.cursor.now c.symbol.new.self _ c.from_residual.result c.from_residual.ensures.1
    (chosen.points_no_dot c.args.depth c.args.cursor.now c.points.cursor c.points.rest _ c.points.invariant (c.sees.ensures.0 c.points-test.true) c.in_err-symbol.ensures)

pub returns-in_err-name : goal.returns-in_err-name
returns-in_err-name c =
    part_error parts.PathRest c.args.depth c.args.cursor.now c.name.new.self _ c.from_residual-in_err-name.result c.from_residual-in_err-name.ensures.1
    (chosen.points_no_name c.args.depth c.args.cursor.now c.points.cursor c.symbol.new.self c.points.rest c.in_ok-symbol.field-0 _ c.points.invariant (c.sees.ensures.0 c.points-test.true) c.in_ok-symbol.ensures c.in_err-name.ensures)

pub returns : goal.returns
returns c = chosen.points_end c.args.depth c.args.cursor.now c.points.cursor c.points.rest c.points.invariant (unlike c.sees.result c.points-test.false c.sees.ensures.1)
