use Rattle.slint_grammar.specs.Parts as parts
use Rattle.slint_parser.proofs.Joining.{part_error}
use Rattle.slint_parser.proofs.Among.{unlike}
use Rattle.slint_parser.proofs.properties.property.Goals as goal
use Rattle.slint_parser.proofs.MemberForks as forks

pub returns-in_err-mark : goal.returns-in_err-mark
returns-in_err-mark c = part_error parts.Property c.args.depth c.args.cursor.now c.property_head.new.cursor _ c.from_residual.result c.from_residual.ensures.1 (forks.head_stuck c.in_err-mark.ensures)

pub returns-then-sees : goal.returns-then-sees
returns-then-sees c =
    forks.typed_reads c.args.depth c.args.cursor.now c.property_head.new.cursor c.typed_property.new.cursor c.in_ok-mark.mark c.in_ok-mark.head c.typed_property.result c.in_ok-mark.ensures (c.sees.ensures.0 c.if-sees.true) c.typed_property.ensures

pub returns : goal.returns
returns c =
    forks.untyped_reads c.args.depth c.args.cursor.now c.property_head.new.cursor c.untyped_property.new.cursor c.in_ok-mark.mark c.in_ok-mark.head c.untyped_property.result c.in_ok-mark.ensures
    (unlike c.sees.result c.if-sees.false c.sees.ensures.1) c.untyped_property.ensures
