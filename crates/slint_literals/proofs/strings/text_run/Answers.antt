use Rattle.std.proofs.Common.{arith}
use Rattle.std.proofs.lemmas.List.{take_rest}
use Rattle.slint_literals.proofs.Runs.{read_none, read_more}
use Rattle.slint_literals.proofs.strings.text_run.Goals as goal

pub loop-text-init : goal.loop-text-init
loop-text-init c = read_none c.args.bytes.now _ c.new-text.ensures.bytes

pub loop-text-preserved : goal.loop-text-preserved
loop-text-preserved c = read_more c.args.bytes.now _ _ _ c.loop-text.at c.in_ok-length.length (take_rest c.args.bytes.now c.loop-text.at) c.loop-text.invariant c.in_ok-length.ensures.within (omega arith) c.in_ok-length.ensures.takes
