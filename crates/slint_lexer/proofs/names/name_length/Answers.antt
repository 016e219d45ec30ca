use Rattle.std.proofs.Common.{arith, ap, length}
use Rattle.std.proofs.lemmas.List.{length-drop}
use Rattle.slint_lexer.proofs.NameTexts.{named_first, named_more, part_within}
use Rattle.slint_lexer.proofs.names.name_length.Goals as goal

pub loop-at-init : goal.loop-at-init
loop-at-init c = rw c.char_len-at.ensures (named_first c.args.bytes.now c.requires)

pub overflow_add-at : goal.overflow_add-at
overflow_add-at c =
    let fits = part_within c.split_at.result.1.now c.part_length-length.result c.part_length-length.ensures (omega arith) in
    omega (arith, fits.0, length-drop c.loop-at.at c.args.bytes.now, ap length c.split_at.ensures.back)

pub loop-at-preserved : goal.loop-at-preserved
loop-at-preserved c = named_more c.args.bytes.now c.split_at.result.1.now c.loop-at.at c.part_length-length.result c.split_at.ensures.back c.loop-at.invariant c.part_length-length.ensures (omega arith)
