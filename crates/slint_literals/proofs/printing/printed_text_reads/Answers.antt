use Rattle.slint_literals.proofs.PrintedTexts.{printed_reads}
use Rattle.slint_literals.proofs.printing.printed_text_reads.Goals as goal

pub returns : goal.returns
returns c = printed_reads
