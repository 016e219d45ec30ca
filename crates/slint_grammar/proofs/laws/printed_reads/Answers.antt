use Rattle.slint_grammar.proofs.PrintedReads.{printed_reads}
use Rattle.slint_grammar.proofs.laws.printed_reads.Goals as goal

pub returns : goal.returns
returns c = printed_reads c.lexed_fit.ensures c.written_again.ensures
