use Rattle.value_reading.proofs.GrammarReads.{parts_read}
use Rattle.value_reading.proofs.GrammarSound.{parts_sound}
use Rattle.value_reading.proofs.laws.written_values_read.Goals as goal

pub returns : goal.returns
returns c = record { read = parts_read; written = parts_sound }
