use Rattle.command_words.proofs.Shapes.{dashes}
use Rattle.command_words.proofs.laws.words_behind_dashes_are_files.Goals as goal

pub returns : goal.returns
returns c = dashes
