use Rattle.command_words.proofs.Shapes.{alone}
use Rattle.command_words.proofs.laws.a_word_alone_is_the_file.Goals as goal

pub returns : goal.returns
returns c = alone
