use Rattle.command_words.proofs.Shapes.{component_alone, no_words, own_word}
use Rattle.command_words.proofs.laws.words_without_a_file_are_unreadable.Goals as goal

pub returns : goal.returns
returns c = record { none = no_words; own = own_word; component = component_alone }
