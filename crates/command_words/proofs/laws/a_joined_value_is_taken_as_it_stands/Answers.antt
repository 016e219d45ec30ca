use Rattle.command_words.proofs.Shapes.{joined}
use Rattle.command_words.proofs.laws.a_joined_value_is_taken_as_it_stands.Goals as goal

pub returns : goal.returns
returns c = joined
