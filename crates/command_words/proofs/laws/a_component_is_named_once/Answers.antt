use Rattle.command_words.proofs.Shapes.{twice}
use Rattle.command_words.proofs.laws.a_component_is_named_once.Goals as goal

pub returns : goal.returns
returns c = twice
