use Rattle.command_words.proofs.Shapes.{before, behind}
use Rattle.command_words.proofs.laws.a_component_is_named_before_or_behind.Goals as goal

pub returns : goal.returns
returns c = record { before = before; behind = behind }
