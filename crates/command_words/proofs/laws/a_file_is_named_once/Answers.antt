use Rattle.command_words.proofs.Shapes.{two_files}
use Rattle.command_words.proofs.laws.a_file_is_named_once.Goals as goal

pub returns : goal.returns
returns c = two_files
