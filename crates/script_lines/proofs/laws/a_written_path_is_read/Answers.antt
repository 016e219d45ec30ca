use Rattle.script_lines.proofs.WrittenPaths.{path_of-path_text}
use Rattle.script_lines.proofs.laws.a_written_path_is_read.Goals as goal

pub returns : goal.returns
returns c = path_of-path_text
