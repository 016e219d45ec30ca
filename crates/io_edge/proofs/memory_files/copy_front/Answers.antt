use Rattle.std.proofs.Common.{rules}
use Rattle.std.proofs.lemmas.List.{take_min}
use Rattle.io_edge.proofs.memory_files.copy_front.Goals as goal

pub returns : goal.returns
returns c = search (rules, take_min)
