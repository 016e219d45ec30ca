use Rattle.std.proofs.Common.{◌≡◌, drop}
use Rattle.io_edge.specs.Files.{bytes_named}
use Rattle.io_edge.specs.FileList.{file_list}
use Rattle.io_edge.proofs.memory_files.bytes_of.Given as goal

abbrev pub invariant-loop-file : goal.invariant-loop-file
invariant-loop-file l = bytes_named (file_list l.files) l.name ≡ bytes_named (file_list (drop l.file-index l.files)) l.name
