use Rattle.std.proofs.Common.{◌≡◌, map, take}
use Rattle.typed_tree.specs.Indexes.{names_of_file}
use Rattle.typed_tree.proofs.name_lists.file_names.Given as goal

-- the lists so far
abbrev pub invariant-loop-file : goal.invariant-loop-file
invariant-loop-file l = l.lists ≡ map names_of_file (take l.file-index l.files)
