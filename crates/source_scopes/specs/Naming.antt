-- Names of a file's scope that are found by an index.
use Rattle.std.specs.Prelude.{ℕ, List, Option}
use Rattle.std.specs.Option.{option_map}
use Rattle.typed_tree.specs.declared.outlines.Declared.{Declared}
use Rattle.typed_tree.specs.declared.outlines.FileName.{FileName}

abbrev pub name_of_file_name : FileName → List ℕ
name_of_file_name n = n.name

abbrev pub declared_in : Option FileName → Option Declared
declared_in name = option_map (λ n. n.declared) name
