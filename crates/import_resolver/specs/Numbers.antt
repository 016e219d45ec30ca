-- The numbers of the files that imports mean: a file's number is the place of its name among those of the files that were read.
use Rattle.std.specs.Prelude.{◌≡◌, ℕ, ⊤, true, List, [], ◌∷◌, Some, slice_get}
use Rattle.file_exports.specs.Imports.{Import}
use Rattle.file_exports.specs.Roots.{has_name}
use Rattle.import_paths.specs.Paths.{file_meant}
use Rattle.import_resolver.specs.declared.tables.SeenFile.{SeenFile}
use Rattle.import_resolver.specs.Loaded.{FileRow, numbers_meant}

-- a path in a file means a file of one of these names
pub record IsMeant (main : List ℕ) (names : List (List ℕ)) (importer path : List ℕ) : Type 0 where
  pub name : List ℕ
  pub meant : file_meant main importer path ≡ Some name
  pub there : has_name names name ≡ true

-- each of a file's imports means a file of one of these names
abbrev pub AllMeant : List ℕ → List (List ℕ) → List ℕ → List Import → Type 0
AllMeant main names importer [] = ⊤
AllMeant main names importer (import ∷ imports) = IsMeant main names importer import.path.text × AllMeant main names importer imports

-- the numbers of the files that imports mean, in their order
abbrev pub AreNumbers : List ℕ → List (List ℕ) → List ℕ → List Import → List ℕ → Type 0
AreNumbers main names importer imports numbers = numbers ≡ numbers_meant main names importer imports

-- the row of a file whose imports mean files of these numbers
abbrev pub row_with : SeenFile → List ℕ → FileRow
row_with file numbers = record { name = file.name; tree = file.tree; starts = file.starts.items; imports = numbers }

abbrev pub row_name : FileRow → List ℕ
row_name row = row.name
