-- The files of a source that is loaded, and what a whole load answers.
use Rattle.std.specs.Prelude.{◌≡◌, ℕ, ⊤, List, [], ◌∷◌, map, position, Option, None, Some, IfSome, Result, Ok, Err, String, string_bytes}
use Rattle.std.specs.Global.{Global}
use Rattle.std.specs.Str.{bytes_eq}
use Rattle.io_edge.specs.Files.{FileList, bytes_named}
use Rattle.syntax_tree.specs.declared.files.File.{File}
use Rattle.file_exports.specs.Imports.{Import, imports_among}
use Rattle.import_paths.specs.Paths.{file_meant}
use Rattle.import_resolver.specs.declared.ends.LoadEnd.{LoadEnd}
use Rattle.import_resolver.specs.declared.ends.LoadEnd.TheVariants as ends
use Rattle.import_resolver.specs.declared.loaded.SourceFile.{SourceFile}
use Rattle.import_resolver.specs.declared.loaded.Loaded.{Loaded}
use Rattle.import_resolver.specs.Loads.{World, Seen, State, Goes, Stops, LoadsMain, Resolve}

-- a file of a source: its name, its tree, the first byte of each of its lines, and the number of the file that each of its imports means
pub record FileRow : Type 0 where
  pub name : List ℕ
  pub tree : File
  pub starts : List ℕ
  pub imports : List ℕ

abbrev pub row_of : (String Global × SourceFile) → FileRow
row_of entry = record { name = string_bytes entry.0; tree = entry.1.tree; starts = entry.1.line_starts.items; imports = entry.1.imports.items }

-- the files in the order in which they were first met
abbrev pub rows_of : Loaded → List FileRow
rows_of loaded = map row_of loaded.files.entries

-- the number of a file of this name: its place among the names of the files that were read
abbrev pub if_placed : Option ℕ → ℕ
if_placed None = 0
if_placed (Some place) = place

abbrev pub place_among : List (List ℕ) → Option (List ℕ) → ℕ
place_among names None = 0
place_among names (Some name) = if_placed (position (λ other. bytes_eq other name) names)

-- the number of the file that a path in a file means
abbrev pub number_meant : List ℕ → List (List ℕ) → List ℕ → List ℕ → ℕ
number_meant main names importer path = place_among names (file_meant main importer path)

abbrev pub numbers_meant : List ℕ → List (List ℕ) → List ℕ → List Import → List ℕ
numbers_meant main names importer imports = map (λ (import : Import). number_meant main names importer import.path.text) imports

-- the rows of the files that were read
abbrev pub seen_names : List Seen → List (List ℕ)
seen_names seen = map (λ (file : Seen). file.name) seen

abbrev pub row_seen : List ℕ → List (List ℕ) → Seen → FileRow
row_seen main names file = record { name = file.name; tree = file.tree; starts = file.starts; imports = numbers_meant main names file.name (imports_among file.tree.items) }

abbrev pub rows_seen : List ℕ → List Seen → List FileRow
rows_seen main seen = map (row_seen main (seen_names seen)) seen

-- the numbers of each file's imports are those of the files that they mean
abbrev pub ImportsLead : List ℕ → List Seen → List Seen → Type 0
ImportsLead main seen [] = ⊤
ImportsLead main seen (file ∷ files) = Resolve main seen file (imports_among file.tree.items) (numbers_meant main (seen_names seen) file.name (imports_among file.tree.items)) × ImportsLead main seen files

-- the files are those of the world that the load of this main file comes to, or the refusal is that which it comes to
abbrev pub LoadsAs : World → List ℕ → Result Loaded LoadEnd → Type 0
LoadsAs w main (Ok loaded) = (s : State) × LoadsMain w main (Goes s) × (rows_of loaded ≡ rows_seen main s.seen)
LoadsAs w main (Err (ends.Refused refusal)) = LoadsMain w main (Stops refusal)
LoadsAs w main (Err ends.ReadFault) = ⊤
LoadsAs w main (Err ends.Memory) = ⊤

-- the same of some files, those that are told
abbrev pub LoadsSome : Option FileList → List ℕ → Result Loaded LoadEnd → Type 0
LoadsSome held main result = (files : FileList) × IfSome held (λ told. told ≡ files) × LoadsAs (bytes_named files) main result
