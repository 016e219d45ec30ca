-- What is true of the tables of a source's names.
use Rattle.std.specs.Prelude.{◌≡◌, ℕ, ◌≤◌, List, length, slice_get, Option, Some, None}
use Rattle.value_types.specs.declared.types.Ty.{Ty}
use Rattle.typed_tree.specs.declared.outlines.FileName.{FileName}
use Rattle.import_resolver.specs.Loaded.{FileRow}
use Rattle.source_scopes.specs.declared.tables.FileTable.{FileTable}
use Rattle.source_scopes.specs.Names.{file_names}
use Rattle.source_scopes.specs.Structs.{AreStructTypes}
use Rattle.source_scopes.specs.Tables.{AreAll}

-- the names of the files
abbrev pub NamesAs : List FileRow → ℕ → Option (List FileName) → Type 0
NamesAs rows k None = length rows ≤ k
NamesAs rows k (Some names) = names ≡ file_names rows k

abbrev pub AreFileNames : List FileRow → List (List FileName) → Type 0
AreFileNames rows names = (k : ℕ) → NamesAs rows k (slice_get names k)

pub record IsIndexed (rows : List FileRow) (tables : List (Option FileTable)) (types : List (Option Ty)) (names : List (List FileName)) : Type 0 where
  pub whole : AreAll rows tables
  pub typed : AreStructTypes rows types
  pub named : AreFileNames rows names
