-- The names of files, made one file after the other.
use Rattle.std.specs.Prelude.{◌≡◌, ℕ, ◌<◌, ◌≤◌, ⊤, List, [], length, slice_get, Option, Some, None}
use Rattle.syntax_tree.specs.declared.files.FileItem.{FileItem}
use Rattle.import_resolver.specs.Loaded.{FileRow}
use Rattle.source_scopes.specs.declared.meanings.Counts.{Counts}
use Rattle.source_scopes.specs.declared.meanings.Entry.{Entry}
use Rattle.source_scopes.specs.declared.tables.FileTable.{FileTable}
use Rattle.source_scopes.specs.Declarations.{counts_before}
use Rattle.source_scopes.specs.Entries.{exports_among, exports_of, exports_within, scope_among, scope_of, scope_within}

-- what is declared before each of the first files
pub record AreStarts (rows : List FileRow) (n : ℕ) (starts : List Counts) : Type 0 where
  pub sized : length starts ≡ n
  pub each : (k : ℕ) → k < n → slice_get starts k ≡ Some (counts_before rows k)

-- some entries, where they are there
abbrev pub entries_in : Option (List Entry) → List Entry
entries_in None = []
entries_in (Some es) = es

-- what is known of the exports of files: those of the files that are done, and that a file that isn't there has none
abbrev pub IsExported : (ℕ → List Entry) → ℕ → Option (Option FileTable) → Type 0
IsExported exports k None = exports k ≡ []
IsExported exports k (Some None) = ⊤
IsExported exports k (Some (Some table)) = exports k ≡ table.exports

abbrev pub AsExported : (ℕ → List Entry) → List (Option FileTable) → Type 0
AsExported exports done = (k : ℕ) → IsExported exports k (slice_get done k)

-- the names of a file of these items and imports
pub record IsTableOf (exports : ℕ → List Entry) (at : Counts) (items : List FileItem) (numbers : List ℕ) (table : FileTable) : Type 0 where
  pub scope : table.scope ≡ scope_among exports at items numbers
  pub taken : table.exports ≡ exports_among exports (scope_among exports at items numbers) [] at items numbers

-- the names of a file, from so many steps on
pub record IsTable (rows : List FileRow) (done k : ℕ) (table : FileTable) : Type 0 where
  pub scope : (n : ℕ) → done ≤ n → table.scope ≡ scope_within n rows k
  pub taken : (n : ℕ) → done ≤ n → table.exports ≡ exports_within n rows k

abbrev pub TableAs : List FileRow → ℕ → ℕ → Option (Option FileTable) → Type 0
TableAs rows done k (Some (Some table)) = IsTable rows done k table
TableAs rows done k _ = ⊤

pub record AreTables (rows : List FileRow) (done : ℕ) (tables : List (Option FileTable)) : Type 0 where
  pub sized : length tables ≡ length rows
  pub each : (k : ℕ) → TableAs rows done k (slice_get tables k)

abbrev pub IsDone : Option (Option FileTable) → Type 0
IsDone (Some None) = ⊥
IsDone _ = ⊤

abbrev pub AllDone : List (Option FileTable) → Type 0
AllDone tables = (k : ℕ) → IsDone (slice_get tables k)

-- the names of all files
pub record IsWhole (rows : List FileRow) (k : ℕ) (table : FileTable) : Type 0 where
  pub scope : table.scope ≡ scope_of rows k
  pub taken : table.exports ≡ exports_of rows k

abbrev pub WholeAs : List FileRow → ℕ → Option (Option FileTable) → Type 0
WholeAs rows k None = length rows ≤ k
WholeAs rows k (Some None) = ⊥
WholeAs rows k (Some (Some table)) = IsWhole rows k table

abbrev pub AreAll : List FileRow → List (Option FileTable) → Type 0
AreAll rows tables = (k : ℕ) → WholeAs rows k (slice_get tables k)

abbrev pub scope_in : Option (Option FileTable) → List Entry
scope_in (Some (Some table)) = table.scope
scope_in _ = []

abbrev pub exports_in : Option (Option FileTable) → List Entry
exports_in (Some (Some table)) = table.exports
exports_in _ = []
