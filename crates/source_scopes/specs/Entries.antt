-- The names of files: what each holds in its scope, and what it exports.
use Rattle.std.specs.Prelude.{ℕ, zero, suc, Bool, if◌then◌else◌, List, [], ◌∷◌, ◌++◌, map, drop, length, slice_get, Option, Some, None}
use Rattle.std.specs.List.{list_any}
use Rattle.std.specs.Option.{is_some}
use Rattle.std.specs.Str.{bytes_eq}
use Rattle.syntax_tree.specs.declared.files.Alias.{Alias}
use Rattle.syntax_tree.specs.declared.files.Decl.{Decl}
use Rattle.syntax_tree.specs.declared.files.FileItem.{FileItem}
use Rattle.syntax_tree.specs.declared.files.FileItem.TheVariants as items
use Rattle.file_exports.specs.Imports.{declared_name, import_of, outer_name}
use Rattle.import_resolver.specs.Loaded.{FileRow}
use Rattle.source_scopes.specs.declared.meanings.Counts.{Counts}
use Rattle.source_scopes.specs.declared.meanings.Entry.{Entry}
use Rattle.source_scopes.specs.declared.meanings.Meaning.{Meaning}
use Rattle.source_scopes.specs.Declarations.{counted, counts_before, meaning_of}

abbrev pub name_of_entry : Entry → List ℕ
name_of_entry e = e.name

abbrev pub meaning_of_entry : Entry → Option Meaning
meaning_of_entry e = e.meaning

-- the first entry of a name: of two equal names the first counts
abbrev pub entry_named : List ℕ → List Entry → Option Entry
entry_named name [] = None
entry_named name (e ∷ es) = if bytes_eq e.name name then Some e else entry_named name es

-- what an entry stands for, where there is one and it stands for something
abbrev pub entry_meaning : Option Entry → Option Meaning
entry_meaning None = None
entry_meaning (Some e) = e.meaning

abbrev pub meaning_in : List Entry → List ℕ → Option Meaning
meaning_in es name = entry_meaning (entry_named name es)

-- ---- entries

-- a declaration under its name
abbrev pub own_entry : Counts → Decl → Entry
own_entry at decl = record { name = declared_name decl; meaning = Some (meaning_of at decl) }

-- a name of some entries, under the name that it gets
abbrev pub renamed : List Entry → Alias → Entry
renamed es alias = record { name = outer_name alias; meaning = meaning_in es alias.name.name }

-- the imports of a file behind an item: an import that is read takes the first
abbrev pub imports_behind : FileItem → List ℕ → List ℕ
imports_behind item numbers = if is_some (import_of item) then drop 1 numbers else numbers

-- what the file exports that an import means
abbrev pub exported_by : (ℕ → List Entry) → Option ℕ → List Entry
exported_by exports None = []
exported_by exports (Some k) = exports k

-- ---- scopes; of other files it is known what they export

abbrev pub imported : List Entry → Option (List Alias) → List Entry
imported es None = []
imported es (Some names) = map (renamed es) names

-- the names that an item puts into the scope
abbrev pub scope_by : (ℕ → List Entry) → Counts → FileItem → List ℕ → List Entry
scope_by exports at (items.Decl marked decl) numbers = own_entry at decl ∷ []
scope_by exports at (items.Import import) numbers = imported (exported_by exports (slice_get numbers 0)) import.names
scope_by exports at _ numbers = []

-- declared and imported names in the order of the text
abbrev pub scope_among : (ℕ → List Entry) → Counts → List FileItem → List ℕ → List Entry
scope_among exports at [] numbers = []
scope_among exports at (item ∷ rest) numbers = scope_by exports at item numbers ++ scope_among exports (counted at item) rest (imports_behind item numbers)

abbrev pub scope_at : (ℕ → List Entry) → Counts → Option FileRow → List Entry
scope_at exports at None = []
scope_at exports at (Some row) = scope_among exports at row.tree.items row.imports

-- ---- exports

-- an entry behind others, unless one of them has its name
abbrev pub has_entry : List Entry → List ℕ → Bool
has_entry es name = list_any (λ e. bytes_eq e.name name) es

abbrev pub with_entry : List Entry → Entry → List Entry
with_entry es e = if has_entry es e.name then es else es ++ e ∷ []

abbrev pub with_entries : List Entry → List Entry → List Entry
with_entries es [] = es
with_entries es (e ∷ more) = with_entries (with_entry es e) more

abbrev pub if_marked : Bool → Entry → List Entry
if_marked marked e = if marked then e ∷ [] else []

-- the names that an item exports, out of a scope: marked, listed, or taken over from another file
abbrev pub exports_by : (ℕ → List Entry) → List Entry → Counts → FileItem → List ℕ → List Entry
exports_by exports scope at (items.Decl marked decl) numbers = if_marked marked (own_entry at decl)
exports_by exports scope at (items.Export list) numbers = map (renamed scope) list.names
exports_by exports scope at (items.ExportAll all) numbers = exported_by exports (slice_get numbers 0)
exports_by exports scope at _ numbers = []

-- each name once, behind those that are exported before
abbrev pub exports_among : (ℕ → List Entry) → List Entry → List Entry → Counts → List FileItem → List ℕ → List Entry
exports_among exports scope es at [] numbers = es
exports_among exports scope es at (item ∷ rest) numbers =
    exports_among exports scope (with_entries es (exports_by exports scope at item numbers)) (counted at item) rest (imports_behind item numbers)

abbrev pub exports_at : (ℕ → List Entry) → Counts → Option FileRow → List Entry
exports_at exports at None = []
exports_at exports at (Some row) = exports_among exports (scope_at exports at (Some row)) [] at row.tree.items row.imports

-- what a file exports, so many steps far; imports lead in no circle, so the number of all files is far enough
abbrev pub exports_within : ℕ → List FileRow → ℕ → List Entry
exports_within zero rows k = []
exports_within (suc n) rows k = exports_at (exports_within n rows) (counts_before rows k) (slice_get rows k)

abbrev pub exports_of : List FileRow → ℕ → List Entry
exports_of rows k = exports_within (length rows) rows k

-- the names of a file's scope, where imports are followed so many steps
abbrev pub scope_within : ℕ → List FileRow → ℕ → List Entry
scope_within n rows k = scope_at (exports_within n rows) (counts_before rows k) (slice_get rows k)

abbrev pub scope_of : List FileRow → ℕ → List Entry
scope_of rows k = scope_within (length rows) rows k

-- the entry of a name in a file's scope
abbrev pub entry_of : List FileRow → ℕ → List ℕ → Option Entry
entry_of rows k name = entry_named name (scope_of rows k)
