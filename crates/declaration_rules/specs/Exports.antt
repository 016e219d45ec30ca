-- The names that a file exports, where each is exported, and which of them clash.
use Rattle.std.specs.Prelude.{ℕ, Bool, List, [], ◌∷◌, ◌++◌, map, slice_get, if◌then◌else◌}
use Rattle.std.specs.List.{flat_map}
use Rattle.slint_base.specs.declared.faults.Fault.{Fault}
use Rattle.slint_base.specs.declared.faults.Span.{Span}
use Rattle.syntax_tree.specs.declared.files.Alias.{Alias}
use Rattle.syntax_tree.specs.declared.files.Decl.{Decl}
use Rattle.syntax_tree.specs.declared.files.FileItem.{FileItem}
use Rattle.syntax_tree.specs.declared.files.FileItem.TheVariants as items
use Rattle.syntax_tree.specs.declared.words.Ident.{Ident}
use Rattle.source_scopes.specs.declared.meanings.Entry.{Entry}
use Rattle.source_scopes.specs.Entries.{exported_by, imports_behind}
use Rattle.declaration_rules.specs.Repeats.{name_of, repeat_in}
use Rattle.declaration_rules.specs.Turns.{in_turn}
use Rattle.declaration_rules.specs.Words.{declared_word, given, same_words}

-- names that are exported at once: one that is marked or listed, or all that are taken over from another file
abbrev pub Group : Type 0
Group = List Ident

abbrev pub alone : Ident → Group
alone word = word ∷ []

abbrev pub alone_given : Alias → Group
alone_given alias = alone (given alias)

abbrev pub alone_if : Bool → Ident → List Group
alone_if marked word = if marked then alone word ∷ [] else []

-- a name that another file exports, where it is taken over
abbrev pub taken_at : Span → Entry → Ident
taken_at span e = record { name = e.name; span = span }

-- the groups that an item exports, where these files are the imports from it on
abbrev pub groups_by : (ℕ → List Entry) → FileItem → List ℕ → List Group
groups_by exports (items.Decl marked decl) numbers = alone_if marked (declared_word decl)
groups_by exports (items.Export list) numbers = map alone_given list.names
groups_by exports (items.ExportAll all) numbers = map (taken_at all.path.span) (exported_by exports (slice_get numbers 0)) ∷ []
groups_by exports _ numbers = []

-- the groups that a file exports, in the order of the text
abbrev pub groups_among : (ℕ → List Entry) → List FileItem → List ℕ → List Group
groups_among exports [] numbers = []
groups_among exports (item ∷ rest) numbers = groups_by exports item numbers ++ groups_among exports rest (imports_behind item numbers)

-- the names of a group that an earlier group has
abbrev pub clash_of : List Group → Group → List Fault
clash_of before group = flat_map (repeat_in (map name_of (flat_map same_words before))) group

abbrev pub clashes : List Group → List Fault
clashes groups = in_turn clash_of [] groups
