-- The faults of declarations: the first pass over the files of a source.
use Rattle.std.specs.Prelude.{ℕ, not, ◌⊎◌, Contains, List, [], ◌∷◌, ◌++◌, length, map, Option, Some, None}
use Rattle.std.specs.List.{flat_map}
use Rattle.std.specs.Option.{is_none}
use Rattle.slint_base.specs.declared.faults.Fault.{Fault}
use Rattle.slint_base.specs.declared.rules.Rule.TheVariants as rules
use Rattle.slint_base.specs.Refusals.{at_start}
use Rattle.syntax_tree.specs.declared.files.FileItem.{FileItem}
use Rattle.syntax_tree.specs.declared.words.Ident.{Ident}
use Rattle.file_exports.specs.Roots.{has_name}
use Rattle.fault_order.specs.Order.{FirstIfAny}
use Rattle.import_resolver.specs.Loaded.{FileRow}
use Rattle.source_scopes.specs.Entries.{exports_of}
use Rattle.source_scopes.specs.Names.{element_named, is_type_name, root_component}
use Rattle.declaration_rules.specs.Circles.{CircleFault, component_usages, struct_usages}
use Rattle.declaration_rules.specs.Exports.{clashes, groups_among}
use Rattle.declaration_rules.specs.Repeats.{broken_if, name_of, repeated, repeated_in_item}
use Rattle.declaration_rules.specs.Turns.{in_turn}
use Rattle.declaration_rules.specs.Words.{element_words, listed_words, scope_words, type_words}

-- ---- names where a type or an element is wanted

abbrev pub unknown_type : List FileRow → ℕ → Ident → List Fault
unknown_type rows k word = broken_if (not (is_type_name rows k word.name)) rules.UnknownType word.span

abbrev pub unknown_element : List FileRow → ℕ → Ident → List Fault
unknown_element rows k word = broken_if (is_none (element_named rows k word.name)) rules.UnknownElement word.span

-- a name that is listed for export and isn't in the scope
abbrev pub unlisted : List (List ℕ) → Ident → List Fault
unlisted names word = broken_if (not (has_name names word.name)) rules.UnknownName word.span

-- ---- a file, and a source

abbrev pub unlisted_in : List FileItem → List Fault
unlisted_in items = flat_map (unlisted (map name_of (scope_words items))) (listed_words items)

-- the faults of a file's names: in its scope, among its exports, and in its lists of exports; these are the numbers of the files that it imports
abbrev pub name_faults : List FileRow → List FileItem → List ℕ → List Fault
name_faults rows items imports = repeated (scope_words items) ++ (clashes (groups_among (exports_of rows) items imports) ++ unlisted_in items)

-- the faults of what the declarations of the file of a number are written with
abbrev pub inner_faults : List FileRow → ℕ → List FileItem → List Fault
inner_faults rows k items = flat_map repeated_in_item items ++ (flat_map (unknown_type rows k) (type_words items) ++ flat_map (unknown_element rows k) (element_words items))

abbrev pub file_faults : List FileRow → ℕ → List FileItem → List ℕ → List Fault
file_faults rows k items imports = name_faults rows items imports ++ inner_faults rows k items

-- the faults of a file behind some others, of which its number tells how many there are
abbrev pub faults_behind : List FileRow → List FileRow → FileRow → List Fault
faults_behind rows before row = file_faults rows (length before) row.tree.items row.imports

-- the same of the file of a number, where there is one
abbrev pub faults_at : List FileRow → ℕ → Option FileRow → List Fault
faults_at rows k None = []
faults_at rows k (Some row) = file_faults rows k row.tree.items row.imports

abbrev pub faults_in_files : List FileRow → List Fault
faults_in_files rows = in_turn (faults_behind rows) [] rows

-- no component, or not the one that is asked for
abbrev pub rootless : Option ℕ → List Fault
rootless None = at_start rules.NoComponent 0 ∷ []
rootless (Some c) = []

-- the faults of a source, uses on circles apart
abbrev pub declaration_faults : List FileRow → Option (List ℕ) → List Fault
declaration_faults rows wanted = rootless (root_component rows wanted) ++ faults_in_files rows

-- a fault of the first pass
abbrev pub DeclarationFault : List FileRow → Option (List ℕ) → Fault → Type 0
DeclarationFault rows wanted f = Contains (declaration_faults rows wanted) f ⊎ (CircleFault (component_usages rows) f ⊎ CircleFault (struct_usages rows) f)

-- the first fault of the first pass, if there is one
pub record SomeFirst (rows : List FileRow) (wanted : Option (List ℕ)) : Type 0 where
  pub fault : Option Fault
  pub first : FirstIfAny (DeclarationFault rows wanted) fault
