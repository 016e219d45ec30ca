-- What a file takes from other files, and what it gives to them.
use Rattle.std.specs.Prelude.{ℕ, Bool, true, false, List, [], ◌∷◌, ◌++◌, map, Option, None, Some}
use Rattle.syntax_tree.specs.declared.words.Ident.{Ident}
use Rattle.syntax_tree.specs.declared.words.Quoted.{Quoted}
use Rattle.syntax_tree.specs.declared.files.Alias.{Alias}
use Rattle.syntax_tree.specs.declared.files.Decl.{Decl}
use Rattle.syntax_tree.specs.declared.files.Decl.TheVariants as decls
use Rattle.syntax_tree.specs.declared.files.FileItem.{FileItem}
use Rattle.syntax_tree.specs.declared.files.FileItem.TheVariants as items

-- an import that is read: the path of the other file, and the names that it is to export
pub record Import : Type 0 where
  pub path : Quoted
  pub names : List Ident

abbrev pub wanted : Alias → Ident
wanted alias = alias.name

abbrev pub if_braces : Quoted → Option (List Alias) → Option Import
if_braces path None = None
if_braces path (Some names) = Some (record { path = path; names = map wanted names })

-- the import that an item of a file is: one without braces isn't read, and an export of all of a file is an import of no names
abbrev pub import_of : FileItem → Option Import
import_of (items.Import import) = if_braces import.path import.names
import_of (items.ExportAll all) = Some (record { path = all.path; names = [] })
import_of _ = None

abbrev pub onto_some : {A : Type 0} → Option A → List A → List A
onto_some None xs = xs
onto_some (Some x) xs = x ∷ xs

-- the imports among items, in the order of the text
abbrev pub imports_among : List FileItem → List Import
imports_among [] = []
imports_among (item ∷ rest) = onto_some (import_of item) (imports_among rest)

abbrev pub declared_name : Decl → List ℕ
declared_name (decls.Component component) = component.name.name
declared_name (decls.Global global) = global.name.name
declared_name (decls.Struct struct) = struct.name.name
declared_name (decls.Enum enum) = enum.name.name

abbrev pub or_name : Ident → Option Ident → List ℕ
or_name name None = name.name
or_name name (Some alias) = alias.name

-- the name by which others know what a list exports
abbrev pub outer_name : Alias → List ℕ
outer_name alias = or_name alias.name alias.alias

abbrev pub if_exported : Bool → List ℕ → List (List ℕ)
if_exported true name = name ∷ []
if_exported false name = []

-- the names that an item of a file exports itself
abbrev pub exported_by : FileItem → List (List ℕ)
exported_by (items.Export list) = map outer_name list.names
exported_by (items.Decl is_exported decl) = if_exported is_exported (declared_name decl)
exported_by _ = []

-- the names that a file's items mark or list for export
abbrev pub exported_among : List FileItem → List (List ℕ)
exported_among [] = []
exported_among (item ∷ rest) = exported_by item ++ exported_among rest

-- the path of a file that an item takes over all exports from
abbrev pub taken_over : FileItem → Option (List ℕ)
taken_over (items.ExportAll all) = Some all.path.text
taken_over _ = None

abbrev pub taken_over_among : List FileItem → List (List ℕ)
taken_over_among [] = []
taken_over_among (item ∷ rest) = onto_some (taken_over item) (taken_over_among rest)
