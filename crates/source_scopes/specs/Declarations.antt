-- The declarations of a source, numbered over all its files: by file, and in the order of the text.
use Rattle.std.specs.Prelude.{ℕ, suc, List, [], ◌∷◌, ◌++◌, map, take, Option, Some, None}
use Rattle.std.specs.List.{flat_map}
use Rattle.syntax_tree.specs.declared.files.Component.{Component}
use Rattle.syntax_tree.specs.declared.files.Decl.{Decl}
use Rattle.syntax_tree.specs.declared.files.Decl.TheVariants as decls
use Rattle.syntax_tree.specs.declared.files.EnumDecl.{EnumDecl}
use Rattle.syntax_tree.specs.declared.files.FileItem.{FileItem}
use Rattle.syntax_tree.specs.declared.files.FileItem.TheVariants as items
use Rattle.syntax_tree.specs.declared.files.Global.{Global}
use Rattle.syntax_tree.specs.declared.files.StructDecl.{StructDecl}
use Rattle.syntax_tree.specs.declared.words.Ident.{Ident}
use Rattle.value_types.specs.declared.enums.EnumNames.{EnumNames}
use Rattle.import_resolver.specs.Loaded.{FileRow}
use Rattle.typed_tree.specs.BuiltIns.{built_in_enums}
use Rattle.source_scopes.specs.declared.meanings.Counts.{Counts}
use Rattle.source_scopes.specs.declared.meanings.Meaning.{Meaning}
use Rattle.source_scopes.specs.declared.meanings.Meaning.TheVariants as meaning

-- ---- counts and numbers

-- what is there before the first file: the built-in enums
abbrev pub no_declarations : Counts
no_declarations = record { comps = 0; globals = 0; enums = 7; structs = 0 }

-- one declaration more of its kind
abbrev pub counted_decl : Counts → Decl → Counts
counted_decl c (decls.Component component) = record c { comps = suc c.comps }
counted_decl c (decls.Global global) = record c { globals = suc c.globals }
counted_decl c (decls.Enum enum) = record c { enums = suc c.enums }
counted_decl c (decls.Struct struct) = record c { structs = suc c.structs }

abbrev pub counted : Counts → FileItem → Counts
counted c (items.Decl marked decl) = counted_decl c decl
counted c _ = c

abbrev pub counted_all : Counts → List FileItem → Counts
counted_all c [] = c
counted_all c (item ∷ rest) = counted_all (counted c item) rest

-- what a file has among its items, where there is one
abbrev pub items_in : Option FileRow → List FileItem
items_in None = []
items_in (Some row) = row.tree.items

abbrev pub counted_row : Counts → Option FileRow → Counts
counted_row c row = counted_all c (items_in row)

abbrev pub counted_files : Counts → List FileRow → Counts
counted_files c [] = c
counted_files c (row ∷ rows) = counted_files (counted_all c row.tree.items) rows

-- what is declared before the file of a number
abbrev pub counts_before : List FileRow → ℕ → Counts
counts_before rows k = counted_files no_declarations (take k rows)

-- what a declaration's name stands for, after so many declarations
abbrev pub meaning_of : Counts → Decl → Meaning
meaning_of c (decls.Component component) = meaning.Component c.comps
meaning_of c (decls.Global global) = meaning.Global c.globals
meaning_of c (decls.Enum enum) = meaning.Enum c.enums
meaning_of c (decls.Struct struct) = meaning.Struct c.structs

-- ---- the declarations by their numbers, each with its file

-- what is among the items of each file, one file after the other
abbrev pub of_files : {A : Type 0} → (ℕ → List FileItem → List A) → ℕ → List FileRow → List A
of_files among k [] = []
of_files among k (row ∷ rows) = among k row.tree.items ++ of_files among (suc k) rows

pub record FileComponent : Type 0 where
  pub file : ℕ
  pub component : Component

pub record FileGlobal : Type 0 where
  pub file : ℕ
  pub global : Global

pub record FileStruct : Type 0 where
  pub file : ℕ
  pub decl : StructDecl

abbrev pub component_by : ℕ → FileItem → List FileComponent
component_by k (items.Decl marked (decls.Component component)) = record { file = k; component = component } ∷ []
component_by k _ = []

abbrev pub components_among : ℕ → List FileItem → List FileComponent
components_among k items = flat_map (component_by k) items

abbrev pub components_of : List FileRow → List FileComponent
components_of rows = of_files components_among 0 rows

abbrev pub global_by : ℕ → FileItem → List FileGlobal
global_by k (items.Decl marked (decls.Global global)) = record { file = k; global = global } ∷ []
global_by k _ = []

abbrev pub globals_among : ℕ → List FileItem → List FileGlobal
globals_among k items = flat_map (global_by k) items

abbrev pub globals_of : List FileRow → List FileGlobal
globals_of rows = of_files globals_among 0 rows

abbrev pub struct_by : ℕ → FileItem → List FileStruct
struct_by k (items.Decl marked (decls.Struct decl)) = record { file = k; decl = decl } ∷ []
struct_by k _ = []

abbrev pub structs_among : ℕ → List FileItem → List FileStruct
structs_among k items = flat_map (struct_by k) items

abbrev pub structs_of : List FileRow → List FileStruct
structs_of rows = of_files structs_among 0 rows

-- enums: their names and those of their values, behind the built-in ones
abbrev pub value_name : Ident → List ℕ
value_name value = value.name

abbrev pub names_of_enum : EnumDecl → EnumNames
names_of_enum decl = record { name = decl.name.name; values = map value_name decl.values }

abbrev pub enum_by : FileItem → List EnumNames
enum_by (items.Decl marked (decls.Enum decl)) = names_of_enum decl ∷ []
enum_by _ = []

abbrev pub enums_among : ℕ → List FileItem → List EnumNames
enums_among k items = flat_map enum_by items

abbrev pub enums_of : List FileRow → List EnumNames
enums_of rows = built_in_enums ++ of_files enums_among 0 rows
