-- What the names of a file stand for.
use Rattle.std.specs.Prelude.{ℕ, Bool, true, false, List, [], ◌∷◌, take, Option, Some, None}
use Rattle.std.specs.List.{filter_map}
use Rattle.std.specs.Option.{is_some, option_and_then, option_map}
use Rattle.syntax_tree.specs.declared.files.FileItem.{FileItem}
use Rattle.element_tables.specs.Members.{elements}
use Rattle.element_tables.specs.Rows.{named}
use Rattle.element_tables.specs.Types.{types}
use Rattle.value_types.specs.declared.types.Ty.{Ty}
use Rattle.file_exports.specs.Roots.{root_place}
use Rattle.import_resolver.specs.Loaded.{FileRow}
use Rattle.typed_tree.specs.declared.outlines.Declared.{Declared}
use Rattle.typed_tree.specs.declared.outlines.Declared.TheVariants as declared
use Rattle.typed_tree.specs.declared.outlines.ElementType.{ElementType}
use Rattle.typed_tree.specs.declared.outlines.ElementType.TheVariants as element_type
use Rattle.typed_tree.specs.declared.outlines.FileName.{FileName}
use Rattle.typed_tree.specs.Files.{declared_among}
use Rattle.source_scopes.specs.declared.meanings.Entry.{Entry}
use Rattle.source_scopes.specs.declared.meanings.Meaning.{Meaning}
use Rattle.source_scopes.specs.declared.meanings.Meaning.TheVariants as meaning
use Rattle.source_scopes.specs.Declarations.{counted_all, no_declarations}
use Rattle.source_scopes.specs.Entries.{entry_of, exports_of, meaning_in, scope_of}
use Rattle.source_scopes.specs.Types.{struct_type}

-- what a meaning is, where of structs it is known which type each has: a struct is short for its type
abbrev pub declared_as : (ℕ → Option Ty) → Meaning → Option Declared
declared_as structs (meaning.Component n) = Some (declared.Component n)
declared_as structs (meaning.Global n) = Some (declared.Global n)
declared_as structs (meaning.Enum n) = Some (declared.Enum n)
declared_as structs (meaning.Struct s) = option_map declared.Struct (structs s)

abbrev pub file_name : List ℕ → Declared → FileName
file_name name d = record { name = name; declared = d }

abbrev pub named_as : (ℕ → Option Ty) → Entry → Option FileName
named_as structs e = option_map (file_name e.name) (option_and_then (declared_as structs) e.meaning)

-- the names of a file's scope that stand for something
abbrev pub file_names : List FileRow → ℕ → List FileName
file_names rows k = filter_map (named_as (struct_type rows)) (scope_of rows k)

abbrev pub declared_named : List FileRow → ℕ → List ℕ → Option Declared
declared_named rows k name = declared_among name (file_names rows k)

-- what another file gets that imports a name
abbrev pub exported_named : List FileRow → ℕ → List ℕ → Option Declared
exported_named rows k name = option_and_then (declared_as (struct_type rows)) (meaning_in (exports_of rows k) name)

-- a name is that of a type: of an enum or a struct of the scope, also one that leads into a circle, or behind the scope of a built-in type
abbrev pub means_type : Option Meaning → Bool
means_type (Some (meaning.Enum e)) = true
means_type (Some (meaning.Struct s)) = true
means_type _ = false

abbrev pub finds_type : List ℕ → Option Entry → Bool
finds_type name None = is_some (named name types)
finds_type name (Some e) = means_type e.meaning

abbrev pub is_type_name : List FileRow → ℕ → List ℕ → Bool
is_type_name rows k name = finds_type name (entry_of rows k name)

-- an element: a component of the scope, or behind the scope a built-in element
abbrev pub element_meant : Option Meaning → Option ElementType
element_meant (Some (meaning.Component n)) = Some (element_type.Component n)
element_meant _ = None

abbrev pub element_found : List ℕ → Option Entry → Option ElementType
element_found name None = option_map element_type.BuiltIn (named name elements)
element_found name (Some e) = element_meant e.meaning

abbrev pub element_named : List FileRow → ℕ → List ℕ → Option ElementType
element_named rows k name = element_found name (entry_of rows k name)

-- the root component: the components before its place in the main file are numbered before it
abbrev pub components_before : List FileItem → ℕ → ℕ
components_before items place = (counted_all no_declarations (take place items)).comps

abbrev pub root_among : List FileItem → Option (List ℕ) → Option ℕ
root_among items wanted = option_map (components_before items) (root_place wanted items)

abbrev pub root_component : List FileRow → Option (List ℕ) → Option ℕ
root_component [] wanted = None
root_component (row ∷ rows) wanted = root_among row.tree.items wanted
