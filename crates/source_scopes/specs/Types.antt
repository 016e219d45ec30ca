-- The types that are written in files.
use Rattle.std.specs.Prelude.{ℕ, zero, suc, List, length, slice_get, Option, Some, None}
use Rattle.std.specs.Option.{option_map}
use Rattle.slint_base.specs.Options.{all_of}
use Rattle.syntax_tree.specs.declared.types.Field.{Field, fold-Field}
use Rattle.syntax_tree.specs.declared.types.TypeName.{TypeName, fold-TypeName}
use Rattle.syntax_tree.specs.declared.types.TypeName.TheOpen.{TypeName-F, Field-F}
use Rattle.element_tables.specs.Rows.{in_byte_order, named}
use Rattle.element_tables.specs.Types.{types}
use Rattle.value_types.specs.declared.types.Ty.{Ty}
use Rattle.value_types.specs.declared.types.Ty.TheVariants as ty
use Rattle.import_resolver.specs.Loaded.{FileRow}
use Rattle.typed_tree.specs.BuiltIns.{built_in_ty}
use Rattle.source_scopes.specs.declared.meanings.Entry.{Entry}
use Rattle.source_scopes.specs.declared.meanings.Meaning.{Meaning}
use Rattle.source_scopes.specs.declared.meanings.Meaning.TheVariants as meaning
use Rattle.source_scopes.specs.Declarations.{FileStruct, structs_of}
use Rattle.source_scopes.specs.Entries.{entry_of}

-- ---- a type as it is written, by what its names are

abbrev pub MaybeField : Type 0
MaybeField = Option (List ℕ × Ty)

abbrev pub struct_ty : List (List ℕ × Ty) → Ty
struct_ty fields = ty.Struct (in_byte_order fields)

-- the struct of some fields, where each has a type
abbrev pub struct_of : List MaybeField → Option Ty
struct_of fields = option_map struct_ty (all_of (λ f. f) fields)

abbrev pub type_layer : (List ℕ → Option Ty) → TypeName-F (Option Ty) MaybeField → Option Ty
type_layer known (TypeName-F.Named ident) = known ident.name
type_layer known (TypeName-F.Array item span) = option_map ty.Array item
type_layer known (TypeName-F.Struct fields span) = struct_of fields

abbrev pub field_layer : Field-F (Option Ty) MaybeField → MaybeField
field_layer f = option_map (λ t. (f.name.name, t)) f.ty

abbrev pub type_by : (List ℕ → Option Ty) → TypeName → Option Ty
type_by known = fold-TypeName (Option Ty) MaybeField (type_layer known) field_layer

abbrev pub field_by : (List ℕ → Option Ty) → Field → MaybeField
field_by known = fold-Field (Option Ty) MaybeField (type_layer known) field_layer

abbrev pub fields_by : (List ℕ → Option Ty) → List Field → Option Ty
fields_by known fields = option_map struct_ty (all_of (field_by known) fields)

-- ---- names of types; of structs it is known which type each has

abbrev pub type_meant : (ℕ → Option Ty) → Option Meaning → Option Ty
type_meant structs (Some (meaning.Enum e)) = Some (ty.Enum e)
type_meant structs (Some (meaning.Struct s)) = structs s
type_meant structs _ = None

-- a name of the scope, or behind it a built-in name
abbrev pub type_found : (ℕ → Option Ty) → List ℕ → Option Entry → Option Ty
type_found structs name None = option_map built_in_ty (named name types)
type_found structs name (Some e) = type_meant structs e.meaning

abbrev pub type_named : (ℕ → Option Ty) → List FileRow → ℕ → List ℕ → Option Ty
type_named structs rows k name = type_found structs name (entry_of rows k name)

-- ---- structs

abbrev pub struct_at : (ℕ → Option Ty) → List FileRow → Option FileStruct → Option Ty
struct_at structs rows None = None
struct_at structs rows (Some s) = fields_by (type_named structs rows s.file) s.decl.fields

-- the type of a struct, so many structs deep: none of one that leads into a circle, and for the others the number of all structs is deep enough
abbrev pub struct_within : ℕ → List FileRow → ℕ → Option Ty
struct_within zero rows s = None
struct_within (suc n) rows s = struct_at (struct_within n rows) rows (slice_get (structs_of rows) s)

abbrev pub struct_type : List FileRow → ℕ → Option Ty
struct_type rows s = struct_within (length (structs_of rows)) rows s

-- the type that is written in a file; none where a name in it is no type, or leads into a circle of structs
abbrev pub type_written : List FileRow → ℕ → TypeName → Option Ty
type_written rows k t = type_by (type_named (struct_type rows) rows k) t
