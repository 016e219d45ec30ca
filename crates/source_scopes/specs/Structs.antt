-- The types of structs, made one after the other.
use Rattle.std.specs.Prelude.{◌≡◌, ℕ, ◌≤◌, ⊤, List, length, slice_get, Option, Some, None}
use Rattle.value_types.specs.declared.types.Ty.{Ty}
use Rattle.import_resolver.specs.Loaded.{FileRow}
use Rattle.source_scopes.specs.declared.meanings.Entry.{Entry}
use Rattle.source_scopes.specs.Declarations.{structs_of}
use Rattle.source_scopes.specs.Entries.{entry_named}
use Rattle.source_scopes.specs.Types.{struct_at, struct_type, struct_within, type_found}

-- the type of a struct in a table, where it is there
abbrev pub type_in : Option (Option Ty) → Option Ty
type_in None = None
type_in (Some t) = t

abbrev pub type_at : List (Option Ty) → ℕ → Option Ty
type_at types s = type_in (slice_get types s)

-- the type that a name is in a scope, by a table of the types of structs
abbrev pub type_known : List (Option Ty) → List Entry → List ℕ → Option Ty
type_known types es name = type_found (type_at types) name (entry_named name es)

-- the types that are there are those of the structs, from so many steps on
abbrev pub IsTyped : List FileRow → ℕ → ℕ → Option Ty → Type 0
IsTyped rows done s None = ⊤
IsTyped rows done s (Some t) = (n : ℕ) → done ≤ n → struct_within n rows s ≡ Some t

pub record AreTyped (rows : List FileRow) (done : ℕ) (types : List (Option Ty)) : Type 0 where
  pub sized : length types ≡ length (structs_of rows)
  pub each : (s : ℕ) → IsTyped rows done s (type_at types s)

-- a struct without a type in the table has none by the table
abbrev pub StaysOut : List FileRow → List (Option Ty) → ℕ → Option Ty → Type 0
StaysOut rows types s None = struct_at (type_at types) rows (slice_get (structs_of rows) s) ≡ None
StaysOut rows types s (Some t) = ⊤

abbrev pub AllStay : List FileRow → List (Option Ty) → Type 0
AllStay rows types = (s : ℕ) → StaysOut rows types s (type_at types s)

-- the types of all structs
abbrev pub AreStructTypes : List FileRow → List (Option Ty) → Type 0
AreStructTypes rows types = (s : ℕ) → type_at types s ≡ struct_type rows s
