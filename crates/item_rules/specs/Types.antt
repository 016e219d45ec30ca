-- Types that are written in items: the fields of a struct have different names, also where it lies inside another type.
use Rattle.std.specs.Prelude.{List, [], ◌++◌, map, Option, Some, None}
use Rattle.std.specs.List.{flat_map}
use Rattle.slint_base.specs.declared.faults.Fault.{Fault}
use Rattle.syntax_tree.specs.declared.types.Field.{Field, fold-Field}
use Rattle.syntax_tree.specs.declared.types.TypeName.{TypeName, fold-TypeName}
use Rattle.syntax_tree.specs.declared.types.TypeName.TheOpen.{TypeName-F, Field-F}
use Rattle.syntax_tree.specs.declared.words.Ident.{Ident}
use Rattle.item_rules.specs.Twice.{twice_in}

-- a field: its name, and the faults in its type
abbrev pub FieldFaults : Type 0
FieldFaults = Ident × List Fault

abbrev pub name_told : FieldFaults → Ident
name_told f = f.0

abbrev pub faults_told : FieldFaults → List Fault
faults_told f = f.1

abbrev pub faults_of_fields : List FieldFaults → List Fault
faults_of_fields fields = twice_in (map name_told fields) ++ flat_map faults_told fields

abbrev pub type_layer : TypeName-F (List Fault) FieldFaults → List Fault
type_layer (TypeName-F.Named name) = []
type_layer (TypeName-F.Array inner span) = inner
type_layer (TypeName-F.Struct fields span) = faults_of_fields fields

abbrev pub field_layer : Field-F (List Fault) FieldFaults → FieldFaults
field_layer f = (f.name, f.ty)

-- the faults in a type
abbrev pub type_faults : TypeName → List Fault
type_faults = fold-TypeName (List Fault) FieldFaults type_layer field_layer

abbrev pub field_told : Field → FieldFaults
field_told = fold-Field (List Fault) FieldFaults type_layer field_layer

abbrev pub field_name : Field → Option Ident
field_name f = Some (name_told (field_told f))

abbrev pub field_faults : Field → List Fault
field_faults f = faults_told (field_told f)

-- the faults in the fields of a struct, and in the parameters of a function, which are written alike
abbrev pub fields_faults : List Field → List Fault
fields_faults fields = faults_of_fields (map field_told fields)

-- the faults in what may be written
abbrev pub if_written : {A : Type 0} → (A → List Fault) → Option A → List Fault
if_written faults None = []
if_written faults (Some x) = faults x
