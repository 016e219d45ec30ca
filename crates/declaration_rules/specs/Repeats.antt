-- Equal names, by rule 30: of two equal names the later one breaks it.
use Rattle.std.specs.Prelude.{ℕ, Bool, true, false, List, [], ◌∷◌, ◌++◌, map}
use Rattle.std.specs.List.{flat_map}
use Rattle.slint_base.specs.declared.faults.Fault.{Fault}
use Rattle.slint_base.specs.declared.faults.Span.{Span}
use Rattle.slint_base.specs.declared.rules.Rule.{Rule}
use Rattle.slint_base.specs.declared.rules.Rule.TheVariants as rules
use Rattle.syntax_tree.specs.declared.files.Decl.{Decl}
use Rattle.syntax_tree.specs.declared.files.Decl.TheVariants as decls
use Rattle.syntax_tree.specs.declared.files.FileItem.{FileItem}
use Rattle.syntax_tree.specs.declared.files.FileItem.TheVariants as items
use Rattle.syntax_tree.specs.declared.types.Field.{Field, fold-Field, out-Field}
use Rattle.syntax_tree.specs.declared.types.TypeName.{TypeName, fold-TypeName}
use Rattle.syntax_tree.specs.declared.types.TypeName.TheOpen.{TypeName-F, Field-F}
use Rattle.syntax_tree.specs.declared.words.Ident.{Ident}
use Rattle.file_exports.specs.Roots.{has_name}
use Rattle.declaration_rules.specs.Turns.{in_turn}

-- the fault of a rule at a stretch, where it is broken there
abbrev pub broken_if : Bool → Rule → Span → List Fault
broken_if true rule span = record { rule = rule; span = span } ∷ []
broken_if false rule span = []

abbrev pub name_of : Ident → List ℕ
name_of word = word.name

-- a word whose name is among names
abbrev pub repeat_in : List (List ℕ) → Ident → List Fault
repeat_in names word = broken_if (has_name names word.name) rules.NameTwice word.span

abbrev pub repeat_of : List Ident → Ident → List Fault
repeat_of before word = repeat_in (map name_of before) word

-- the words whose name an earlier one has
abbrev pub repeated : List Ident → List Fault
repeated words = in_turn repeat_of [] words

-- of a field its name, and what its type breaks
abbrev pub FieldFaults : Type 0
FieldFaults = Ident × List Fault

abbrev pub field_word : FieldFaults → Ident
field_word field = field.0

abbrev pub inner_faults : FieldFaults → List Fault
inner_faults field = field.1

-- the fields of a struct type, and of the struct types inside it, whose names are there before
abbrev pub struct_faults : List FieldFaults → List Fault
struct_faults fields = repeated (map field_word fields) ++ flat_map inner_faults fields

abbrev pub type_layer : TypeName-F (List Fault) FieldFaults → List Fault
type_layer (TypeName-F.Named ident) = []
type_layer (TypeName-F.Array item span) = item
type_layer (TypeName-F.Struct fields span) = struct_faults fields

abbrev pub field_layer : Field-F (List Fault) FieldFaults → FieldFaults
field_layer field = (field.name, field.ty)

abbrev pub repeated_in_type : TypeName → List Fault
repeated_in_type = fold-TypeName (List Fault) FieldFaults type_layer field_layer

abbrev pub of_field : Field → FieldFaults
of_field = fold-Field (List Fault) FieldFaults type_layer field_layer

abbrev pub inner_of : Field → List Fault
inner_of field = inner_faults (of_field field)

abbrev pub field_name : Field → Ident
field_name field = (out-Field field).name

abbrev pub repeated_in_fields : List Field → List Fault
repeated_in_fields fields = struct_faults (map of_field fields)

-- the fields of a struct and the values of an enum that are there before
abbrev pub repeated_in_decl : Decl → List Fault
repeated_in_decl (decls.Component component) = []
repeated_in_decl (decls.Global global) = []
repeated_in_decl (decls.Struct struct) = repeated_in_fields struct.fields
repeated_in_decl (decls.Enum enum) = repeated enum.values

abbrev pub repeated_in_item : FileItem → List Fault
repeated_in_item (items.Decl marked decl) = repeated_in_decl decl
repeated_in_item _ = []
