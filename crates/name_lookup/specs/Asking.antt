-- What stands behind the point of a value, taken apart.
use Rattle.std.specs.Prelude.{ℕ, Bool, true, List, Option, Some, None, Ok}
use Rattle.std.specs.Option.{option_map}
use Rattle.slint_base.specs.declared.faults.Span.{Span}
use Rattle.value_types.specs.declared.types.Ty.{Ty, out-Ty}
use Rattle.value_types.specs.declared.types.Ty.TheOpen as form
use Rattle.value_types.specs.Conversions.{Form, field_named}
use Rattle.element_tables.specs.declared.functions.ValueMember.{ValueMember}
use Rattle.element_tables.specs.declared.functions.ValueMemberKind.{ValueMemberKind}
use Rattle.element_tables.specs.declared.functions.ValueMemberKind.TheVariants as asks
use Rattle.element_tables.specs.Functions.{string_members, array_members}
use Rattle.element_tables.specs.Rows.{named}
use Rattle.typed_tree.specs.declared.expressions.ExprKind.TheOpen.{ExprKind-F}
use Rattle.typed_tree.specs.declared.expressions.TypedExpr.{TypedExpr}
use Rattle.typed_tree.specs.declared.members.MemberRef.{MemberRef}
use Rattle.typed_tree.specs.Typed.{KindLayer, expr_ty}
use Rattle.name_lookup.specs.Names.{Lookup, built_in_member}

-- the type of a struct's field
abbrev pub field_of : Form → List ℕ → Option Ty
field_of (form.Struct fields) name = field_named name fields
field_of _ name = None

-- the built-in member of a text or an array
abbrev pub value_member : Form → List ℕ → Option ValueMember
value_member form.Str name = named name string_members
value_member (form.Array item) name = named name array_members
value_member form.Empty name = named name array_members
value_member _ name = None

-- the property that is read where an expression is all of one
abbrev pub property_of : KindLayer → Option MemberRef
property_of (ExprKind-F.Property member) = Some member
property_of _ = None

-- the property of which only the length is read
abbrev pub property_asked : Bool → ValueMemberKind → KindLayer → Option MemberRef
property_asked true asks.Length layer = property_of layer
property_asked _ _ layer = None

-- what a built-in member of a value stands for
abbrev pub asked_member : Bool → TypedExpr → List ℕ → Span → Lookup
asked_member plain e name span = option_map (λ m. Ok (built_in_member plain e span m)) (value_member (out-Ty (expr_ty e)) name)
