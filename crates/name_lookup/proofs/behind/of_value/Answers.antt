use Rattle.std.proofs.Common.{◌≡◌, ℕ, Bool, List, Option, Some, None, Result, Ok, IfOk, ap, refl, subst, sym}
use Rattle.std.specs.Option.{option_map}
use Rattle.slint_base.specs.declared.faults.Span.{Span}
use Rattle.slint_base.specs.declared.rules.Rule.{Rule}
use Rattle.value_types.specs.declared.types.Ty.{Ty, out-Ty}
use Rattle.value_types.specs.declared.types.Ty.TheOpen as form
use Rattle.value_types.specs.Conversions.{Form}
use Rattle.element_tables.specs.Functions.{string_members, array_members}
use Rattle.element_tables.specs.Rows.{named}
use Rattle.element_tables.specs.declared.functions.ValueMember.{ValueMember}
use Rattle.typed_tree.specs.declared.expressions.TypedExpr.{TypedExpr}
use Rattle.typed_tree.specs.declared.expressions.StepKind.TheVariants as step
use Rattle.typed_tree.specs.Typed.{part_of, typed_step, expr_ty}
use Rattle.name_lookup.specs.declared.meanings.Meaning.{Meaning}
use Rattle.name_lookup.specs.declared.meanings.Meaning.TheVariants as meaning
use Rattle.name_lookup.specs.Asking.{field_of, value_member}
use Rattle.name_lookup.specs.Names.{Lookup, built_in_member, of_form}
use Rattle.name_lookup.proofs.behind.of_value.Goals as goal

-- what may be used so
abbrev usable : Meaning → Result Meaning Rule
usable m = Ok m

abbrev field_meaning : TypedExpr → List ℕ → Span → Ty → Meaning
field_meaning e name span t = meaning.Value (part_of e (typed_step (step.ToField name) t) span)

map_twice : (plain : Bool) (e : TypedExpr) (span : Span) (found : Option ValueMember)
    → option_map usable (option_map (built_in_member plain e span) found) ≡ option_map (λ m. usable (built_in_member plain e span m)) found
map_twice plain e span None = refl
map_twice plain e span (Some m) = refl

-- behind the point of what has no such field stands a built-in member or nothing
no_field : (plain : Bool) (e : TypedExpr) (f : Form) (name : List ℕ) (span : Span) → field_of f name ≡ None
    → option_map usable (of_form plain e f name span) ≡ option_map (λ m. usable (built_in_member plain e span m)) (value_member f name)
no_field plain e (form.Struct fields) name span none = ap (λ (t : Option Ty). option_map usable (option_map (field_meaning e name span) t)) none
no_field plain e form.Str name span none = map_twice plain e span (named name string_members)
no_field plain e (form.Array item) name span none = map_twice plain e span (named name array_members)
no_field plain e form.Empty name span none = map_twice plain e span (named name array_members)
no_field plain e form.Void name span none = refl
no_field plain e form.Zero name span none = refl
no_field plain e form.Int name span none = refl
no_field plain e form.Float name span none = refl
no_field plain e form.Percent name span none = refl
no_field plain e form.Bool name span none = refl
no_field plain e form.Color name span none = refl
no_field plain e form.Length name span none = refl
no_field plain e form.Duration name span none = refl
no_field plain e form.Angle name span none = refl
no_field plain e form.Image name span none = refl
no_field plain e (form.Enum k) name span none = refl

pub returns-in-None : goal.returns-in-None
returns-in-None c =
    let P : Lookup → Type 0 = λ found. IfOk c.asked_member.result (λ lookup. lookup ≡ found) in
    subst P (sym (no_field c.args.is_plain c.args.of (out-Ty (expr_ty c.args.of)) c.args.name.now c.args.span (sym c.in-None.ensures))) c.asked_member.ensures
