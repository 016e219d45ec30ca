-- What expressions can stand for, made and taken apart, and the faults of what they don't.
use Rattle.std.specs.Prelude.{ℕ, Bool, false, List, Some, None, Result, Ok, Err}
use Rattle.slint_base.specs.declared.faults.Fault.{Fault}
use Rattle.slint_base.specs.declared.faults.Span.{Span}
use Rattle.slint_base.specs.declared.rules.Rule.{Rule}
use Rattle.slint_base.specs.declared.rules.Rule.TheVariants as rules
use Rattle.value_types.specs.declared.types.Ty.{Ty, out-Ty}
use Rattle.value_types.specs.declared.types.Ty.TheOpen as form
use Rattle.value_types.specs.declared.types.Ty.TheVariants as ty
use Rattle.value_types.specs.declared.values.Value.TheVariants as value
use Rattle.value_types.specs.Conversions.{Form, field_named}
use Rattle.typed_tree.specs.declared.expressions.ExprKind.{ExprKind}
use Rattle.typed_tree.specs.declared.expressions.ExprKind.TheVariants as exprs
use Rattle.typed_tree.specs.declared.expressions.TypedExpr.{TypedExpr}
use Rattle.typed_tree.specs.Scopes.{Place}
use Rattle.typed_tree.specs.Typed.{typed, expr_span}
use Rattle.expr_rules.specs.declared.judged.Denoted.{Denoted}
use Rattle.expr_rules.specs.declared.judged.Judged.{Judged}
use Rattle.expr_rules.specs.declared.judged.Judged.TheVariants as judged
use Rattle.name_lookup.specs.declared.meanings.Meaning.{Meaning}
use Rattle.name_lookup.specs.declared.meanings.Meaning.TheVariants as meaning

-- a rule that is broken at a stretch
abbrev pub broken : {A : Type 0} → Rule → Span → Result A Fault
broken rule span = Err (record { rule = rule; span = span })

-- an expression that stands for something, named where it says
abbrev pub standing : Meaning → Span → Bool → Judged
standing meaning name plain = judged.Denoted (record { meaning = meaning; name = name; is_plain = plain })

-- an expression that is a value of its own, which goes back to no member
abbrev pub value_of : TypedExpr → Judged
value_of e = standing (meaning.Value e) (expr_span e) false

abbrev pub made : ExprKind → Ty → Span → Judged
made kind t span = value_of (typed kind t span)

-- what a node came to, as what an expression stands for; nodes of expressions come to nothing else
abbrev pub nothing : Span → TypedExpr
nothing span = typed (exprs.Literal value.Void) ty.Void span

abbrev pub nowhere : Span
nowhere = record { file = 0; start = 0; end = 0 }

abbrev pub denoted : Judged → Denoted
denoted (judged.Denoted d) = d
denoted _ = record { meaning = meaning.Value (nothing nowhere); name = nowhere; is_plain = false }

abbrev pub value_in : Meaning → TypedExpr
value_in (meaning.Value e) = e
value_in _ = nothing nowhere

-- the value that a node at a place came to
abbrev pub given : Judged → TypedExpr
given x = value_in (denoted x).meaning

-- what stands as a value: a callback or a function does only if it is called, and what isn't one never does
abbrev pub as_value : Span → Span → Meaning → Result TypedExpr Fault
as_value span name (meaning.Value e) = Ok e
as_value span name (meaning.Callable callee signature) = broken rules.NotCallable name
as_value span name (meaning.Math function) = broken rules.NotCallable name
as_value span name (meaning.Method member e) = broken rules.NotCallable name
as_value span name (meaning.Element e) = broken rules.TypeMismatch span
as_value span name (meaning.Global g) = broken rules.TypeMismatch span
as_value span name (meaning.Enum k) = broken rules.TypeMismatch span
as_value span name (meaning.Namespace of) = broken rules.TypeMismatch span

-- what is wanted of an item and of a field, where a type is wanted of the whole: where nothing is wanted of that, nothing is of them
abbrev pub item_form : Form → Place
item_form (form.Array item) = Some item
item_form form.Void = Some ty.Void
item_form _ = None

abbrev pub item_place : Place → Place
item_place None = None
item_place (Some t) = item_form (out-Ty t)

abbrev pub field_form : List ℕ → Form → Place
field_form name (form.Struct fields) = field_named name fields
field_form name form.Void = Some ty.Void
field_form name _ = None

abbrev pub field_place : List ℕ → Place → Place
field_place name None = None
field_place name (Some t) = field_form name (out-Ty t)

-- continuing with a result, or telling its fault
abbrev pub on_ok : {A B : Type 0} → Result A Fault → (A → Result B Fault) → Result B Fault
on_ok (Ok a) go = go a
on_ok (Err f) go = Err f
