-- What models come to, and the names that a `for` puts around an element.
use Rattle.std.specs.Prelude.{ℕ, Bool, true, false, if◌then◌else◌, Option, Some, None, is_some, option_map, Result, Ok}
use Rattle.slint_base.specs.declared.faults.Fault.{Fault}
use Rattle.slint_base.specs.declared.faults.Span.{Span}
use Rattle.slint_base.specs.declared.rules.Rule.TheVariants as rules
use Rattle.syntax_tree.specs.declared.expressions.Expr.{Expr}
use Rattle.syntax_tree.specs.declared.items.For.{For, out-For}
use Rattle.syntax_tree.specs.Spans.{expr_span}
use Rattle.value_types.specs.declared.types.Ty.{Ty, out-Ty}
use Rattle.value_types.specs.declared.types.Ty.TheOpen as form
use Rattle.value_types.specs.declared.types.Ty.TheVariants as ty
use Rattle.value_types.specs.declared.types.Ty.TheFolds.{fold-Ty}
use Rattle.value_types.specs.Conversions.{Form}
use Rattle.typed_tree.specs.declared.expressions.ExprKind.TheOpen.{ExprKind-F}
use Rattle.typed_tree.specs.declared.expressions.TypedExpr.{TypedExpr}
use Rattle.typed_tree.specs.declared.scopes.RowNames.{RowNames}
use Rattle.typed_tree.specs.declared.statements.Target.{Target}
use Rattle.typed_tree.specs.declared.trees.RowSource.{RowSource}
use Rattle.typed_tree.specs.declared.trees.RowSource.TheVariants as sources
use Rattle.typed_tree.specs.declared.trees.TypedFor.{TypedFor}
use Rattle.typed_tree.specs.Scopes.{ScopeValue}
use Rattle.typed_tree.specs.Typed.{KindLayer, kind_layer, expr_ty}
use Rattle.name_lookup.specs.declared.meanings.Meaning.{Meaning}
use Rattle.name_lookup.specs.declared.meanings.Meaning.TheVariants as meaning
use Rattle.expr_rules.specs.declared.judged.Denoted.{Denoted}
use Rattle.expr_rules.specs.Denotations.{broken}
use Rattle.expr_rules.specs.Own.{as_type}
use Rattle.expr_rules.specs.OwnBlocks.{may_assign}
use Rattle.expr_rules.specs.Targets.{target_of}
use Rattle.item_types.specs.Judging.{Judging, owned, made, or_as}
use Rattle.item_types.specs.Values.{expression_judging, standing_judging}

-- a type with a name: zeros count as int, and `[]` as an array of ints, also inside
abbrev pub named_step : form.Ty-F Ty → Ty
named_step form.Void = ty.Void
named_step form.Zero = ty.Int
named_step form.Int = ty.Int
named_step form.Float = ty.Float
named_step form.Percent = ty.Percent
named_step form.Bool = ty.Bool
named_step form.Str = ty.Str
named_step form.Color = ty.Color
named_step form.Length = ty.Length
named_step form.Duration = ty.Duration
named_step form.Angle = ty.Angle
named_step form.Image = ty.Image
named_step (form.Enum n) = ty.Enum n
named_step (form.Struct fields) = ty.Struct fields
named_step (form.Array t) = ty.Array t
named_step form.Empty = ty.Array ty.Int

abbrev pub named_type : Ty → Ty
named_type = fold-Ty Ty named_step

-- the type of a row's item, where a type is that of an array
abbrev pub row_type : Form → Option Ty
row_type (form.Array t) = Some (named_type t)
row_type form.Empty = Some ty.Int
row_type _ = None

-- the rows of a property that is written as a plain path have keys of their own
abbrev pub source_of : Bool → TypedExpr → KindLayer → Ty → RowSource
source_of true e (ExprKind-F.Property member) t = sources.Property member
source_of plain e layer t = sources.Array (as_type (ty.Array t) e)

-- what an assignment to a row's item assigns: a part of the model, where that can be assigned
abbrev pub row_target : ScopeValue → TypedExpr → Option Target
row_target s e = if may_assign s (meaning.Value e) then target_of s e else None

abbrev pub rows_with : ScopeValue → Span → Bool → TypedExpr → Option Ty → Result TypedFor Fault
rows_with s span plain e None = broken rules.TypeMismatch span
rows_with s span plain e (Some t) = Ok (record { rows = source_of plain e (kind_layer e) t; item = t; target = row_target s e; span = span })

abbrev pub rows_meant : ScopeValue → Span → Bool → Meaning → Result TypedFor Fault
rows_meant s span plain (meaning.Value e) = rows_with s span plain e (row_type (out-Ty (expr_ty e)))
rows_meant s span plain _ = broken rules.TypeMismatch span

abbrev pub array_rows : ScopeValue → Span → Denoted → Result TypedFor Fault
array_rows s span d = rows_meant s span d.is_plain d.meaning

-- so many rows
abbrev pub counted_rows : Span → TypedExpr → TypedFor
counted_rows span e = record { rows = sources.Count e; item = ty.Int; target = None; span = span }

-- a model: an array; or what is no array by itself stands where an int is wanted, and what it breaks there is told
abbrev pub model_judging : ScopeValue → Expr → Judging TypedFor
model_judging s e = or_as (owned (standing_judging s e) (array_rows s (expr_span e))) (made (expression_judging s ty.Int e) (counted_rows (expr_span e)))

-- the names that a `for` puts around the element of a number
abbrev pub row_names : ℕ → For → TypedFor → RowNames
row_names e f rows = record {
  element = e;
  item = (out-For f).item.name;
  ty = rows.item;
  is_assignable = is_some rows.target;
  number = option_map (λ number. number.name) (out-For f).number;
}
