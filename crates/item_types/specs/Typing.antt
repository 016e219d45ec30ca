-- The typed form of one item of a body, of a condition and of a model, and the rules that are broken in them.
use Rattle.std.specs.Prelude.{List, Option, Result, Ok, Err}
use Rattle.slint_base.specs.declared.faults.Fault.{Fault}
use Rattle.slint_base.specs.declared.endings.End.{End}
use Rattle.slint_base.specs.declared.endings.End.TheVariants as ends
use Rattle.syntax_tree.specs.declared.expressions.Expr.{Expr}
use Rattle.syntax_tree.specs.declared.items.Item.{Item, out-Item}
use Rattle.value_types.specs.declared.types.Ty.TheVariants as ty
use Rattle.typed_tree.specs.declared.expressions.TypedExpr.{TypedExpr}
use Rattle.typed_tree.specs.declared.outlines.Outline.{Outline}
use Rattle.typed_tree.specs.declared.scopes.RowNames.{RowNames}
use Rattle.typed_tree.specs.declared.scopes.Site.{Site}
use Rattle.typed_tree.specs.declared.trees.TypedFor.{TypedFor}
use Rattle.typed_tree.specs.declared.trees.TypedItem.{TypedItem}
use Rattle.name_lookup.specs.Leads.{body_scope}
use Rattle.fault_order.specs.Order.{IsFirst}
use Rattle.item_types.specs.Judging.{Judging}
use Rattle.item_types.specs.Values.{expression_judging}
use Rattle.item_types.specs.Items.{item_judging}
use Rattle.item_types.specs.Rows.{model_judging}

-- an item of a body, with the names of the repeaters around it
abbrev pub item_in : Outline → Site → List RowNames → Item → Judging (Option TypedItem)
item_in outline here rows x = item_judging (body_scope outline here rows) (out-Item x)

-- a condition and a model, in the body of the element around
abbrev pub condition_in : Outline → Site → List RowNames → Expr → Judging TypedExpr
condition_in outline here rows e = expression_judging (body_scope outline here rows) ty.Bool e

abbrev pub model_in : Outline → Site → List RowNames → Expr → Judging TypedFor
model_in outline here rows e = model_judging (body_scope outline here rows) e

-- the typed form of an item, of which elements and mere declarations have none; and the rules that are broken in it
abbrev pub TypesItem : Outline → Site → List RowNames → Item → Option TypedItem → Type 0
TypesItem outline here rows x = (item_in outline here rows x).comes

abbrev pub BreaksItem : Outline → Site → List RowNames → Item → Fault → Type 0
BreaksItem outline here rows x = (item_in outline here rows x).breaks

-- those of a condition and of a model
abbrev pub TypesCondition : Outline → Site → List RowNames → Expr → TypedExpr → Type 0
TypesCondition outline here rows e = (condition_in outline here rows e).comes

abbrev pub BreaksCondition : Outline → Site → List RowNames → Expr → Fault → Type 0
BreaksCondition outline here rows e = (condition_in outline here rows e).breaks

abbrev pub TypesModel : Outline → Site → List RowNames → Expr → TypedFor → Type 0
TypesModel outline here rows e = (model_in outline here rows e).comes

abbrev pub BreaksModel : Outline → Site → List RowNames → Expr → Fault → Type 0
BreaksModel outline here rows e = (model_in outline here rows e).breaks

-- what something comes to, or of the rules that it breaks the first one, unless memory ran out
abbrev pub Judges : {X : Type 0} → Judging X → Result X (End Fault) → Type 0
Judges judging (Ok x) = judging.comes x
Judges judging (Err (ends.Fault f)) = IsFirst judging.breaks f
Judges judging (Err ends.Memory) = Unit {0}
