-- What the values, conditions and blocks of items come to.
use Rattle.std.specs.Prelude.{Bool, true, false, ◌&&◌, if◌then◌else◌, Option, Some, None, Result, Ok}
use Rattle.slint_base.specs.declared.faults.Fault.{Fault}
use Rattle.slint_base.specs.declared.faults.Span.{Span}
use Rattle.slint_base.specs.declared.rules.Rule.TheVariants as rules
use Rattle.slint_literals.specs.declared.numbers.Number.{Number}
use Rattle.slint_literals.specs.declared.numbers.Number.TheVariants as numbers
use Rattle.syntax_tree.specs.declared.expressions.Expr.{Expr, out-Expr}
use Rattle.syntax_tree.specs.declared.expressions.Expr.TheOpen.{Expr-F}
use Rattle.syntax_tree.specs.declared.expressions.PrefixOp.{PrefixOp}
use Rattle.syntax_tree.specs.declared.expressions.PrefixOp.TheVariants as prefixes
use Rattle.syntax_tree.specs.declared.statements.Block.{Block, out-Block}
use Rattle.syntax_tree.specs.declared.statements.Value.{Value}
use Rattle.syntax_tree.specs.declared.statements.Value.TheVariants as values
use Rattle.syntax_tree.specs.Spans.{ExprLayer, expr_span}
use Rattle.value_types.specs.declared.types.Ty.{Ty}
use Rattle.value_types.specs.declared.types.Ty.TheVariants as ty
use Rattle.typed_tree.specs.declared.expressions.TypedExpr.{TypedExpr}
use Rattle.typed_tree.specs.declared.members.MemberRef.{MemberRef}
use Rattle.typed_tree.specs.declared.statements.TypedBlock.{TypedBlock}
use Rattle.typed_tree.specs.declared.statements.TypedValue.{TypedValue}
use Rattle.typed_tree.specs.declared.statements.TypedValue.TheVariants as typed_values
use Rattle.typed_tree.specs.Scopes.{ScopeValue}
use Rattle.expr_rules.specs.declared.judged.Denoted.{Denoted}
use Rattle.expr_rules.specs.Denotations.{broken}
use Rattle.expr_types.specs.Typing.{TypesExpr, BreaksExpr, TypesBlock, BreaksBlock, Stands, BreaksStanding}
use Rattle.item_types.specs.Judging.{Judging, owned, made, or_else}
use Rattle.item_types.specs.Members.{is_size, is_below_root, is_grid_number}

-- an expression and a block where a type is wanted, and what an expression stands for by itself
abbrev pub expression_judging : ScopeValue → Ty → Expr → Judging TypedExpr
expression_judging s t e = record { comes = TypesExpr s (Some t) e; breaks = BreaksExpr s (Some t) e }

abbrev pub block_judging : ScopeValue → Ty → Block → Judging TypedBlock
block_judging s t b = record { comes = TypesBlock s t (out-Block b).stmts (out-Block b).span; breaks = BreaksBlock s t (out-Block b).stmts (out-Block b).span }

abbrev pub standing_judging : ScopeValue → Expr → Judging Denoted
standing_judging s e = record { comes = Stands s e; breaks = BreaksStanding s e }

-- a value where a type is wanted
abbrev pub value_judging : ScopeValue → Ty → Value → Judging TypedValue
value_judging s t (values.Expr e) = made (expression_judging s t e) (λ x. typed_values.Expr x)
value_judging s t (values.Block b) = made (block_judging s t b) (λ x. typed_values.Block x)

abbrev pub value_span : Value → Span
value_span (values.Expr e) = expr_span e
value_span (values.Block b) = (out-Block b).span

-- a whole number, with at most a `-` before it
abbrev pub is_whole : Number → Bool
is_whole numbers.Zero = true
is_whole (numbers.Int n) = true
is_whole _ = false

abbrev pub is_plain_number : ExprLayer → Bool
is_plain_number (Expr-F.Number n span) = is_whole n
is_plain_number _ = false

abbrev pub is_minus : PrefixOp → Bool
is_minus prefixes.Minus = true
is_minus _ = false

abbrev pub is_whole_literal : ExprLayer → Bool
is_whole_literal (Expr-F.Number n span) = is_whole n
is_whole_literal (Expr-F.Prefix op e span) = is_minus op && is_plain_number (out-Expr e)
is_whole_literal _ = false

abbrev pub is_constant : Value → Bool
is_constant (values.Expr e) = is_whole_literal (out-Expr e)
is_constant (values.Block b) = false

abbrev pub plain : TypedValue → TypedValue × Bool
plain x = (x, false)

abbrev pub share : TypedValue → TypedValue × Bool
share x = (x, true)

abbrev pub constant : Value → TypedValue → Result (TypedValue × Bool) Fault
constant v x = if is_constant v then Ok (plain x) else broken rules.NotConstant (value_span v)

-- a bound value, and whether it is a share: of a grid cell's number, of a size that takes shares, of any other property. A size is judged by its own type;
-- where that fails and as a percent it passes, it is a share of the parent's size
abbrev pub constants : ScopeValue → Ty → Value → Judging (TypedValue × Bool)
constants s t v = owned (value_judging s t v) (constant v)

abbrev pub shares : ScopeValue → Ty → Value → Judging (TypedValue × Bool)
shares s t v = or_else (made (value_judging s t v) plain) (made (value_judging s ty.Percent v) share)

abbrev pub sized_value : ScopeValue → Bool → Ty → Value → Judging (TypedValue × Bool)
sized_value s true t v = shares s t v
sized_value s false t v = made (value_judging s t v) plain

abbrev pub numbered_value : ScopeValue → Bool → Bool → Ty → Value → Judging (TypedValue × Bool)
numbered_value s true size t v = constants s t v
numbered_value s false size t v = sized_value s size t v

abbrev pub bound_value : ScopeValue → MemberRef → Ty → Value → Judging (TypedValue × Bool)
bound_value s member t v = numbered_value s (is_grid_number member) (is_below_root s.site && is_size member) t v
