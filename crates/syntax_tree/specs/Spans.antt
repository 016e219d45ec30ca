-- The stretches of expressions.
use Rattle.slint_base.specs.declared.faults.Span.{Span}
use Rattle.syntax_tree.specs.declared.expressions.Expr.{Expr, out-Expr}
use Rattle.syntax_tree.specs.declared.expressions.Expr.TheOpen.{Expr-F}
use Rattle.syntax_tree.specs.declared.expressions.FieldValue.{FieldValue}
use Rattle.syntax_tree.specs.declared.expressions.Hole.{Hole}
use Rattle.syntax_tree.specs.declared.expressions.Operand.{Operand}
use Rattle.syntax_tree.specs.declared.expressions.Suffix.{Suffix}

-- one level of an expression
abbrev pub ExprLayer : Type 0
ExprLayer = Expr-F Expr Suffix FieldValue Hole Operand

-- the stretch of an expression, opened: its last field
abbrev pub layer_span : ExprLayer → Span
layer_span (Expr-F.Number n span) = span
layer_span (Expr-F.Colour c span) = span
layer_span (Expr-F.Text t span) = span
layer_span (Expr-F.Template t holes span) = span
layer_span (Expr-F.Name ident span) = span
layer_span (Expr-F.Paren e span) = span
layer_span (Expr-F.Array es span) = span
layer_span (Expr-F.Struct fs span) = span
layer_span (Expr-F.ImageUrl path span) = span
layer_span (Expr-F.Tr context text es span) = span
layer_span (Expr-F.Postfix e ss span) = span
layer_span (Expr-F.Prefix op e span) = span
layer_span (Expr-F.Chain e os span) = span
layer_span (Expr-F.Choice c a b span) = span

-- the stretch of an expression, from its first token to its last one
abbrev pub expr_span : Expr → Span
expr_span e = layer_span (out-Expr e)
