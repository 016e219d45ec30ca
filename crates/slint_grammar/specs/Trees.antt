-- How trees are put together from the trees of their parts.
use Rattle.std.specs.Prelude.{List, [], ◌∷◌, Option, Some, None}
use Rattle.slint_base.specs.declared.faults.Span.{Span}
use Rattle.syntax_tree.specs.Spans.{expr_span}
use Rattle.syntax_tree.specs.declared.words.Ident.{Ident}
use Rattle.syntax_tree.specs.declared.words.Quoted.{Quoted}
use Rattle.syntax_tree.specs.declared.types.TypeName.{TypeName}
use Rattle.syntax_tree.specs.declared.types.Field.{Field, roll-Field}
use Rattle.syntax_tree.specs.declared.expressions.BinaryOp.{BinaryOp}
use Rattle.syntax_tree.specs.declared.expressions.Expr.{Expr, out-Expr}
use Rattle.syntax_tree.specs.declared.expressions.Expr.TheVariants as exprs
use Rattle.syntax_tree.specs.declared.expressions.Expr.TheOpen.{Expr-F, Suffix-F}
use Rattle.syntax_tree.specs.declared.expressions.FieldValue.{FieldValue, roll-FieldValue}
use Rattle.syntax_tree.specs.declared.expressions.Hole.{Hole, roll-Hole}
use Rattle.syntax_tree.specs.declared.expressions.Operand.{Operand, out-Operand, roll-Operand}
use Rattle.syntax_tree.specs.declared.expressions.Suffix.{Suffix, out-Suffix}
use Rattle.syntax_tree.specs.declared.statements.AssignOp.{AssignOp}
use Rattle.syntax_tree.specs.declared.statements.Block.{Block, out-Block, roll-Block}
use Rattle.syntax_tree.specs.declared.statements.Else.{Else, out-Else}
use Rattle.syntax_tree.specs.declared.statements.Stmt.{Stmt}
use Rattle.syntax_tree.specs.declared.statements.Stmt.TheVariants as stmts
use Rattle.syntax_tree.specs.declared.items.Element.{Element, roll-Element}
use Rattle.syntax_tree.specs.declared.items.IfElement.{IfElement, roll-IfElement}
use Rattle.syntax_tree.specs.declared.items.For.{For, roll-For}
use Rattle.syntax_tree.specs.declared.statements.Else.TheOpen.{Else-F}
use Rattle.syntax_tree.specs.declared.items.Item.{Item}

-- the stretch from the start of one to the end of another
abbrev pub join : Span → Span → Span
join a b = record { file = a.file; start = a.start; end = b.end }

abbrev pub or_end : Span → Option Span → Span
or_end a None = a
or_end a (Some b) = b

-- a field of a struct type, or a parameter
abbrev pub field : Ident → TypeName → Field
field name ty = roll-Field (record { name = name; ty = ty })

abbrev pub field_value : Ident → Expr → FieldValue
field_value name value = roll-FieldValue (record { name = name; value = value })

abbrev pub operand : BinaryOp → Expr → Operand
operand op right = roll-Operand (record { op = op; right = right })

-- where operands behind a stretch end
abbrev pub behind_operands : Span → List Operand → Span
behind_operands span [] = span
behind_operands span (o ∷ os) = behind_operands (expr_span (out-Operand o).right) os

-- operands behind a first one, which stands alone where there are none
abbrev pub chain : Expr → List Operand → Expr
chain first [] = first
chain first (o ∷ os) = exprs.Chain first (o ∷ os) (join (expr_span first) (behind_operands (expr_span first) (o ∷ os)))

abbrev pub SuffixLayer : Type 0
SuffixLayer = Suffix-F Expr Suffix FieldValue Hole Operand

abbrev pub suffix_layer_span : SuffixLayer → Span
suffix_layer_span (Suffix-F.Member ident) = ident.span
suffix_layer_span (Suffix-F.Call es span) = span
suffix_layer_span (Suffix-F.Index e span) = span

abbrev pub behind_suffixes : Span → List Suffix → Span
behind_suffixes span [] = span
behind_suffixes span (x ∷ xs) = behind_suffixes (suffix_layer_span (out-Suffix x)) xs

-- suffixes behind an expression, which stands alone where there are none
abbrev pub postfix : Expr → List Suffix → Expr
postfix first [] = first
postfix first (x ∷ xs) = exprs.Postfix first (x ∷ xs) (join (expr_span first) (behind_suffixes (expr_span first) (x ∷ xs)))

-- a choice, where a question mark follows
abbrev pub may_choose : Expr → Option (Expr × Expr) → Expr
may_choose c None = c
may_choose c (Some branches) = exprs.Choice c branches.0 branches.1 (join (expr_span c) (expr_span branches.1))

abbrev pub hole : Expr → Quoted → Hole
hole value behind = roll-Hole (record { value = value; behind = behind.text })

abbrev pub block : List Stmt → Span → Block
block list span = roll-Block (record { stmts = list; span = span })

abbrev pub block_span : Block → Span
block_span b = (out-Block b).span

abbrev pub ElseLayer : Type 0
ElseLayer = Else-F Else Stmt Block

abbrev pub else_layer_span : Span → ElseLayer → Span
else_layer_span span Else-F.Nothing = span
else_layer_span span (Else-F.ElseIf c b e i) = i
else_layer_span span (Else-F.ElseBlock b) = block_span b

-- the stretch of an `if`, from its word to the end of its last block
abbrev pub if_span : Span → Block → Else → Span
if_span word then_block otherwise = join word (else_layer_span (block_span then_block) (out-Else otherwise))

-- a `return`, with or without a value
abbrev pub return_of : Span → Option Expr → Stmt
return_of word None = stmts.Return None word
return_of word (Some value) = stmts.Return (Some value) (join word (expr_span value))

-- an expression as a statement, or an assignment
abbrev pub assign_or_expr : Expr → Option (AssignOp × Expr) → Stmt
assign_or_expr e None = stmts.Expr e
assign_or_expr e (Some right) = stmts.Assign e right.0 right.1 (join (expr_span e) (expr_span right.1))

abbrev pub element : Option Ident → Ident → List Item → Element
element id ty body = roll-Element (record { id = id; ty = ty; body = body })

abbrev pub if_element : Expr → Element → Span → IfElement
if_element condition elem word = roll-IfElement (record { condition = condition; element = elem; word = word })

abbrev pub for_element : Ident → Option Ident → Expr → Element → Span → For
for_element row number model elem word = roll-For (record { item = row; number = number; model = model; element = elem; word = word })
