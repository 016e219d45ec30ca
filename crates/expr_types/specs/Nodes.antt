-- The nodes of expressions and blocks, and their parts.
use Rattle.std.specs.Prelude.{ℕ, Bool, true, false, ◌&&◌, List, [], ◌∷◌, ◌++◌, reverse, Option, Some, None}
use Rattle.slint_base.specs.declared.faults.Span.{Span}
use Rattle.syntax_tree.specs.declared.words.Ident.{Ident}
use Rattle.syntax_tree.specs.declared.expressions.Expr.{Expr, out-Expr}
use Rattle.syntax_tree.specs.declared.expressions.Expr.TheOpen.{Expr-F, Suffix-F}
use Rattle.syntax_tree.specs.declared.expressions.FieldValue.{FieldValue, out-FieldValue}
use Rattle.syntax_tree.specs.declared.expressions.Hole.{Hole, out-Hole}
use Rattle.syntax_tree.specs.declared.expressions.Operand.{Operand, out-Operand}
use Rattle.syntax_tree.specs.declared.expressions.Suffix.{Suffix, out-Suffix}
use Rattle.syntax_tree.specs.declared.statements.AssignOp.{AssignOp}
use Rattle.syntax_tree.specs.declared.statements.AssignOp.TheVariants as assigns
use Rattle.syntax_tree.specs.declared.statements.Block.{Block, out-Block}
use Rattle.syntax_tree.specs.declared.statements.Else.{Else, out-Else}
use Rattle.syntax_tree.specs.declared.statements.Else.TheOpen.{Else-F, Stmt-F}
use Rattle.syntax_tree.specs.declared.statements.Stmt.{Stmt, out-Stmt}
use Rattle.syntax_tree.specs.Spans.{ExprLayer}
use Rattle.value_types.specs.declared.types.Ty.{Ty}
use Rattle.value_types.specs.declared.types.Ty.TheVariants as ty
use Rattle.typed_tree.specs.Scopes.{ScopeValue}
use Rattle.expr_rules.specs.declared.judged.Judged.{Judged}
use Rattle.expr_rules.specs.Layers.{SuffixLayer, ElseLayer, StmtLayer}
use Rattle.typed_tree.specs.Scopes.{Place}
use Rattle.expr_rules.specs.Denotations.{denoted, item_place, field_place}
use Rattle.expr_rules.specs.Targets.{argument_places, assigned_place}

pub data Node : Type 0 where
  -- an expression at a place, as a value that has the type wanted there
  At : Place → Expr → Node
  -- what an expression stands for, before it is fitted into its place
  Denotes : Place → Expr → Node
  -- an expression with the suffixes behind it, the last one first
  Suffixed : Expr → List Suffix → Node
  -- the first operands of a chain: one, and those behind it, the last one first
  Chained : Expr → List Operand → Node
  -- the name of a field, and those of the fields before it
  FieldName : Ident → List (List ℕ) → Node
  -- what an assignment assigns
  Assigned : Expr → Node
  -- a block that gives a value of a type, or none where that is void
  Body : Ty → List Stmt → Span → Node
  -- statements in braces inside a block of such a type, and whether the block ends with them
  Braces : Ty → Bool → List Stmt → Span → Node
  -- what stands behind the block of an `if`
  Otherwise : Ty → Bool → Else → Node
  Statement : Ty → Bool → Stmt → Node

abbrev pub at_all : Place → List Expr → List Node
at_all place [] = []
at_all place (e ∷ es) = At place e ∷ at_all place es

-- the holes of a text
abbrev pub hole_nodes : List Hole → List Node
hole_nodes [] = []
hole_nodes (h ∷ hs) = At (Some ty.Str) (out-Hole h).value ∷ hole_nodes hs

-- the fields of a struct, behind these names: of each its name, and its value
abbrev pub field_nodes : Place → List (List ℕ) → List FieldValue → List Node
field_nodes place before [] = []
field_nodes place before (f ∷ fs) = FieldName (out-FieldValue f).name before ∷ At (field_place (out-FieldValue f).name.name place) (out-FieldValue f).value
    ∷ field_nodes place (before ++ (out-FieldValue f).name.name ∷ []) fs

abbrev pub form_parts : Place → ExprLayer → List Node
form_parts place (Expr-F.Number n span) = []
form_parts place (Expr-F.Colour c span) = []
form_parts place (Expr-F.Text text span) = []
form_parts place (Expr-F.Template text holes span) = hole_nodes holes
form_parts place (Expr-F.Name ident span) = []
form_parts place (Expr-F.Paren e span) = Denotes place e ∷ []
form_parts place (Expr-F.Array es span) = at_all (item_place place) es
form_parts place (Expr-F.Struct fs span) = field_nodes place [] fs
form_parts place (Expr-F.ImageUrl path span) = []
form_parts place (Expr-F.Tr context text es span) = at_all (Some ty.Str) es
form_parts place (Expr-F.Postfix e ss span) = Suffixed e (reverse ss) ∷ []
form_parts place (Expr-F.Prefix op e span) = At None e ∷ []
form_parts place (Expr-F.Chain e os span) = Chained e (reverse os) ∷ []
form_parts place (Expr-F.Choice c a b span) = At (Some ty.Bool) c ∷ At place a ∷ At place b ∷ []

-- the arguments of a call are known once it is known what is called
abbrev pub suffix_parts : Expr → List Suffix → SuffixLayer → List Node
suffix_parts e before (Suffix-F.Member name) = Suffixed e before ∷ []
suffix_parts e before (Suffix-F.Call es span) = Suffixed e before ∷ []
suffix_parts e before (Suffix-F.Index i span) = Suffixed e before ∷ At (Some ty.Int) i ∷ []

abbrev pub suffixed_parts : Expr → List Suffix → List Node
suffixed_parts e [] = Denotes None e ∷ []
suffixed_parts e (s ∷ before) = suffix_parts e before (out-Suffix s)

abbrev pub chained_parts : Expr → List Operand → List Node
chained_parts e [] = At None e ∷ []
chained_parts e (o ∷ before) = Chained e before ∷ At None (out-Operand o).right ∷ []

abbrev pub argument_nodes : List Place → List Expr → List Node
argument_nodes places [] = []
argument_nodes [] (e ∷ es) = At None e ∷ argument_nodes [] es
argument_nodes (place ∷ places) (e ∷ es) = At place e ∷ argument_nodes places es

abbrev pub argument_parts : SuffixLayer → List Judged → List Node
argument_parts (Suffix-F.Call es span) (x ∷ xs) = argument_nodes (argument_places (denoted x).meaning) es
argument_parts _ xs = []

abbrev pub suffixed_later : List Suffix → List Judged → List Node
suffixed_later [] xs = []
suffixed_later (s ∷ before) xs = argument_parts (out-Suffix s) xs

-- statements: each but the last one, and the last one of a block that ends with them
abbrev pub statement_nodes : Ty → Bool → List Stmt → List Node
statement_nodes t ends [] = []
statement_nodes t ends (stmt ∷ []) = Statement t ends stmt ∷ []
statement_nodes t ends (stmt ∷ next ∷ rest) = Statement t false stmt ∷ statement_nodes t ends (next ∷ rest)

abbrev pub braces : Ty → Bool → Block → Node
braces t ends block = Braces t ends (out-Block block).stmts (out-Block block).span

-- a block ends with an `if` only where it has an `else`
abbrev pub has_else : ElseLayer → Bool
has_else Else-F.Nothing = false
has_else (Else-F.ElseIf condition block otherwise span) = true
has_else (Else-F.ElseBlock block) = true

abbrev pub if_parts : Ty → Bool → Expr → Block → Else → List Node
if_parts t ends condition block otherwise = At (Some ty.Bool) condition ∷ braces t (ends && has_else (out-Else otherwise)) block ∷ Otherwise t ends otherwise ∷ []

abbrev pub otherwise_parts : Ty → Bool → ElseLayer → List Node
otherwise_parts t ends Else-F.Nothing = []
otherwise_parts t ends (Else-F.ElseIf condition block otherwise span) = if_parts t ends condition block otherwise
otherwise_parts t ends (Else-F.ElseBlock block) = braces t ends block ∷ []

-- the value of a block's last expression is wanted, and that of every other expression statement is dropped
abbrev pub expression_place : Ty → Bool → Ty
expression_place t true = t
expression_place t false = ty.Void

abbrev pub returned : Ty → Option Expr → List Node
returned t None = []
returned t (Some e) = At (Some t) e ∷ []

-- the right side of `=` has its place from the left one; that of another assignment is an operand
abbrev pub right_operand : AssignOp → Expr → List Node
right_operand assigns.Set right = []
right_operand _ right = At None right ∷ []

abbrev pub statement_parts : Ty → Bool → StmtLayer → List Node
statement_parts t ends (Stmt-F.If condition block otherwise span) = if_parts t ends condition block otherwise
statement_parts t ends (Stmt-F.Return value span) = returned t value
statement_parts t ends (Stmt-F.Empty span) = []
statement_parts t ends (Stmt-F.Expr e) = At (Some (expression_place t ends)) e ∷ []
statement_parts t ends (Stmt-F.Assign left op right span) = Assigned left ∷ right_operand op right

abbrev pub right_side : ScopeValue → AssignOp → Expr → List Judged → List Node
right_side s assigns.Set right (x ∷ xs) = At (assigned_place s (denoted x).meaning) right ∷ []
right_side s _ right xs = []

abbrev pub statement_later : ScopeValue → StmtLayer → List Judged → List Node
statement_later s (Stmt-F.Assign left op right span) xs = right_side s op right xs
statement_later s _ xs = []

-- the parts of a node
abbrev pub parts : Node → List Node
parts (At place e) = Denotes place e ∷ []
parts (Denotes place e) = form_parts place (out-Expr e)
parts (Suffixed e suffixes) = suffixed_parts e suffixes
parts (Chained e operands) = chained_parts e operands
parts (FieldName ident before) = []
parts (Assigned e) = Denotes None e ∷ []
parts (Body t stmts span) = Braces t true stmts span ∷ []
parts (Braces t ends stmts span) = statement_nodes t ends stmts
parts (Otherwise t ends otherwise) = otherwise_parts t ends (out-Else otherwise)
parts (Statement t ends stmt) = statement_parts t ends (out-Stmt stmt)

-- further parts, which are known once the first ones have come to something: arguments by what is called, a right side by what is assigned
abbrev pub later_parts : ScopeValue → Node → List Judged → List Node
later_parts s (Suffixed e suffixes) xs = suffixed_later suffixes xs
later_parts s (Statement t ends stmt) xs = statement_later s (out-Stmt stmt) xs
later_parts s _ xs = []
