-- One level of suffixes and statements.
use Rattle.syntax_tree.specs.declared.expressions.Expr.{Expr}
use Rattle.syntax_tree.specs.declared.expressions.Expr.TheOpen.{Suffix-F}
use Rattle.syntax_tree.specs.declared.expressions.FieldValue.{FieldValue}
use Rattle.syntax_tree.specs.declared.expressions.Hole.{Hole}
use Rattle.syntax_tree.specs.declared.expressions.Operand.{Operand}
use Rattle.syntax_tree.specs.declared.expressions.Suffix.{Suffix}
use Rattle.syntax_tree.specs.declared.statements.Block.{Block}
use Rattle.syntax_tree.specs.declared.statements.Else.{Else}
use Rattle.syntax_tree.specs.declared.statements.Else.TheOpen.{Else-F, Stmt-F}
use Rattle.syntax_tree.specs.declared.statements.Stmt.{Stmt}

abbrev pub SuffixLayer : Type 0
SuffixLayer = Suffix-F Expr Suffix FieldValue Hole Operand

abbrev pub ElseLayer : Type 0
ElseLayer = Else-F Else Stmt Block

abbrev pub StmtLayer : Type 0
StmtLayer = Stmt-F Else Stmt Block
