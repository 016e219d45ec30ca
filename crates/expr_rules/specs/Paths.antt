-- Which blocks end with a value on each path through them.
use Rattle.std.specs.Prelude.{Bool, true, false, ◌&&◌, ◌||◌, not, List, [], ◌∷◌, Option, Some, None}
use Rattle.syntax_tree.specs.declared.expressions.Expr.{Expr}
use Rattle.syntax_tree.specs.declared.statements.Else.TheOpen.{Else-F, Stmt-F, Block-F}
use Rattle.syntax_tree.specs.declared.statements.Stmt.{Stmt, fold-Stmt}

-- the paths through a part of a block: each ends with a value, if the block ends with this part; each ends in a `return` inside; one of them ends in a `return` without a value
pub record Paths : Type 0 where
  pub gives : Bool
  pub returns : Bool
  pub bare : Bool

-- a path that goes on behind, without a value
abbrev pub goes_on : Paths
goes_on = record { gives = false; returns = false; bare = false }

-- one part behind another: what stands behind a `return` on all paths is on no path
abbrev pub in_turn : Paths → Paths → Paths
in_turn p q = record { gives = not p.bare && (p.returns || q.gives); returns = p.returns || q.returns; bare = p.bare || (not p.returns && q.bare) }

-- statements in order; the block ends with the last one
abbrev pub all_in_turn : List Paths → Paths
all_in_turn [] = goes_on
all_in_turn (p ∷ []) = p
all_in_turn (p ∷ q ∷ rest) = in_turn p (all_in_turn (q ∷ rest))

-- one of two parts
abbrev pub either : Paths → Paths → Paths
either p q = record { gives = p.gives && q.gives; returns = p.returns && q.returns; bare = p.bare || q.bare }

abbrev pub return_paths : Option Expr → Paths
return_paths None = record { gives = false; returns = true; bare = true }
return_paths (Some e) = record { gives = true; returns = true; bare = false }

-- without an `else` a path goes on behind
abbrev pub else_paths : Else-F Paths Paths Paths → Paths
else_paths Else-F.Nothing = goes_on
else_paths (Else-F.ElseIf condition block otherwise span) = either block otherwise
else_paths (Else-F.ElseBlock block) = block

-- an expression gives its value where the block ends with it
abbrev pub stmt_paths : Stmt-F Paths Paths Paths → Paths
stmt_paths (Stmt-F.If condition block otherwise span) = either block otherwise
stmt_paths (Stmt-F.Return value span) = return_paths value
stmt_paths (Stmt-F.Empty span) = goes_on
stmt_paths (Stmt-F.Expr e) = record { gives = true; returns = false; bare = false }
stmt_paths (Stmt-F.Assign left op right span) = goes_on

abbrev pub block_paths : Block-F Paths Paths Paths → Paths
block_paths b = all_in_turn b.stmts

abbrev pub paths_of : Stmt → Paths
paths_of = fold-Stmt Paths Paths Paths else_paths stmt_paths block_paths

abbrev pub each_paths : List Stmt → List Paths
each_paths [] = []
each_paths (s ∷ ss) = paths_of s ∷ each_paths ss

-- the statements of a block end with a value on each path
abbrev pub gives_on_each : List Stmt → Bool
gives_on_each stmts = (all_in_turn (each_paths stmts)).gives
