use Rattle.std.proofs.Common.{◌+◌, ◌*◌, max, take}
use Rattle.syntax_tree.specs.declared.statements.Block.{size-Block}
use Rattle.syntax_tree.specs.declared.statements.Else.{size-Else}
use Rattle.syntax_tree.specs.declared.statements.Stmt.{size-Stmt}
use Rattle.expr_types.specs.Nodes.{statement_nodes}
use Rattle.expr_types.specs.Verdicts.{Seen}
use Rattle.expr_types.proofs.blocks.+judging_blocks.Given as goal

-- what is seen so far
abbrev pub invariant-judge_braces-loop-number : goal.invariant-judge_braces-loop-number
invariant-judge_braces-loop-number l = Seen l.scope (take l.number (statement_nodes l.ty l.ends l.stmts)) l.seen

-- how deep what is judged is, and how far each function is from those that go deeper

abbrev pub decreases-judge_braces : goal.decreases-judge_braces
decreases-judge_braces l = 6 * goal.size-judge_braces l + 4

abbrev pub decreases-judge_statement : goal.decreases-judge_statement
decreases-judge_statement l = 6 * size-Stmt l.stmt.now + 3

abbrev pub decreases-see_statement : goal.decreases-see_statement
decreases-see_statement l = 6 * size-Stmt l.stmt.now + 2

abbrev pub decreases-see_if : goal.decreases-see_if
decreases-see_if l = 6 * max (size-Block l.block.now) (size-Else l.otherwise.now) + 6

abbrev pub decreases-judge_otherwise : goal.decreases-judge_otherwise
decreases-judge_otherwise l = 6 * size-Else l.otherwise.now + 5

abbrev pub decreases-see_otherwise : goal.decreases-see_otherwise
decreases-see_otherwise l = 6 * size-Else l.otherwise.now + 4

abbrev pub decreases-see_block : goal.decreases-see_block
decreases-see_block l = 6 * size-Block l.block.now + 5
