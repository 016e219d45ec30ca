use Rattle.std.proofs.Common.{◌+◌, ◌-◌, ◌*◌, length}
use Rattle.slint_parser.proofs.ChosenStatements.{BegunStmts}
use Rattle.slint_parser.proofs.statements.+statements.Given as goal

abbrev pub decreases-block : goal.decreases-block
decreases-block l = (102 - l.depth) * 7 + 6

abbrev pub decreases-statements : goal.decreases-statements
decreases-statements l = (102 - l.depth) * 7 + 5

abbrev pub decreases-statement : goal.decreases-statement
decreases-statement l = (102 - l.depth) * 7 + 4

abbrev pub decreases-if_parts : goal.decreases-if_parts
decreases-if_parts l = (102 - l.depth) * 7 + 3

abbrev pub decreases-may_else : goal.decreases-may_else
decreases-may_else l = (102 - l.depth) * 7 + 2

abbrev pub decreases-an_else : goal.decreases-an_else
decreases-an_else l = (102 - l.depth) * 7 + 1

abbrev pub decreases-else_if : goal.decreases-else_if
decreases-else_if l = (102 - l.depth) * 7

abbrev pub decreases-else_block : goal.decreases-else_block
decreases-else_block l = (102 - l.depth) * 7

abbrev pub invariant-statements-turns : goal.invariant-statements-turns
invariant-statements-turns l = BegunStmts l.behind_if l.depth l.fn.cursor l.cursor l.all

abbrev pub decreases-statements-turns : goal.decreases-statements-turns
decreases-statements-turns l = length l.cursor
