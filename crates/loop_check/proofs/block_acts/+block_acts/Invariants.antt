use Rattle.std.proofs.Common.{◌≡◌, ◌++◌, take}
use Rattle.std.specs.List.{flat_map}
use Rattle.loop_check.specs.Acts.{acts_in_stmt}
use Rattle.loop_check.proofs.block_acts.+block_acts.Given as goal

-- the acts so far
abbrev pub invariant-add_stmts-loop-stmt : goal.invariant-add_stmts-loop-stmt
invariant-add_stmts-loop-stmt l = l.acts ≡ l.initial.acts ++ flat_map acts_in_stmt (take l.stmt-index l.stmts)
