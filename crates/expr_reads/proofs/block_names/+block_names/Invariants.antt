use Rattle.std.proofs.Common.{◌≡◌, ◌++◌, take}
use Rattle.std.specs.List.{flat_map}
use Rattle.expr_reads.specs.Names.{named_stmt}
use Rattle.expr_reads.proofs.block_names.+block_names.Given as goal

-- the names so far
abbrev pub invariant-add_stmts-loop-stmt : goal.invariant-add_stmts-loop-stmt
invariant-add_stmts-loop-stmt l = l.found ≡ l.initial.found ++ flat_map named_stmt (take l.stmt-index l.stmts)
