use Rattle.std.proofs.Common.{◌≡◌, map, take}
use Rattle.expr_rules.specs.Paths.{all_in_turn, paths_of}
use Rattle.expr_rules.specs.PathsSeen.{seen}
use Rattle.expr_rules.proofs.paths.+paths.Given as goal

-- the paths through the statements so far
abbrev pub invariant-all_paths-loop-stmt : goal.invariant-all_paths-loop-stmt
invariant-all_paths-loop-stmt l = seen l.paths ≡ all_in_turn (map paths_of (take l.stmt-index l.stmts))
