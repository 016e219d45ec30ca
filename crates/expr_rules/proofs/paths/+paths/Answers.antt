use Rattle.std.proofs.Common.{sym, ◌∙◌, ap, map, take}
use Rattle.expr_rules.specs.Paths.{all_in_turn, in_turn, paths_of}
use Rattle.expr_rules.specs.PathsSeen.{seen}
use Rattle.expr_rules.proofs.PathLemmas.{next_paths}
use Rattle.expr_rules.proofs.paths.+paths.Goals as goal

pub all_paths-loop-stmt-preserved : goal.all_paths-loop-stmt-preserved
all_paths-loop-stmt-preserved t c =
    c.in_turn-paths.ensures ∙ ap (λ p. in_turn p (seen c.stmt_paths.result)) c.loop-stmt.invariant
    ∙ ap (in_turn (all_in_turn (map paths_of (take c.loop-stmt.stmt-index c.args.stmts.now)))) c.stmt_paths.ensures
    ∙ sym (next_paths c.args.stmts.now c.loop-stmt.stmt-index c.stmt-item.result c.loop-stmt-test.true c.stmt-item.is)
