use Rattle.std.proofs.Common.{sym, ◌∙◌, ap}
use Rattle.expr_rules.specs.Paths.{Paths, all_in_turn}
use Rattle.expr_rules.proofs.PathLemmas.{each-map}
use Rattle.expr_rules.proofs.paths.gives_on_each.Goals as goal

pub returns : goal.returns
returns c = ap (λ (p : Paths). p.gives) (c.all_paths.ensures ∙ ap all_in_turn (sym (each-map c.args.stmts.now)))
