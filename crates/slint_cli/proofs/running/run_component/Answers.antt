use Rattle.std.proofs.Common.{arith, ap, ◌∙◌}
use Rattle.slint_meaning.specs.Runs.{run_script}
use Rattle.slint_cli.proofs.ScriptTaken.{ran_taken}
use Rattle.slint_cli.proofs.running.run_component.Goals as goal

pub returns-clause-ran : goal.returns-clause-ran
returns-clause-ran g c =
    ran_taken c.args.component (g.S.Source.left c.args.script.now) (g.S.Source.left c.take_up_to.new.source) c.in_ok-text.text.items _ c.in_ok-text.ensures.taken
    (λ short. c.in_ok-text.ensures.ended (omega (arith, c.in_ok-text.text.ok.0)))
    (c.in_ok-outcome.ensures.ran ∙ ap (run_script c.args.component) c.deref.ensures.value)
