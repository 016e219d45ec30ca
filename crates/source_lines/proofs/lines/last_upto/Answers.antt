use Rattle.std.proofs.Common.{◌∙◌, sym, ap}
use Rattle.std.proofs.lemmas.List.{drop_all}
use Rattle.source_lines.specs.Starts.{last_upto as last_of}
use Rattle.source_lines.proofs.Starting.{last_upto_step, last_upto_stop}
use Rattle.source_lines.proofs.lines.last_upto.Goals as goal

pub returns-then-start-at-clause-value : goal.returns-then-start-at-clause-value
returns-then-start-at-clause-value c =
    sym (last_upto_stop c.loop-start.found c.loop-start.start-index c.args.at c.args.starts.now c.loop-start-test.true c.if-start-at.true) ∙ sym c.loop-start.invariant.0

pub loop-start-preserved : goal.loop-start-preserved
loop-start-preserved c =
    (c.loop-start.invariant.0 ∙ last_upto_step c.loop-start.found c.loop-start.start-index c.args.at c.args.starts.now c.loop-start-test.true c.if-start-at.false, c.if-start-at.false)

pub returns-clause-value : goal.returns-clause-value
returns-clause-value c =
    sym (c.loop-start.invariant.0 ∙ ap (λ left. last_of c.loop-start.found left c.args.at) (drop_all c.loop-start.start-index c.args.starts.now c.loop-start-test.false))
