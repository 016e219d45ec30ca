use Rattle.std.proofs.Common.{ap, ◌∙◌}
use Rattle.child_rules.specs.Ends.{known_at}
use Rattle.child_rules.proofs.KnownEnds.{nothing_more}
use Rattle.child_rules.proofs.ends.nothing_known.Goals as goal

pub loop-preserved : goal.loop-preserved
loop-preserved c = λ k. ap (λ known. known_at known k) c.in_ok-push.ensures.ok ∙ nothing_more c.loop.known c.loop.invariant k
