use Rattle.std.proofs.Common.{[], ◌∷◌, ◌++◌, refl, ◌∙◌, ap}
use Rattle.std.specs.Prelude.{slice_get}
use Rattle.source_outline.specs.Following.{kind_by, kinds_from}
use Rattle.source_outline.proofs.Turns.{turn, ended}
use Rattle.source_outline.proofs.kinds.kinds_from.Goals as goal

pub loop-number-preserved : goal.loop-number-preserved
loop-number-preserved c = turn (λ n xs. kinds_from c.args.followers.now c.args.ends.now n xs) (kind_by c.args.followers.now (slice_get c.args.ends.now c.loop-number.number) c.index-followers-number.result ∷ []) c.args.followers.now
    c.loop-number.number c.index-followers-number.result c.loop-number.kinds c.push.new.self _ refl c.index-followers-number.is c.loop-number-test.true
    (c.in_ok-push.ensures.ok ∙ ap (λ k. c.loop-number.kinds ++ k ∷ []) (c.in_ok-kind_by.ensures ∙ ap (λ o. kind_by c.args.followers.now o c.index-followers-number.result) (c.copied-end.ensures ∙ c.at.ensures))) c.loop-number.invariant

pub returns : goal.returns
returns c = ended (λ n xs. kinds_from c.args.followers.now c.args.ends.now n xs) c.args.followers.now c.loop-number.number c.loop-number.kinds _ refl c.loop-number-test.false c.loop-number.invariant
