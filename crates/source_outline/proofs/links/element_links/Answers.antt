use Rattle.std.proofs.Common.{refl, ◌∙◌, ap, ◌++◌, map}
use Rattle.std.specs.Option.{option_copied}
use Rattle.source_outline.specs.Members.{body_links, element_links}
use Rattle.source_outline.proofs.Turns.{turn, ended}
use Rattle.source_outline.proofs.links.element_links.Goals as goal

pub loop-one-preserved : goal.loop-one-preserved
loop-one-preserved c = turn (λ _ xs. element_links xs) (body_links c.one-item.result.body) c.args.written.now c.loop-one.one-index c.one-item.result (map option_copied c.loop-one.made) (map option_copied c.push_links.new.out) _
    refl c.one-item.is c.loop-one-test.true (c.in_ok-push_links.ensures ∙ ap (λ xs. map option_copied c.loop-one.made ++ body_links xs) c.body.ensures) c.loop-one.invariant

pub returns : goal.returns
returns c = ended (λ _ xs. element_links xs) c.args.written.now c.loop-one.one-index (map option_copied c.loop-one.made) _ refl c.loop-one-test.false c.loop-one.invariant
