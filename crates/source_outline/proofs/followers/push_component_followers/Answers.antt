use Rattle.std.proofs.Common.{[], ◌++◌, ◌+◌, suc, refl, sym, ◌∙◌, ap, map, drop}
use Rattle.std.specs.Prelude.{slice_get}
use Rattle.std.specs.Option.{option_copied}
use Rattle.source_outline.specs.Following.{component_follower_at, component_followers}
use Rattle.source_outline.specs.Members.{in_front}
use Rattle.source_outline.proofs.Turns.{turn, ended, front}
use Rattle.source_outline.proofs.followers.push_component_followers.Goals as goal

pub loop-number-preserved : goal.loop-number-preserved
loop-number-preserved c = turn (λ n xs. component_followers c.args.names.now c.args.component c.args.outline.now n (map option_copied xs)) (in_front (component_follower_at c.args.names.now c.args.component c.args.outline.now.elements (option_copied c.index-links-number.result) (slice_get c.args.outline.now.members c.loop-number.number)) []) c.args.links.now
    c.loop-number.number c.index-links-number.result c.loop-number.out c.push_if.new.out _
    (sym (front (component_follower_at c.args.names.now c.args.component c.args.outline.now.elements (option_copied c.index-links-number.result) (slice_get c.args.outline.now.members c.loop-number.number)) (component_followers c.args.names.now c.args.component c.args.outline.now (suc c.loop-number.number) (map option_copied (drop (c.loop-number.number + 1) c.args.links.now))))) c.index-links-number.is c.loop-number-test.true
    (c.in_ok-push_if.ensures ∙ ap (λ m. c.loop-number.out ++ in_front m []) (c.in_ok-made.ensures
    ∙ ap (λ es. component_follower_at c.args.names.now c.args.component es (option_copied c.index-links-number.result) (option_copied c.at-member.result)) c.as_slice-elements.ensures
    ∙ ap (λ o. component_follower_at c.args.names.now c.args.component c.args.outline.now.elements (option_copied c.index-links-number.result) o) (c.at-member.ensures ∙ ap (λ ms. slice_get ms c.loop-number.number) c.as_slice-members.ensures))) c.loop-number.invariant

pub returns : goal.returns
returns c = ended (λ n xs. component_followers c.args.names.now c.args.component c.args.outline.now n (map option_copied xs)) c.args.links.now c.loop-number.number c.loop-number.out _ refl c.loop-number-test.false c.loop-number.invariant
