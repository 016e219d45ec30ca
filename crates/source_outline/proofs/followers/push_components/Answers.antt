use Rattle.std.proofs.Common.{◌++◌, refl, ◌∙◌, ap, map}
use Rattle.std.specs.Prelude.{slice_get}
use Rattle.source_scopes.specs.Shown.{shown_component}
use Rattle.typed_tree.specs.declared.outlines.Outline.{Outline}
use Rattle.source_outline.specs.Following.{followers_of_comp, followers_of_comps}
use Rattle.source_outline.proofs.Turns.{turn, ended}
use Rattle.source_outline.proofs.followers.push_components.Goals as goal

pub loop-number-preserved : goal.loop-number-preserved
loop-number-preserved c = turn (λ n xs. followers_of_comps c.args.names.now n (map shown_component xs)) (followers_of_comp c.args.names.now c.loop-number.number (shown_component c.index-components-number.result) (slice_get c.args.names.now.comps c.loop-number.number))
    c.args.components.now c.loop-number.number c.index-components-number.result c.loop-number.out c.push_component.new.out _ refl c.index-components-number.is c.loop-number-test.true
    (c.in_ok-push_component.ensures ∙ ap (λ o. c.loop-number.out ++ followers_of_comp c.args.names.now c.loop-number.number (shown_component c.index-components-number.result) o)
    (c.at.ensures ∙ ap (λ xs. slice_get xs c.loop-number.number) (c.as_slice-comps.ensures ∙ ap (λ (x : Outline). x.comps) c.outline.ensures))) c.loop-number.invariant

pub returns : goal.returns
returns c = ended (λ n xs. followers_of_comps c.args.names.now n (map shown_component xs)) c.args.components.now c.loop-number.number c.loop-number.out _ refl c.loop-number-test.false c.loop-number.invariant
