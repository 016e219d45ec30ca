use Rattle.std.proofs.Common.{◌++◌, refl, ◌∙◌, ap, map}
use Rattle.std.specs.Prelude.{slice_get}
use Rattle.source_scopes.specs.Shown.{shown_global}
use Rattle.typed_tree.specs.declared.outlines.Outline.{Outline}
use Rattle.source_outline.specs.Following.{followers_of_global, followers_of_globals}
use Rattle.source_outline.proofs.Turns.{turn, ended}
use Rattle.source_outline.proofs.followers.push_globals.Goals as goal

pub loop-number-preserved : goal.loop-number-preserved
loop-number-preserved c = turn (λ n xs. followers_of_globals c.args.names.now n (map shown_global xs)) (followers_of_global c.args.names.now c.loop-number.number (shown_global c.index-globals-number.result) (slice_get c.args.names.now.globals c.loop-number.number))
    c.args.globals.now c.loop-number.number c.index-globals-number.result c.loop-number.out c.push_global.new.out _ refl c.index-globals-number.is c.loop-number-test.true
    (c.in_ok-push_global.ensures ∙ ap (λ o. c.loop-number.out ++ followers_of_global c.args.names.now c.loop-number.number (shown_global c.index-globals-number.result) o)
    (c.at.ensures ∙ ap (λ xs. slice_get xs c.loop-number.number) (c.as_slice-outlines.ensures ∙ ap (λ (x : Outline). x.globals) c.outline.ensures))) c.loop-number.invariant

pub returns : goal.returns
returns c = ended (λ n xs. followers_of_globals c.args.names.now n (map shown_global xs)) c.args.globals.now c.loop-number.number c.loop-number.out _ refl c.loop-number-test.false c.loop-number.invariant
