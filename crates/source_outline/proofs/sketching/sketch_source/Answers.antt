use Rattle.std.proofs.Common.{◌≡◌, Some, None, ◌∙◌, ap, subst}
use Rattle.fault_order.specs.Order.{FirstIfAny}
use Rattle.source_outline.specs.Following.{EndlessIn, followers_in, kinds_of, nexts_of, refilled}
use Rattle.source_outline.specs.Outlines.{rough_outline}
use Rattle.source_outline.proofs.Endless.{of_source, whole_is}
use Rattle.source_outline.proofs.sketching.sketch_source.Goals as goal

pub returns-in-Some : goal.returns-in-Some
returns-in-Some c =
    of_source c.args.scopes.now c.in_ok-names.names c.as_slice-followers.result.now c.as_slice-nexts.result.now (Some c.in-Some.fault)
    (c.in_ok-names.ensures ∙ c.in_ok-rough.ensures)
    (c.as_slice-followers.ensures ∙ c.in_ok-followers.ensures)
    (c.as_slice-nexts.ensures ∙ c.in_ok-nexts.ensures ∙ ap (λ r. nexts_of r c.as_slice-followers.result.now) c.outline.ensures)
    (subst (λ o. FirstIfAny (EndlessIn c.as_slice-followers.result.now c.as_slice-nexts.result.now) o) c.in-Some.is c.in_ok-fault.ensures)

pub returns-in_ok-outline-in-None : goal.returns-in_ok-outline-in-None
returns-in_ok-outline-in-None c =
    let rough : c.in_ok-names.names ≡ rough_outline c.args.scopes.now = c.in_ok-names.ensures ∙ c.in_ok-rough.ensures in
    let xs : c.as_slice-followers.result.now ≡ followers_in c.in_ok-names.names c.args.scopes.now = c.as_slice-followers.ensures ∙ c.in_ok-followers.ensures in
    let nexts : c.as_slice-nexts.result.now ≡ nexts_of c.in_ok-names.names c.as_slice-followers.result.now =
    c.as_slice-nexts.ensures ∙ c.in_ok-nexts.ensures ∙ ap (λ r. nexts_of r c.as_slice-followers.result.now) c.outline.ensures in (
      whole_is c.args.scopes.now c.in_ok-names.names c.in_ok-outline-in-None.outline c.as_slice-followers.result.now c.as_slice-nexts.result.now rough xs nexts
          (c.in_ok-outline-in-None.ensures ∙ ap (λ r. refilled (kinds_of c.as_slice-followers.result.now c.as_slice-nexts.result.now) r) c.into_outline.ensures),
      of_source c.args.scopes.now c.in_ok-names.names c.as_slice-followers.result.now c.as_slice-nexts.result.now None rough xs nexts
          (subst (λ o. FirstIfAny (EndlessIn c.as_slice-followers.result.now c.as_slice-nexts.result.now) o) c.in-None.is c.in_ok-fault.ensures),
    )
