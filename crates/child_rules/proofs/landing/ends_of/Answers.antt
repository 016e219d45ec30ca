use Rattle.std.specs.Prelude.{map, if◌then◌else◌, ◌==◌}
use Rattle.std.proofs.Common.{◌≡◌, refl, ◌+◌, ◌-◌, ◌%◌, length, ◌∙◌, ap, arith}
use Rattle.std.proofs.lemmas.List.{length-map}
use Rattle.child_rules.specs.Jumps.{jumped}
use Rattle.child_rules.proofs.TakerWalks.{leads_first, leads_last, leads_on}
use Rattle.child_rules.proofs.landing.ends_of.Goals as goal

pub loop-left-init : goal.loop-left-init
loop-left-init c =
    let many : length c.args.types.now ≡ length c.args.comps.now = ap length c.requires ∙ simp length-map in
    rw (c.in_ok-ends.ensures, c.in_ok-jumps.ensures) (leads_first c.args.comps.now c.args.types.now (1 + (length c.args.comps.now - 1)) c.saturating_sub-left.result c.requires
    (ap (λ n. 1 + n) c.saturating_sub-left.ensures ∙ ap (λ n. 1 + (n - 1)) many))

pub loop-left-preserved : goal.loop-left-preserved
loop-left-preserved c =
    leads_on c.args.comps.now (1 + (length c.args.comps.now - 1)) c.loop-left.ends c.loop-left.jumps c.in_ok-ends-2.ends c.in_ok-jumps-2.jumps c.loop-left.left (c.loop-left.left % 2 == 1) refl
    (c.in_ok-ends-2.ensures ∙ ap (λ jumps. if c.loop-left.left % 2 == 1 then map (jumped jumps) c.loop-left.ends else c.loop-left.ends) c.as_slice.ensures)
    (c.in_ok-jumps-2.ensures ∙ ap (λ jumps. map (jumped jumps) c.as_slice-in-loop-left.result.now) c.as_slice-in-loop-left-2.ensures ∙ ap (map (jumped c.loop-left.jumps)) c.as_slice-in-loop-left.ensures)
    c.loop-left.invariant

pub returns : goal.returns
returns c = leads_last c.args.comps.now (1 + (length c.args.comps.now - 1)) c.loop-left.ends c.loop-left.jumps c.loop-left.left (omega arith) c.loop-left.invariant
