use Rattle.std.proofs.Common.{refl, ◌∙◌, ap, length}
use Rattle.std.specs.Prelude.{slice_get}
use Rattle.source_outline.specs.Following.{with_kind, with_kinds}
use Rattle.source_outline.proofs.Pops.{kinds_turn, pop_ended}
use Rattle.source_outline.proofs.refilling.with_kinds.Goals as goal

pub loop-member-preserved : goal.loop-member-preserved
loop-member-preserved c = kinds_turn c.args.kinds.now c.in-Some.member c.in_ok-with_kind.field-0 c.loop-member.left c.pop.new.self c.loop-member.made c.push.new.self _
    c.in-Some.ensures (c.in_ok-with_kind.ensures ∙ ap (λ o. with_kind c.in-Some.member o) (c.at-kind.ensures ∙ ap (slice_get c.args.kinds.now) c.len.ensures)) c.in_ok-push.ensures.ok c.loop-member.invariant

pub returns : goal.returns
returns c = pop_ended (λ xs. with_kinds c.args.kinds.now (length c.loop-member.made) xs) c.loop-member.left c.loop-member.made _ refl c.in_default.ensures.0 c.loop-member.invariant
