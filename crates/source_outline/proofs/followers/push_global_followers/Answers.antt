use Rattle.std.proofs.Common.{[], ◌++◌, ◌+◌, suc, refl, sym, ◌∙◌, ap, map, drop}
use Rattle.std.specs.Prelude.{slice_get}
use Rattle.std.specs.Option.{option_copied}
use Rattle.source_outline.specs.Following.{global_follower_at, global_followers}
use Rattle.source_outline.specs.Members.{in_front}
use Rattle.source_outline.proofs.Turns.{turn, ended, front}
use Rattle.source_outline.proofs.followers.push_global_followers.Goals as goal

pub loop-number-preserved : goal.loop-number-preserved
loop-number-preserved c = turn (λ n xs. global_followers c.args.names.now c.args.global c.args.members.now n (map option_copied xs)) (in_front (global_follower_at c.args.names.now c.args.global (option_copied c.index-links-number.result) (slice_get c.args.members.now c.loop-number.number)) []) c.args.links.now
    c.loop-number.number c.index-links-number.result c.loop-number.out c.push_if.new.out _
    (sym (front (global_follower_at c.args.names.now c.args.global (option_copied c.index-links-number.result) (slice_get c.args.members.now c.loop-number.number)) (global_followers c.args.names.now c.args.global c.args.members.now (suc c.loop-number.number) (map option_copied (drop (c.loop-number.number + 1) c.args.links.now))))) c.index-links-number.is c.loop-number-test.true
    (c.in_ok-push_if.ensures ∙ ap (λ m. c.loop-number.out ++ in_front m []) (c.in_ok-made.ensures ∙ ap (λ o. global_follower_at c.args.names.now c.args.global (option_copied c.index-links-number.result) o) c.at-member.ensures)) c.loop-number.invariant

pub returns : goal.returns
returns c = ended (λ n xs. global_followers c.args.names.now c.args.global c.args.members.now n (map option_copied xs)) c.args.links.now c.loop-number.number c.loop-number.out _ refl c.loop-number-test.false c.loop-number.invariant
