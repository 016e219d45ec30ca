use Rattle.std.proofs.Common.{◌≡◌, ◌∙◌, ap, drop, length, map}
use Rattle.source_outline.specs.Following.{next_by, starts_of}
use Rattle.source_outline.proofs.Turns.{map_turn, map_ended}
use Rattle.source_outline.proofs.numbers.nexts_of.Goals as goal

pub loop-follower-preserved : goal.loop-follower-preserved
loop-follower-preserved c = map_turn (next_by c.as_slice-comps.result.now c.dropped-globals.result.now (length c.args.followers.now)) c.args.followers.now c.loop-follower.follower-index c.follower-item.result c.number_found.result c.loop-follower.nexts c.push.new.self _ c.follower-item.is c.loop-follower-test.true c.number_found.ensures c.in_ok-push.ensures.ok c.loop-follower.invariant

pub returns : goal.returns
returns c =
    let starts : c.as_slice-comps.result.now ≡ starts_of c.args.outline.now = c.as_slice-comps.ensures ∙ c.in_ok-starts.ensures in
    map_ended (next_by c.as_slice-comps.result.now c.dropped-globals.result.now (length c.args.followers.now)) c.args.followers.now c.loop-follower.follower-index c.loop-follower.nexts _ c.loop-follower-test.false c.loop-follower.invariant
    ∙ ap (λ gs. map (next_by c.as_slice-comps.result.now gs (length c.args.followers.now)) c.args.followers.now) (c.dropped-globals.ensures ∙ ap (λ n. drop n c.as_slice-comps.result.now) c.len.ensures)
    ∙ ap (λ ss. map (next_by ss (drop (length c.args.outline.now.comps) ss) (length c.args.followers.now)) c.args.followers.now) starts
