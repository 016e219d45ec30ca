use Rattle.std.proofs.Common.{List, ℕ, ◌++◌}
use Rattle.std.specs.Io.KnownBytes.{Consumes}
use Rattle.std.proofs.KnownBytes.{Consumes-trans}
use Rattle.io_edge.proofs.Told.{OnErr-always}
use Rattle.io_edge.proofs.whole.take_up_to.Goals as goal

pub returns-in_err-take_piece-clause-taken_before :
    goal.returns-in_err-take_piece-clause-taken_before
returns-in_err-take_piece-clause-taken_before g c =
    let left = g.S.Source.left in
    let last = c.in_err-take_piece.ensures.taken_before in
    let all : (bs : List ℕ) × Consumes (left c.args.source.now) (left c.take_piece.new.source) bs
    = (c.loop-source.taken.items ++ last.0, Consumes-trans _ _ _ _ _ c.loop-source.invariant.taken last.1) in
    OnErr-always _ all
