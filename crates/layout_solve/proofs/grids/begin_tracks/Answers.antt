use Rattle.std.proofs.Common.{◌≡◌, cond, length, ap, ◌∙◌, arith}
use Rattle.std.specs.List.{fold, list_any}
use Rattle.layout_solve.specs.Tracks.{loose_track, least_track, greatest_item, is_alone, reaches, items_alone}
use Rattle.layout_solve.proofs.FirstTracks.{first_tracks-are, marked-are}
use Rattle.layout_solve.proofs.grids.begin_tracks.Goals as goal

pub raise_alone-requires-clause-tracks : goal.raise_alone-requires-clause-tracks
raise_alone-requires-clause-tracks c =
    marked-are c.args.cells.now c.begin_alone.new.tracks (λ t.
    c.begin_alone.ensures.least t
    ∙ ap (cond (list_any (is_alone t) c.args.cells.now) least_track) (c.loosen_reached.ensures.loose t ∙ ap (cond (list_any (reaches t) c.args.cells.now) loose_track) (c.clear.ensures.empty t)))

pub returns-clause-tracks : goal.returns-clause-tracks
returns-clause-tracks c =
    let long : length c.raise_alone.new.tracks ≡ length c.args.tracks.now = omega (arith, c.raise_alone.ensures.length, c.begin_alone.ensures.length, c.loosen_reached.ensures.length, c.clear.ensures.length) in
    first_tracks-are c.args.cells.now c.raise_alone.new.tracks (length c.args.tracks.now) long c.requires (λ t.
    c.raise_alone.ensures.raised t
    ∙ ap (λ a. fold greatest_item a (items_alone t c.args.cells.now))
    (c.begin_alone.ensures.least t
    ∙ ap (cond (list_any (is_alone t) c.args.cells.now) least_track) (c.loosen_reached.ensures.loose t ∙ ap (cond (list_any (reaches t) c.args.cells.now) loose_track) (c.clear.ensures.empty t))))
