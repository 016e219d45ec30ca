use Rattle.std.proofs.Common.{◌≡◌, ℕ, List, not, ◌==◌, length, sym, subst, arith}
use Rattle.std.specs.Prelude.{filter}
use Rattle.property_cells.specs.Marks.{EachInside}
use Rattle.property_cells.specs.Removing.{is_apart}
use Rattle.property_cells.proofs.PairLemmas.{EachInside-filter}
use Rattle.property_cells.proofs.BlockLoops.{UnlinksCells-none, UnlinksCells-more, UnlinksCells-inside}
use Rattle.property_cells.proofs.removing.unlink_cells.Goals as goal

pub loop-cell-init : goal.loop-cell-init
loop-cell-init c = UnlinksCells-none c.args.points.now.entries.items c.args.first c.args.deps.now

pub unlink_points-requires-clause-pairs : goal.unlink_points-requires-clause-pairs
unlink_points-requires-clause-pairs c =
    let es = c.args.points.now.entries.items in let now = c.loop-cell.deps in
    subst (λ (x : ℕ × List (ℕ × ℕ)). EachInside x.0 (length es) x.1) (λ i. (sym c.unlink_reader.ensures.ends.readers i, sym c.unlink_reader.ensures.pairs i))
    (EachInside-filter now.readers (length es) (λ x. not (x.0 == c.loop-cell.cell)) now.pairs (UnlinksCells-inside es c.args.first c.args.deps.now c.loop-cell.cell now c.requires.pairs c.loop-cell.invariant))

pub loop-cell-preserved : goal.loop-cell-preserved
loop-cell-preserved c =
    UnlinksCells-more c.args.points.now.entries.items c.args.first c.args.deps.now c.loop-cell.cell c.loop-cell.deps c.unlink_reader.new.self c.unlink_points.new.deps c.loop-cell.invariant (omega arith)
    c.unlink_reader.ensures.pairs c.unlink_reader.ensures.ends c.unlink_points.ensures.pairs c.unlink_points.ensures.ends

pub returns-clause-pairs : goal.returns-clause-pairs
returns-clause-pairs c =
    let e : c.loop-cell.cell ≡ c.args.past = omega arith in
    subst (λ k. c.loop-cell.deps.pairs ≡ filter (is_apart c.args.points.now.entries.items c.args.first k) c.args.deps.now.pairs) e c.loop-cell.invariant.same
