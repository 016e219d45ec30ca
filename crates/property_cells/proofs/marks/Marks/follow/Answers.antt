use Rattle.std.proofs.Common.{◌≤◌, length, sym, ◌∙◌, subst}
use Rattle.property_cells.specs.Marks.{pending, state_at, EachInside}
use Rattle.property_cells.proofs.HitsLoop.{length_marked, unmaking_begun, unmade}
use Rattle.property_cells.proofs.Naming.{IsNet-named, Unmakes-named}
use Rattle.property_cells.specs.Changed.{Changed}
use Rattle.property_cells.proofs.marks.Marks.follow.Goals as goal

pub unmake-requires-clause-cells : goal.unmake-requires-clause-cells
unmake-requires-clause-cells c =
    let k = c.args.change.now in
    subst (λ n. n ≤ length c.args.points.now.lasts.items) (sym (length_marked c.args.deps.now.pairs c.args.points.now.entries.items c.args.cell (Changed k) (pending c.args.self.now) (pending c.mark_hits.new.self) c.mark_hits.ensures c.requires.readers)) c.requires.cells

pub unmake-requires-clause-readers : goal.unmake-requires-clause-readers
unmake-requires-clause-readers c =
    let k = c.args.change.now in
    subst (λ n. EachInside n (length c.args.points.now.entries.items) c.args.deps.now.pairs)
    (sym (length_marked c.args.deps.now.pairs c.args.points.now.entries.items c.args.cell (Changed k) (pending c.args.self.now) (pending c.mark_hits.new.self) c.mark_hits.ensures c.requires.readers)) c.requires.readers

pub unmake-requires-clause-begun : goal.unmake-requires-clause-begun
unmake-requires-clause-begun c =
    let k = c.args.change.now in (
      c.mark_hits.ensures.hits,
      state_at c.args.self.now.cells.items,
      unmaking_begun c.args.deps.now.pairs c.args.points.now.entries.items c.args.cell (Changed k) (pending c.args.self.now) (pending c.mark_hits.new.self) c.mark_hits.ensures c.requires.readers c.requires.none,
    )

pub returns-clause-unmade : goal.returns-clause-unmade
returns-clause-unmade c =
    let k = c.args.change.now in let pairs = c.args.deps.now.pairs in let es = c.args.points.now.entries.items in let m = pending c.args.self.now in let n = pending c.mark_hits.new.self in let cell = c.args.cell in
    let net = IsNet-named es pairs cell (Changed k) (state_at m.cells) c.requires.net in
    Unmakes-named es pairs cell (Changed k) (state_at m.cells) (state_at c.unmake.new.self.cells.items)
    (unmade pairs es cell (Changed k) m n c.mark_hits.ensures c.requires.readers (pending c.unmake.new.self)
    (c.unmake.ensures.reached c.mark_hits.ensures.hits (state_at m.cells) (unmaking_begun pairs es cell (Changed k) m n c.mark_hits.ensures c.requires.readers c.requires.none))
    c.unmake.ensures.all net)

pub returns-clause-cells : goal.returns-clause-cells
returns-clause-cells c =
    let k = c.args.change.now in
    c.unmake.ensures.cells ∙ length_marked c.args.deps.now.pairs c.args.points.now.entries.items c.args.cell (Changed k) (pending c.args.self.now) (pending c.mark_hits.new.self) c.mark_hits.ensures c.requires.readers
