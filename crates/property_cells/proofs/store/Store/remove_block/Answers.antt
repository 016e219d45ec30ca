use Rattle.std.proofs.Common.{◌≡◌, ◌+◌, ◌<◌, List, Option, length, refl, sym, ap, arith}
use Rattle.property_cells.specs.declared.store.Store.{Store}
use Rattle.std.specs.Vec.{with_items}
use Rattle.value_types.specs.declared.values.Value.{Value}
use Rattle.property_cells.specs.Hits.{named}
use Rattle.property_cells.proofs.PairLemmas.{EachInside-more}
use Rattle.property_cells.proofs.BlockLoops.{outside_all, AreDropped-table}
use Rattle.property_cells.proofs.BlockHeld.{fits, block_new, held_removed, removes}
use Rattle.property_cells.proofs.store.Store.remove_block.Goals as goal

pub returns-then-count-eq0-clause-removes : goal.returns-then-count-eq0-clause-removes
returns-then-count-eq0-clause-removes c =
    let s = c.args.self.now in let e = c.if-count-eq0.true in
    record {
      gone = λ d a b. absurd (omega arith);
      others = λ d o. refl;
      count = refl;
      pairs = sym (outside_all c.args.first (c.args.first + c.args.count) (named s.points.entries.items s.deps.pairs) (omega (arith, e)));
      running = refl;
      runs = refl;
    }

pub overflow_add-first : goal.overflow_add-first
overflow_add-first c =
    let s = c.args.self.now in let f = fits s c.requires.held c.args.first c.args.count (omega (arith, c.if-count-eq0.false)) c.requires.live in
    let l = s.marks.cells.ok in let m = s.marks.cells.small in omega (arith, f, l.0, l.1, m)

pub unlink_cells-requires-clause-inside : goal.unlink_cells-requires-clause-inside
unlink_cells-requires-clause-inside c =
    let s = c.args.self.now in let f = fits s c.requires.held c.args.first c.args.count (omega (arith, c.if-count-eq0.false)) c.requires.live in let r = c.requires.held.room.lasts in omega (arith, f, r)

pub unlink_cells-requires-clause-readers : goal.unlink_cells-requires-clause-readers
unlink_cells-requires-clause-readers c =
    let s = c.args.self.now in let f = fits s c.requires.held c.args.first c.args.count (omega (arith, c.if-count-eq0.false)) c.requires.live in let r = c.requires.held.room.readers in omega (arith, f, r)

pub unlink_cells-requires-clause-pairs : goal.unlink_cells-requires-clause-pairs
unlink_cells-requires-clause-pairs c =
    let s = c.args.self.now in
    EachInside-more (length s.marks.cells.items) s.deps.readers (length s.points.entries.items) (length s.points.entries.items) s.deps.pairs c.requires.held.room.readers (omega arith) c.requires.held.inside

pub overflow_add-first-2 : goal.overflow_add-first-2
overflow_add-first-2 c =
    let s = c.args.self.now in let f = fits s c.requires.held c.args.first c.args.count (omega (arith, c.if-count-eq0.false)) c.requires.live in
    let l = s.marks.cells.ok in let m = s.marks.cells.small in omega (arith, f, l.0, l.1, m)

pub drop_values-requires-clause-inside : goal.drop_values-requires-clause-inside
drop_values-requires-clause-inside c =
    let s = c.args.self.now in let f = fits s c.requires.held c.args.first c.args.count (omega (arith, c.if-count-eq0.false)) c.requires.live in let r = c.requires.held.room.values in
    let e : length c.deref_mut.result.now ≡ length s.values.items = ap (λ (l : List (Option Value)). length l) c.deref_mut.ensures.value in omega (arith, f, r, e)

pub set_all-requires : goal.set_all-requires
set_all-requires c = let s = c.args.self.now in fits s c.requires.held c.args.first c.args.count (omega (arith, c.if-count-eq0.false)) c.requires.live

pub give-requires-clause-inside : goal.give-requires-clause-inside
give-requires-clause-inside c =
    let s = c.args.self.now in let f = fits s c.requires.held c.args.first c.args.count (omega (arith, c.if-count-eq0.false)) c.requires.live in let r = c.requires.held.room.blocks in omega (arith, f, r)

pub give-requires-clause-new : goal.give-requires-clause-new
give-requires-clause-new c = let s = c.args.self.now in block_new s c.requires.held c.args.first c.args.count (omega (arith, c.if-count-eq0.false)) c.requires.live

pub returns-clause-held : goal.returns-clause-held
returns-clause-held c =
    let s = c.args.self.now in let some : 0 < c.args.count = omega (arith, c.if-count-eq0.false) in
    let n : Store = record s { deps = c.unlink_cells.new.deps; marks = c.set_all.new.self; values = with_items s.values c.drop_values.new.values; blocks = c.give.new.self } in
    held_removed s c.requires.held c.args.first c.args.count some c.requires.live n c.requires.idle c.unlink_cells.ensures.pairs c.unlink_cells.ensures.ends
    (AreDropped-table s.values.items c.deref_mut.result.now c.drop_values.new.values s.values.len c.args.first (c.args.first + c.args.count) s.values.ok.0 c.deref_mut.ensures.value c.drop_values.ensures) c.set_all.ensures refl refl c.give.ensures.cells c.give.ensures.block

pub returns-clause-removes : goal.returns-clause-removes
returns-clause-removes c =
    let s = c.args.self.now in let some : 0 < c.args.count = omega (arith, c.if-count-eq0.false) in
    let n : Store = record s { deps = c.unlink_cells.new.deps; marks = c.set_all.new.self; values = with_items s.values c.drop_values.new.values; blocks = c.give.new.self } in
    removes s c.requires.held c.args.first c.args.count some c.requires.live n c.requires.idle c.unlink_cells.ensures.pairs c.unlink_cells.ensures.ends
    (AreDropped-table s.values.items c.deref_mut.result.now c.drop_values.new.values s.values.len c.args.first (c.args.first + c.args.count) s.values.ok.0 c.deref_mut.ensures.value c.drop_values.ensures) c.set_all.ensures refl refl c.give.ensures.cells c.give.ensures.block
    (returns-clause-held c) refl
