use Rattle.std.proofs.Common.{refl, arith}
use Rattle.property_cells.specs.declared.store.Store.{Store}
use Rattle.property_cells.proofs.RunHeld.{begun_inside, begun_new, begun_room, held_begun, seen_begun}
use Rattle.property_cells.proofs.store.Store.begin_run.Goals as goal

pub unlink_reader-requires : goal.unlink_reader-requires
unlink_reader-requires c =
    let s = c.args.self.now in let h = begun_inside s s c.requires.held c.args.cell c.requires.invalid in let r = c.requires.held.room.readers in omega (arith, h, r)

pub set-requires : goal.set-requires
set-requires c = let s = c.args.self.now in begun_inside s s c.requires.held c.args.cell c.requires.invalid

pub begin-requires-clause-inside : goal.begin-requires-clause-inside
begin-requires-clause-inside c =
    let s = c.args.self.now in let h = begun_inside s s c.requires.held c.args.cell c.requires.invalid in let r = c.requires.held.room.running in omega (arith, h, r)

pub begin-requires-clause-free : goal.begin-requires-clause-free
begin-requires-clause-free c = let s = c.args.self.now in begun_new s s c.requires.held c.args.cell c.requires.invalid

pub begin-requires-clause-room : goal.begin-requires-clause-room
begin-requires-clause-room c = let s = c.args.self.now in begun_room s s c.requires.held c.args.cell c.requires.invalid

pub returns-clause-held : goal.returns-clause-held
returns-clause-held c =
    held_begun c.args.self.now _ c.requires.held c.args.cell c.requires.invalid c.unlink_reader.ensures.pairs c.unlink_reader.ensures.ends c.set.ensures refl c.begin.ensures.cells c.begin.ensures.list refl refl

pub returns-clause-seen : goal.returns-clause-seen
returns-clause-seen c =
    let n : Store = record c.args.self.now { deps = c.unlink_reader.new.self; marks = c.set.new.self; running = c.begin.new.self } in
    seen_begun c.args.self.now n c.requires.held c.args.cell c.requires.invalid c.unlink_reader.ensures.pairs c.unlink_reader.ensures.ends c.set.ensures refl c.begin.ensures.cells c.begin.ensures.list refl refl refl
