use Rattle.std.proofs.Common.{refl}
use Rattle.property_cells.specs.declared.store.Store.{Store}
use Rattle.property_cells.proofs.AddHeld.{again_fits, held_again, adds_again}
use Rattle.property_cells.proofs.store.Store.add.Goals as goal

pub set_all-requires : goal.set_all-requires
set_all-requires c = let s = c.args.self.now in let n : Store = record s { blocks = c.take.new.self } in again_fits s n c.requires c.in-Some.first c.args.count c.in-Some.ensures.block

pub returns-clause-held : goal.returns-clause-held
returns-clause-held c =
    let s = c.args.self.now in let n : Store = record s { blocks = c.take.new.self; marks = c.set_all.new.self } in
    held_again s n c.requires c.in-Some.first c.args.count c.in-Some.ensures.block c.set_all.ensures refl refl refl refl c.in-Some.ensures.cells refl

pub returns-clause-ok : goal.returns-clause-ok
returns-clause-ok c =
    let s = c.args.self.now in let n : Store = record s { blocks = c.take.new.self; marks = c.set_all.new.self } in
    adds_again s n c.requires c.in-Some.first c.args.count c.in-Some.ensures.block c.set_all.ensures refl refl refl refl c.in-Some.ensures.cells refl (returns-clause-held c)
