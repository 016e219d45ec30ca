use Rattle.std.proofs.Common.{refl, arith}
use Rattle.property_cells.proofs.RunHeld.{ended_inside, held_ended, seen_ended}
use Rattle.property_cells.proofs.store.Store.end_run.Goals as goal

pub index_mut-requires : goal.index_mut-requires
index_mut-requires c =
    let s = c.args.self.now in let h = ended_inside s s c.requires.held c.args.cell c.args.value c.requires.innermost.0 c.requires.innermost.1 in let r = c.requires.held.room.values in let l = s.values.ok.0 in omega (arith, h, r, l)

pub set-requires : goal.set-requires
set-requires c = let s = c.args.self.now in ended_inside s s c.requires.held c.args.cell c.args.value c.requires.innermost.0 c.requires.innermost.1

pub returns-clause-held : goal.returns-clause-held
returns-clause-held c =
    held_ended c.args.self.now _ c.requires.held c.args.cell c.args.value c.requires.innermost.0 c.requires.innermost.1 refl c.set.ensures refl c.end.ensures.cells c.end.ensures.list refl refl

pub returns-clause-seen : goal.returns-clause-seen
returns-clause-seen c =
    seen_ended c.args.self.now _ c.requires.held c.args.cell c.args.value c.requires.innermost.0 c.requires.innermost.1 refl c.set.ensures refl c.end.ensures.cells c.end.ensures.list refl refl (returns-clause-held c) c.saturating_add-self.ensures
