use Rattle.property_cells.specs.Net.{Stands}
use Rattle.std.proofs.Common.{subst}
use Rattle.property_cells.proofs.Seen.{seen_inside}
use Rattle.property_cells.proofs.store.Store.note_read.Goals as goal

pub point_of-requires-clause-inside : goal.point_of-requires-clause-inside
point_of-requires-clause-inside c =
    seen_inside c.args.self.now c.requires.held c.args.on (λ e. subst Stands e c.requires.stands)
