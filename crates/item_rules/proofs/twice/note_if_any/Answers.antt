use Rattle.std.proofs.Common.{ap}
use Rattle.std.specs.Option.{option_copied}
use Rattle.item_rules.proofs.Turns.{noted}
use Rattle.item_rules.proofs.twice.note_if_any.Goals as goal

pub returns-in-Some : goal.returns-in-Some
returns-in-Some c = noted c.note.result _ _ _ _ (ap option_copied c.in-Some.is) c.note.ensures.fault c.note.ensures.names
