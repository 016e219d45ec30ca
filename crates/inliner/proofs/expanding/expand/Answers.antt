use Rattle.std.specs.Prelude.{None, Some}
use Rattle.expanded_tree.specs.Limits.{size_faults}
use Rattle.inliner.proofs.Told.{told_first}
use Rattle.inliner.proofs.expanding.expand.Goals as goal

pub returns-in-Some : goal.returns-in-Some
returns-in-Some c = told_first (size_faults c.args.tree.now) (Some c.in-Some.fault) c.in-Some.ensures

pub expand_sound-requires-clause-sound : goal.expand_sound-requires-clause-sound
expand_sound-requires-clause-sound c = told_first (size_faults c.args.tree.now) None c.in-None.ensures
