use Rattle.alias_merge.proofs.Housing.{are_homes}
use Rattle.alias_merge.proofs.laws.homes_are_of_classes.Goals as goal

pub returns : goal.returns
returns c = are_homes
