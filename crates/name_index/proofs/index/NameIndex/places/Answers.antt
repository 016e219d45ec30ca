use Rattle.std.proofs.Common.{◌∙◌, ap}
use Rattle.name_index.specs.Places.{places_of}
use Rattle.name_index.proofs.index.NameIndex.places.Goals as goal

pub returns : goal.returns
returns c = c.numbers_of.ensures ∙ c.self.invariant c.args.name.now ∙ ap (places_of c.args.name.now) c.self.view_is
