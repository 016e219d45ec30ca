use Rattle.std.specs.Prelude.{slice_get}
use Rattle.std.proofs.Common.{◌∙◌, ap}
use Rattle.name_index.proofs.PlaceLists.{first_place}
use Rattle.name_index.proofs.index.NameIndex.first.Goals as goal

pub returns : goal.returns
returns c = c.copied.ensures ∙ c.first.ensures.value ∙ ap (λ places. slice_get places 0) c.places.ensures ∙ first_place c.args.name.now c.args.self.now
