use Rattle.std.specs.Option.{is_some}
use Rattle.std.specs.Str.{bytes_eq}
use Rattle.std.proofs.Common.{◌∙◌, ap, List, ℕ}
use Rattle.name_index.proofs.PlaceLists.{any_place}
use Rattle.name_index.proofs.index.NameIndex.contains.Goals as goal

pub returns : goal.returns
returns c = c.is_some.ensures ∙ ap is_some c.first.ensures ∙ any_place {A = List ℕ} (λ x. bytes_eq x c.args.name.now) c.args.self.now
