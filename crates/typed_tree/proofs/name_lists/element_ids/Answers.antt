use Rattle.std.specs.Str.{chars}
use Rattle.std.proofs.Common.{refl, ◌∙◌}
use Rattle.std.proofs.Math.Utf8.{encode}
use Rattle.typed_tree.proofs.name_lists.element_ids.Goals as goal

pub id_or-requires : goal.id_or-requires
unfolding chars encode
id_or-requires c = c.in_ok-empty.ensures ∙ refl
