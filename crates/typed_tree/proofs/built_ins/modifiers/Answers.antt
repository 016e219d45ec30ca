use Rattle.std.specs.Str.{chars}
use Rattle.std.proofs.Common.{refl}
use Rattle.std.proofs.Math.Utf8.{encode}
use Rattle.typed_tree.proofs.built_ins.modifiers.Goals as goal

pub returns : goal.returns
unfolding chars encode
returns c = rw (c.in_ok-push_field-4.ensures, c.in_ok-push_field-3.ensures, c.in_ok-push_field-2.ensures, c.in_ok-push_field.ensures, c.new-fields.ensures) refl
