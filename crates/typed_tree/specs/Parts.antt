-- Which expressions are parts of values.
use Rattle.std.specs.Prelude.{Bool, true, false}
use Rattle.typed_tree.specs.declared.expressions.ExprKind.TheOpen.{ExprKind-F}
use Rattle.typed_tree.specs.Typed.{KindLayer}

abbrev pub is_part : KindLayer → Bool
is_part (ExprKind-F.Part base steps) = true
is_part _ = false
