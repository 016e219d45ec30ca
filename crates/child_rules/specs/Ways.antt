-- The way along takers to what is known.
use Rattle.std.specs.Prelude.{◌≡◌, List, Option, true}
use Rattle.typed_tree.specs.declared.outlines.ComponentOutline.{ComponentOutline}
use Rattle.typed_tree.specs.declared.outlines.ElementType.TheVariants as element_type
use Rattle.child_rules.specs.declared.cursors.Cursor.{Cursor}
use Rattle.child_rules.specs.declared.ends.Way.{Way}
use Rattle.child_rules.specs.Ends.{Trail, is_settled}

-- each component on the way is taken by the one before, and the cursor at its end is known
pub record IsWay (comps : List ComponentOutline) (known : List (Option Cursor)) (way : Way) : Type 0 where
  pub trail : Trail comps (element_type.Component way.from) way.comps way.to
  pub settled : is_settled known way.to ≡ true
