-- What a scope holds.
use Rattle.std.specs.Prelude.{List, Option}
use Rattle.value_types.specs.declared.types.Ty.{Ty}
use Rattle.typed_tree.specs.declared.outlines.Outline.{Outline}
use Rattle.typed_tree.specs.declared.scopes.Local.{Local}
use Rattle.typed_tree.specs.declared.scopes.RowNames.{RowNames}
use Rattle.typed_tree.specs.declared.scopes.Site.{Site}

-- what an expression can see: the declarations of the source, the element or global in whose body it stands, the parameters of the function or
-- handler around it, and the names of the repeaters around it, innermost first
pub record ScopeValue : Type 0 where
  pub outline : Outline
  pub site : Site
  pub parameters : List Local
  pub rows : List RowNames

-- what is wanted of an expression: a type, of which void is for a value that is dropped, or any value
abbrev pub Place : Type 0
Place = Option Ty
