-- The names of the repeaters around a body. Their types don't matter to where paths outside expressions lead.
use Rattle.std.specs.Prelude.{ℕ, zero, suc, Bool, false, ◌||◌, List, [], ◌∷◌, ◌++◌, length, slice_get, Option, Some, None}
use Rattle.std.specs.List.{list_any}
use Rattle.std.specs.Option.{option_map}
use Rattle.std.specs.Str.{bytes_eq}
use Rattle.syntax_tree.specs.declared.items.For.{For, out-For}
use Rattle.syntax_tree.specs.declared.words.Ident.{Ident}
use Rattle.value_types.specs.declared.types.Ty.TheVariants as ty
use Rattle.typed_tree.specs.declared.scopes.RowNames.{RowNames}
use Rattle.typed_tree.specs.declared.scopes.Site.{Site}
use Rattle.typed_tree.specs.declared.scopes.Site.TheVariants as site
use Rattle.name_lookup.specs.Names.{is_name}
use Rattle.source_elements.specs.Elements.{HowOften, JustOnce, WhileTrue, EachRow, WrittenElement}

abbrev pub text_of : Ident → List ℕ
text_of x = x.name

-- the names that a `for` puts around its element
abbrev pub row_names : ℕ → For → RowNames
row_names e repeated = record { element = e; item = (out-For repeated).item.name; ty = ty.Void; is_assignable = false; number = option_map text_of (out-For repeated).number }

abbrev pub own_rows : ℕ → HowOften → List RowNames
own_rows e JustOnce = []
own_rows e (WhileTrue conditional) = []
own_rows e (EachRow repeated) = row_names e repeated ∷ []

abbrev pub rows_of_element : ℕ → Option WrittenElement → List RowNames
rows_of_element e None = []
rows_of_element e (Some w) = own_rows e w.repeating

abbrev pub parent_in : Option WrittenElement → Option ℕ
parent_in None = None
parent_in (Some w) = w.parent

-- the names around an element, its own ones first, and then those around its parent; so many elements far
abbrev pub rows_within : ℕ → List WrittenElement → Option ℕ → List RowNames
rows_within n elements None = []
rows_within zero elements (Some e) = []
rows_within (suc n) elements (Some e) = rows_of_element e (slice_get elements e) ++ rows_within n elements (parent_in (slice_get elements e))

-- the names of the repeaters around a body, innermost first; no element lies in more elements than there are
abbrev pub rows_around : List WrittenElement → Site → List RowNames
rows_around elements (site.Element c e) = rows_within (length elements) elements (Some e)
rows_around elements (site.Global g) = []

-- a name is one of a repeater
abbrev pub is_of_row : List ℕ → RowNames → Bool
is_of_row name r = is_name name r.number || bytes_eq r.item name

abbrev pub is_row_name : List ℕ → List RowNames → Bool
is_row_name name rows = list_any (is_of_row name) rows

-- a row whose item has a name, in place of all rows around a path that begins with it
abbrev pub named_row : List ℕ → RowNames
named_row name = record { element = 0; item = name; ty = ty.Void; is_assignable = false; number = None }
