-- The names of the repeaters around an element. Their types don't matter to where paths outside expressions lead.
use Rattle.std.specs.Prelude.{ℕ, zero, suc, Bool, false, List, [], ◌∷◌, ◌++◌, length, slice_get, Option, Some, None}
use Rattle.std.specs.List.{list_any}
use Rattle.std.specs.Option.{option_map}
use Rattle.syntax_tree.specs.declared.words.Ident.{Ident}
use Rattle.value_types.specs.declared.types.Ty.TheVariants as ty
use Rattle.typed_tree.specs.declared.outlines.ElementOutline.{ElementOutline}
use Rattle.typed_tree.specs.declared.outlines.Repeat.{Repeat}
use Rattle.typed_tree.specs.declared.outlines.Repeat.TheVariants as repeats
use Rattle.typed_tree.specs.declared.scopes.RowNames.{RowNames}
use Rattle.typed_tree.specs.Elements.{outwards, parent_of, repeated_in}

abbrev pub text_of : Ident → List ℕ
text_of x = x.name

-- the names of a `for`, as those of an element's rows
abbrev pub for_names : ℕ → Ident → Option Ident → RowNames
for_names e item number = record { element = e; item = item.name; ty = ty.Void; is_assignable = false; number = option_map text_of number }

-- the names that an element's `for` puts around it
abbrev pub names_by : ℕ → Repeat → List RowNames
names_by e repeats.Once = []
names_by e (repeats.If word) = []
names_by e (repeats.For item number word) = for_names e item number ∷ []

abbrev pub names_at : ℕ → Option ElementOutline → List RowNames
names_at e None = []
names_at e (Some element) = names_by e element.repeat

-- the names around an element, its own ones first, and then those around its parent; so many elements far
abbrev pub rows_within : ℕ → List ElementOutline → Option ℕ → List RowNames
rows_within n elements None = []
rows_within zero elements (Some e) = []
rows_within (suc n) elements (Some e) = names_at e (slice_get elements e) ++ rows_within n elements (parent_of elements e)

-- no element lies in more elements than there are
abbrev pub rows_around : List ElementOutline → ℕ → List RowNames
rows_around elements e = rows_within (length elements) elements (Some e)

-- an element is repeated, or lies in one that is
abbrev pub is_in_rows : List ElementOutline → ℕ → Bool
is_in_rows elements e = list_any (λ d. repeated_in (slice_get elements d)) (outwards elements e)
