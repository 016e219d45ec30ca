-- The elements of components: what each is built on, and which stand around it.
use Rattle.std.specs.Prelude.{ℕ, zero, suc, Bool, true, false, ◌&&◌, List, [], ◌∷◌, length, slice_get, ◌==◌, if◌then◌else◌, filter, Option, Some, None}
use Rattle.std.specs.List.{list_all, list_any}
use Rattle.std.specs.Option.{option_and_then}
use Rattle.std.specs.Str.{bytes_eq}
use Rattle.syntax_tree.specs.declared.words.Ident.{Ident}
use Rattle.element_tables.specs.declared.elements.ElementKind.{ElementKind}
use Rattle.element_tables.specs.declared.elements.ElementKind.TheVariants as element_kind
use Rattle.typed_tree.specs.declared.outlines.ComponentOutline.{ComponentOutline}
use Rattle.typed_tree.specs.declared.outlines.ElementOutline.{ElementOutline}
use Rattle.typed_tree.specs.declared.outlines.ElementType.{ElementType}
use Rattle.typed_tree.specs.declared.outlines.ElementType.TheVariants as element_type
use Rattle.typed_tree.specs.declared.outlines.Outline.{Outline}
use Rattle.typed_tree.specs.declared.outlines.Repeat.{Repeat}
use Rattle.typed_tree.specs.declared.outlines.Repeat.TheVariants as repeats
use Rattle.typed_tree.specs.declared.scopes.Site.{Site}
use Rattle.typed_tree.specs.declared.scopes.Site.TheVariants as site

-- an element of a component, by its number
abbrev pub elements_in : Option ComponentOutline → List ElementOutline
elements_in None = []
elements_in (Some comp) = comp.elements

abbrev pub elements_of : List ComponentOutline → ℕ → List ElementOutline
elements_of comps c = elements_in (slice_get comps c)

abbrev pub type_in : Option ElementOutline → ElementType
type_in None = element_type.BuiltIn element_kind.Empty
type_in (Some element) = element.ty

-- the type of an element
abbrev pub type_of : List ComponentOutline → ℕ → ℕ → ElementType
type_of comps c e = type_in (slice_get (elements_of comps c) e)

-- what an element is built on: components, each one the base of that before, and a built-in element below them all
pub record Lineage : Type 0 where
  pub comps : List ℕ
  pub kind : ElementKind

abbrev pub onto : ℕ → Lineage → Lineage
onto c below = record { comps = c ∷ below.comps; kind = below.kind }

-- the lineage of a type, so many components far; bases lead in no circle, so the number of all components is far enough
abbrev pub lineage_within : ℕ → List ComponentOutline → ElementType → Lineage
lineage_within n comps (element_type.BuiltIn kind) = record { comps = []; kind = kind }
lineage_within zero comps (element_type.Component c) = record { comps = []; kind = element_kind.Empty }
lineage_within (suc n) comps (element_type.Component c) = onto c (lineage_within n comps (type_of comps c 0))

abbrev pub lineage : List ComponentOutline → ElementType → Lineage
lineage comps t = lineage_within (length comps) comps t

-- the element around an element
abbrev pub parent_in : Option ElementOutline → Option ℕ
parent_in None = None
parent_in (Some element) = element.parent

abbrev pub parent_of : List ElementOutline → ℕ → Option ℕ
parent_of elements e = parent_in (slice_get elements e)

-- the parent of an element in the sense of the word `parent`: none of a root element, and of an element in a `Row` the grid around that
abbrev pub is_row_kind : ElementKind → Bool
is_row_kind element_kind.Row = true
is_row_kind _ = false

abbrev pub is_row : Outline → ℕ → ℕ → Bool
is_row outline c e = is_row_kind (lineage outline.comps (type_of outline.comps c e)).kind

abbrev pub past_row : Outline → ℕ → ℕ → Option ℕ
past_row outline c e = if is_row outline c e then parent_of (elements_of outline.comps c) e else Some e

abbrev pub parent_element : Outline → ℕ → ℕ → Option ℕ
parent_element outline c e = option_and_then (past_row outline c) (parent_of (elements_of outline.comps c) e)

-- an element and those around it, innermost first, so many far
abbrev pub outwards_within : ℕ → List ElementOutline → Option ℕ → List ℕ
outwards_within n elements None = []
outwards_within zero elements (Some e) = []
outwards_within (suc n) elements (Some e) = e ∷ outwards_within n elements (parent_of elements e)

abbrev pub outwards : List ElementOutline → ℕ → List ℕ
outwards elements e = outwards_within (length elements) elements (Some e)

abbrev pub is_repeated : Repeat → Bool
is_repeated repeats.Once = false
is_repeated (repeats.If word) = true
is_repeated (repeats.For item number word) = true

abbrev pub repeated_in : Option ElementOutline → Bool
repeated_in None = false
repeated_in (Some element) = is_repeated element.repeat

-- the repeated elements that an element lies in or is, innermost first
abbrev pub repeaters_around : List ElementOutline → ℕ → List ℕ
repeaters_around elements e = filter (λ d. repeated_in (slice_get elements d)) (outwards elements e)

abbrev pub is_among : List ℕ → ℕ → Bool
is_among numbers n = list_any (λ m. m == n) numbers

-- an element's id is seen from another one that lies in all the repeated elements that it lies in
abbrev pub sees : List ElementOutline → ℕ → ℕ → Bool
sees elements from e = list_all (λ d. is_among (outwards elements from) d) (repeaters_around elements e)

-- the number of the first element with an id that is seen from an element; elements are counted from n
abbrev pub has_id : List ℕ → Option Ident → Bool
has_id name None = false
has_id name (Some id) = bytes_eq id.name name

abbrev pub id_number : List ElementOutline → ℕ → ℕ → List ℕ → List ElementOutline → Option ℕ
id_number all from n name [] = None
id_number all from n name (e ∷ es) = if has_id name e.id && sees all from n then Some n else id_number all from (suc n) name es

-- the element of the component at hand whose id a name is, seen from a body
abbrev pub id_seen : List ComponentOutline → Site → List ℕ → Option ℕ
id_seen comps (site.Element c e) name = id_number (elements_of comps c) e 0 name (elements_of comps c)
id_seen comps (site.Global g) name = None
