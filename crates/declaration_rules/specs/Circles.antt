-- Uses of components in components and of structs in structs, and those that lie on circles.
use Rattle.std.specs.Prelude.{◌≡◌, ℕ, ◌<◌, Bool, false, List, [], ◌∷◌, length, map, slice_get, Option, Some, None}
use Rattle.std.specs.List.{flat_map}
use Rattle.slint_base.specs.declared.faults.Fault.{Fault}
use Rattle.slint_base.specs.declared.faults.Span.{Span}
use Rattle.slint_base.specs.declared.rules.Rule.TheVariants as rules
use Rattle.syntax_tree.specs.declared.words.Ident.{Ident}
use Rattle.finite_graphs.specs.declared.edge.Edge.{Edge}
use Rattle.finite_graphs.specs.Graphs.{Leads, edge}
use Rattle.finite_graphs.specs.Walks.{In, Reaches}
use Rattle.import_resolver.specs.Loaded.{FileRow}
use Rattle.typed_tree.specs.declared.outlines.ElementType.{ElementType}
use Rattle.typed_tree.specs.declared.outlines.ElementType.TheVariants as element_type
use Rattle.source_scopes.specs.declared.meanings.Meaning.{Meaning}
use Rattle.source_scopes.specs.declared.meanings.Meaning.TheVariants as meaning
use Rattle.source_scopes.specs.Declarations.{FileComponent, FileStruct, components_of, structs_of}
use Rattle.source_scopes.specs.Entries.{entry_meaning, entry_of}
use Rattle.source_scopes.specs.Names.{element_named}
use Rattle.declaration_rules.specs.declared.usages.Usage.{Usage}
use Rattle.declaration_rules.specs.Repeats.{broken_if}
use Rattle.declaration_rules.specs.Turns.{in_turn}
use Rattle.declaration_rules.specs.Words.{words_of_component, words_of_field}

abbrev pub usage : ℕ → ℕ → Span → Usage
usage from to span = record { from = from; to = to; span = span }

-- ---- components

-- a use of an element in a component of a number, where that element is a component
abbrev pub component_usage : ℕ → Span → Option ElementType → List Usage
component_usage c span (Some (element_type.Component d)) = usage c d span ∷ []
component_usage c span _ = []

abbrev pub usage_of_element : List FileRow → ℕ → ℕ → Ident → List Usage
usage_of_element rows c k word = component_usage c word.span (element_named rows k word.name)

abbrev pub usages_in_component : List FileRow → List FileComponent → FileComponent → List Usage
usages_in_component rows before c = flat_map (usage_of_element rows (length before) c.file) (words_of_component c.component)

-- the uses of components, as bases and as elements, in all components
abbrev pub component_usages : List FileRow → List Usage
component_usages rows = in_turn (usages_in_component rows) [] (components_of rows)

-- ---- structs

-- a use of a type in a struct of a number, where that type is a struct
abbrev pub struct_usage : ℕ → Span → Option Meaning → List Usage
struct_usage s span (Some (meaning.Struct t)) = usage s t span ∷ []
struct_usage s span _ = []

abbrev pub usage_of_type : List FileRow → ℕ → ℕ → Ident → List Usage
usage_of_type rows s k word = struct_usage s word.span (entry_meaning (entry_of rows k word.name))

abbrev pub usages_in_struct : List FileRow → List FileStruct → FileStruct → List Usage
usages_in_struct rows before s = flat_map (usage_of_type rows (length before) s.file) (flat_map words_of_field s.decl.fields)

-- the uses of structs in all structs
abbrev pub struct_usages : List FileRow → List Usage
struct_usages rows = in_turn (usages_in_struct rows) [] (structs_of rows)

-- ---- circles

abbrev pub edge_of : Usage → Edge
edge_of u = edge u.from u.to

-- a use that lies on a circle of uses: a walk along uses leads from what is used back to where it is used
pub record CircleFault (usages : List Usage) (f : Fault) : Type 0 where
  pub used : Usage
  pub among : In used usages
  pub back : Reaches (Leads (map edge_of usages)) used.to used.from
  pub is : f ≡ record { rule = rules.BaseLoop; span = used.span }

-- all numbers of uses are below a count
pub record UsagesWithin (count : ℕ) (usages : List Usage) : Type 0 where
  pub from : (u : Usage) → In u usages → u.from < count
  pub to : (u : Usage) → In u usages → u.to < count

-- a mark says of each use whether it lies on a circle
abbrev pub is_set : Option Bool → Bool
is_set (Some mark) = mark
is_set None = false

abbrev pub marked_fault : List Bool → List Usage → Usage → List Fault
marked_fault marks before u = broken_if (is_set (slice_get marks (length before))) rules.BaseLoop u.span

abbrev pub marked_faults : List Bool → List Usage → List Fault
marked_faults marks usages = in_turn (marked_fault marks) [] usages
