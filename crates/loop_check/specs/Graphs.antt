-- The graph along which what is impure spreads: from what is called to what calls it.
use Rattle.std.specs.Prelude.{◌≡◌, ℕ, ◌<◌, Bool, true, false, if◌then◌else◌, List, [], ◌∷◌, slice_get, Option, Some, None}
use Rattle.std.specs.List.{flat_map}
use Rattle.slint_base.specs.declared.faults.Fault.{Fault}
use Rattle.slint_base.specs.declared.rules.Rule.{Rule}
use Rattle.typed_tree.specs.declared.trees.TypedTree.{TypedTree}
use Rattle.finite_graphs.specs.declared.edge.Edge.{Edge}
use Rattle.finite_graphs.specs.Graphs.{edge}
use Rattle.loop_check.specs.declared.acts.Act.{Act}
use Rattle.loop_check.specs.declared.acts.Routine.{Routine}
use Rattle.loop_check.specs.declared.bodies.Body.{Body}
use Rattle.loop_check.specs.declared.bodies.Place.{Place}
use Rattle.loop_check.specs.declared.bodies.Place.TheVariants as places
use Rattle.loop_check.specs.declared.graphs.Spread.{Spread}
use Rattle.loop_check.specs.declared.numbers.Numbers.{Numbers}
use Rattle.loop_check.specs.Numbers.{number_called, number_of}
use Rattle.loop_check.specs.Purity.{Impure, is_impure, is_inferred, kind_of, rule_at}

-- the edge of an act, from what is called
abbrev pub edge_from : Option ℕ → ℕ → List Edge
edge_from None to = []
edge_from (Some from) to = edge from to ∷ []

abbrev pub edge_of : Numbers → ℕ → Act → List Edge
edge_of numbers to act = edge_from (number_called numbers act.calls) to

-- the edges of acts, to what does them
abbrev pub edges_to : Numbers → Option ℕ → List Act → List Edge
edges_to numbers None acts = []
edges_to numbers (Some to) acts = flat_map (edge_of numbers to) acts

-- the function of which a place is the body, where it depends on its acts whether it is impure
abbrev pub inferred_at : TypedTree → Place → Option Routine
inferred_at tree places.Value = None
inferred_at tree (places.Run r) = if is_inferred (kind_of tree r) then Some r else None

abbrev pub number_at : Numbers → Option Routine → Option ℕ
number_at numbers None = None
number_at numbers (Some r) = number_of numbers r

abbrev pub edges_of : TypedTree → Numbers → Body → List Edge
edges_of tree numbers body = edges_to numbers (number_at numbers (inferred_at tree body.place)) body.acts

abbrev pub edges_in : TypedTree → Numbers → List Body → List Edge
edges_in tree numbers bodies = flat_map (edges_of tree numbers) bodies

-- a thing that is impure by its marks, or in any case
abbrev pub is_marked : TypedTree → Option Routine → Bool
is_marked tree None = true
is_marked tree (Some r) = is_impure (kind_of tree r)

-- all numbers are below the number of nodes
pub record Within (numbers : Numbers) (nodes : ℕ) : Type 0 where
  pub some : 0 < nodes
  pub each : (r : Routine) (i : ℕ) → number_of numbers r ≡ Some i → i < nodes

-- what is called is marked
abbrev pub mark_or_not : Option Bool → Bool
mark_or_not None = false
mark_or_not (Some mark) = mark

abbrev pub mark_at : List Bool → Option ℕ → Bool
mark_at marks None = false
mark_at marks (Some n) = mark_or_not (slice_get marks n)

abbrev pub is_reached : Spread → Option Routine → Bool
is_reached spread calls = mark_at spread.reached (number_called spread.numbers calls)

-- the faults of a body
abbrev pub fault_of : Spread → Rule → Act → List Fault
fault_of spread rule act = if is_reached spread act.calls then record { rule = rule; span = act.span } ∷ [] else []

abbrev pub faults_by : Spread → Option Rule → List Act → List Fault
faults_by spread None acts = []
faults_by spread (Some rule) acts = flat_map (fault_of spread rule) acts

abbrev pub faults_of : TypedTree → Spread → Body → List Fault
faults_of tree spread body = faults_by spread (rule_at tree body.place) body.acts

abbrev pub faults_in : TypedTree → Spread → List Body → List Fault
faults_in tree spread bodies = flat_map (faults_of tree spread) bodies

-- exactly what is impure is marked
pub record Spreads (tree : TypedTree) (spread : Spread) : Type 0 where
  pub sound : (calls : Option Routine) → is_reached spread calls ≡ true → Impure tree calls
  pub complete : (calls : Option Routine) → Impure tree calls → is_reached spread calls ≡ true
