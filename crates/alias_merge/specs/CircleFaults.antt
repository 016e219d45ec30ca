-- Faults at edges that lie on circles.
use Rattle.std.specs.Prelude.{◌≡◌, ℕ, ◌<◌, Bool, true, false, List, [], ◌∷◌, map, slice_get, Option, Some, None}
use Rattle.slint_base.specs.declared.faults.Fault.{Fault}
use Rattle.slint_base.specs.declared.faults.Span.{Span}
use Rattle.slint_base.specs.declared.rules.Rule.{Rule}
use Rattle.finite_graphs.specs.declared.edge.Edge.{Edge}
use Rattle.finite_graphs.specs.Graphs.{Leads, edge}
use Rattle.finite_graphs.specs.Walks.{In, Reaches}
use Rattle.alias_merge.specs.declared.circle_faults.Spanned.{Spanned}

abbrev pub edge_in : Spanned → Edge
edge_in s = edge s.from s.to

-- both ends of each edge are nodes
pub record EndsWithin (nodes : ℕ) (edges : List Spanned) : Type 0 where
  pub from : (s : Spanned) → In s edges → s.from < nodes
  pub to : (s : Spanned) → In s edges → s.to < nodes

-- an edge that lies on a circle: a walk leads from its end back to its start
pub record CircleFault (rule : Rule) (edges : List Spanned) (f : Fault) : Type 0 where
  pub edge : Spanned
  pub among : In edge edges
  pub back : Reaches (Leads (map edge_in edges)) edge.to edge.from
  pub is : f ≡ record { rule = rule; span = edge.span }

-- a mark says of each edge whether it lies on a circle
abbrev pub is_set : Option Bool → Bool
is_set (Some mark) = mark
is_set None = false

abbrev pub fault_if_set : Rule → Bool → Span → List Fault
fault_if_set rule true span = record { rule = rule; span = span } ∷ []
fault_if_set rule false span = []

abbrev pub marked_fault : Rule → List Bool → ℕ → Spanned → List Fault
marked_fault rule marks n s = fault_if_set rule (is_set (slice_get marks n)) s.span
