-- The graph of chains, drawn in a loop.
use Rattle.std.proofs.Common.{◌≡◌, ℕ, List, [], ◌∷◌, ◌++◌, ◌+◌, ◌<◌, ◌≤◌, length, drop, get_or, Option, refl, sym, ◌∙◌, ap}
use Rattle.finite_graphs.specs.declared.edge.Edge.{Edge}
use Rattle.finite_graphs.specs.Graphs.{Drawn}
use Rattle.source_outline.specs.Ends.{edge_to, edges_from, link_edges}
use Rattle.source_outline.proofs.Turns.{any_default, turn, ended}

-- the edges so far and those that are left are all
abbrev pub Drawing : List (Option ℕ) → ℕ → Drawn → Type 0
Drawing nexts i g = (g.nodes ≡ length nexts) × (g.edges ++ edges_from (length nexts) i (drop i nexts) ≡ link_edges nexts)

pub drawn_turn : (nexts : List (Option ℕ)) (i : ℕ) (o : Option ℕ) (g h : Drawn) → i < length nexts
    → h ≡ record g { edges = g.edges ++ edge_to g.nodes i (get_or nexts i o) } → Drawing nexts i g → Drawing nexts (i + 1) h
drawn_turn nexts i o g h l is d = (
  ap (λ (x : Drawn). x.nodes) is ∙ d.0,
  turn (λ n xs. edges_from (length nexts) n xs) (edge_to (length nexts) i (get_or nexts i o)) nexts i (get_or nexts i o) g.edges h.edges (link_edges nexts) refl (any_default nexts i o (get_or nexts i o) l) l
      (ap (λ (x : Drawn). x.edges) is ∙ ap (λ n. g.edges ++ edge_to n i (get_or nexts i o)) d.0) d.1,
)

pub drawn_ended : (nexts : List (Option ℕ)) (i : ℕ) (g : Drawn) → length nexts ≤ i → Drawing nexts i g → g ≡ record { nodes = length nexts; edges = link_edges nexts }
drawn_ended nexts i g l d =
    ap (λ n. the_drawn n g.edges) d.0
    ∙ ap (λ es. the_drawn (length nexts) es) (ended (λ n xs. edges_from (length nexts) n xs) nexts i g.edges (link_edges nexts) refl l d.1)
  where
    the_drawn : ℕ → List Edge → Drawn
    the_drawn n es = record { nodes = n; edges = es }
