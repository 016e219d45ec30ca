-- Edges that are added to a graph, and its rows.
use Rattle.std.proofs.Common.{ℕ, ◌<◌, ◌⊎◌, inl, inr, List, [], ◌∷◌, ◌++◌, ap, arith}
use Rattle.finite_graphs.specs.declared.edge.Edge.{Edge}
use Rattle.finite_graphs.specs.Graphs.{edge, EdgesWithin}
use Rattle.finite_graphs.specs.Walks.{In}
use Rattle.finite_graphs.proofs.Lists.{in_one, in_split}

pub within_push : {nodes : ℕ} (edges : List Edge) (from to : ℕ) → EdgesWithin nodes edges → from < nodes → to < nodes → EdgesWithin nodes (edges ++ edge from to ∷ [])
within_push {nodes} edges from to w f t = record { from = λ e h. first e (in_split edges _ h); to = λ e h. second e (in_split edges _ h) }
  where
    first : (e : Edge) → In e edges ⊎ In e (edge from to ∷ []) → e.from < nodes
    first e (inl h) = w.from e h
    first e (inr h) = let same = ap (λ (e : Edge). e.from) (in_one h) in omega (arith, same, f)

    second : (e : Edge) → In e edges ⊎ In e (edge from to ∷ []) → e.to < nodes
    second e (inl h) = w.to e h
    second e (inr h) = let same = ap (λ (e : Edge). e.to) (in_one h) in omega (arith, same, t)
