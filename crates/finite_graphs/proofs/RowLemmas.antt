-- The rows of a graph, edge by edge.
use Rattle.std.proofs.Common.{◌≡◌, ◌≢◌, ℕ, ◌+◌, ◌<◌, ◌⊎◌, inl, inr, List, [], ◌∷◌, ◌++◌, ◌≤◌, get_or, length, take, sym, ap, ◌∙◌, subst, arith}
use Rattle.std.specs.Prelude.{slice_set, replicate}
use Rattle.std.proofs.lemmas.List.{length-replicate, length-set, take_all, take_more}
use Rattle.finite_graphs.specs.declared.edge.Edge.{Edge}
use Rattle.finite_graphs.specs.Graphs.{Drawn, edge, EdgesWithin, Leads}
use Rattle.finite_graphs.specs.Rows.{AreRows, RowGrows, RowsWithin, Steps}
use Rattle.finite_graphs.specs.Walks.{At, In, here}
use Rattle.finite_graphs.proofs.Lists.{at_get, at_here, at_in, at_other, at_replicate, at_same, at_set, at_was, in_left, in_none, in_one, in_right, in_split, same_or_not}

module _ (old : List (List ℕ)) (from to : ℕ) (row : List ℕ) (was : At row old from) where
  now_row : At (row ++ to ∷ []) (slice_set old from (row ++ to ∷ [])) from
  now_row = at_set was

  grown_kept : (a b : ℕ) → Steps old a b → Steps (slice_set old from (row ++ to ∷ [])) a b
  grown_kept a b st = by (same_or_not a from)
    where
      by : (a ≡ from) ⊎ (a ≢ from) → Steps (slice_set old from (row ++ to ∷ [])) a b
      by (inl e) =
          let same : st.row ≡ row = at_same (subst (λ n. At st.row old n) e st.stands) was in
          record { row = row ++ to ∷ []; stands = subst (λ n. At (row ++ to ∷ []) (slice_set old from (row ++ to ∷ [])) n) (sym e) now_row; among = in_left (to ∷ []) (subst (λ (xs : List ℕ). In b xs) same st.among) }
      by (inr n) = record { row = st.row; stands = at_other (row ++ to ∷ []) from st.stands n; among = st.among }

  grown_only : (a b : ℕ) → Steps (slice_set old from (row ++ to ∷ [])) a b → Steps old a b ⊎ ((a ≡ from) × (b ≡ to))
  grown_only a b st = by (same_or_not a from)
    where
      there : a ≡ from → In b row ⊎ In b (to ∷ []) → Steps old a b ⊎ ((a ≡ from) × (b ≡ to))
      there e (inl h) = inl (record { row = row; stands = subst (λ n. At row old n) (sym e) was; among = h })
      there e (inr h) = inr (e, in_one h)

      by : (a ≡ from) ⊎ (a ≢ from) → Steps old a b ⊎ ((a ≡ from) × (b ≡ to))
      by (inl e) =
          let same : st.row ≡ row ++ to ∷ [] = at_same (subst (λ n. At st.row (slice_set old from (row ++ to ∷ [])) n) e st.stands) now_row in
          there e (in_split row (to ∷ []) (subst (λ (xs : List ℕ). In b xs) same st.among))
      by (inr n) = inl (record { row = st.row; stands = at_was (row ++ to ∷ []) old from st.stands n; among = st.among })

  pub row_grows : (new : List ℕ) → new ≡ row ++ to ∷ [] → RowGrows old (slice_set old from new) from to
  row_grows new e = subst (λ x. RowGrows old (slice_set old from x) from to) (sym e) (record {
    sized = length-set old from (row ++ to ∷ []);
    kept = grown_kept;
    added = record { row = row ++ to ∷ []; stands = now_row; among = in_right row here };
    only = grown_only;
  })

-- ---- the rows of the edges so far

abbrev pub drawn_so_far : ℕ → List Edge → ℕ → Drawn
drawn_so_far nodes edges n = record { nodes = nodes; edges = take n edges }

pub no_rows : (nodes : ℕ) (rows : List (List ℕ)) → rows ≡ replicate nodes [] → AreRows (record { nodes = nodes; edges = [] }) rows
no_rows nodes rows e = subst (λ x. AreRows (record { nodes = nodes; edges = [] }) x) (sym e) (record {
  sized = length-replicate nodes [];
  forth = λ a b h. absurd (in_none h.drawn);
  back = λ a b st. let none : st.row ≡ [] = at_replicate nodes [] st.stands in absurd (in_none (subst (λ (xs : List ℕ). In b xs) none st.among));
})

module _ {nodes : ℕ} {edges : List Edge} {rows new : List (List ℕ)} (e : Edge) (s : AreRows (record { nodes = nodes; edges = edges }) rows) (g : RowGrows rows new e.from e.to) where
  more_forth : (a b : ℕ) → Leads (edges ++ e ∷ []) a b → Steps new a b
  more_forth a b h = by (in_split edges (e ∷ []) h.drawn)
    where
      by : In (edge a b) edges ⊎ In (edge a b) (e ∷ []) → Steps new a b
      by (inl k) = g.kept a b (s.forth a b (record { drawn = k }))
      by (inr k) =
          let same = in_one k in
          let from : e.from ≡ a = sym (ap (λ (x : Edge). x.from) same) in
          let to : e.to ≡ b = sym (ap (λ (x : Edge). x.to) same) in
          subst (λ x. Steps new x b) from (subst (λ x. Steps new e.from x) to g.added)

  more_back : (a b : ℕ) → Steps new a b → Leads (edges ++ e ∷ []) a b
  more_back a b st = by (g.only a b st)
    where
      by : Steps rows a b ⊎ ((a ≡ e.from) × (b ≡ e.to)) → Leads (edges ++ e ∷ []) a b
      by (inl k) = record { drawn = in_left (e ∷ []) (s.back a b k).drawn }
      by (inr k) =
          let end : Leads (edges ++ e ∷ []) e.from e.to = record { drawn = in_right edges here } in
          subst (λ x. Leads (edges ++ e ∷ []) x b) (sym k.0) (subst (λ x. Leads (edges ++ e ∷ []) e.from x) (sym k.1) end)

  pub more_rows : AreRows (record { nodes = nodes; edges = edges ++ e ∷ [] }) new
  more_rows = record { sized = g.sized ∙ s.sized; forth = more_forth; back = more_back }

pub next_rows : (nodes : ℕ) (edges : List Edge) (n : ℕ) (e : Edge) {rows new : List (List ℕ)} → n < length edges → At e edges n
    → AreRows (drawn_so_far nodes edges n) rows → RowGrows rows new e.from e.to → AreRows (drawn_so_far nodes edges (n + 1)) new
next_rows nodes edges n e {rows} {new} l stands s g =
    let more : take (n + 1) edges ≡ take n edges ++ e ∷ [] = take_more edges n e l ∙ ap (λ x. take n edges ++ x ∷ []) (at_get e stands) in
    subst (λ (xs : List Edge). AreRows (record { nodes = nodes; edges = xs }) new) (sym more) (more_rows e s g)

pub rows_within : {graph : Drawn} {rows : List (List ℕ)} → AreRows graph rows → EdgesWithin graph.nodes graph.edges → RowsWithin rows
rows_within {graph} {rows} s w = record { within = λ a b st. let l = w.to (edge a b) (s.back a b st).drawn in let n = s.sized in omega (arith, l, n) }

pub row_leads : {rows : List (List ℕ)} {row : List ℕ} {a : ℕ} → At row rows a → (b : ℕ) → Steps rows a b → In b row
row_leads h b st = subst (λ (xs : List ℕ). In b xs) (at_same st.stands h) st.among

pub all_rows : {graph : Drawn} {rows : List (List ℕ)} {edges : List Edge} (n : ℕ) → edges ≡ graph.edges → length edges ≤ n → AreRows (drawn_so_far graph.nodes edges n) rows → AreRows graph rows
all_rows {graph} {rows} {edges} n e l s = subst (λ (xs : List Edge). AreRows (record { nodes = graph.nodes; edges = xs }) rows) (take_all n edges l ∙ e) s

-- both ends of an edge that is read are nodes
pub read_within : {nodes : ℕ} {drawn : List Edge} (edges : List Edge) (n : ℕ) (d : Edge) → n < length edges → edges ≡ drawn → EdgesWithin nodes drawn → ((get_or edges n d).from < nodes) × ((get_or edges n d).to < nodes)
read_within {nodes} edges n d l e w =
    let within = subst (λ (xs : List Edge). EdgesWithin nodes xs) (sym e) w in
    let among = at_in (at_here edges n d l) in (within.from (get_or edges n d) among, within.to (get_or edges n d) among)
