-- Each source has a first fault of purity, or none: what is reached in a graph is decided, and members can be numbered.
use Rattle.std.proofs.Common.{◌≡◌, ℕ, zero, suc, ◌+◌, ◌<◌, ◌≤◌, ◌⊎◌, inl, inr, Bool, true, false, List, [], ◌∷◌, ◌++◌, Some, None, length, map, sym, ◌∙◌, subst, refl, arith}
use Rattle.std.specs.Prelude.{slice_set, IsTrue}
use Rattle.std.proofs.lemmas.List.{length-map, length-set}
use Rattle.typed_tree.specs.declared.members.Member.{Member}
use Rattle.typed_tree.specs.declared.trees.TypedTree.{TypedTree}
use Rattle.fault_order.specs.Order.{first_of}
use Rattle.finite_graphs.specs.declared.edge.Edge.{Edge}
use Rattle.finite_graphs.specs.Graphs.{Leads, edge}
use Rattle.finite_graphs.specs.Reached.{AreReached, ReachedFrom}
use Rattle.finite_graphs.specs.Walks.{At, In, Reaches, go, here, stay, there}
use Rattle.finite_graphs.proofs.Lists.{at_other, at_same, at_set, at_some, at_was, in_none, same_or_not}
use Rattle.finite_graphs.proofs.Reaching.{carried, joined, one_step}
use Rattle.loop_check.specs.declared.acts.Home.{Home}
use Rattle.loop_check.specs.declared.acts.Home.TheVariants as homes
use Rattle.loop_check.specs.declared.graphs.Spread.{Spread}
use Rattle.loop_check.specs.declared.numbers.Numbers.{Numbers}
use Rattle.loop_check.specs.Bodies.{bodies_in}
use Rattle.loop_check.specs.Graphs.{Spreads, edges_in, faults_in, is_marked}
use Rattle.loop_check.specs.Numbers.{AreNumbers, AreRowsOf, IsRow, declared_in_component, declared_in_global}
use Rattle.loop_check.specs.Purity.{SomeVerdict}
use Rattle.loop_check.proofs.Faults.{first_fault_is}
use Rattle.loop_check.proofs.Numbering.{Things, are_numbers, only_none, row_first, row_next, rows_first, rows_next}
use Rattle.loop_check.proofs.Spreading.{edges_within, spreads}

-- ---- what is reached

abbrev From : List Edge → List Bool → ℕ → Type 0
From edges marks b = ReachedFrom (Leads edges) marks b

-- marks of what is reached, with an edge more
record Decides (nodes : ℕ) (edges : List Edge) (marks : List Bool) : Type 0 where
  reached : List Bool
  are : AreReached (record { nodes = nodes; edges = edges }) marks reached

further : {edges : List Edge} {marks : List Bool} {a b : ℕ} → Leads edges a b → From edges marks a → From edges marks b
further e r = record { start = r.start; marked = r.marked; way = joined r.way (one_step e) }

-- what is closed along all edges has all that is reached from what it has
closed : {edges : List Edge} {P : ℕ → Type 0} → ((a b : ℕ) → Leads edges a b → P a → P b) → {a b : ℕ} → Reaches (Leads edges) a b → P a → P b
closed step stay p = p
closed step (go {a = a} {b = b} e on) p = closed step on (step a b e p)

more_edges : (e : Edge) (edges : List Edge) (a b : ℕ) → Leads edges a b → Leads (e ∷ edges) a b
more_edges e edges a b l = record { drawn = there l.drawn }

-- an edge is the new one, or an old one
which : {e : Edge} {edges : List Edge} {a b : ℕ} → In (edge a b) (e ∷ edges) → ((a ≡ e.from) × (b ≡ e.to)) ⊎ Leads edges a b
which here = inl (refl, refl)
which (there h) = inr (record { drawn = h })

decided_none : (marks : List Bool) → Decides (length marks) [] marks
decided_none marks = record {
  reached = marks;
  are = record {
    sized = refl;
    each = λ b mark h. (λ t. record { start = b; marked = subst (λ (x : Bool). At x marks b) t h; way = stay }, λ r. at_same h (closed {edges = []} {P = λ (n : ℕ). At true marks n} (λ a c l p. absurd (in_none l.drawn)) r.way r.marked));
  };
}

-- the start of the new edge isn't reached
step_unreached : {e : Edge} {edges : List Edge} {marks : List Bool} → (From edges marks e.from → ⊥) → (a b : ℕ) → Leads (e ∷ edges) a b → From edges marks a → From edges marks b
step_unreached {e} {edges} {marks} none a b l r = by (which l.drawn)
  where
    by : ((a ≡ e.from) × (b ≡ e.to)) ⊎ Leads edges a b → From edges marks b
    by (inl h) = absurd (none (subst (λ (n : ℕ). From edges marks n) h.0 r))
    by (inr k) = further k r

starts : {edges : List Edge} {marks : List Bool} {a : ℕ} → At true marks a → From edges marks a
starts {a = a} h = record { start = a; marked = h; way = stay }

decided_unreached : {nodes : ℕ} {e : Edge} {edges : List Edge} {marks : List Bool} → (From edges marks e.from → ⊥) → Decides nodes edges marks → Decides nodes (e ∷ edges) marks
decided_unreached {nodes} {e} {edges} {marks} none d = record {
  reached = d.reached;
  are = record {
    sized = d.are.sized;
    each = λ b mark h. let is = d.are.each b mark h in (
      λ t. let r = is.0 t in record { start = r.start; marked = r.marked; way = carried (more_edges e edges) r.way },
      λ r. is.1 (closed {P = From edges marks} (step_unreached none) r.way (starts r.marked)),
    );
  };
}

-- the start of the new edge is reached, so its end is marked
module _ {e : Edge} {edges : List Edge} {marks : List Bool} (reached : From edges marks e.from) (within : e.to < length marks) where
  now_kept : (a : ℕ) → At true marks a → At true (slice_set marks e.to true) a
  now_kept a h = by (same_or_not a e.to)
    where
      by : (a ≡ e.to) ⊎ (a ≡ e.to → ⊥) → At true (slice_set marks e.to true) a
      by (inl s) = subst (λ (n : ℕ). At true (slice_set marks e.to true) n) (sym s) (at_set (subst (λ (n : ℕ). At true marks n) s h))
      by (inr n) = at_other true e.to h n

  now_new : At true (slice_set marks e.to true) e.to
  now_new = let s = at_some marks e.to within in at_set s.stands

  step_reached : (a b : ℕ) → Leads (e ∷ edges) a b → From edges (slice_set marks e.to true) a → From edges (slice_set marks e.to true) b
  step_reached a b l r = by (which l.drawn)
    where
      by : ((a ≡ e.from) × (b ≡ e.to)) ⊎ Leads edges a b → From edges (slice_set marks e.to true) b
      by (inl h) = subst (λ (n : ℕ). From edges (slice_set marks e.to true) n) (sym h.1) (starts now_new)
      by (inr k) = further k r

  back : (a : ℕ) → At true (slice_set marks e.to true) a → From (e ∷ edges) marks a
  back a h = by (same_or_not a e.to)
    where
      by : (a ≡ e.to) ⊎ (a ≡ e.to → ⊥) → From (e ∷ edges) marks a
      by (inl s) = subst (λ (n : ℕ). From (e ∷ edges) marks n) (sym s)
          (record { start = reached.start; marked = reached.marked; way = joined (carried (more_edges e edges) reached.way) (one_step (record { drawn = here })) })
      by (inr n) = starts (at_was true marks e.to h n)

  decided_reached : {nodes : ℕ} → Decides nodes edges (slice_set marks e.to true) → Decides nodes (e ∷ edges) marks
  decided_reached {nodes} d = record {
    reached = d.reached;
    are = record {
      sized = d.are.sized;
      each = λ b mark h. let is = d.are.each b mark h in (
        λ t. let r = is.0 t in let s = back r.start r.marked in record { start = s.start; marked = s.marked; way = joined s.way (carried (more_edges e edges) r.way) },
        λ r. is.1 (closed {P = From edges (slice_set marks e.to true)} step_reached r.way (starts (now_kept r.start r.marked))),
      );
    };
  }

-- both ends of the edges are nodes
record AllWithin (nodes : ℕ) (edges : List Edge) : Type 0 where
  each : (e : Edge) → In e edges → (e.from < nodes) × (e.to < nodes)

within_rest : {nodes : ℕ} {e : Edge} {edges : List Edge} → AllWithin nodes (e ∷ edges) → AllWithin nodes edges
within_rest w = record { each = λ x h. w.each x (there h) }

decided_next : {nodes : ℕ} (e : Edge) (edges : List Edge) (marks : List Bool) → nodes ≡ length marks → AllWithin nodes (e ∷ edges) → ((xs : List Bool) → nodes ≡ length xs → Decides nodes edges xs) → Decides nodes (e ∷ edges) marks
decided_next {nodes} e edges marks sized w rest =
    let d = rest marks sized in
    let ends = w.each e here in
    let from = ends.0 in let to = ends.1 in
    let long = d.are.sized in
    let s = at_some d.reached e.from (omega (arith, from, long)) in
    by d (omega (arith, to, sized)) s.item (d.are.each e.from s.item s.stands)
  where
    by : Decides nodes edges marks → e.to < length marks → (mark : Bool) → (IsTrue mark → From edges marks e.from) × (From edges marks e.from → IsTrue mark) → Decides nodes (e ∷ edges) marks
    by d within true is = decided_reached (is.0 refl) within (rest (slice_set marks e.to true) (sized ∙ sym (length-set marks e.to true)))
    by d within false is = decided_unreached (λ r. let t = is.1 r in absurd (cc)) d

decided : {nodes : ℕ} (edges : List Edge) (marks : List Bool) → nodes ≡ length marks → AllWithin nodes edges → Decides nodes edges marks
decided [] marks sized w = subst (λ (n : ℕ). Decides n [] marks) (sym sized) (decided_none marks)
decided {nodes} (e ∷ edges) marks sized w = decided_next e edges marks sized w (λ xs long. decided {nodes = nodes} edges xs long (within_rest w))

-- ---- numbers

record SomeRow (home : Home) (count : ℕ) (things : Things) : Type 0 where
  new : Things
  row : List ℕ
  is : IsRow home count things new row

some_row : (home : Home) (count : ℕ) (things : Things) → SomeRow home count things
some_row home zero things = record { new = things; row = []; is = row_first home things [] refl }
some_row home (suc n) things = more (some_row home n things)
  where
    more : SomeRow home n things → SomeRow home (suc n) things
    more r = record {
      new = r.new ++ Some (record { home = home; number = n }) ∷ [];
      row = r.row ++ length r.new ∷ [];
      is = let e : n + 1 ≡ suc n = omega arith in subst (λ (m : ℕ). IsRow home m things (r.new ++ Some (record { home = home; number = n }) ∷ []) (r.row ++ length r.new ∷ [])) e
          (row_next home n (length r.new) (r.new ++ Some (record { home = home; number = n }) ∷ []) (r.row ++ length r.new ∷ []) refl r.is refl refl);
    }

record SomeRows (home_at : ℕ → Home) (members : List (List Member)) (count : ℕ) (things : Things) : Type 0 where
  new : Things
  rows : List (List ℕ)
  are : AreRowsOf home_at members count things new rows

some_rows : (home_at : ℕ → Home) (members : List (List Member)) (count : ℕ) (things : Things) → count ≤ length members → SomeRows home_at members count things
some_rows home_at members zero things l = record { new = things; rows = []; are = rows_first home_at members things [] refl }
some_rows home_at members (suc n) things l = more (some_rows home_at members n things (omega (arith, l)))
  where
    more : SomeRows home_at members n things → SomeRows home_at members (suc n) things
    more r =
        let s = at_some members n (omega (arith, l)) in
        let row = some_row (home_at n) (length s.item) r.new in
        let e : n + 1 ≡ suc n = omega arith in
        record {
          new = row.new;
          rows = r.rows ++ row.row ∷ [];
          are = subst (λ (m : ℕ). AreRowsOf home_at members m things row.new (r.rows ++ row.row ∷ [])) e
              (rows_next home_at members n s.item (r.rows ++ row.row ∷ []) s.stands r.are row.is refl);
        }

record SomeNumbers (tree : TypedTree) : Type 0 where
  numbers : Numbers
  things : Things
  are : AreNumbers tree numbers things

some_numbers : (tree : TypedTree) → SomeNumbers tree
some_numbers tree =
    let comps = some_rows (λ c. homes.Component c) (map declared_in_component tree.comps) (length tree.comps) (None ∷ []) (omega (arith, length-map tree.comps declared_in_component)) in
    let globals = some_rows (λ g. homes.Global g) (map declared_in_global tree.globals) (length tree.globals) comps.new (omega (arith, length-map tree.globals declared_in_global)) in
    let numbers : Numbers = record { comps = comps.rows; globals = globals.rows } in
    record { numbers = numbers; things = globals.new; are = are_numbers tree numbers comps.are globals.are (only_none (None ∷ []) refl) }

-- ---- the verdict

pub some_verdict : (tree : TypedTree) → SomeVerdict tree
some_verdict tree =
    let n = some_numbers tree in
    let within : AllWithin (length n.things) (edges_in tree n.numbers (bodies_in tree)) = record { each = λ e h. edges_within n.are e.from e.to (record { drawn = h }) } in
    let d = decided (edges_in tree n.numbers (bodies_in tree)) (map (is_marked tree) n.things) (sym (length-map n.things (is_marked tree))) within in
    let spread : Spread = record { numbers = n.numbers; reached = d.reached } in
    let s : Spreads tree spread = spreads n.are refl refl d.are spread refl refl in
    record { verdict = first_of (faults_in tree spread (bodies_in tree)); first = first_fault_is tree spread (bodies_in tree) s refl }
