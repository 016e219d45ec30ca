-- What is reached in the graph is what is impure.
use Rattle.std.proofs.Common.{◌≡◌, ℕ, ◌<◌, Bool, true, List, [], ◌++◌, Option, Some, None, length, map, sym, ◌∙◌, ap, subst, refl, arith}
use Rattle.std.specs.Prelude.{slice_get}
use Rattle.typed_tree.specs.declared.members.MemberKind.{MemberKind}
use Rattle.typed_tree.specs.declared.trees.TypedTree.{TypedTree}
use Rattle.finite_graphs.specs.Graphs.{Drawn, Leads}
use Rattle.finite_graphs.specs.Reached.{AreReached, ReachedFrom}
use Rattle.finite_graphs.specs.Walks.{At, Reaches, go, stay}
use Rattle.finite_graphs.proofs.Lists.{at_map, at_same, at_some, at_within, last_read, map_at}
use Rattle.finite_graphs.proofs.Reaching.{joined, one_step}
use Rattle.loop_check.specs.declared.acts.Routine.{Routine}
use Rattle.loop_check.specs.declared.bodies.Body.{Body}
use Rattle.loop_check.specs.declared.graphs.Spread.{Spread}
use Rattle.loop_check.specs.declared.numbers.Numbers.{Numbers}
use Rattle.loop_check.specs.Bodies.{bodies_in}
use Rattle.loop_check.specs.Graphs.{Spreads, Within, edges_in, is_marked, is_reached, mark_at, mark_or_not}
use Rattle.loop_check.specs.Numbers.{AreNumbers, number_called}
use Rattle.loop_check.specs.Purity.{Impure, in_any_case, by_its_marks, by_an_act, is_impure, is_inferred, kind_of}
use Rattle.loop_check.proofs.Edges.{Drives, drawn, drives}
use Rattle.loop_check.proofs.Listing.{read_at}

-- a kind that is impure or inferred is there
record SomeKind (o : Option MemberKind) : Type 0 where
  kind : MemberKind
  is : o ≡ Some kind

some_impure : (o : Option MemberKind) → is_impure o ≡ true → SomeKind o
some_impure None e = absurd (cc)
some_impure (Some kind) e = record { kind = kind; is = refl }

some_inferred : (o : Option MemberKind) → is_inferred o ≡ true → SomeKind o
some_inferred None e = absurd (cc)
some_inferred (Some kind) e = record { kind = kind; is = refl }

-- the number of what is called
record IsCalledBy (numbers : Numbers) (calls : Option Routine) : Type 0 where
  number : ℕ
  is : number_called numbers calls ≡ Some number

module _ {tree : TypedTree} {numbers : Numbers} {things : List (Option Routine)} (n : AreNumbers tree numbers things) where
  called_at : (calls : Option Routine) (i : ℕ) → number_called numbers calls ≡ Some i → At calls things i
  called_at None i e = let same : 0 ≡ i = cc in subst (λ (x : ℕ). At None things x) same n.first
  called_at (Some r) i e = n.stands r i e

  numbered : (r : Routine) → SomeKind (kind_of tree r) → IsCalledBy numbers (Some r)
  numbered r k = let h = n.all r k.kind k.is in record { number = h.number; is = h.is }

  impure_numbered : {calls : Option Routine} → Impure tree calls → IsCalledBy numbers calls
  impure_numbered in_any_case = record { number = 0; is = refl }
  impure_numbered (by_its_marks r m) = numbered r (some_impure (kind_of tree r) m)
  impure_numbered (by_an_act r act e done called) = numbered r (some_inferred (kind_of tree r) e)

  marked_is : (calls : Option Routine) → true ≡ is_marked tree calls → Impure tree calls
  marked_is None e = in_any_case
  marked_is (Some r) e = by_its_marks r (sym e)

  -- what an edge leads to is impure where its start is
  impure_next : {j k : ℕ} → Drives tree numbers j k → ((y : Option Routine) → At y things j → Impure tree y) → (x : Option Routine) → At x things k → Impure tree x
  impure_next {j} {k} d known x h =
      subst (λ (y : Option Routine). Impure tree y) (at_same (n.stands d.routine k d.to) h)
      (by_an_act d.routine d.act d.inferred d.done (known d.act.calls (called_at d.act.calls j d.from)))

  impure_along : {j i : ℕ} → Reaches (Leads (edges_in tree numbers (bodies_in tree))) j i → ((y : Option Routine) → At y things j → Impure tree y) → (x : Option Routine) → At x things i → Impure tree x
  impure_along stay known x h = known x h
  impure_along (go {a = j} {b = k} e on) known x h = impure_along on (impure_next (drives tree numbers j k e) known) x h

  impure_start : {i : ℕ} → At true (map (is_marked tree) things) i → (y : Option Routine) → At y things i → Impure tree y
  impure_start s y h =
      let m = at_map (is_marked tree) things s in
      subst (λ (z : Option Routine). Impure tree z) (at_same m.stands h) (marked_is m.item m.is)

  -- what is reached is impure
  reached_sound : (calls : Option Routine) (i : ℕ) → number_called numbers calls ≡ Some i
      → ReachedFrom (Leads (edges_in tree numbers (bodies_in tree))) (map (is_marked tree) things) i → Impure tree calls
  reached_sound calls i e r = impure_along r.way (impure_start r.marked) calls (called_at calls i e)

  -- what is impure is reached
  reached_start : (calls : Option Routine) (i : ℕ) → is_marked tree calls ≡ true → number_called numbers calls ≡ Some i
      → ReachedFrom (Leads (edges_in tree numbers (bodies_in tree))) (map (is_marked tree) things) i
  reached_start calls i m e =
      record { start = i; marked = subst (λ (b : Bool). At b (map (is_marked tree) things) i) m (map_at (is_marked tree) (called_at calls i e)); way = stay }

  reached_next : {j i : ℕ} → Leads (edges_in tree numbers (bodies_in tree)) j i
      → ReachedFrom (Leads (edges_in tree numbers (bodies_in tree))) (map (is_marked tree) things) j
      → ReachedFrom (Leads (edges_in tree numbers (bodies_in tree))) (map (is_marked tree) things) i
  reached_next e r = record { start = r.start; marked = r.marked; way = joined r.way (one_step e) }

  reached_whole : {calls : Option Routine} → Impure tree calls → (i : ℕ) → number_called numbers calls ≡ Some i
      → ReachedFrom (Leads (edges_in tree numbers (bodies_in tree))) (map (is_marked tree) things) i
  reached_whole in_any_case i e = reached_start None i refl e
  reached_whole (by_its_marks r m) i e = reached_start (Some r) i m e
  reached_whole (by_an_act r act inferred done called) i e =
      let c = impure_numbered called in
      reached_next (drawn tree numbers c.number i (record { routine = r; act = act; inferred = inferred; done = done; from = c.is; to = e })) (reached_whole called c.number c.is)

  -- ---- by the marks that were read

  read_true : (reached : List Bool) (i : ℕ) → mark_or_not (slice_get reached i) ≡ true → At true reached i
  read_true reached i e = last_read reached i true (by (slice_get reached i) e)
    where
      by : (o : Option Bool) → mark_or_not o ≡ true → o ≡ Some true
      by None h = absurd (cc)
      by (Some b) h = ap (λ (x : Bool). Some x) h

  read_mark : {reached : List Bool} {i : ℕ} → At true reached i → mark_or_not (slice_get reached i) ≡ true
  read_mark h = ap mark_or_not (read_at h)

  sound_by : {edges : Drawn} {reached : List Bool} → edges.edges ≡ edges_in tree numbers (bodies_in tree) → AreReached edges (map (is_marked tree) things) reached
      → (calls : Option Routine) (o : Option ℕ) → number_called numbers calls ≡ o → mark_at reached o ≡ true → Impure tree calls
  sound_by same r calls None e m = absurd (cc)
  sound_by {edges} {reached} same r calls (Some i) e m =
      reached_sound calls i e (subst (λ xs. ReachedFrom (Leads xs) (map (is_marked tree) things) i) same ((r.each i true (read_true reached i m)).0 refl))

  marked_at : {edges : Drawn} {reached : List Bool} → edges.edges ≡ edges_in tree numbers (bodies_in tree) → edges.nodes ≡ length things
      → AreReached edges (map (is_marked tree) things) reached → (calls : Option Routine) → Impure tree calls → (i : ℕ) → number_called numbers calls ≡ Some i → At true reached i
  marked_at {edges} {reached} same sized r calls impure i e =
      let within = at_within (called_at calls i e) in
      let long = r.sized in
      let s = at_some reached i (omega (arith, within, long, sized)) in
      let is = (r.each i s.item s.stands).1 (subst (λ xs. ReachedFrom (Leads xs) (map (is_marked tree) things) i) (sym same) (reached_whole impure i e)) in
      subst (λ (b : Bool). At b reached i) is s.stands

  -- exactly what is impure is marked
  pub spreads : {edges : Drawn} {reached : List Bool} → edges.edges ≡ edges_in tree numbers (bodies_in tree) → edges.nodes ≡ length things → AreReached edges (map (is_marked tree) things) reached
      → (spread : Spread) → spread.numbers ≡ numbers → spread.reached ≡ reached → Spreads tree spread
  spreads {edges} {reached} same sized r spread numbers_are reached_are = record {
    sound = λ calls m. sound_by same r calls (number_called numbers calls) refl (sym (is calls) ∙ m);
    complete = λ calls impure. is calls ∙ (let c = impure_numbered impure in ap (mark_at reached) c.is ∙ read_mark (marked_at same sized r calls impure c.number c.is));
  }
    where
      is : (calls : Option Routine) → is_reached spread calls ≡ mark_at reached (number_called numbers calls)
      is calls = ap (λ (x : Numbers). mark_at spread.reached (number_called x calls)) numbers_are ∙ ap (λ (xs : List Bool). mark_at xs (number_called numbers calls)) reached_are

  -- all numbers are below the number of things
  pub numbers_within : Within numbers (length things)
  numbers_within = record { some = at_within n.first; each = λ r i e. at_within (n.stands r i e) }

  -- and so are the ends of edges
  pub edges_within : (j k : ℕ) → Leads (edges_in tree numbers (bodies_in tree)) j k → (j < length things) × (k < length things)
  edges_within j k l = let d = drives tree numbers j k l in (at_within (called_at d.act.calls j d.from), at_within (n.stands d.routine k d.to))

  -- of a graph as it was made
  pub within_nodes : (nodes : ℕ) (graph : Drawn) → graph ≡ record { nodes = nodes; edges = [] } → nodes ≡ length things → Within numbers graph.nodes
  within_nodes nodes graph e f = subst (λ (n : ℕ). Within numbers n) (sym (ap (λ (g : Drawn). g.nodes) e ∙ f)) numbers_within

  pub spreads_by : (nodes : ℕ) (before graph : Drawn) (marks : List Bool) (bodies : List Body) (reached : List Bool) → before ≡ record { nodes = nodes; edges = [] } → nodes ≡ length things
      → graph ≡ record { nodes = before.nodes; edges = before.edges ++ edges_in tree numbers bodies } → bodies ≡ bodies_in tree → marks ≡ map (is_marked tree) things
      → AreReached graph marks reached → Spreads tree (record { numbers = numbers; reached = reached })
  spreads_by nodes before graph marks bodies reached e f g b m r =
      spreads {edges = graph} {reached = reached}
      (ap (λ (x : Drawn). x.edges) g ∙ ap (λ (x : Drawn). x.edges ++ edges_in tree numbers bodies) e ∙ ap (edges_in tree numbers) b)
      (ap (λ (x : Drawn). x.nodes) g ∙ ap (λ (x : Drawn). x.nodes) e ∙ f)
      (subst (λ (xs : List Bool). AreReached graph xs reached) m r) (record { numbers = numbers; reached = reached }) refl refl
