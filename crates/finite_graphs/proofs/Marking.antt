-- Labels of components tell what lies on a circle.
use Rattle.std.proofs.Common.{◌≡◌, ◌≢◌, ℕ, ◌+◌, ◌<◌, ◌≤◌, ◌⊎◌, inl, inr, Bool, true, false, List, [], ◌∷◌, ◌++◌, length, take, refl, sym, ap, ◌∙◌, subst, arith, get_or, length-append, T, eqb→eq}
use lib.Dec.{eqb_refl}
use Rattle.std.specs.Prelude.{slice_set, replicate, nat_eq, IsTrue, ◌↔◌, if◌then◌else◌}
use Rattle.std.proofs.lemmas.List.{length-replicate, length-set, take_all, take_more}
use Rattle.finite_graphs.specs.declared.edge.Edge.{Edge}
use Rattle.finite_graphs.specs.Circles.{AreCircles, AreComponents, AreLabels, SameLabel}
use Rattle.finite_graphs.specs.Graphs.{Drawn, edge, EdgesWithin, Leads}
use Rattle.finite_graphs.specs.Rows.{AreRows, RowsWithin, Steps}
use Rattle.finite_graphs.specs.Walks.{At, In, OnCircle, Reaches, stay, go, here}
use Rattle.finite_graphs.proofs.Lists.{at_end, at_get, at_here, at_in, at_replicate, at_same, at_set, at_some, at_was, at_within, in_left, in_none, in_one, in_right, in_split, same_or_not}
use Rattle.finite_graphs.proofs.Reaching.{carried, one_step}

-- ---- the labels of rows are those of the graph

module _ {rows : List (List ℕ)} {labels : List ℕ} (w : RowsWithin rows) (s : AreLabels rows labels) where
  step_within : (a b : ℕ) → Steps rows a b → b < length labels
  step_within a b st = let l = w.within a b st in let m = s.sized in omega (arith, l, m)

  -- along a walk labels never rise
  pub along : {a b : ℕ} → Reaches (Steps rows) a b → (l k : ℕ) → At l labels a → At k labels b → k ≤ l
  along stay l k h m = let e : l ≡ k = at_same h m in omega (arith, e)
  along (go {a = a} {b = c} st rest) l k h m =
      let next = at_some labels c (step_within a c st) in
      let first = s.falls a c l next.item h next.stands st in
      let later = along rest next.item k next.stands m in
      omega (arith, first, later)

module _ {graph : Drawn} {rows : List (List ℕ)} {labels : List ℕ} (r : AreRows graph rows) (w : RowsWithin rows) (s : AreLabels rows labels) where
  pub components_are : AreComponents graph labels
  components_are = record {
    sized = s.sized ∙ r.sized;
    same = λ a b l h k. carried r.back (s.same a b l h k);
    apart = λ a b l k h m f g. let down = along w s (carried r.forth f) l k h m in let up = along w s (carried r.forth g) k l m h in omega (arith, down, up);
    falls = λ a b l k h m e. s.falls a b l k h m (r.forth a b e);
  }

-- ---- the marks of the edges so far

-- an edge from a has one label at both ends
pub record LeavesInLabel (labels : List ℕ) (edges : List Edge) (a : ℕ) : Type 0 where
  pub edge : Edge
  pub among : In edge edges
  pub from : edge.from ≡ a
  pub same : SameLabel labels edge

pub record AreMarked (labels : List ℕ) (count : ℕ) (edges : List Edge) (nodes marks : List Bool) : Type 0 where
  pub nodes_sized : length nodes ≡ count
  pub marks_sized : length marks ≡ length edges
  pub node_marked : (a : ℕ) → At true nodes a → LeavesInLabel labels edges a
  pub node_left : (a : ℕ) → At false nodes a → LeavesInLabel labels edges a → ⊥
  pub edge_marked : (i : ℕ) (e : Edge) → At true marks i → At e edges i → SameLabel labels e
  pub edge_left : (i : ℕ) (e : Edge) → At false marks i → At e edges i → SameLabel labels e → ⊥

pub marked_none : (labels : List ℕ) (count : ℕ) (nodes marks : List Bool) → nodes ≡ replicate count false → marks ≡ [] → AreMarked labels count [] nodes marks
marked_none labels count nodes marks e f = subst (λ x. AreMarked labels count [] x marks) (sym e) (subst (λ x. AreMarked labels count [] (replicate count false) x) (sym f) (record {
  nodes_sized = length-replicate count false;
  marks_sized = refl;
  node_marked = λ a h. let same : true ≡ false = at_replicate count false h in absurd (cc);
  node_left = λ a h l. absurd (in_none l.among);
  edge_marked = λ i e h k. elim h [ ];
  edge_left = λ i e h k. elim h [ ];
}))

leaves_more : {labels : List ℕ} {edges : List Edge} {a : ℕ} (e : Edge) → LeavesInLabel labels edges a → LeavesInLabel labels (edges ++ e ∷ []) a
leaves_more e l = record { edge = l.edge; among = in_left (e ∷ []) l.among; from = l.from; same = l.same }

leaves_split : {labels : List ℕ} {edges : List Edge} {a : ℕ} (e : Edge) → LeavesInLabel labels (edges ++ e ∷ []) a → LeavesInLabel labels edges a ⊎ ((e.from ≡ a) × SameLabel labels e)
leaves_split {labels} {edges} {a} e l = by (in_split edges (e ∷ []) l.among)
  where
    by : In l.edge edges ⊎ In l.edge (e ∷ []) → LeavesInLabel labels edges a ⊎ ((e.from ≡ a) × SameLabel labels e)
    by (inl h) = inl (record { edge = l.edge; among = h; from = l.from; same = l.same })
    by (inr h) = let is = in_one h in inr (sym (ap (λ (x : Edge). x.from) is) ∙ l.from, subst (λ x. SameLabel labels x) is l.same)

module _ {labels : List ℕ} {count : ℕ} {edges : List Edge} {nodes marks : List Bool} (e : Edge) (s : AreMarked labels count edges nodes marks) where
  one_longer : (mark : Bool) → length (marks ++ mark ∷ []) ≡ length (edges ++ e ∷ [])
  one_longer mark = let m = length-append marks (mark ∷ []) in let n = length-append edges (e ∷ []) in let t = s.marks_sized in omega (arith, m, n, t)

  -- the places of the last mark and of the last edge are one
  last_edge : {i : ℕ} {f : Edge} → i ≡ length marks → At f (edges ++ e ∷ []) i → f ≡ e
  last_edge {i} {f} is h = by (at_end edges e h)
    where
      by : At f edges i ⊎ ((f ≡ e) × (i ≡ length edges)) → f ≡ e
      by (inl k) = let w = at_within k in let t = s.marks_sized in absurd (omega (arith, w, t, is))
      by (inr k) = k.0

  earlier_edge : {i : ℕ} {f : Edge} → i < length marks → At f (edges ++ e ∷ []) i → At f edges i
  earlier_edge {i} {f} is h = by (at_end edges e h)
    where
      by : At f edges i ⊎ ((f ≡ e) × (i ≡ length edges)) → At f edges i
      by (inl k) = k
      by (inr k) = let t = s.marks_sized in absurd (omega (arith, k.1, t, is))

  yes_edge_marked : (mark : Bool) → (mark ≡ true → SameLabel labels e) → (i : ℕ) (f : Edge) → At true (marks ++ mark ∷ []) i → At f (edges ++ e ∷ []) i → SameLabel labels f
  yes_edge_marked mark when i f h k = by (at_end marks mark h)
    where
      by : At true marks i ⊎ ((true ≡ mark) × (i ≡ length marks)) → SameLabel labels f
      by (inl m) = s.edge_marked i f m (earlier_edge (at_within m) k)
      by (inr m) = subst (λ x. SameLabel labels x) (sym (last_edge m.1 k)) (when (sym m.0))

  yes_edge_left : (mark : Bool) → (mark ≡ false → SameLabel labels e → ⊥) → (i : ℕ) (f : Edge) → At false (marks ++ mark ∷ []) i → At f (edges ++ e ∷ []) i → SameLabel labels f → ⊥
  yes_edge_left mark not i f h k same = by (at_end marks mark h)
    where
      by : At false marks i ⊎ ((false ≡ mark) × (i ≡ length marks)) → ⊥
      by (inl m) = s.edge_left i f m (earlier_edge (at_within m) k) same
      by (inr m) = not (sym m.0) (subst (λ x. SameLabel labels x) (last_edge m.1 k) same)

  set_marked : e.from < count → SameLabel labels e → (a : ℕ) → At true (slice_set nodes e.from true) a → LeavesInLabel labels (edges ++ e ∷ []) a
  set_marked l same a h = by (same_or_not a e.from)
    where
      by : (a ≡ e.from) ⊎ (a ≢ e.from) → LeavesInLabel labels (edges ++ e ∷ []) a
      by (inl is) = record { edge = e; among = in_right edges here; from = sym is; same = same }
      by (inr n) = leaves_more e (s.node_marked a (at_was true nodes e.from h n))

  set_left : e.from < count → (a : ℕ) → At false (slice_set nodes e.from true) a → LeavesInLabel labels (edges ++ e ∷ []) a → ⊥
  set_left l a h leaves = by (same_or_not a e.from)
    where
      other : a ≢ e.from → LeavesInLabel labels edges a ⊎ ((e.from ≡ a) × SameLabel labels e) → ⊥
      other n (inl k) = s.node_left a (at_was true nodes e.from h n) k
      other n (inr k) = n (sym k.0)

      by : (a ≡ e.from) ⊎ (a ≢ e.from) → ⊥
      by (inl is) = let was = at_some nodes e.from (let t = s.nodes_sized in omega (arith, l, t)) in let same : false ≡ true = at_same (subst (λ x. At false (slice_set nodes e.from true) x) is h) (at_set was.stands) in cc
      by (inr n) = other n (leaves_split e leaves)

  marked_on : e.from < count → SameLabel labels e → AreMarked labels count (edges ++ e ∷ []) (slice_set nodes e.from true) (marks ++ true ∷ [])
  marked_on l same = record {
    nodes_sized = length-set nodes e.from true ∙ s.nodes_sized;
    marks_sized = one_longer true;
    node_marked = set_marked l same;
    node_left = set_left l;
    edge_marked = yes_edge_marked true (λ _. same);
    edge_left = yes_edge_left true (λ f. absurd (cc));
  }

  off_left : (SameLabel labels e → ⊥) → (a : ℕ) → At false nodes a → LeavesInLabel labels (edges ++ e ∷ []) a → ⊥
  off_left not a h leaves = by (leaves_split e leaves)
    where
      by : LeavesInLabel labels edges a ⊎ ((e.from ≡ a) × SameLabel labels e) → ⊥
      by (inl k) = s.node_left a h k
      by (inr k) = not k.1

  marked_off : (SameLabel labels e → ⊥) → AreMarked labels count (edges ++ e ∷ []) nodes (marks ++ false ∷ [])
  marked_off not = record {
    nodes_sized = s.nodes_sized;
    marks_sized = one_longer false;
    node_marked = λ a h. leaves_more e (s.node_marked a h);
    node_left = off_left not;
    edge_marked = yes_edge_marked false (λ f. absurd (cc));
    edge_left = yes_edge_left false (λ _. not);
  }

  pub marked_by : (mark : Bool) → e.from < count → IsTrue mark ↔ SameLabel labels e → AreMarked labels count (edges ++ e ∷ []) (if mark then slice_set nodes e.from true else nodes) (marks ++ mark ∷ [])
  marked_by true l iff = marked_on l (iff.0 refl)
  marked_by false l iff = marked_off (λ same. let f : false ≡ true = iff.1 same in cc)

pub marked_next : (labels : List ℕ) (count : ℕ) (edges : List Edge) (n : ℕ) (e : Edge) {nodes marks : List Bool} (mark : Bool) (nodes' marks' : List Bool) → n < length edges → At e edges n → e.from < count → IsTrue mark ↔ SameLabel labels e
    → AreMarked labels count (take n edges) nodes marks → nodes' ≡ (if mark then slice_set nodes e.from true else nodes) → marks' ≡ marks ++ mark ∷ [] → AreMarked labels count (take (n + 1) edges) nodes' marks'
marked_next labels count edges n e {nodes} {marks} mark nodes' marks' l at_n from iff s en em =
    let more : take (n + 1) edges ≡ take n edges ++ e ∷ [] = take_more edges n e l ∙ ap (λ x. take n edges ++ x ∷ []) (at_get e at_n) in
    subst (λ x. AreMarked labels count x nodes' marks') (sym more)
    (subst (λ x. AreMarked labels count (take n edges ++ e ∷ []) x marks') (sym en)
    (subst (λ x. AreMarked labels count (take n edges ++ e ∷ []) (if mark then slice_set nodes e.from true else nodes) x) (sym em) (marked_by e s mark from iff)))

-- ---- all edges are looked at

module _ {graph : Drawn} {labels : List ℕ} {nodes marks : List Bool} (c : AreComponents graph labels) (w : EdgesWithin graph.nodes graph.edges) (s : AreMarked labels graph.nodes graph.edges nodes marks) where
  -- an edge that lies on a circle has one label
  same_label : (e : Edge) → In e graph.edges → Reaches (Leads graph.edges) e.to e.from → SameLabel labels e
  same_label e m back =
      let from = at_some labels e.from (let l = w.from e m in let n = c.sized in omega (arith, l, n)) in
      let to = at_some labels e.to (let l = w.to e m in let n = c.sized in omega (arith, l, n)) in
      let is = c.apart e.from e.to from.item to.item from.stands to.stands (one_step (record { drawn = m })) back in
      record { label = to.item; from = subst (λ x. At x labels e.from) is from.stands; to = to.stands }

  leads_back : {e : Edge} → SameLabel labels e → Reaches (Leads graph.edges) e.to e.from
  leads_back {e} same = c.same e.to e.from same.label same.to same.from

  node_circle : (a : ℕ) → LeavesInLabel labels graph.edges a → OnCircle (Leads graph.edges) a
  node_circle a l = subst (λ x. OnCircle (Leads graph.edges) x) l.from (record { next = l.edge.to; leads = record { drawn = l.among }; back = leads_back l.same })

  circle_leaves : (a : ℕ) → OnCircle (Leads graph.edges) a → LeavesInLabel labels graph.edges a
  circle_leaves a o = record { edge = edge a o.next; among = o.leads.drawn; from = refl; same = same_label (edge a o.next) o.leads.drawn o.back }

  node_is : (a : ℕ) (mark : Bool) → At mark nodes a → IsTrue mark ↔ OnCircle (Leads graph.edges) a
  node_is a true h = (λ _. node_circle a (s.node_marked a h), λ _. refl)
  node_is a false h = (λ f. absurd (cc), λ o. absurd (s.node_left a h (circle_leaves a o)))

  edge_is : (i : ℕ) (mark : Bool) (e : Edge) → At mark marks i → At e graph.edges i → IsTrue mark ↔ Reaches (Leads graph.edges) e.to e.from
  edge_is i true e h k = (λ _. leads_back (s.edge_marked i e h k), λ _. refl)
  edge_is i false e h k = (λ f. absurd (cc), λ o. absurd (s.edge_left i e h k (same_label e (at_in k) o)))

  pub circles_are : AreCircles graph nodes marks
  circles_are = record { nodes_sized = s.nodes_sized; edges_sized = s.marks_sized; node_marked = node_is; edge_marked = edge_is }

t_true : (b : Bool) → T b → b ≡ true
t_true true t = refl
t_true false t = absurd t

-- what `==` of two labels tells
pub same_label_is : (labels : List ℕ) (e : Edge) → e.from < length labels → e.to < length labels
    → IsTrue (nat_eq (get_or labels e.from 0) (get_or labels e.to 0)) ↔ SameLabel labels e
same_label_is labels e lf lt = (
  λ t. record { label = get_or labels e.from 0; from = at_here labels e.from 0 lf; to = subst (λ n. At n labels e.to) (sym (eqb→eq _ _ (subst T (sym t) tt))) (at_here labels e.to 0 lt) },
  λ s. let from = at_same (at_here labels e.from 0 lf) s.from in let to = at_same (at_here labels e.to 0 lt) s.to in
      subst (λ n. nat_eq (get_or labels e.from 0) n ≡ true) (from ∙ sym to) (t_true _ (eqb_refl (get_or labels e.from 0))),
)

pub circles_done : {graph : Drawn} {labels : List ℕ} (read : List ℕ) {edges : List Edge} {nodes marks : List Bool} (n : ℕ) → AreComponents graph labels → read ≡ labels → edges ≡ graph.edges → length edges ≤ n
    → EdgesWithin graph.nodes graph.edges → AreMarked read graph.nodes (take n edges) nodes marks → AreCircles graph nodes marks
circles_done {graph} {labels} read {edges} {nodes} {marks} n c er ee l w s =
    circles_are c w (subst (λ (xs : List Edge). AreMarked labels graph.nodes xs nodes marks) (take_all n edges l ∙ ee) (subst (λ (ys : List ℕ). AreMarked ys graph.nodes (take n edges) nodes marks) er s))
