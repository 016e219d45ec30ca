-- Ranks along labels.
use Rattle.std.proofs.Common.{◌≡◌, ◌≢◌, ℕ, suc, ◌+◌, ◌<◌, ◌≤◌, ◌⊎◌, inl, inr, List, [], ◌∷◌, ◌++◌, get_or, length, take, refl, sym, ap, ◌∙◌, subst, arith, max}
use Rattle.std.specs.Prelude.{slice_set, replicate}
use Rattle.std.proofs.lemmas.Bool.{cases_lt}
use Rattle.std.proofs.lemmas.List.{length-replicate, length-set, take_all, take_more}
use Rattle.finite_graphs.specs.declared.edge.Edge.{Edge}
use Rattle.finite_graphs.specs.Circles.{AreLabels, SameLabel, SomeSameLabel}
use Rattle.finite_graphs.specs.Graphs.{Drawn, edge, EdgesWithin}
use Rattle.finite_graphs.specs.Ranks.{AllFall, AreApart, AreNodes, AreRanks, AreRanksBelow, HasCircle, IsAbove, TopOf}
use Rattle.finite_graphs.specs.Rows.{AreRows, RowsWithin, Steps}
use Rattle.finite_graphs.specs.Walks.{At, In, IsRank, Reaches, Walk, stay, go, rest, step, here}
use Rattle.finite_graphs.proofs.Lists.{at_get, at_here, at_other, at_replicate, at_same, at_set, at_some, at_was, at_within, in_left, in_none, in_one, in_right, in_split, same_or_not}
use Rattle.finite_graphs.proofs.Marking.{along}
use Rattle.finite_graphs.proofs.RowLemmas.{row_leads}
use Rattle.finite_graphs.proofs.Reaching.{carried}

-- ---- walks of another relation

pub walk_carried : {A : Type 0} {E F : A → A → Type 0} {n : ℕ} {a b : A} → ((x y : A) → E x y → F x y) → Walk E n a b → Walk F n a b
walk_carried f rest = rest
walk_carried f (step e w) = step (f _ _ e) (walk_carried f w)

pub rank_carried : {A : Type 0} {E F : A → A → Type 0} {n : ℕ} {a : A} → ((x y : A) → E x y → F x y) → ((x y : A) → F x y → E x y) → IsRank E a n → IsRank F a n
rank_carried f g r = record { end = r.end; walk = walk_carried f r.walk; longest = λ m b w. r.longest m b (walk_carried g w) }

-- a rank is greater than those to which steps lead
pub rank_falls : {A : Type 0} {E : A → A → Type 0} {n m : ℕ} {a b : A} → E a b → IsRank E a n → IsRank E b m → m < n
rank_falls {n = n} {m = m} e r q = let l = r.longest (suc m) q.end (step e q.walk) in omega (arith, l)

-- ---- no edge has one label

module _ {rows : List (List ℕ)} {labels : List ℕ} (w : RowsWithin rows) (s : AreLabels rows labels) (f : AllFall rows labels) where
  -- a walk to a node with the same label has no step
  no_way : {a b : ℕ} {l : ℕ} → At l labels a → At l labels b → Reaches (Steps rows) b a → Reaches (Steps rows) a b → a ≡ b
  no_way h k back stay = refl
  no_way {a} {b} {l} h k back (go {b = c} e on) =
      let next = at_some labels c (let i = w.within a c e in let n = s.sized in omega (arith, i, n)) in
      let down = f.falls a c l next.item h next.stands e in
      let up = along w s on next.item l next.stands k in
      absurd (omega (arith, down, up))

  pub labels_apart : AreApart labels
  labels_apart = record { apart = λ a b l h k. no_way h k (s.same b a l k h) (s.same a b l h k) }

pub all_fall : {graph : Drawn} {rows : List (List ℕ)} {labels : List ℕ} → AreRows graph rows → AreLabels rows labels → (SomeSameLabel labels graph.edges → ⊥) → AllFall rows labels
all_fall {graph} {rows} {labels} r s none = record { falls = λ a b l k h m e. by a b l k h m e (s.falls a b l k h m e) (same_or_not l k) }
  where
    by : (a b l k : ℕ) → At l labels a → At k labels b → Steps rows a b → k ≤ l → (l ≡ k) ⊎ (l ≢ k) → k < l
    by a b l k h m e le (inl is) = absurd (none (record { edge = edge a b; among = (r.back a b e).drawn; same = record { label = k; from = subst (λ n. At n labels a) is h; to = m } }))
    by a b l k h m e le (inr not) = omega (arith, le, not)

pub has_circle_is : {graph : Drawn} {rows : List (List ℕ)} {labels : List ℕ} → AreRows graph rows → AreLabels rows labels → SomeSameLabel labels graph.edges → HasCircle graph
has_circle_is {graph} {rows} {labels} r s x =
    let e = x.edge in let same = x.same in
    record { node = e.from; circle = record { next = e.to; leads = record { drawn = x.among }; back = carried r.back (s.same e.to e.from same.label same.to same.from) } }

-- ---- the search for an edge with one label

pub record NoneSoFar (labels : List ℕ) (edges : List Edge) (n : ℕ) : Type 0 where
  pub no_such : SomeSameLabel labels (take n edges) → ⊥

pub none_init : (labels : List ℕ) (edges : List Edge) → NoneSoFar labels edges 0
none_init labels edges = record { no_such = λ x. in_none x.among }

pub none_more : {labels : List ℕ} (edges : List Edge) (n : ℕ) (e : Edge) → n < length edges → At e edges n → NoneSoFar labels edges n → (SameLabel labels e → ⊥) → NoneSoFar labels edges (n + 1)
none_more {labels} edges n e l stands s not = record { no_such = λ x. by x (in_split (take n edges) (e ∷ []) (subst (λ (xs : List Edge). In x.edge xs) more x.among)) }
  where
    more : take (n + 1) edges ≡ take n edges ++ e ∷ []
    more = take_more edges n e l ∙ ap (λ x. take n edges ++ x ∷ []) (at_get e stands)

    by : (x : SomeSameLabel labels (take (n + 1) edges)) → In x.edge (take n edges) ⊎ In x.edge (e ∷ []) → ⊥
    by x (inl h) = s.no_such (record { edge = x.edge; among = h; same = x.same })
    by x (inr h) = not (subst (λ y. SameLabel labels y) (in_one h) x.same)

pub none_end : {labels : List ℕ} (edges : List Edge) (n : ℕ) → length edges ≤ n → NoneSoFar labels edges n → SomeSameLabel labels edges → ⊥
none_end {labels} edges n l s x = s.no_such (record { edge = x.edge; among = subst (λ (xs : List Edge). In x.edge xs) (sym (take_all n edges l)) x.among; same = x.same })

-- ---- the node of each label

pub nodes_init : (labels order : List ℕ) → order ≡ replicate (length labels) 0 → AreNodes labels order 0
nodes_init labels order e = record {
  sized = ap length e ∙ length-replicate (length labels) 0;
  within = λ l a h. let zero_there = at_replicate (length labels) 0 (subst (λ (xs : List ℕ). At a xs l) e h) in let w = at_within h in let n = ap length e ∙ length-replicate (length labels) 0 in omega (arith, zero_there, w, n);
  each = λ a l h k. absurd (omega (arith, h));
}

pub nodes_more : {labels order : List ℕ} (n label : ℕ) → AreApart labels → At label labels n → label < length order → AreNodes labels order n → AreNodes labels (slice_set order label n) (n + 1)
nodes_more {labels} {order} n label apart here_label l s = record {
  sized = length-set order label n ∙ s.sized;
  within = λ k a h. within k a h (same_or_not k label);
  each = λ a k h m. each a k h m (same_or_not a n);
}
  where
    there_now : At n (slice_set order label n) label
    there_now = let was = at_some order label l in at_set was.stands

    within : (k a : ℕ) → At a (slice_set order label n) k → (k ≡ label) ⊎ (k ≢ label) → a < length labels
    within k a h (inl e) = let is = at_same (subst (λ x. At a (slice_set order label n) x) e h) there_now in let w = at_within here_label in omega (arith, is, w)
    within k a h (inr not) = s.within k a (at_was n order label h not)

    each : (a k : ℕ) → a < n + 1 → At k labels a → (a ≡ n) ⊎ (a ≢ n) → At a (slice_set order label n) k
    each a k h m (inl e) =
        let same : k ≡ label = at_same (subst (λ x. At k labels x) e m) here_label in
        subst (λ x. At x (slice_set order label n) k) (sym e) (subst (λ x. At n (slice_set order label n) x) (sym same) there_now)
    each a k h m (inr not) = at_other n label (s.each a k (omega (arith, h, not)) m) (λ e. not (apart.apart a n label (subst (λ x. At x labels a) e m) here_label))

-- ---- above a row

pub above_none : (ranks row : List ℕ) → IsAbove ranks (take 0 row) 0
above_none ranks row = record { above = λ b q h k. absurd (in_none h); least = inl refl }

pub above_one : (ranks row : List ℕ) (b q r : ℕ) → At q ranks b → IsAbove ranks row r → IsAbove ranks (row ++ b ∷ []) (max r (q + 1))
above_one ranks row b q r here_rank s = record { above = λ c p h k. above c p k (in_split row (b ∷ []) h); least = least (cases_lt q r) }
  where
    above : (c p : ℕ) → At p ranks c → In c row ⊎ In c (b ∷ []) → p < max r (q + 1)
    above c p k (inl h) = let l = s.above c p h k in omega (arith, l)
    above c p k (inr h) = let same : p ≡ q = at_same (subst (λ x. At p ranks x) (in_one h) k) here_rank in omega (arith, same)

    top_left : TopOf ranks row r → TopOf ranks (row ++ b ∷ []) r
    top_left t = record { node = t.node; among = in_left (b ∷ []) t.among; rank = t.rank; stands = t.stands; is = t.is }

    kept : (r ≡ 0) ⊎ TopOf ranks row r → (r ≡ 0) ⊎ TopOf ranks (row ++ b ∷ []) r
    kept (inl e) = inl e
    kept (inr t) = inr (top_left t)

    least : (q < r) ⊎ (r ≤ q) → (max r (q + 1) ≡ 0) ⊎ TopOf ranks (row ++ b ∷ []) (max r (q + 1))
    least (inl l) = let is : max r (q + 1) ≡ r = omega arith in subst (λ x. (x ≡ 0) ⊎ TopOf ranks (row ++ b ∷ []) x) (sym is) (kept s.least)
    least (inr l) = let is : max r (q + 1) ≡ q + 1 = omega arith in
        subst (λ x. (x ≡ 0) ⊎ TopOf ranks (row ++ b ∷ []) x) (sym is) (inr (record { node = b; among = in_right row here; rank = q; stands = here_rank; is = refl }))

pub above_more : (ranks row : List ℕ) (n b q r : ℕ) → n < length row → At b row n → At q ranks b → IsAbove ranks (take n row) r → IsAbove ranks (take (n + 1) row) (max r (q + 1))
above_more ranks row n b q r l stands here_rank s =
    let more : take (n + 1) row ≡ take n row ++ b ∷ [] = take_more row n b l ∙ ap (λ x. take n row ++ x ∷ []) (at_get b stands) in
    subst (λ (xs : List ℕ). IsAbove ranks xs (max r (q + 1))) (sym more) (above_one ranks (take n row) b q r here_rank s)

pub above_all : (ranks row : List ℕ) (n r : ℕ) → length row ≤ n → IsAbove ranks (take n row) r → IsAbove ranks row r
above_all ranks row n r l s = subst (λ (xs : List ℕ). IsAbove ranks xs r) (take_all n row l) s

-- ---- the ranks, label by label

pub ranks_init : {rows : List (List ℕ)} {labels : List ℕ} (ranks : List ℕ) → AreLabels rows labels → ranks ≡ replicate (length labels) 0 → AreRanksBelow rows labels ranks 0
ranks_init {rows} {labels} ranks s e =
    let n : length ranks ≡ length rows = ap length e ∙ length-replicate (length labels) 0 ∙ s.sized in
    record {
      sized = n;
      small = λ a q h. let zero_there = at_replicate (length labels) 0 (subst (λ (xs : List ℕ). At q xs a) e h) in let w = at_within h in omega (arith, zero_there, w, n);
      right = λ a l r h k m. absurd (omega (arith, k));
      low = λ a l r h k m. absurd (omega (arith, k));
    }

-- a walk has no step, or a first one
pub record FirstStep {A : Type 0} (E : A → A → Type 0) (m : ℕ) (a b : A) : Type 0 where
  pub next : A
  pub leads : E a next
  pub more : ℕ
  pub walk : Walk E more next b
  pub is : m ≡ more + 1

first_step : {A : Type 0} {E : A → A → Type 0} {m : ℕ} {a b : A} → Walk E m a b → (m ≡ 0) ⊎ FirstStep E m a b
first_step rest = inl refl
first_step (step {n = n} {b = c} e w) = inr (record { next = c; leads = e; more = n; walk = w; is = omega arith })

-- a node with a lower label, and its rank
pub record IsLower (rows : List (List ℕ)) (labels ranks : List ℕ) (label b : ℕ) : Type 0 where
  pub below : ℕ
  pub falls : below < label
  pub rank : ℕ
  pub stands : At rank ranks b
  pub right : IsRank (Steps rows) b rank
  pub low : rank ≤ below

module _ {rows : List (List ℕ)} {labels ranks row : List ℕ} {label node rank : ℕ} (w : RowsWithin rows) (s : AreLabels rows labels) (f : AllFall rows labels)
    (is_label : At label labels node) (is_row : At row rows node) (above : IsAbove ranks row rank) (t : AreRanksBelow rows labels ranks label) where
  row_step : {b : ℕ} → In b row → Steps rows node b
  row_step h = record { row = row; stands = is_row; among = h }

  -- what a step from the node leads to
  lower : {b : ℕ} → In b row → IsLower rows labels ranks label b
  lower {b} h =
      let e = row_step h in
      let i = w.within node b e in
      let next = at_some labels b (let n = s.sized in omega (arith, i, n)) in
      let q = at_some ranks b (let n = t.sized in omega (arith, i, n)) in
      let falls = f.falls node b label next.item is_label next.stands e in
      record { below = next.item; falls = falls; rank = q.item; stands = q.stands; right = t.right b next.item q.item next.stands falls q.stands; low = t.low b next.item q.item next.stands falls q.stands }

  rank_low : rank ≤ label
  rank_low = by above.least
    where
      by : (rank ≡ 0) ⊎ TopOf ranks row rank → rank ≤ label
      by (inl e) = omega (arith, e)
      by (inr top) = let l = lower top.among in let same = at_same top.stands l.stands in let is = top.is in let low = l.low in let falls = l.falls in omega (arith, same, is, low, falls)

  rank_longest : (m b : ℕ) → Walk (Steps rows) m node b → m ≤ rank
  rank_longest m b way = by (first_step way)
    where
      by : (m ≡ 0) ⊎ FirstStep (Steps rows) m node b → m ≤ rank
      by (inl e) = omega (arith, e)
      by (inr x) =
          let among = row_leads is_row x.next x.leads in
          let l = lower among in
          let up = above.above x.next l.rank among l.stands in
          let most = l.right.longest x.more b x.walk in
          let is = x.is in omega (arith, up, most, is)

  pub rank_right : IsRank (Steps rows) node rank
  rank_right = by above.least
    where
      by : (rank ≡ 0) ⊎ TopOf ranks row rank → IsRank (Steps rows) node rank
      by (inl e) = record { end = node; walk = subst (λ n. Walk (Steps rows) n node node) (sym e) rest; longest = rank_longest }
      by (inr top) =
          let l = lower top.among in
          let same = at_same top.stands l.stands in let is = top.is in
          let count : suc l.rank ≡ rank = omega (arith, same, is) in
          record { end = l.right.end; walk = subst (λ n. Walk (Steps rows) n node l.right.end) count (step (row_step top.among) l.right.walk); longest = rank_longest }

  node_within : node < length ranks
  node_within = let i = at_within is_label in let n = s.sized in let m = t.sized in omega (arith, i, n, m)

  written_rank : At rank (slice_set ranks node rank) node
  written_rank = let was = at_some ranks node node_within in at_set was.stands

  rank_is : {a r : ℕ} → a ≡ node → At r (slice_set ranks node rank) a → r ≡ rank
  rank_is {a} {r} e h = at_same (subst (λ x. At r (slice_set ranks node rank) x) e h) written_rank

  label_lower : {a l : ℕ} → AreApart labels → a ≢ node → At l labels a → l < label + 1 → l < label
  label_lower {a} {l} apart not h lt = by (same_or_not l label)
    where
      by : (l ≡ label) ⊎ (l ≢ label) → l < label
      by (inl e) = absurd (not (apart.apart a node label (subst (λ x. At x labels a) e h) is_label))
      by (inr n) = omega (arith, lt, n)

  pub ranks_next : AreApart labels → AreRanksBelow rows labels (slice_set ranks node rank) (label + 1)
  ranks_next apart = record {
    sized = length-set ranks node rank ∙ t.sized;
    small = λ a q h. small a q h (same_or_not a node);
    right = λ a l r h lt m. right a l r h lt m (same_or_not a node);
    low = λ a l r h lt m. low a l r h lt m (same_or_not a node);
  }
    where
      small : (a q : ℕ) → At q (slice_set ranks node rank) a → (a ≡ node) ⊎ (a ≢ node) → q < length rows
      small a q h (inl e) = let is = rank_is e h in let most = s.small node label is_label in omega (arith, is, most, rank_low)
      small a q h (inr not) = t.small a q (at_was rank ranks node h not)

      right : (a l r : ℕ) → At l labels a → l < label + 1 → At r (slice_set ranks node rank) a → (a ≡ node) ⊎ (a ≢ node) → IsRank (Steps rows) a r
      right a l r h lt m (inl e) = subst (λ x. IsRank (Steps rows) x r) (sym e) (subst (λ x. IsRank (Steps rows) node x) (sym (rank_is e m)) rank_right)
      right a l r h lt m (inr not) = t.right a l r h (label_lower apart not h lt) (at_was rank ranks node m not)

      low : (a l r : ℕ) → At l labels a → l < label + 1 → At r (slice_set ranks node rank) a → (a ≡ node) ⊎ (a ≢ node) → r ≤ l
      low a l r h lt m (inl e) = let same : l ≡ label = at_same (subst (λ x. At l labels x) e h) is_label in let is = rank_is e m in omega (arith, same, is, rank_low)
      low a l r h lt m (inr not) = t.low a l r h (label_lower apart not h lt) (at_was rank ranks node m not)

-- no node has the next label
pub ranks_skip : {rows : List (List ℕ)} {labels ranks : List ℕ} {label : ℕ} → ((a : ℕ) → At label labels a → ⊥) → AreRanksBelow rows labels ranks label → AreRanksBelow rows labels ranks (label + 1)
ranks_skip {rows} {labels} {ranks} {label} none t = record {
  sized = t.sized;
  small = t.small;
  right = λ a l r h lt m. t.right a l r h (before h lt (same_or_not l label)) m;
  low = λ a l r h lt m. t.low a l r h (before h lt (same_or_not l label)) m;
}
  where
    before : {a l : ℕ} → At l labels a → l < label + 1 → (l ≡ label) ⊎ (l ≢ label) → l < label
    before {a} {l} h lt (inl e) = absurd (none a (subst (λ x. At x labels a) e h))
    before h lt (inr not) = omega (arith, lt, not)

-- the node that stands at a label has it, or no node has
pub label_of_node : {labels order : List ℕ} (label : ℕ) → AreNodes labels order (length labels) → label < length order → get_or labels (get_or order label 0) 0 ≡ label → At label labels (get_or order label 0)
label_of_node {labels} {order} label o l e =
    let w = o.within label (get_or order label 0) (at_here order label 0 l) in
    subst (λ x. At x labels (get_or order label 0)) e (at_here labels (get_or order label 0) 0 w)

pub label_of_none : {labels order : List ℕ} (label : ℕ) → AreNodes labels order (length labels) → label < length order → (get_or labels (get_or order label 0) 0 ≡ label → ⊥) → (a : ℕ) → At label labels a → ⊥
label_of_none {labels} {order} label o l not a h =
    let there_it_is = o.each a label (at_within h) h in
    let same : get_or order label 0 ≡ a = at_get 0 there_it_is in
    not (ap (λ x. get_or labels x 0) same ∙ at_get 0 h)

-- ---- all labels are gone through

pub ranks_are : {graph : Drawn} {rows : List (List ℕ)} {labels ranks : List ℕ} → AreRows graph rows → AreLabels rows labels → AreRanksBelow rows labels ranks (length labels) → AreRanks graph ranks
ranks_are {graph} {rows} {labels} {ranks} r s t = record {
  sized = t.sized ∙ r.sized;
  each = λ a n h. rank_carried r.back r.forth (right a n h);
  falls = λ a b n m h k e. rank_falls (r.forth a b e) (right a n h) (right b m k);
}
  where
    right : (a n : ℕ) → At n ranks a → IsRank (Steps rows) a n
    right a n h =
        let i = at_within h in
        let l = at_some labels a (let x = t.sized in let y = s.sized in omega (arith, i, x, y)) in
        let small = s.small a l.item l.stands in
        t.right a l.item n l.stands (let y = s.sized in omega (arith, small, y)) h

pub ranks_done : {rows : List (List ℕ)} {labels ranks : List ℕ} (n : ℕ) → length labels ≤ n → AreLabels rows labels → AreRanksBelow rows labels ranks n → AreRanksBelow rows labels ranks (length labels)
ranks_done {rows} {labels} {ranks} n l s t = record {
  sized = t.sized;
  small = t.small;
  right = λ a k r h lt m. t.right a k r h (omega (arith, lt, l)) m;
  low = λ a k r h lt m. t.low a k r h (omega (arith, lt, l)) m;
}

pub nodes_done : {labels order : List ℕ} (n : ℕ) → length labels ≤ n → AreNodes labels order n → AreNodes labels order (length labels)
nodes_done {labels} {order} n l s = record { sized = s.sized; within = s.within; each = λ a k h m. s.each a k (omega (arith, h, l)) m }

-- the ranks of a row are within those of all
pub row_within : {rows : List (List ℕ)} {labels ranks : List ℕ} {n : ℕ} (now row : List ℕ) (node : ℕ) → RowsWithin rows → AreRanksBelow rows labels ranks n → now ≡ ranks → At row rows node → (b : ℕ) → In b row → b < length now
row_within {rows} {labels} {ranks} now row node w t e h b m = let i = w.within node b (record { row = row; stands = h; among = m }) in let k = t.sized in let j = ap length e in omega (arith, i, k, j)

pub now_small : {rows : List (List ℕ)} {labels ranks : List ℕ} {n : ℕ} (now : List ℕ) → AreRanksBelow rows labels ranks n → now ≡ ranks → (b q : ℕ) → At q now b → q < length now
now_small {ranks = ranks} now t e b q h = let l = t.small b q (subst (λ (xs : List ℕ). At q xs b) e h) in let k = t.sized in let j = ap length e in omega (arith, l, k, j)

-- what the ranks of a graph are made of, as it is read
pub record Parts (graph : Drawn) (rows : List (List ℕ)) (labels : List ℕ) : Type 0 where
  pub rows_are : AreRows graph rows
  pub rows_in : RowsWithin rows
  pub labels_are : AreLabels rows labels

pub parts_read : {graph : Drawn} {rows : List (List ℕ)} {labels : List ℕ} (read : List (List ℕ)) (read_labels : List ℕ) → AreRows graph rows → RowsWithin rows → read ≡ rows → AreLabels read labels → read_labels ≡ labels → Parts graph read read_labels
parts_read {graph} {rows} {labels} read read_labels r w er s el = record {
  rows_are = subst (λ (xs : List (List ℕ)). AreRows graph xs) (sym er) r;
  rows_in = subst (λ (xs : List (List ℕ)). RowsWithin xs) (sym er) w;
  labels_are = subst (λ (xs : List ℕ). AreLabels read xs) (sym el) s;
}

module _ {graph : Drawn} {rows : List (List ℕ)} {labels : List ℕ} (p : Parts graph rows labels) (edges : List Edge) (all : edges ≡ graph.edges) where
  pub edges_in : EdgesWithin graph.nodes graph.edges → EdgesWithin (length labels) edges
  edges_in w =
      let n : length labels ≡ graph.nodes = p.labels_are.sized ∙ p.rows_are.sized in
      subst (λ n. EdgesWithin n edges) (sym n) (subst (λ (xs : List Edge). EdgesWithin graph.nodes xs) (sym all) w)

  pub parts_circle : SomeSameLabel labels edges → HasCircle graph
  parts_circle x = has_circle_is p.rows_are p.labels_are (subst (λ (xs : List Edge). SomeSameLabel labels xs) all x)

  pub parts_fall : (SomeSameLabel labels edges → ⊥) → AllFall rows labels
  parts_fall none = all_fall p.rows_are p.labels_are (λ x. none (subst (λ (xs : List Edge). SomeSameLabel labels xs) (sym all) x))
