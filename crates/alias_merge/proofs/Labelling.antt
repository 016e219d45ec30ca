-- Labels of the classes of linked members: the first members of the groups in which each reaches each.
use Rattle.std.proofs.Common.{◌≡◌, ◌≢◌, ℕ, suc, ◌+◌, ◌<◌, ◌≤◌, ◌⊎◌, inl, inr, List, [], ◌∷◌, ◌++◌, Option, None, Some, length, get_or, map, take, refl, sym, ap, subst, ◌∙◌, arith}
use Rattle.std.specs.Prelude.{replicate, slice_get, slice_set, unwrap_or}
use Rattle.std.proofs.lemmas.Bool.{cases_lt}
use Rattle.std.proofs.lemmas.List.{length-map, length-replicate, length-set, take_all, take_more}
use Rattle.finite_graphs.specs.declared.edge.Edge.{Edge}
use Rattle.finite_graphs.specs.Circles.{AreComponents}
use Rattle.finite_graphs.specs.Graphs.{Drawn, Leads, edge}
use Rattle.finite_graphs.specs.Walks.{At, In, Reaches, first, go, here, next, stay, there}
use Rattle.finite_graphs.proofs.Lists.{at_end, at_here, at_map, at_none, at_other, at_replicate, at_same, at_set, at_some, at_was, at_within, at_written, in_left, in_none, in_right, in_split, last_read, same_or_not}
use Rattle.alias_merge.specs.declared.circle_faults.Spanned.{Spanned}
use Rattle.alias_merge.specs.CircleFaults.{EndsWithin}
use Rattle.alias_merge.specs.Labels.{AreBelow, AreFirsts, AreLabels, HasFirst, IsFirstOf, both_ways, first_by, joined, with_first}
use Rattle.alias_merge.proofs.CircleMarks.{get_at}

pub nothing_before : {A : Type 0} {xs ys : List A} → xs ≡ ys → xs ≡ [] ++ ys
nothing_before e = e

-- ---- walks both ways

one_more : {E : ℕ → ℕ → Type 0} {a b c : ℕ} → Reaches E a b → E b c → Reaches E a c
one_more stay e = go e stay
one_more (go f w) e = go f (one_more w e)

turned : {E : ℕ → ℕ → Type 0} {a b : ℕ} → ((a b : ℕ) → E a b → E b a) → Reaches E a b → Reaches E b a
turned back stay = stay
turned back (go {a = a} {b = b} f w) = one_more (turned back w) (back a b f)

swap_two : (s : Spanned) (e : Edge) → In e (both_ways s) → In (edge e.to e.from) (both_ways s)
swap_two s e here = there here
swap_two s e (there here) = here
swap_two s e (there (there h)) = absurd (in_none h)

swap_in : (links : List Spanned) (e : Edge) → In e (joined links) → In (edge e.to e.from) (joined links)
swap_in [] e h = absurd (in_none h)
swap_in (s ∷ ss) e h = by (swap_in ss e) (in_split (both_ways s) (joined ss) h)
  where
    by : (In e (joined ss) → In (edge e.to e.from) (joined ss)) → In e (both_ways s) ⊎ In e (joined ss) → In (edge e.to e.from) (joined (s ∷ ss))
    by more (inl k) = in_left (joined ss) (swap_two s e k)
    by more (inr k) = in_right (both_ways s) (more k)

pub back_again : (links : List Spanned) (a b : ℕ) → Leads (joined links) a b → Leads (joined links) b a
back_again links a b l = record { drawn = swap_in links (edge a b) l.drawn }

-- ---- links lie between members

to_two : (s : Spanned) (e : Edge) (n : ℕ) → s.from < n → s.to < n → In e (both_ways s) → e.to < n
to_two s e n a b here = b
to_two s e n a b (there here) = a
to_two s e n a b (there (there h)) = absurd (in_none h)

pub to_within : (links : List Spanned) (n : ℕ) (e : Edge) → EndsWithin n links → In e (joined links) → e.to < n
to_within [] n e w h = absurd (in_none h)
to_within (s ∷ ss) n e w h = by (to_within ss n e (record { from = λ t k. w.from t (there k); to = λ t k. w.to t (there k) })) (in_split (both_ways s) (joined ss) h)
  where
    by : (In e (joined ss) → e.to < n) → In e (both_ways s) ⊎ In e (joined ss) → e.to < n
    by more (inl k) = to_two s e n (w.from s here) (w.to s here) k
    by more (inr k) = more k

pub reach_within : {edges : List Edge} {a b : ℕ} (n : ℕ) → ((e : Edge) → In e edges → e.to < n) → Reaches (Leads edges) a b → a < n → b < n
reach_within n w stay l = l
reach_within n w (go {a = a} {b = b} f r) l = reach_within n w r (w (edge a b) f.drawn)

-- ---- the limit of groups

pub below_none : (limit : ℕ) → AreBelow limit []
below_none limit = record { below = λ g a h. absurd (at_none h) }

pub below_next : (groups : List ℕ) (i d limit more : ℕ) → i < length groups → AreBelow limit (take i groups) → (limit ≤ more) × (get_or groups i d < more) → AreBelow more (take (i + 1) groups)
below_next groups i d limit more l b h =
    subst (λ (gs : List ℕ). AreBelow more gs) (sym (take_more groups i d l)) (record { below = λ g a k. by g a (at_end (take i groups) (get_or groups i d) k) })
  where
    by : (g a : ℕ) → At g (take i groups) a ⊎ ((g ≡ get_or groups i d) × (a ≡ length (take i groups))) → g < more
    by g a (inl k) = let p = b.below g a k in let q = h.0 in omega (arith, p, q)
    by g a (inr k) = let p = k.0 in let q = h.1 in omega (arith, p, q)

pub below_all : (groups : List ℕ) (i limit : ℕ) → length groups ≤ i → AreBelow limit (take i groups) → AreBelow limit groups
below_all groups i limit l b = subst (λ (gs : List ℕ). AreBelow limit gs) (take_all i groups l) b

-- ---- the first members of groups

pub firsts_none : (limit : ℕ) (groups : List ℕ) (firsts : List (Option ℕ)) → firsts ≡ replicate limit None → AreFirsts limit groups 0 firsts
firsts_none limit groups firsts e = subst (λ (xs : List (Option ℕ)). AreFirsts limit groups 0 xs) (sym e) (record {
  sized = length-replicate limit None;
  right = λ g b h. let k : Some b ≡ None = at_replicate limit None h in absurd (cc);
  each = λ g a l h. absurd (omega arith);
})

module _ (limit : ℕ) (groups : List ℕ) (n g : ℕ) (firsts : List (Option ℕ)) (stands : At g groups n) (now : AreFirsts limit groups n firsts) where
  -- a member before the next one, or that one
  before_or : (h a : ℕ) → a < n + 1 → At h groups a → (a < n) ⊎ (h ≡ g)
  before_or h a l k = by (same_or_not a n)
    where
      by : (a ≡ n) ⊎ (a ≢ n) → (a < n) ⊎ (h ≡ g)
      by (inl e) = inr (at_same (subst (λ m. At h groups m) e k) stands)
      by (inr e) = inl (omega arith)

  known : (b : ℕ) → At (Some b) firsts g → AreFirsts limit groups (n + 1) firsts
  known b k = record { sized = now.sized; right = now.right; each = λ h a l at. by h a at (before_or h a l at) }
    where
      by : (h a : ℕ) → At h groups a → (a < n) ⊎ (h ≡ g) → HasFirst firsts h
      by h a at (inl l) = now.each h a l at
      by h a at (inr e) = record { member = b; stands = subst (λ m. At (Some b) firsts m) (sym e) k }

  module _ (none : At None firsts g) where
    new_first : IsFirstOf groups g n
    new_first = record { among = stands; least = λ c at. by c at (cases_lt c n) }
      where
        by : (c : ℕ) → At g groups c → (c < n) ⊎ (n ≤ c) → n ≤ c
        by c at (inl l) = let f = now.each g c l at in let e : Some f.member ≡ None = at_same f.stands none in absurd (cc)
        by c at (inr l) = l

    some_same : (b : ℕ) → At (Some b) (slice_set firsts g (Some n)) g → n ≡ b
    some_same b at = let e : Some b ≡ Some n = at_written none at in cc

    noted : AreFirsts limit groups (n + 1) (slice_set firsts g (Some n))
    noted = record {
      sized = length-set firsts g (Some n) ∙ now.sized;
      right = λ h b at. right_by h b at (same_or_not h g);
      each = λ h a l at. each_by h a at (same_or_not h g) (before_or h a l at);
    }
      where
        right_by : (h b : ℕ) → At (Some b) (slice_set firsts g (Some n)) h → (h ≡ g) ⊎ (h ≢ g) → IsFirstOf groups h b
        right_by h b at (inl e) =
            subst (λ m. IsFirstOf groups m b) (sym e) (subst (λ m. IsFirstOf groups g m) (some_same b (subst (λ m. At (Some b) (slice_set firsts g (Some n)) m) e at)) new_first)
        right_by h b at (inr e) = now.right h b (at_was (Some n) firsts g at e)

        each_by : (h a : ℕ) → At h groups a → (h ≡ g) ⊎ (h ≢ g) → (a < n) ⊎ (h ≡ g) → HasFirst (slice_set firsts g (Some n)) h
        each_by h a at (inl e) p = record { member = n; stands = subst (λ m. At (Some n) (slice_set firsts g (Some n)) m) (sym e) (at_set none) }
        each_by h a at (inr e) (inl l) = let f = now.each h a l at in record { member = f.member; stands = at_other (Some n) g f.stands e }
        each_by h a at (inr e) (inr s) = absurd (e s)

  first_by_case : (o : Option (Option ℕ)) → slice_get firsts g ≡ o → g < length firsts → AreFirsts limit groups (n + 1) (with_first firsts g n o)
  first_by_case None e l = let s = at_some firsts g l in let k : Some s.item ≡ None = sym (get_at s.stands) ∙ e in absurd (cc)
  first_by_case (Some None) e l = noted (last_read firsts g None e)
  first_by_case (Some (Some b)) e l = known b (last_read firsts g (Some b) e)

pub firsts_next : (limit : ℕ) (groups : List ℕ) (n d : ℕ) (firsts new : List (Option ℕ)) → AreBelow limit groups → n < length groups → AreFirsts limit groups n firsts
    → new ≡ with_first firsts (get_or groups n d) n (slice_get firsts (get_or groups n d)) → AreFirsts limit groups (n + 1) new
firsts_next limit groups n d firsts new b l now e =
    let g = get_or groups n d in
    let at : At g groups n = at_here groups n d l in
    let k : g < limit = b.below g n at in
    let s = now.sized in
    subst (λ (xs : List (Option ℕ)). AreFirsts limit groups (n + 1) xs) (sym e) (first_by_case limit groups n g firsts at now (slice_get firsts g) refl (omega (arith, k, s)))

pub firsts_all : (limit : ℕ) (groups : List ℕ) (n : ℕ) (firsts : List (Option ℕ)) → length groups ≤ n → AreFirsts limit groups n firsts → AreFirsts limit groups (length groups) firsts
firsts_all limit groups n firsts l now = record { sized = now.sized; right = now.right; each = λ g a k at. now.each g a (omega arith) at }

-- ---- labels

first_by_at : (firsts : List (Option ℕ)) (g b : ℕ) → At (Some b) firsts g → first_by firsts g ≡ b
first_by_at firsts g b at = ap (λ (o : Option (Option ℕ)). unwrap_or (unwrap_or o None) 0) (get_at at)

first_in : (limit : ℕ) (groups : List ℕ) (firsts : List (Option ℕ)) (g a : ℕ) → AreFirsts limit groups (length groups) firsts → At g groups a → IsFirstOf groups g (first_by firsts g)
first_in limit groups firsts g a f at =
    let h = f.each g a (at_within at) at in
    subst (λ b. IsFirstOf groups g b) (sym (first_by_at firsts g h.member h.stands)) (f.right g h.member h.stands)

module _ (links : List Spanned) (n limit : ℕ) (groups : List ℕ) (firsts : List (Option ℕ)) (w : EndsWithin n links) (c : AreComponents (record { nodes = n; edges = joined links }) groups)
    (f : AreFirsts limit groups (length groups) firsts) where
  label_joined : (a l : ℕ) → At l (map (first_by firsts) groups) a → Reaches (Leads (joined links)) a l
  label_joined a l at =
      let m = at_map (first_by firsts) groups at in
      let k = first_in limit groups firsts m.item a f m.stands in
      subst (λ b. Reaches (Leads (joined links)) a b) (sym m.is) (c.same a (first_by firsts m.item) m.item m.stands k.among)

  label_least : (a b l : ℕ) → At l (map (first_by firsts) groups) a → Reaches (Leads (joined links)) a b → l ≤ b
  label_least a b l at r =
      let m = at_map (first_by firsts) groups at in
      let k = first_in limit groups firsts m.item a f m.stands in
      let sized : length groups ≡ n = c.sized in
      let within = at_within m.stands in
      let below : b < n = reach_within n (λ e h. to_within links n e w h) r (omega (arith, sized, within)) in
      let s = at_some groups b (omega (arith, sized, below)) in
      let same : m.item ≡ s.item = c.apart a b m.item s.item m.stands s.stands r (turned (back_again links) r) in
      subst (λ x. x ≤ b) (sym m.is) (k.least b (subst (λ g. At g groups b) (sym same) s.stands))

  labelled_by : AreLabels links n (map (first_by firsts) groups)
  labelled_by = record { sized = length-map groups (first_by firsts) ∙ c.sized; joined_to = label_joined; least = label_least }

pub labelled : (links : List Spanned) (n limit : ℕ) (graph : Drawn) (groups passed again : List ℕ) (firsts table : List (Option ℕ)) (labels : List ℕ) → EndsWithin n links → graph ≡ record { nodes = n; edges = joined links }
    → AreComponents graph groups → passed ≡ groups → AreFirsts limit passed (length passed) firsts → table ≡ firsts → again ≡ groups → labels ≡ map (first_by table) again → AreLabels links n labels
labelled links n limit graph groups passed again firsts table labels w drawn c p f t q e =
    let fs : AreFirsts limit groups (length groups) firsts = subst (λ (gs : List ℕ). AreFirsts limit gs (length gs) firsts) p f in
    let cs : AreComponents (record { nodes = n; edges = joined links }) groups = subst (λ (g : Drawn). AreComponents g groups) drawn c in
    subst (λ (xs : List ℕ). AreLabels links n xs) (sym (e ∙ (ap (λ fs. map (first_by fs) again) t ∙ ap (map (first_by firsts)) q))) (labelled_by links n limit groups firsts w cs fs)

-- ---- there is one label for each member

lists_same : (xs ys : List ℕ) → length xs ≡ length ys → ((i x y : ℕ) → At x xs i → At y ys i → x ≡ y) → xs ≡ ys
lists_same [] [] e h = refl
lists_same [] (y ∷ ys) e h = absurd (omega (arith, e))
lists_same (x ∷ xs) [] e h = absurd (omega (arith, e))
lists_same (x ∷ xs) (y ∷ ys) e h =
    ap (λ z. z ∷ xs) (h 0 x y first first) ∙ ap (λ zs. y ∷ zs) (lists_same xs ys (omega (arith, e)) (λ i a b p q. h (suc i) a b (next p) (next q)))

equal_both : (k l : ℕ) → k ≤ l → l ≤ k → k ≡ l
equal_both k l p q = omega arith

pub same_labels : (links : List Spanned) (n : ℕ) (a b : List ℕ) → AreLabels links n a → AreLabels links n b → a ≡ b
same_labels links n a b p q =
    lists_same a b (p.sized ∙ sym q.sized) (λ i x y s t. equal_both x y (p.least i y x s (q.joined_to i y t)) (q.least i x y t (p.joined_to i x s)))
