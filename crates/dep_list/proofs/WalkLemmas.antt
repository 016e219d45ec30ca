-- Going along a row.
use Rattle.std.proofs.Common.{◌≡◌, ◌≢◌, ℕ, ◌<◌, ◌≤◌, Bool, true, false, cond, ◌==◌, List, [], ◌∷◌, ◌++◌, length, Option, Some, None, inl, inr, refl, sym, ap, ◌∙◌, subst, append_assoc, T, eqb→eq}
use Rattle.std.specs.Prelude.{IsSome, map, filter}
use lib.Dec.{eqb_refl}
use denote.RawPtr.{Ptr}
use Rattle.dep_list.specs.declared.node.Place.{Place}
use Rattle.dep_list.specs.declared.node.Link.{Link}
use Rattle.dep_list.specs.declared.node.Node.{Node}
use Rattle.dep_list.specs.declared.node.Side.{Side}
use Rattle.dep_list.specs.Pairs.{In, readers_of, points_of}
use Rattle.dep_list.specs.Cells.{find, places, Absent, Apart}
use Rattle.dep_list.specs.Lists.{place, key_of, other_of, link_of, pair_if, step_if, row, first_or, IsRow, State, Held, ends_of, ends_at, FoundIf, rest, others, others_of, pairs_of}
use Rattle.dep_list.proofs.Cells.{same_ptr_refl}
use Rattle.dep_list.proofs.Places.{Apart-before, places-append, Apart-pick, pick-found, picked, Cut, cut_at}
use Rattle.dep_list.proofs.Rows.{Step, link_in_row}
use Rattle.dep_list.proofs.Selections.{first_found, step_linked, key_is, step_some}
use Rattle.dep_list.proofs.DropLemmas.{others-row}
use Rattle.dep_list.proofs.CutKeeps.{IsPairAt, inside_of}
use Rattle.dep_list.proofs.GrowLemmas.{row-not_inside}

module _ {A : Type 0} where
  rest_none : (cs : List (Ptr × A)) → rest cs None ≡ []
  rest_none [] = refl
  rest_none (c ∷ cs) = refl

  rest_at : (us : List (Ptr × A)) (c : Ptr × A) (vs : List (Ptr × A)) → Absent c.0 (places us) → rest (us ++ c ∷ vs) (Some (place c.0)) ≡ c ∷ vs
  rest_at [] c vs a = λ i. cond (same_ptr_refl c.0 i) (c ∷ vs) (rest vs (Some (place c.0)))
  rest_at (u ∷ us) c vs a = (λ i. cond (a.0 i) (u ∷ (us ++ c ∷ vs)) (rest (us ++ c ∷ vs) (Some (place c.0)))) ∙ rest_at us c vs a.1

  -- what begins at the first of a part is that part
  pub rest_first : (us vs : List (Ptr × A)) → Apart (places (us ++ vs)) → rest (us ++ vs) (first_or None vs) ≡ vs
  rest_first us [] a = rest_none (us ++ [])
  rest_first us (v ∷ vs) a = rest_at us v vs (Apart-before (places us) v.0 (places vs) (subst Apart (places-append us (v ∷ vs)) a))

-- the first of a list is where its row begins
pub start_inside : (s : State) → Held s → (side : Side) (k : ℕ) → k < length (ends_of side s) → (ends_at side k s).first ≡ first_or None (row side k s.cells)
start_inside s K side k h = (K.rows side k h).first

pub start_outside : (s : State) → Held s → (side : Side) (k : ℕ) → length (ends_of side s) ≤ k → None ≡ first_or None (row side k s.cells)
start_outside s K side k h = sym (ap (first_or None) (row-not_inside s K side k h))

-- all of a row is to come from its first node on
pub others_all : (s : State) → Held s → (side : Side) (k : ℕ) (o : Option Place) → o ≡ first_or None (row side k s.cells) → others (rest (row side k s.cells) o) ≡ others_of side k (pairs_of s)
others_all s K side k o e =
    ap (λ (p : Option Place). others (rest (row side k s.cells) p)) e ∙ ap others (rest_first [] (row side k s.cells) (Apart-pick (step_if side k) s.cells K.apart)) ∙ others-row side k s.cells

pub start_found : (s : State) (side : Side) (k : ℕ) (o : Option Place) → o ≡ first_or None (row side k s.cells) → FoundIf o (row side k s.cells)
start_found s side k o e = subst (λ (p : Option Place). FoundIf p (row side k s.cells)) (sym e) (first_found [] (row side k s.cells))

some_of : {A : Type 0} (o : Option A) → IsSome o → (x : A) × (o ≡ Some x)
some_of None h = cc
some_of (Some x) h = (x, refl)

-- the node at a place of a row, and what comes behind it
pub record IsStep (s : State) (side : Side) (k : ℕ) (q : Place) (n : Node) : Type 0 where
  pub others : others (rest (row side k s.cells) (Some q)) ≡ other_of side n ∷ others (rest (row side k s.cells) (link_of side n).next)
  pub next : FoundIf (link_of side n).next (row side k s.cells)

pub found_node : (s : State) → Held s → (side : Side) (k : ℕ) (q : Place) → FoundIf (Some q) (row side k s.cells) → IsSome (find s.cells q.ptr)
found_node s K side k q h =
    let y = some_of (find (row side k s.cells) q.ptr) h in
    subst (λ (o : Option Node). IsSome o) (sym (picked (step_if side k) q.ptr s.cells y.0 K.apart y.1).found) refl

module _ (s : State) (K : Held s) (side : Side) (n : Node) (q : Place) (found : find s.cells q.ptr ≡ Some n) (linked : n.linked ≡ true) where
  abbrev k0 : ℕ
  k0 = key_of side n

  abbrev r : List (Ptr × Step)
  r = row side k0 s.cells

  abbrev x : Step
  x = (other_of side n, link_of side n)

  is_pair : IsPairAt s q.ptr n
  is_pair = record { found = found; linked = linked; entry = pick-found pair_if q.ptr s.cells n (n.reader, n.point) found (ap (λ (b : Bool). cond b (Some (n.reader, n.point)) None) linked) }

  own : Cut r q.ptr x
  own = cut_at q.ptr r x (pick-found (step_if side k0) q.ptr s.cells n x found (step_some side n linked))

  apart : Apart (places r)
  apart = Apart-pick (step_if side k0) s.cells K.apart

  next_is : (link_of side n).next ≡ first_or None own.behind
  next_is = ap (λ (l : Link). l.next) (link_in_row (ends_at side k0 s) own.before q.ptr x own.behind (subst (IsRow (ends_at side k0 s)) own.whole (K.rows side k0 (inside_of s K q.ptr n is_pair side))))

  whole' : r ≡ (own.before ++ (q.ptr, x) ∷ []) ++ own.behind
  whole' = own.whole ∙ sym (append_assoc own.before ((q.ptr, x) ∷ []) own.behind)

  behind_is : rest r (link_of side n).next ≡ own.behind
  behind_is = ap (rest r) next_is ∙ ap (λ (l : List (Ptr × Step)). rest l (first_or None own.behind)) whole'
      ∙ rest_first (own.before ++ (q.ptr, x) ∷ []) own.behind (subst (λ (l : List (Ptr × Step)). Apart (places l)) whole' apart)

  here_is : rest r (Some q) ≡ (q.ptr, x) ∷ own.behind
  here_is = ap (λ (l : List (Ptr × Step)). rest l (Some q)) own.whole
      ∙ rest_first own.before ((q.ptr, x) ∷ own.behind) (subst (λ (l : List (Ptr × Step)). Apart (places l)) own.whole apart)

  step_own : IsStep s side k0 q n
  step_own = record {
    others = ap others here_is ∙ ap (λ (l : List (Ptr × Step)). other_of side n ∷ others l) (sym behind_is);
    next = subst (λ (o : Option Place). FoundIf o r) (sym next_is) (subst (λ (l : List (Ptr × Step)). FoundIf (first_or None own.behind) l) (sym whole') (first_found (own.before ++ (q.ptr, x) ∷ []) own.behind));
  }

pub step_of : (s : State) → Held s → (side : Side) (k : ℕ) (q : Place) → FoundIf (Some q) (row side k s.cells) → (n : Node) → find s.cells q.ptr ≡ Some n → IsStep s side k q n
step_of s K side k q h n f =
    let y = some_of (find (row side k s.cells) q.ptr) h in let p = picked (step_if side k) q.ptr s.cells y.0 K.apart y.1 in
    let same : p.value ≡ n = let e : Some p.value ≡ Some n = sym p.found ∙ f in cc in
    let shows : step_if side k n ≡ Some y.0 = ap (step_if side k) (sym same) ∙ p.shows in
    subst (λ (j : ℕ). IsStep s side j q n) (key_is side k n y.0 shows) (step_own s K side n q f (step_linked side k n y.0 shows).0)

-- ---- a pair, seen from its reader and from its point

true_of : (b : Bool) → b ≡ true → T b
true_of true e = tt
true_of false e = cc

true_bool : (b : Bool) → T b → b ≡ true
true_bool true t = refl
true_bool false t = absurd t

eqb_same : (n m : ℕ) → n ≡ m → (m == n) ≡ true
eqb_same n m e = subst (λ (j : ℕ). (j == n) ≡ true) e (true_bool (n == n) (eqb_refl n))

module _ (f g : ℕ × ℕ → ℕ) (k : ℕ) where
  abbrev Those : List (ℕ × ℕ) → List ℕ
  Those ps = map g (filter (λ x. f x == k) ps)

  in_more : (z : ℕ × ℕ) (j : ℕ) (b : Bool) (ps : List (ℕ × ℕ)) → In j (Those ps) → In j (map g (cond b (z ∷ filter (λ x. f x == k) ps) (filter (λ x. f x == k) ps)))
  in_more z j true ps h = inr h
  in_more z j false ps h = h

  in_those : (y : ℕ × ℕ) (ps : List (ℕ × ℕ)) → f y ≡ k → In y ps → In (g y) (Those ps)
  in_those y [] e h = h
  in_those y (z ∷ ps) e (inl same) =
      subst (λ (b : Bool). In (g y) (map g (cond b (z ∷ filter (λ x. f x == k) ps) (filter (λ x. f x == k) ps)))) (sym (eqb_same k (f z) (sym e ∙ ap f same))) (inl (ap g same))
  in_those y (z ∷ ps) e (inr h) = in_more z (g y) (f z == k) ps (in_those y ps e h)

  of_step : (y z : ℕ × ℕ) (b : Bool) (ps : List (ℕ × ℕ)) → (f z == k) ≡ b → ((x : ℕ × ℕ) → f x ≡ k → g y ≡ g x → y ≡ x) → (In (g y) (Those ps) → In y ps)
      → In (g y) (map g (cond b (z ∷ filter (λ x. f x == k) ps) (filter (λ x. f x == k) ps))) → In y (z ∷ ps)
  of_step y z true ps e one rec (inl same) = inl (one z (eqb→eq (f z) k (true_of (f z == k) e)) same)
  of_step y z true ps e one rec (inr h) = inr (rec h)
  of_step y z false ps e one rec h = inr (rec h)

  of_those : (y : ℕ × ℕ) (ps : List (ℕ × ℕ)) → ((x : ℕ × ℕ) → f x ≡ k → g y ≡ g x → y ≡ x) → In (g y) (Those ps) → In y ps
  of_those y [] one h = h
  of_those y (z ∷ ps) one h = of_step y z (f z == k) ps refl one (of_those y ps one) h

pub in_points : (r p : ℕ) (ps : List (ℕ × ℕ)) → In (r, p) ps → In p (points_of r ps)
in_points r p ps h = in_those (λ x. x.0) (λ x. x.1) r (r, p) ps refl h

pub of_points : (r p : ℕ) (ps : List (ℕ × ℕ)) → In p (points_of r ps) → In (r, p) ps
of_points r p ps h = of_those (λ x. x.0) (λ x. x.1) r (r, p) ps (λ x e f. λ i. (sym e i, f i)) h

pub in_readers : (r p : ℕ) (ps : List (ℕ × ℕ)) → In (r, p) ps → In r (readers_of p ps)
in_readers r p ps h = in_those (λ x. x.1) (λ x. x.0) p (r, p) ps refl h

pub of_readers : (r p : ℕ) (ps : List (ℕ × ℕ)) → In r (readers_of p ps) → In (r, p) ps
of_readers r p ps h = of_those (λ x. x.1) (λ x. x.0) p (r, p) ps (λ x e f. λ i. (f i, sym e i)) h

-- what the search in both lists keeps: the pair is there exactly where each has its other end still to come
pub record IsAhead (reader point : ℕ) (pairs : List (ℕ × ℕ)) (points readers : List ℕ) : Type 0 where
  pub points_in : In (reader, point) pairs → In point points
  pub points_of : In point points → In (reader, point) pairs
  pub readers_in : In (reader, point) pairs → In reader readers
  pub readers_of : In reader readers → In (reader, point) pairs

pub IsAhead-all : (r p : ℕ) (ps : List (ℕ × ℕ)) (points readers : List ℕ) → points ≡ points_of r ps → readers ≡ readers_of p ps → IsAhead r p ps points readers
IsAhead-all r p ps points readers e f = record {
  points_in = λ h. subst (In p) (sym e) (in_points r p ps h);
  points_of = λ h. of_points r p ps (subst (In p) e h);
  readers_in = λ h. subst (In r) (sym f) (in_readers r p ps h);
  readers_of = λ h. of_readers r p ps (subst (In r) f h);
}

passed : (j x : ℕ) (xs : List ℕ) → x ≢ j → In j (x ∷ xs) → In j xs
passed j x xs n (inl e) = absurd (n (sym e))
passed j x xs n (inr h) = h

pub IsAhead-more : (r p : ℕ) (ps : List (ℕ × ℕ)) (x y : ℕ) (points readers points' readers' : List ℕ) → IsAhead r p ps points readers → points ≡ x ∷ points' → readers ≡ y ∷ readers' → x ≢ p → y ≢ r
    → IsAhead r p ps points' readers'
IsAhead-more r p ps x y points readers points' readers' a e f n m = record {
  points_in = λ h. passed p x points' n (subst (In p) e (a.points_in h));
  points_of = λ h. a.points_of (subst (In p) (sym e) (inr h));
  readers_in = λ h. passed r y readers' m (subst (In r) f (a.readers_in h));
  readers_of = λ h. a.readers_of (subst (In r) (sym f) (inr h));
}
