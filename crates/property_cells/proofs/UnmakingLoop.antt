-- The loop that makes invalid all that is reached.
use Rattle.std.proofs.Common.{◌≡◌, ◌≢◌, ℕ, zero, suc, ◌<◌, ◌≤◌, Bool, true, false, cond, ◌==◌, List, [], ◌∷◌, length, Option, Some, None, ◌⊎◌, inl, inr, refl, sym, ap, ◌∙◌, subst, T, eqb→eq, arith}
use lib.Dec.{eqb_refl}
use Rattle.dep_list.specs.Pairs.{In, readers_of}
use Rattle.dep_list.proofs.WalkLemmas.{in_readers, of_readers}
use Rattle.property_cells.specs.declared.marks.State.{State}
use Rattle.property_cells.specs.declared.marks.State.TheVariants.{Valid}
use Rattle.property_cells.specs.declared.points.Entry.{Entry}
use Rattle.property_cells.specs.Reach.{Reached, direct, through, IsMarking}
use Rattle.property_cells.specs.Points.{entry_at, points_below, points_of}
use Rattle.property_cells.specs.Marks.{Pending, state_at, marked, all_marked, taken, AllBelow, points_marked, EachInside, IsUnmaking}
use Rattle.property_cells.proofs.Reaching.{IsDone}
use Rattle.property_cells.proofs.Threads.{Fades, Fades-all_marked, all_marked-done, length-all_marked, AreMarking, AreMarking-all, AreMarking-taken, AreMarking-passed, head_inside, head_marked, weight, weight-all_marked, weight-taken, Fades-taken, length-taken}
use Rattle.property_cells.proofs.MarkingLoops.{AllBelow-readers}

-- ---- marking the readers of some points

module _ (pairs : List (ℕ × ℕ)) (k : ℕ) where
  pub length-points_marked : (ps : List ℕ) (m : Pending) → length (points_marked pairs ps m).cells ≡ length m.cells
  length-points_marked [] m = refl
  length-points_marked (p ∷ ps) m = length-points_marked ps (all_marked (readers_of p pairs) m) ∙ length-all_marked (readers_of p pairs) m

  inside_after : (p : ℕ) (m : Pending) → EachInside (length m.cells) k pairs → EachInside (length (all_marked (readers_of p pairs) m).cells) k pairs
  inside_after p m i = subst (λ n. EachInside n k pairs) (sym (length-all_marked (readers_of p pairs) m)) i

  pub Fades-points : (ps : List ℕ) (m : Pending) → EachInside (length m.cells) k pairs → Fades m (points_marked pairs ps m)
  Fades-points [] m i = λ c v. v
  Fades-points (p ∷ ps) m i = λ c v. Fades-all_marked (readers_of p pairs) m (AllBelow-readers (length m.cells) k p pairs i) c (Fades-points ps (all_marked (readers_of p pairs) m) (inside_after p m i) c v)

  pub points_done : (ps : List ℕ) (m : Pending) → EachInside (length m.cells) k pairs → (r p : ℕ) → In (r, p) pairs → In p ps → state_at (points_marked pairs ps m).cells r ≢ Valid
  points_done [] m i r p h j v = absurd j
  points_done (q ∷ ps) m i r p h (inl same) v =
      all_marked-done (readers_of q pairs) m (AllBelow-readers (length m.cells) k q pairs i) r (subst (λ j. In r (readers_of j pairs)) same (in_readers r p pairs h))
      (Fades-points ps (all_marked (readers_of q pairs) m) (inside_after q m i) r v)
  points_done (q ∷ ps) m i r p h (inr j) v = points_done ps (all_marked (readers_of q pairs) m) (inside_after q m i) r p h j v

  pub weight-points : (ps : List ℕ) (m : Pending) → EachInside (length m.cells) k pairs → weight (points_marked pairs ps m).cells ≤ weight m.cells
  weight-points [] m i = omega arith
  weight-points (p ∷ ps) m i =
      let one = weight-all_marked (readers_of p pairs) m (AllBelow-readers (length m.cells) k p pairs i) in let rest = weight-points ps (all_marked (readers_of p pairs) m) (inside_after p m i) in omega arith

  module _ (cell_of : ℕ → ℕ) (hit : ℕ → Type 0) (first : ℕ → State) where
    pub AreMarking-points : (busy : Option ℕ) (ps : List ℕ) (m : Pending) → EachInside (length m.cells) k pairs → ((p : ℕ) → In p ps → (hit p) ⊎ (Reached pairs cell_of hit (cell_of p)))
        → AreMarking pairs cell_of hit first busy m → AreMarking pairs cell_of hit first busy (points_marked pairs ps m)
    AreMarking-points busy [] m i r a = a
    AreMarking-points busy (p ∷ ps) m i r a =
        AreMarking-points busy ps (all_marked (readers_of p pairs) m) (inside_after p m i) (λ q j. r q (inr j))
        (AreMarking-all pairs cell_of hit first busy (readers_of p pairs) m (AllBelow-readers (length m.cells) k p pairs i) (λ c j. reached c (of_readers c p pairs j) (r p (inl refl))) a)
      where
        reached : (c : ℕ) → In (c, p) pairs → (hit p) ⊎ (Reached pairs cell_of hit (cell_of p)) → Reached pairs cell_of hit c
        reached c j (inl h) = direct c p j h
        reached c j (inr d) = through c p j d

-- ---- the points of a cell are those that name it

true_of : (b : Bool) → b ≡ true → T b
true_of true e = tt
true_of false e = cc

true_bool : (b : Bool) → T b → b ≡ true
true_bool true t = refl
true_bool false t = absurd t

pub in_points : (es : List Entry) (c p n : ℕ) → p < n → (entry_at es p).cell ≡ c → In p (points_below es c n)
in_points es c p zero h e = absurd (omega arith)
in_points es c p (suc n) h e = step ((entry_at es n).cell == c) refl (Rattle.property_cells.proofs.Reaching.same_or_not p n) (λ l. in_points es c p n l e)
  where
    step : (b : Bool) → ((entry_at es n).cell == c) ≡ b → (p ≡ n) ⊎ (p ≢ n) → (p < n → In p (points_below es c n)) → In p (cond b (n ∷ points_below es c n) (points_below es c n))
    step true d (inl same) rec = inl same
    step true d (inr differ) rec = inr (rec (omega (arith, differ)))
    step false d (inl same) rec =
        let yes : ((entry_at es n).cell == c) ≡ true = subst (λ j. ((entry_at es j).cell == c) ≡ true) same (subst (λ j. ((entry_at es p).cell == j) ≡ true) e (true_bool ((entry_at es p).cell == (entry_at es p).cell) (eqb_refl (entry_at es p).cell))) in
        let no : true ≡ false = sym yes ∙ d in cc
    step false d (inr differ) rec = rec (omega (arith, differ))

of_points : (es : List Entry) (c p n : ℕ) → In p (points_below es c n) → (entry_at es p).cell ≡ c
of_points es c p zero h = absurd h
of_points es c p (suc n) h = step ((entry_at es n).cell == c) refl h (of_points es c p n)
  where
    step : (b : Bool) → ((entry_at es n).cell == c) ≡ b → In p (cond b (n ∷ points_below es c n) (points_below es c n)) → (In p (points_below es c n) → (entry_at es p).cell ≡ c) → (entry_at es p).cell ≡ c
    step true d (inl same) rec = ap (λ j. (entry_at es j).cell) same ∙ eqb→eq (entry_at es n).cell c (true_of ((entry_at es n).cell == c) d)
    step true d (inr i) rec = rec i
    step false d i rec = rec i

pub pair_inside : (n k : ℕ) (xs : List (ℕ × ℕ)) (r p : ℕ) → EachInside n k xs → In (r, p) xs → p < k
pair_inside n k [] r p e h = absurd h
pair_inside n k (x ∷ xs) r p e (inl same) = subst (λ (y : ℕ × ℕ). y.1 < k) (sym same) e.1
pair_inside n k (x ∷ xs) r p e (inr h) = pair_inside n k xs r p e.2 h

-- ---- one turn: a cell becomes invalid, and its readers are marked

module _ (pairs : List (ℕ × ℕ)) (es : List Entry) where
  abbrev cell_of : ℕ → ℕ
  cell_of p = (entry_at es p).cell

  abbrev turned : ℕ → Pending → Pending
  turned c m = points_marked pairs (points_of es c) (taken c m)

  pub IsUnmaking-more : (hits : List ℕ) (first : ℕ → State) (m : Pending) (c : ℕ) → IsUnmaking pairs es hits first m → m.head ≡ Some c → EachInside (length m.cells) (length es) pairs → IsUnmaking pairs es hits first (turned c m)
  IsUnmaking-more hits first m c u e i =
      let hit : ℕ → Type 0 = λ p. In p hits in
      let before : AreMarking pairs cell_of hit first None m = record { list = u.list; threads = u.threads; marking = u.marking } in
      let h = head_inside pairs cell_of hit first m before c e in
      let t = AreMarking-taken pairs cell_of hit first c m e before in
      let i' = subst (λ n. EachInside n (length es) pairs) (sym (length-taken c m)) i in
      let reached = taken_reached hit first m c u e in
      let all = AreMarking-points pairs (length es) cell_of hit first (Some c) (points_of es c) (taken c m) i' (λ p j. inr (subst (Reached pairs cell_of hit) (sym (of_points es c p (length es) j)) reached)) t in
      let done : (p : ℕ) → cell_of p ≡ c → IsDone pairs cell_of hit (state_at (turned c m).cells) p =
      λ p at r j. points_done pairs (length es) (points_of es c) (taken c m) i' r p j (in_points es c p (length es) (pair_inside (length m.cells) (length es) pairs r p i j) at) in
      let after = AreMarking-passed pairs cell_of hit first c (turned c m) all done in
      record {
        list = after.list;
        threads = after.threads;
        marking = after.marking;
        done = λ r p j k v. u.done r p j k (Fades-taken c m h r (Fades-points pairs (length es) (points_of es c) (taken c m) i' r v));
      }
    where
      taken_reached : (hit : ℕ → Type 0) (first : ℕ → State) (m : Pending) (c : ℕ) → IsUnmaking pairs es hits first m → m.head ≡ Some c → Reached pairs cell_of (λ p. In p hits) c
      taken_reached hit first m c u e = by_list u.list u.threads u.marking
        where
          by_list : (cs : List ℕ) → Rattle.property_cells.specs.Marks.Threads m.cells m.head cs → IsMarking pairs cell_of (λ p. In p hits) first (state_at m.cells) None cs → Reached pairs cell_of (λ p. In p hits) c
          by_list [] t k = let no : Some c ≡ None = sym e ∙ t in cc
          by_list (d ∷ cs) t k =
              let same : d ≡ c = let q : Some d ≡ Some c = sym t.0 ∙ e in cc in let mk = k.marked d (inl refl) in
              subst (Reached pairs cell_of (λ p. In p hits)) same (subst (λ s. Rattle.property_cells.specs.Reach.Became pairs cell_of (λ p. In p hits) (d ∷ cs) s d) mk.1 (k.fate d mk.0)).1

  -- what the loop keeps
  pub record Unmakes_on (m now : Pending) : Type 0 where
    pub keeps : (hits : List ℕ) (first : ℕ → State) → IsUnmaking pairs es hits first m → IsUnmaking pairs es hits first now
    pub some : (hits : List ℕ) × ((first : ℕ → State) × IsUnmaking pairs es hits first now)
    pub length_same : length now.cells ≡ length m.cells

  pub Unmakes_on-more : (m now after : Pending) (c : ℕ) → Unmakes_on m now → now.head ≡ Some c → EachInside (length m.cells) (length es) pairs → after ≡ turned c now → Unmakes_on m after
  Unmakes_on-more m now after c k e i f =
      let i' = subst (λ n. EachInside n (length es) pairs) (sym k.length_same) i in
      subst (Unmakes_on m) (sym f) (record {
        keeps = λ hits first u. IsUnmaking-more hits first now c (k.keeps hits first u) e i';
        some = (k.some.0, (k.some.1.0, IsUnmaking-more k.some.0 k.some.1.0 now c k.some.1.1 e i'));
        length_same = length-points_marked pairs (length es) (points_of es c) (taken c now) ∙ length-taken c now ∙ k.length_same;
      })

  pub weight_falls : (m now after : Pending) (c : ℕ) → Unmakes_on m now → now.head ≡ Some c → EachInside (length m.cells) (length es) pairs → after ≡ turned c now → weight after.cells < weight now.cells
  weight_falls m now after c k e i f =
      let i' = subst (λ n. EachInside n (length es) pairs) (sym (length-taken c now ∙ k.length_same)) i in
      let u = k.some.1.1 in let hit : ℕ → Type 0 = λ p. In p k.some.0 in
      let before : AreMarking pairs cell_of hit k.some.1.0 None now = record { list = u.list; threads = u.threads; marking = u.marking } in
      let h = head_inside pairs cell_of hit k.some.1.0 now before c e in
      let w = weight-taken c now h (head_marked pairs cell_of hit k.some.1.0 now before c e) in
      let v = weight-points pairs (length es) (points_of es c) (taken c now) i' in
      let g = ap (λ (q : Pending). weight q.cells) f in
      omega arith

  pub head_of : (m now : Pending) → Unmakes_on m now → (c : ℕ) → now.head ≡ Some c → c < length now.cells
  head_of m now k c e = let u = k.some.1.1 in head_inside pairs cell_of (λ p. In p k.some.0) k.some.1.0 now (record { list = u.list; threads = u.threads; marking = u.marking }) c e
