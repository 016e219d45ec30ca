-- The readers of the points of which the facet changes are marked, and then all that is reached from them.
use Rattle.std.proofs.Common.{◌≡◌, ℕ, ◌<◌, Bool, true, false, List, [], ◌∷◌, ◌++◌, length, Option, Some, None, ◌⊎◌, inl, inr, refl, sym, ap, ◌∙◌, subst, arith}
use Rattle.std.specs.Prelude.{IsTrue}
use Rattle.dep_list.specs.Pairs.{In, readers_of}
use Rattle.value_types.specs.declared.facets.Facet.{Facet}
use Rattle.property_cells.specs.declared.marks.State.{State}
use Rattle.property_cells.specs.declared.marks.State.TheVariants.{Valid}
use Rattle.property_cells.specs.declared.points.Entry.{Entry}
use Rattle.property_cells.specs.Reach.{Reached, direct, through, Unmakes, IsNet}
use Rattle.property_cells.specs.Points.{entry_at, last_below, points_below}
use Rattle.property_cells.specs.Hits.{Looked, MarksHits, Hit}
use Rattle.property_cells.specs.Marks.{Pending, state_at, all_marked, points_marked, EachInside, IsUnmaking}
use Rattle.property_cells.proofs.Threads.{length-all_marked, AreMarking-begun, AreMarking-ended}
use Rattle.property_cells.proofs.MarkingLoops.{ahead, PointOf, ahead_last}
use Rattle.property_cells.proofs.UnmakingLoop.{length-points_marked, points_done, AreMarking-points, in_points, pair_inside}

pub not_true : (b : Bool) → b ≡ false → IsTrue b → ⊥
not_true true e t = cc
not_true false e t = cc

points_marked-push : (pairs : List (ℕ × ℕ)) (ps : List ℕ) (p : ℕ) (m : Pending) → points_marked pairs (ps ++ p ∷ []) m ≡ all_marked (readers_of p pairs) (points_marked pairs ps m)
points_marked-push pairs [] p m = refl
points_marked-push pairs (q ∷ ps) p m = points_marked-push pairs ps p (all_marked (readers_of q pairs) m)

in_push : (x : ℕ) (xs : List ℕ) (y : ℕ) → In x (xs ++ y ∷ []) → (In x xs) ⊎ (x ≡ y)
in_push x [] y (inl e) = inr e
in_push x [] y (inr h) = absurd h
in_push x (z ∷ xs) y (inl e) = inl (inl e)
in_push x (z ∷ xs) y (inr h) = later (in_push x xs y h)
  where
    later : (In x xs) ⊎ (x ≡ y) → ((x ≡ z) ⊎ In x xs) ⊎ (x ≡ y)
    later (inl i) = inl (inr i)
    later (inr e) = inr e

in_left : (x : ℕ) (xs : List ℕ) (y : ℕ) → In x xs → In x (xs ++ y ∷ [])
in_left x [] y h = absurd h
in_left x (z ∷ xs) y (inl e) = inl e
in_left x (z ∷ xs) y (inr h) = inr (in_left x xs y h)

in_last : (x : ℕ) (xs : List ℕ) (y : ℕ) → x ≡ y → In x (xs ++ y ∷ [])
in_last x [] y e = inl e
in_last x (z ∷ xs) y e = inr (in_last x xs y e)

module _ (pairs : List (ℕ × ℕ)) (es : List Entry) (c : ℕ) (differs : Facet → Type 0) where
  abbrev D : ℕ → Type 0
  D p = differs (entry_at es p).facet

  -- what the loop over the changed cell's points keeps
  pub record HitsSoFar (m : Pending) (at : Option ℕ) (now : Pending) : Type 0 where
    pub hits : List ℕ
    pub same : now ≡ points_marked pairs hits m
    pub there : PointOf es c at
    pub inside : EachInside (length now.cells) (length es) pairs
    pub sound : (p : ℕ) → In p hits → ((entry_at es p).cell ≡ c) × D p
    pub left : (p : ℕ) → p < length es → (entry_at es p).cell ≡ c → D p → (In p hits) ⊎ (In p (ahead es c at))

  pub HitsSoFar-none : (m : Pending) (at : Option ℕ) → at ≡ last_below es c (length es) → EachInside (length m.cells) (length es) pairs → HitsSoFar m at m
  HitsSoFar-none m at e i =
      let a = ahead_last es c (length es) (omega arith) in
      record {
        hits = [];
        same = refl;
        there = subst (PointOf es c) (sym e) a.1;
        inside = i;
        sound = λ p h. absurd h;
        left = λ p h k d. inr (subst (In p) (sym (ap (ahead es c) e ∙ a.0)) (in_points es c p (length es) h k));
      }

  abbrev Looks : ℕ → Pending → Pending → Type 0
  Looks = Looked pairs es differs

  pub HitsSoFar-more : (m : Pending) (at : Option ℕ) (now : Pending) (p : ℕ) (after : Pending) (next : Option ℕ) → HitsSoFar m at now → at ≡ Some p → Looks p now after → next ≡ last_below es (entry_at es p).cell p → HitsSoFar m next after
  HitsSoFar-more m at now p after next k e looked g =
      by_case looked
    where
      here : PointOf es c (Some p)
      here = subst (PointOf es c) e k.there

      a : (ahead es c (last_below es c p) ≡ points_below es c p) × PointOf es c (last_below es c p)
      a = ahead_last es c p (omega (arith, here.0))

      next_is : next ≡ last_below es c p
      next_is = g ∙ ap (λ d. last_below es d p) here.1

      ahead_is : ahead es c next ≡ points_below es c p
      ahead_is = ap (ahead es c) next_is ∙ a.0

      step : (q : ℕ) → (In q k.hits) ⊎ (In q (ahead es c at)) → (In q k.hits) ⊎ ((q ≡ p) ⊎ In q (ahead es c next))
      step q (inl h) = inl h
      step q (inr h) = inr (split (subst (λ o. In q (ahead es c o)) e h))
        where
          split : In q (p ∷ points_below es c p) → (q ≡ p) ⊎ In q (ahead es c next)
          split (inl s) = inl s
          split (inr j) = inr (subst (In q) (sym ahead_is) j)

      by_case : Looks p now after → HitsSoFar m next after
      by_case (inl (d, f)) = record {
        hits = k.hits ++ p ∷ [];
        same = f ∙ ap (all_marked (readers_of p pairs)) k.same ∙ sym (points_marked-push pairs k.hits p m);
        there = subst (PointOf es c) (sym next_is) a.1;
        inside = subst (λ n. EachInside n (length es) pairs) (sym (ap (λ (q : Pending). length q.cells) f ∙ length-all_marked (readers_of p pairs) now)) k.inside;
        sound = λ q h. sound q (in_push q k.hits p h);
        left = λ q h i j. left q (step q (k.left q h i j));
      }
        where
          sound : (q : ℕ) → (In q k.hits) ⊎ (q ≡ p) → ((entry_at es q).cell ≡ c) × D q
          sound q (inl h) = k.sound q h
          sound q (inr s) = (ap (λ j. (entry_at es j).cell) s ∙ here.1, subst D (sym s) d)

          left : (q : ℕ) → (In q k.hits) ⊎ ((q ≡ p) ⊎ In q (ahead es c next)) → (In q (k.hits ++ p ∷ [])) ⊎ (In q (ahead es c next))
          left q (inl h) = inl (in_left q k.hits p h)
          left q (inr (inl s)) = inl (in_last q k.hits p s)
          left q (inr (inr j)) = inr j
      by_case (inr (n, f)) = record {
        hits = k.hits;
        same = f ∙ k.same;
        there = subst (PointOf es c) (sym next_is) a.1;
        inside = subst (λ n. EachInside n (length es) pairs) (sym (ap (λ (q : Pending). length q.cells) f)) k.inside;
        sound = k.sound;
        left = λ q h i j. left q j (step q (k.left q h i j));
      }
        where
          left : (q : ℕ) → D q → (In q k.hits) ⊎ ((q ≡ p) ⊎ In q (ahead es c next)) → (In q k.hits) ⊎ (In q (ahead es c next))
          left q j (inl h) = inl h
          left q j (inr (inl s)) = absurd (n (subst D s j))
          left q j (inr (inr h)) = inr h

  pub HitsSoFar-all : (m : Pending) (at : Option ℕ) (now : Pending) → HitsSoFar m at now → at ≡ None → MarksHits pairs es c differs m now
  HitsSoFar-all m at now k e = record {
    hits = k.hits;
    are = record { sound = k.sound; complete = λ p h i d. only p (k.left p h i d) };
    same = k.same;
  }
    where
      only : (p : ℕ) → (In p k.hits) ⊎ (In p (ahead es c at)) → In p k.hits
      only p (inl h) = h
      only p (inr h) = absurd (subst (λ o. In p (ahead es c o)) e h)

  -- ---- the whole change

  abbrev cell_of : ℕ → ℕ
  cell_of p = (entry_at es p).cell

  abbrev Touched : ℕ → Type 0
  Touched = Hit es c differs

  module _ (m now : Pending) (h : MarksHits pairs es c differs m now) (i : EachInside (length m.cells) (length es) pairs) where
    abbrev InHits : ℕ → Type 0
    InHits p = In p h.hits

    reached_in : (r : ℕ) → Reached pairs cell_of Touched r → Reached pairs cell_of InHits r
    reached_in s (direct r p j k) = direct r p j (h.are.complete p (pair_inside (length m.cells) (length es) pairs r p i j) k.0 k.1)
    reached_in s (through r p j d) = through r p j (reached_in (cell_of p) d)

    reached_out : (r : ℕ) → Reached pairs cell_of InHits r → Reached pairs cell_of Touched r
    reached_out s (direct r p j k) = direct r p j (h.are.sound p k)
    reached_out s (through r p j d) = through r p j (reached_out (cell_of p) d)

    -- the marking has begun
    pub unmaking_begun : m.head ≡ None → IsUnmaking pairs es h.hits (state_at m.cells) now
    unmaking_begun e =
        let a = AreMarking-points pairs (length es) cell_of InHits (state_at m.cells) None h.hits m i (λ p j. inl j) (AreMarking-begun pairs cell_of InHits (state_at m.cells) m e (λ d. refl)) in
        subst (IsUnmaking pairs es h.hits (state_at m.cells)) (sym h.same) (record {
          list = a.list;
          threads = a.threads;
          marking = a.marking;
          done = λ r p j k. points_done pairs (length es) h.hits m i r p j k;
        })

    pub length_marked : length now.cells ≡ length m.cells
    length_marked = ap (λ (q : Pending). length q.cells) h.same ∙ length-points_marked pairs (length es) h.hits m

    -- exactly what the change reaches is invalid at the end
    pub unmade : (end : Pending) → IsUnmaking pairs es h.hits (state_at m.cells) end → end.head ≡ None → IsNet pairs cell_of Touched (state_at m.cells) → Unmakes pairs cell_of Touched (state_at m.cells) (state_at end.cells)
    unmade end u e net =
        let w = AreMarking-ended pairs cell_of InHits (state_at m.cells) end (record { list = u.list; threads = u.threads; marking = u.marking }) e (λ p j r k. u.done r p k j) (record { stands = net.stands; bare = net.bare }) in
        record { kept = w.kept; fate = λ d v. out d (w.fate d v) }
      where
        out : (d : ℕ) → ((state_at end.cells d ≡ Valid) × (Reached pairs cell_of InHits d → ⊥)) ⊎ ((state_at end.cells d ≡ Rattle.property_cells.specs.declared.marks.State.TheVariants.Invalid) × Reached pairs cell_of InHits d)
            → ((state_at end.cells d ≡ Valid) × (Reached pairs cell_of Touched d → ⊥)) ⊎ ((state_at end.cells d ≡ Rattle.property_cells.specs.declared.marks.State.TheVariants.Invalid) × Reached pairs cell_of Touched d)
        out d (inl x) = inl (x.0, λ r. x.1 (reached_in d r))
        out d (inr x) = inr (x.0, reached_out d x.1)
