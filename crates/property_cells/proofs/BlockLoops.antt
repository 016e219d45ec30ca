-- What the loops over the cells of a block keep.
use Rattle.std.proofs.Common.{◌≡◌, ◌≢◌, ℕ, ◌+◌, ◌<◌, ◌≤◌, ◌==◌, not, cond, ◌&&◌, Bool, true, false, List, [], ◌∷◌, ◌++◌, length, take, drop, Option, Some, None, ◌⊎◌, inl, inr, refl, sym, ap, ◌∙◌, subst, arith, get_or-set_other}
use Rattle.std.specs.Prelude.{filter, nat_le, nat_lt}
use Rattle.std.proofs.Math.ListN.{set, length-set}
use Rattle.std.proofs.lemmas.Bool.{cases_lt, ltb-true, leb-true, lt-ltb, le-leb}
use Rattle.dep_list.specs.Pairs.{In, Pairs, SameEnds, drop_reader, drop_point}
use Rattle.value_types.specs.declared.values.Value.{Value}
use Rattle.value_types.specs.declared.facets.Facet.{Facet}
use Rattle.property_cells.specs.declared.marks.State.{State}
use Rattle.property_cells.specs.declared.points.Entry.{Entry}
use Rattle.property_cells.specs.Points.{entry_at, last_below, points_below}
use Rattle.property_cells.specs.Marks.{Pending, state_at, written, AreWritten, EachInside}
use Rattle.property_cells.specs.Net.{is_outside, outside}
use Rattle.property_cells.specs.Removing.{is_of_other, is_apart, AreDropped}
use Rattle.property_cells.proofs.Reaching.{same_or_not, Sets}
use Rattle.property_cells.proofs.MarkingLoops.{ahead, PointOf, ahead_last}
use Rattle.property_cells.proofs.UnmakingLoop.{in_points}
use Rattle.property_cells.proofs.Lists.{by_bool, in_filter, filter_all, filter_filter, filter_filter_less, other, other_differs, eqb_no}
use Rattle.property_cells.proofs.PairLemmas.{each_inside, EachInside-filter}
use Rattle.property_cells.proofs.HeldLemmas.{Sets-written, length-written, head-written}

-- ---- states

pub AreWritten-none : (m : Pending) (first : ℕ) (s : State) → AreWritten m m first first s
AreWritten-none m first s = record { own = λ c a b. absurd (omega arith); others = λ c o. refl; count = refl; head = refl }

pub AreWritten-more : (m now after : Pending) (first k : ℕ) (s : State) → AreWritten m now first k s → first ≤ k → k < length now.cells → after ≡ written k s now → AreWritten m after first (k + 1) s
AreWritten-more m now after first k s w a inside e = record {
  own = λ c l h. own c l h (same_or_not c k);
  others = λ c o. S.there c (differs c o) ∙ w.others c (narrow c o);
  count = length-written now after k s e inside ∙ w.count;
  head = head-written now after k s e inside ∙ w.head;
}
  where
    S : Sets k s (state_at now.cells) (state_at after.cells)
    S = Sets-written now after k s e inside

    own : (c : ℕ) → first ≤ c → c < k + 1 → (c ≡ k) ⊎ (c ≢ k) → state_at after.cells c ≡ s
    own c l h (inl same) = ap (state_at after.cells) same ∙ S.here
    own c l h (inr d) = S.there c d ∙ w.own c l (omega arith)

    differs : (c : ℕ) → (c < first) ⊎ (k + 1 ≤ c) → c ≢ k
    differs c (inl h) same = absurd (omega arith)
    differs c (inr h) same = absurd (omega arith)

    narrow : (c : ℕ) → (c < first) ⊎ (k + 1 ≤ c) → (c < first) ⊎ (k ≤ c)
    narrow c (inl h) = inl h
    narrow c (inr h) = inr (omega arith)

-- ---- values

pub AreDropped-none : (vs : List (Option Value)) (first : ℕ) → AreDropped vs vs first first
AreDropped-none vs first = record { others = λ c o. refl; count = refl }

pub AreDropped-more : (vs now : List (Option Value)) (first k : ℕ) → AreDropped vs now first k → first ≤ k → AreDropped vs (set now k None) first (k + 1)
AreDropped-more vs now first k d a = record { others = λ c o. get_or-set_other now k c None None (differs c o) ∙ d.others c (narrow c o); count = length-set now k None ∙ d.count }
  where
    differs : (c : ℕ) → (c < first) ⊎ (k + 1 ≤ c) → c ≢ k
    differs c (inl h) same = absurd (omega arith)
    differs c (inr h) same = absurd (omega arith)

    narrow : (c : ℕ) → (c < first) ⊎ (k + 1 ≤ c) → (c < first) ⊎ (k ≤ c)
    narrow c (inl h) = inl h
    narrow c (inr h) = inr (omega arith)

-- a table that is written as a slice of the same length
refilled : (ws vs : List (Option Value)) → length ws ≡ length vs → take (length vs) (ws ++ drop (length ws) vs) ≡ ws
refilled [] [] e = refl
refilled [] (v ∷ vs) e = absurd (omega arith)
refilled (w ∷ ws) [] e = absurd (omega arith)
refilled (w ∷ ws) (v ∷ vs) e = ap (λ l. w ∷ l) (refilled ws vs (omega arith))

pub AreDropped-table : (vs before ws : List (Option Value)) (n first past : ℕ) → n ≡ length vs → before ≡ vs → AreDropped before ws first past → AreDropped vs (take n (ws ++ drop (length ws) vs)) first past
AreDropped-table vs before ws n first past e f d =
    let k : AreDropped vs ws first past = subst (λ (l : List (Option Value)). AreDropped l ws first past) f d in
    subst (λ (l : List (Option Value)). AreDropped vs l first past) (sym ((λ i. take (e i) (ws ++ drop (length ws) vs)) ∙ refilled ws vs k.count)) k

-- ---- the pairs of one cell's points

module _ (es : List Entry) (c : ℕ) where
  -- what the loop over the cell's points keeps
  pub record Unlinks (before : Pairs) (at : Option ℕ) (now : Pairs) : Type 0 where
    pub there : PointOf es c at
    pub same : filter (is_of_other es c) now.pairs ≡ filter (is_of_other es c) before.pairs
    pub left : (y : ℕ × ℕ) → In y now.pairs → (entry_at es y.1).cell ≡ c → In y.1 (ahead es c at)
    pub readers : now.readers ≡ before.readers
    pub points : now.points ≡ before.points

  pub Unlinks-none : (n : ℕ) (before : Pairs) (at : Option ℕ) → at ≡ last_below es c (length es) → EachInside n (length es) before.pairs → Unlinks before at before
  Unlinks-none n before at e i =
      let a = ahead_last es c (length es) (omega arith) in
      record {
        there = subst (PointOf es c) (sym e) a.1;
        same = refl;
        left = λ y h own. subst (In y.1) (sym (ap (ahead es c) e ∙ a.0)) (in_points es c y.1 (length es) (each_inside n (length es) before.pairs y i h).1 own);
        readers = refl;
        points = refl;
      }

  pub Unlinks-more : (before : Pairs) (at : Option ℕ) (now : Pairs) (p : ℕ) (after : Pairs) (next : Option ℕ) → Unlinks before at now → at ≡ Some p → after.pairs ≡ drop_point p now.pairs → SameEnds now after → next ≡ last_below es (entry_at es p).cell p → Unlinks before next after
  Unlinks-more before at now p after next k e f ends g = record {
    there = subst (PointOf es c) (sym next_is) a.1;
    same = ap (filter (is_of_other es c)) f ∙ filter_filter_less (is_of_other es c) (λ y. not (y.1 == p)) now.pairs of_cell ∙ k.same;
    left = λ y h own. let o = in_filter (λ x. not (x.1 == p)) y now.pairs (subst (In y) f h) in left y (subst (λ (x : Option ℕ). In y.1 (ahead es c x)) e (k.left y o.0 own)) (other_differs y.1 p o.1);
    readers = ends.readers ∙ k.readers;
    points = ends.points ∙ k.points;
  }
    where
      here : PointOf es c (Some p)
      here = subst (PointOf es c) e k.there

      a : (ahead es c (last_below es c p) ≡ points_below es c p) × PointOf es c (last_below es c p)
      a = ahead_last es c p (omega (arith, here.0))

      next_is : next ≡ last_below es c p
      next_is = g ∙ ap (λ d. last_below es d p) here.1

      of_cell : (y : ℕ × ℕ) → not (y.1 == p) ≡ false → is_of_other es c y ≡ false
      of_cell y e = by_bool (is_of_other es c y) (λ t. absurd (other_differs (entry_at es y.1).cell c t (ap (λ j. (entry_at es j).cell) (eqb_no y.1 p e) ∙ here.1))) (λ t. t)

      left : (y : ℕ × ℕ) → In y.1 (p ∷ points_below es c p) → y.1 ≢ p → In y.1 (ahead es c next)
      left y (inl same) differ = absurd (differ same)
      left y (inr h) differ = subst (In y.1) (sym (ap (ahead es c) next_is ∙ a.0)) h

  pub Unlinks-all : (before : Pairs) (at : Option ℕ) (now : Pairs) → Unlinks before at now → at ≡ None → now.pairs ≡ filter (is_of_other es c) before.pairs
  Unlinks-all before at now k e = sym (filter_all (is_of_other es c) now.pairs all) ∙ k.same
    where
      all : (y : ℕ × ℕ) → In y now.pairs → is_of_other es c y ≡ true
      all y h = by_bool (is_of_other es c y) (λ t. t) (λ t. absurd (subst (λ (x : Option ℕ). In y.1 (ahead es c x)) e (k.left y h (eqb_no (entry_at es y.1).cell c t))))

-- ---- the pairs of the cells of a block

-- no cell is one of none
pub outside_none : (first c : ℕ) → is_outside first first c ≡ true
outside_none first c = by_bool (is_outside first first c) (λ e. e) (λ e. absurd (no (nat_le first c) (nat_lt c first) (λ t. leb-true first c t) (λ t. ltb-true c first t) e))
  where
    no : (a b : Bool) → (a ≡ true → first ≤ c) → (b ≡ true → c < first) → not (a && b) ≡ false → ⊥
    no true true f g e = let h = f refl in let k = g refl in omega arith
    no true false f g e = cc
    no false true f g e = cc
    no false false f g e = cc

-- one more
pub outside_more : (first k c : ℕ) → first ≤ k → (is_outside first k c && other k c) ≡ is_outside first (k + 1) c
outside_more first k c h = by_case (cases_lt c first) (cases_lt c k)
  where
    out : (past : ℕ) → (c < first) ⊎ (past ≤ c) → is_outside first past c ≡ true
    out past o = by_bool (is_outside first past c) (λ e. e) (λ e. absurd (no (nat_le first c) (nat_lt c past) (λ t. leb-true first c t) (λ t. ltb-true c past t) e o))
      where
        no : (a b : Bool) → (a ≡ true → first ≤ c) → (b ≡ true → c < past) → not (a && b) ≡ false → (c < first) ⊎ (past ≤ c) → ⊥
        no true true f g e (inl o) = let h = f refl in omega arith
        no true true f g e (inr o) = let k = g refl in omega arith
        no true false f g e o = cc
        no false true f g e o = cc
        no false false f g e o = cc

    within : (past : ℕ) → first ≤ c → c < past → is_outside first past c ≡ false
    within past a b = λ i. not (le-leb first c a i && lt-ltb c past b i)

    differs : c ≢ k → other k c ≡ true
    differs n = by_bool (other k c) (λ e. e) (λ e. absurd (n (eqb_no c k e)))

    same : c ≡ k → other k c ≡ false
    same e = by_bool (other k c) (λ t. absurd (other_differs c k t e)) (λ t. t)

    last : k ≤ c → first ≤ c → (c ≡ k) ⊎ (c ≢ k) → (is_outside first k c && other k c) ≡ is_outside first (k + 1) c
    last l a (inl e) = (λ i. is_outside first k c && same e i) ∙ and_false (is_outside first k c) ∙ sym (within (k + 1) a (omega arith))
      where
        and_false : (b : Bool) → (b && false) ≡ false
        and_false true = refl
        and_false false = refl
    last l a (inr n) = (λ i. out k (inr l) i && differs n i) ∙ sym (out (k + 1) (inr (omega arith)))

    by_case : (c < first) ⊎ (first ≤ c) → (c < k) ⊎ (k ≤ c) → (is_outside first k c && other k c) ≡ is_outside first (k + 1) c
    by_case (inl o) l = (λ i. out k (inl o) i && differs (λ e. absurd (omega arith)) i) ∙ sym (out (k + 1) (inl o))
    by_case (inr a) (inl l) = (λ i. within k a l i && other k c) ∙ sym (within (k + 1) a (omega arith))
    by_case (inr a) (inr l) = last l a (same_or_not c k)

module _ (es : List Entry) (first : ℕ) where
  pub record UnlinksCells (before : Pairs) (k : ℕ) (now : Pairs) : Type 0 where
    pub same : now.pairs ≡ filter (is_apart es first k) before.pairs
    pub readers : now.readers ≡ before.readers
    pub points : now.points ≡ before.points

  pub UnlinksCells-none : (before : Pairs) → UnlinksCells before first before
  UnlinksCells-none before = record {
    same = sym (filter_all (is_apart es first first) before.pairs (λ y i. (λ j. outside_none first y.0 j && outside_none first (entry_at es y.1).cell j)));
    readers = refl;
    points = refl;
  }

  pub UnlinksCells-inside : (before : Pairs) (k : ℕ) (now : Pairs) → EachInside before.readers (length es) before.pairs → UnlinksCells before k now → EachInside now.readers (length es) now.pairs
  UnlinksCells-inside before k now i u = subst (λ (x : ℕ × List (ℕ × ℕ)). EachInside x.0 (length es) x.1) (λ j. (sym u.readers j, sym u.same j)) (EachInside-filter before.readers (length es) (is_apart es first k) before.pairs i)

  pub UnlinksCells-more : (before : Pairs) (k : ℕ) (now mid after : Pairs) → UnlinksCells before k now → first ≤ k → mid.pairs ≡ drop_reader k now.pairs → SameEnds now mid → after.pairs ≡ filter (is_of_other es k) mid.pairs → SameEnds mid after → UnlinksCells before (k + 1) after
  UnlinksCells-more before k now mid after u h e ends f ends' = record {
    same = f ∙ ap (filter (is_of_other es k)) e ∙ filter_filter (is_of_other es k) (λ y. not (y.0 == k)) both now.pairs (λ y. refl)
        ∙ ap (filter both) u.same ∙ filter_filter both (is_apart es first k) (is_apart es first (k + 1)) before.pairs step;
    readers = ends'.readers ∙ ends.readers ∙ u.readers;
    points = ends'.points ∙ ends.points ∙ u.points;
  }
    where
      both : ℕ × ℕ → Bool
      both y = cond (not (y.0 == k)) (is_of_other es k y) false

      four : (a b c d : Bool) → cond (a && b) (cond c d false) false ≡ ((a && c) && (b && d))
      four true true true d = refl
      four true true false d = refl
      four true false true d = refl
      four true false false d = refl
      four false b c d = refl

      step : (y : ℕ × ℕ) → cond (is_apart es first k y) (both y) false ≡ is_apart es first (k + 1) y
      step y = four (is_outside first k y.0) (is_outside first k (entry_at es y.1).cell) (other k y.0) (other k (entry_at es y.1).cell)
          ∙ (λ i. outside_more first k y.0 h i && outside_more first k (entry_at es y.1).cell h i)

-- nothing is taken out with no cells
pub outside_all : (first past : ℕ) (pairs : List (ℕ × (ℕ × Facet))) → first ≡ past → outside first past pairs ≡ pairs
outside_all first past pairs e = subst (λ p. outside first p pairs ≡ pairs) e
    (filter_all (λ x. is_outside first first x.0 && is_outside first first x.1.0) pairs (λ x i. (λ j. outside_none first x.0 j && outside_none first x.1.0 j)))
