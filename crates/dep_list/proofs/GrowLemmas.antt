-- One more spare node, and more readers and points.
use Rattle.std.proofs.Common.{◌≡◌, ℕ, zero, suc, ◌+◌, ◌^◌, ◌<◌, ◌≤◌, Bool, true, false, cond, ◌&&◌, ◌==◌, List, [], ◌∷◌, ◌++◌, length, get_or, replicate, Option, Some, None, refl, sym, ap, ◌∙◌, subst, append-nil, arith, T, eqb→eq, ◌⊎◌, inl, inr}
use Rattle.std.proofs.lemmas.Bool.{cases_lt}
use denote.RawPtr.{Ptr}
use Rattle.dep_list.specs.declared.node.Place.{Place}
use Rattle.dep_list.specs.declared.node.Node.{Node}
use Rattle.dep_list.specs.declared.node.Ends.{Ends}
use Rattle.dep_list.specs.declared.node.Side.{Side}
use Rattle.dep_list.specs.declared.node.Side.TheVariants.{Reader, Point}
use Rattle.dep_list.specs.Cells.{find, take_out, places, add, Apart}
use Rattle.dep_list.specs.Lists.{place, key_of, other_of, link_of, spare_node, pair_if, step_if, below_if, entries, row, frees, last_or, IsRow, Stack, State, ends_of, ends_at, no_ends, Held, AllWithin, SamePairs, no_lists}
use Rattle.dep_list.proofs.Cells.{same_ptr_refl}
use Rattle.dep_list.proofs.Places.{Apart-push, Absent-none, places-append, pick-append}
use Rattle.dep_list.proofs.Rows.{Step, Stack-push, last_or-append}
use Rattle.dep_list.proofs.EndsLemmas.{AllWithin-more, length-push}

pub no_lists_held : Held no_lists
no_lists_held = record { apart = tt; rows = λ side k h. empty side k h; within = tt; stack = tt; top = refl; spare = refl; count = refl; small = omega arith }
  where
    empty : (side : Side) (k : ℕ) → k < length (ends_of side no_lists) → IsRow (ends_at side k no_lists) (row side k [])
    empty Reader k h = absurd (omega arith)
    empty Point k h = absurd (omega arith)

-- ---- one more spare node

module _ (s : State) (K : Held s) (p : Ptr) (v : Node) (fresh : find s.cells p ≡ None) where
  abbrev pub grown : State
  grown = record s { cells = take_out ((p, v) ∷ s.cells) p ++ (p, spare_node s.top) ∷ []; top = Some (place p); spare = s.spare + 1 }

  cells_are : grown.cells ≡ s.cells ++ (p, spare_node s.top) ∷ []
  cells_are = λ i. cond (same_ptr_refl p i) s.cells ((p, v) ∷ take_out s.cells p) ++ (p, spare_node s.top) ∷ []

  row_stays : (side : Side) (k : ℕ) → row side k grown.cells ≡ row side k s.cells
  row_stays side k = ap (row side k) cells_are ∙ pick-append (step_if side k) s.cells ((p, spare_node s.top) ∷ []) ∙ append-nil (row side k s.cells)

  entries_stay : entries grown.cells ≡ entries s.cells
  entries_stay = ap entries cells_are ∙ pick-append pair_if s.cells ((p, spare_node s.top) ∷ []) ∙ append-nil (entries s.cells)

  frees_grow : frees grown.cells ≡ frees s.cells ++ (p, s.top) ∷ []
  frees_grow = ap frees cells_are ∙ pick-append below_if s.cells ((p, spare_node s.top) ∷ [])

  ends_stay : (side : Side) → ends_of side grown ≡ ends_of side s
  ends_stay Reader = refl
  ends_stay Point = refl

  pub same_pairs : SamePairs s grown
  same_pairs = record { pairs = entries_stay; readers = refl; points = refl }

  pub grown_held : s.spare + s.count + 1 < 2 ^ 64 → Held grown
  grown_held small =
      let k1 = K.spare in let k2 = K.count in let more = length-push (frees s.cells) (p, s.top) in
      record {
        apart = subst (λ (cs : List (Ptr × Node)). Apart (places cs)) (sym cells_are) (subst Apart (sym (places-append s.cells ((p, spare_node s.top) ∷ [])))
            (Apart-push (places s.cells) p K.apart (Absent-none p s.cells fresh)));
        rows = λ side k h. subst (λ (l : List Ends). IsRow (get_or l k no_ends) (row side k grown.cells)) (sym (ends_stay side))
            (subst (IsRow (ends_at side k s)) (sym (row_stays side k)) (K.rows side k (subst (λ (l : List Ends). k < length l) (ends_stay side) h)));
        within = subst (AllWithin (length s.readers) (length s.points)) (sym entries_stay) K.within;
        stack = subst (Stack None) (sym frees_grow) (subst (λ (t : Option Place). Stack None (frees s.cells ++ (p, t) ∷ [])) (sym K.top) (Stack-push None (frees s.cells) p K.stack));
        top = sym (ap (last_or None) frees_grow ∙ last_or-append None (frees s.cells) ((p, s.top) ∷ []));
        spare = let e : s.spare + 1 ≡ length (frees s.cells ++ (p, s.top) ∷ []) = omega arith in e ∙ sym (ap length frees_grow);
        count = K.count ∙ sym (ap length entries_stay);
        small = omega arith;
      }

-- ---- more readers, or more points

abbrev bound : Side → ℕ → ℕ → ℕ
bound Reader r q = r
bound Point r q = q

true_of : (b : Bool) → b ≡ true → T b
true_of true e = tt
true_of false e = cc

module _ (side : Side) (k r q : ℕ) (beyond : bound side r q ≤ k) where
  inside_step : (side : Side) (n : Node) → n.reader < r → n.point < q → key_of side n < bound side r q
  inside_step Reader n a b = a
  inside_step Point n a b = b

  nothing_step : (n : Node) (p : Ptr) (b c : Bool) (rs : List (Ptr × Step)) (es : List (Ptr × (ℕ × ℕ))) → (key_of side n == k) ≡ c → (AllWithin r q es → rs ≡ [])
      → AllWithin r q (add p (cond b (Some (n.reader, n.point)) None) es) → add p (cond (b && c) (Some (other_of side n, link_of side n)) None) rs ≡ []
  nothing_step n p true true rs es e h w =
      let same : key_of side n ≡ k = eqb→eq (key_of side n) k (true_of (key_of side n == k) e) in let inside = inside_step side n w.0 w.1 in absurd (omega arith)
  nothing_step n p true false rs es e h w = h w.2
  nothing_step n p false c rs es e h w = h w

  -- past the numbers that are admitted no row has a node
  pub row-beyond : (cs : List (Ptr × Node)) → AllWithin r q (entries cs) → row side k cs ≡ []
  row-beyond [] w = refl
  row-beyond (c ∷ cs) w = nothing_step c.1 c.0 c.1.linked (key_of side c.1 == k) (row side k cs) (entries cs) refl (row-beyond cs) w

pub row-not_inside : (s : State) → Held s → (side : Side) (k : ℕ) → length (ends_of side s) ≤ k → row side k s.cells ≡ []
row-not_inside s K Reader k h = row-beyond Reader k (length s.readers) (length s.points) h s.cells K.within
row-not_inside s K Point k h = row-beyond Point k (length s.readers) (length s.points) h s.cells K.within

module _ {A : Type 0} (d : A) where
  get_or-left : (xs ys : List A) (k : ℕ) → k < length xs → get_or (xs ++ ys) k d ≡ get_or xs k d
  get_or-left [] ys k h = absurd (omega arith)
  get_or-left (x ∷ xs) ys zero h = refl
  get_or-left (x ∷ xs) ys (suc k) h = get_or-left xs ys k (omega arith)

  get_or-replicate : (m k : ℕ) → get_or (replicate m d) k d ≡ d
  get_or-replicate zero k = refl
  get_or-replicate (suc m) zero = refl
  get_or-replicate (suc m) (suc k) = get_or-replicate m k

  get_or-right : (xs : List A) (m k : ℕ) → length xs ≤ k → get_or (xs ++ replicate m d) k d ≡ d
  get_or-right [] m k h = get_or-replicate m k
  get_or-right (x ∷ xs) m zero h = absurd (omega arith)
  get_or-right (x ∷ xs) m (suc k) h = get_or-right xs m k (omega arith)

none_row : IsRow no_ends []
none_row = record { first = refl; last = refl; chain = tt }

more_rows : (s : State) → Held s → (side : Side) (m k : ℕ) → (k < length (ends_of side s)) ⊎ (length (ends_of side s) ≤ k) → IsRow (get_or (ends_of side s ++ replicate m no_ends) k no_ends) (row side k s.cells)
more_rows s K side m k (inl h) = subst (λ e. IsRow e (row side k s.cells)) (sym (get_or-left no_ends (ends_of side s) (replicate m no_ends) k h)) (K.rows side k h)
more_rows s K side m k (inr h) = subst (λ e. IsRow e (row side k s.cells)) (sym (get_or-right no_ends (ends_of side s) m k h)) (subst (IsRow no_ends) (sym (row-not_inside s K side k h)) none_row)

either : (k n : ℕ) → (k < n) ⊎ (n ≤ k)
either k n = cases_lt k n

rows_more : (s : State) → Held s → (side : Side) (es : List Ends) (m : ℕ) → es ≡ ends_of side s ++ replicate m no_ends → (k : ℕ) → IsRow (get_or es k no_ends) (row side k s.cells)
rows_more s K side es m e k = subst (λ l. IsRow (get_or l k no_ends) (row side k s.cells)) (sym e) (more_rows s K side m k (either k (length (ends_of side s))))

pub more_readers : (s : State) → Held s → (es : List Ends) (m : ℕ) → es ≡ s.readers ++ replicate m no_ends → length s.readers ≤ length es → Held (record s { readers = es })
more_readers s K es m e h = record {
  apart = K.apart;
  rows = rows;
  within = AllWithin-more (length s.readers) (length s.points) (length es) (length s.points) (entries s.cells) h (omega arith) K.within;
  stack = K.stack;
  top = K.top;
  spare = K.spare;
  count = K.count;
  small = K.small;
}
  where
    rows : (side : Side) (k : ℕ) → k < length (ends_of side (record s { readers = es })) → IsRow (ends_at side k (record s { readers = es })) (row side k s.cells)
    rows Reader k i = rows_more s K Reader es m e k
    rows Point k i = K.rows Point k i

pub more_points : (s : State) → Held s → (es : List Ends) (m : ℕ) → es ≡ s.points ++ replicate m no_ends → length s.points ≤ length es → Held (record s { points = es })
more_points s K es m e h = record {
  apart = K.apart;
  rows = rows;
  within = AllWithin-more (length s.readers) (length s.points) (length s.readers) (length es) (entries s.cells) (omega arith) h K.within;
  stack = K.stack;
  top = K.top;
  spare = K.spare;
  count = K.count;
  small = K.small;
}
  where
    rows : (side : Side) (k : ℕ) → k < length (ends_of side (record s { points = es })) → IsRow (ends_at side k (record s { points = es })) (row side k s.cells)
    rows Reader k i = K.rows Reader k i
    rows Point k i = rows_more s K Point es m e k
