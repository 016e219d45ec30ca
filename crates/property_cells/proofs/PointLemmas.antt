-- The table of points: a search along one cell's thread, a point more, more cells.
use Rattle.std.proofs.Common.{◌≡◌, ◌≢◌, ℕ, zero, suc, ◌+◌, ◌<◌, ◌≤◌, Bool, true, false, cond, ◌==◌, List, [], ◌∷◌, ◌++◌, length, get_or, replicate, take, Option, Some, None, ◌⊎◌, inl, inr, refl, sym, ap, ◌∙◌, subst, T, eqb→eq, arith, get_or-set_same, get_or-set_other}
use Rattle.std.proofs.Math.ListN.{set, length-set}
use Rattle.std.proofs.lemmas.Bool.{cases_lt}
use lib.Dec.{eqb_refl}
use Rattle.dep_list.specs.Pairs.{In}
use Rattle.value_types.specs.declared.facets.Facet.{Facet}
use Rattle.property_cells.specs.declared.points.Entry.{Entry}
use Rattle.property_cells.specs.Points.{no_entry, entry_at, name_at, last_below, points_below, IsThreaded, IsNew, AddsPoint}
use Rattle.property_cells.proofs.Reaching.{same_or_not}
use Rattle.property_cells.proofs.MarkingLoops.{ahead, PointOf, ahead_last}
use Rattle.property_cells.proofs.UnmakingLoop.{in_points}

-- what the search keeps: a point of this name is still to come
pub record SearchSoFar (es : List Entry) (c : ℕ) (f : Facet) (at : Option ℕ) : Type 0 where
  pub there : PointOf es c at
  pub left : (p : ℕ) → p < length es → name_at es p ≡ (c, f) → In p (ahead es c at)

pub SearchSoFar-none : (es : List Entry) (c : ℕ) (f : Facet) (at : Option ℕ) → at ≡ last_below es c (length es) → SearchSoFar es c f at
SearchSoFar-none es c f at e =
    let a = ahead_last es c (length es) (omega arith) in
    record {
      there = subst (PointOf es c) (sym e) a.1;
      left = λ p h n. subst (In p) (sym (ap (ahead es c) e ∙ a.0)) (in_points es c p (length es) h (ap (λ (x : ℕ × Facet). x.0) n));
    }

pub SearchSoFar-more : (es : List Entry) (c : ℕ) (f : Facet) (at : Option ℕ) (p : ℕ) (next : Option ℕ) → SearchSoFar es c f at → at ≡ Some p → (entry_at es p).facet ≢ f → next ≡ last_below es (entry_at es p).cell p → SearchSoFar es c f next
SearchSoFar-more es c f at p next k e differ g =
    record { there = subst (PointOf es c) (sym next_is) a.1; left = λ q h n. other q n (subst (λ o. In q (ahead es c o)) e (k.left q h n)) }
  where
    here : PointOf es c (Some p)
    here = subst (PointOf es c) e k.there

    a : (ahead es c (last_below es c p) ≡ points_below es c p) × PointOf es c (last_below es c p)
    a = ahead_last es c p (omega (arith, here.0))

    next_is : next ≡ last_below es c p
    next_is = g ∙ ap (λ d. last_below es d p) here.1

    other : (q : ℕ) → name_at es q ≡ (c, f) → In q (p ∷ points_below es c p) → In q (ahead es c next)
    other q n (inl s) = absurd (differ (ap (λ j. (entry_at es j).facet) (sym s) ∙ ap (λ (x : ℕ × Facet). x.1) n))
    other q n (inr j) = subst (In q) (sym (ap (ahead es c) next_is ∙ a.0)) j

pub SearchSoFar-all : (es : List Entry) (c : ℕ) (f : Facet) (at : Option ℕ) → SearchSoFar es c f at → at ≡ None → IsNew es (c, f)
SearchSoFar-all es c f at k e p h n = absurd (subst (λ o. In p (ahead es c o)) e (k.left p h n))

pub search_found : (es : List Entry) (c : ℕ) (f : Facet) (at : Option ℕ) (p : ℕ) → SearchSoFar es c f at → at ≡ Some p → (entry_at es p).facet ≡ f → (p < length es) × (name_at es p ≡ (c, f))
search_found es c f at p k e same = let here = subst (PointOf es c) e k.there in (here.0, λ i. (here.1 i, same i))

-- ---- a point more

module _ {A : Type 0} (d : A) where
  get_or-left : (xs : List A) (x : A) (k : ℕ) → k < length xs → get_or (xs ++ x ∷ []) k d ≡ get_or xs k d
  get_or-left [] x k h = absurd (omega arith)
  get_or-left (y ∷ xs) x zero h = refl
  get_or-left (y ∷ xs) x (suc k) h = get_or-left xs x k (omega arith)

  get_or-last : (xs : List A) (x : A) → get_or (xs ++ x ∷ []) (length xs) d ≡ x
  get_or-last [] x = refl
  get_or-last (y ∷ xs) x = get_or-last xs x

  length_push : (xs : List A) (x : A) → length (xs ++ x ∷ []) ≡ suc (length xs)
  length_push [] x = refl
  length_push (y ∷ xs) x = ap suc (length_push xs x)

last_kept : (es : List Entry) (e : Entry) (c n : ℕ) → n ≤ length es → last_below (es ++ e ∷ []) c n ≡ last_below es c n
last_kept es e c zero h = refl
last_kept es e c (suc n) h =
    (λ i. cond ((get_or-left no_entry es e n (omega arith) i).cell == c) (Some n) (last_below (es ++ e ∷ []) c n)) ∙ ap (cond ((entry_at es n).cell == c) (Some n)) (last_kept es e c n (omega arith))

true_bool : (b : Bool) → T b → b ≡ true
true_bool true t = refl
true_bool false t = absurd t

true_of : (b : Bool) → b ≡ true → T b
true_of true e = tt
true_of false e = cc

eqb_no : (k j : ℕ) → k ≢ j → (k == j) ≡ false
eqb_no k j n = (elim (k == j) as (λ b. (k == j) ≡ b → (k == j) ≡ false) [
  | true ↦ λ e. absurd (n (eqb→eq k j (true_of (k == j) e)))
  | false ↦ λ e. e
]) refl

module _ (es : List Entry) (ends : List (Option ℕ)) (c : ℕ) (f : Facet) (K : IsThreaded es ends) (inside : c < length ends) where
  abbrev pub added : Entry
  added = record { cell = c; facet = f; next = get_or ends c None }

  abbrev more : List Entry
  more = es ++ added ∷ []

  abbrev ends' : List (Option ℕ)
  ends' = set ends c (Some (length es))

  last_here : last_below more c (suc (length es)) ≡ Some (length es)
  last_here = λ i. cond ((ap (λ (e : Entry). e.cell == c) (get_or-last no_entry es added) ∙ true_bool (c == c) (eqb_refl c)) i) (Some (length es)) (last_below more c (length es))

  last_there : (d : ℕ) → d ≢ c → last_below more d (suc (length es)) ≡ last_below es d (length es)
  last_there d n = (λ i. cond ((ap (λ (e : Entry). e.cell == d) (get_or-last no_entry es added) ∙ eqb_no c d (λ s. n (sym s))) i) (Some (length es)) (last_below more d (length es))) ∙ last_kept es added d (length es) (omega arith)

  pub adds : AddsPoint es more (c, f)
  adds = record {
    more = length_push no_entry es added ∙ (let one : suc (length es) ≡ length es + 1 = omega arith in one);
    named = ap (λ (e : Entry). (e.cell, e.facet)) (get_or-last no_entry es added);
    kept = λ p h. ap (λ (e : Entry). (e.cell, e.facet)) (get_or-left no_entry es added p h);
  }

  pub threaded_more : IsThreaded more ends'
  threaded_more = record {
    nexts = λ p h. nexts p (cases_lt p (length es)) (subst (λ n. p < n) (length_push no_entry es added) h);
    lasts = λ d h. lasts d (subst (λ n. d < n) (length-set ends c (Some (length es))) h) (same_or_not d c);
    cells = λ p h. subst (λ n. (entry_at more p).cell < n) (sym (length-set ends c (Some (length es)))) (cells p (cases_lt p (length es)) (subst (λ n. p < n) (length_push no_entry es added) h));
  }
    where
      at_end : (p : ℕ) → length es ≤ p → p < suc (length es) → p ≡ length es
      at_end p a b = omega arith

      nexts : (p : ℕ) → (p < length es) ⊎ (length es ≤ p) → p < suc (length es) → (entry_at more p).next ≡ last_below more (entry_at more p).cell p
      nexts p (inl l) h =
          let same = get_or-left no_entry es added p l in
          ap (λ (e : Entry). e.next) same ∙ K.nexts p l ∙ sym (last_kept es added (entry_at es p).cell p (omega (arith, l))) ∙ ap (λ (e : Entry). last_below more e.cell p) (sym same)
      nexts p (inr g) h =
          let q = at_end p g h in
          subst (λ j. (entry_at more j).next ≡ last_below more (entry_at more j).cell j) (sym q)
          (ap (λ (e : Entry). e.next) (get_or-last no_entry es added) ∙ K.lasts c inside ∙ sym (last_kept es added c (length es) (omega arith)) ∙ ap (λ (e : Entry). last_below more e.cell (length es)) (sym (get_or-last no_entry es added)))

      lasts : (d : ℕ) → d < length ends → (d ≡ c) ⊎ (d ≢ c) → get_or ends' d None ≡ last_below more d (length more)
      lasts d h (inl s) =
          subst (λ j. get_or ends' j None ≡ last_below more j (length more)) (sym s)
          (get_or-set_same ends c (Some (length es)) None inside ∙ sym last_here ∙ ap (last_below more c) (sym (length_push no_entry es added)))
      lasts d h (inr n) = get_or-set_other ends c d (Some (length es)) None n ∙ K.lasts d h ∙ sym (last_there d n) ∙ ap (last_below more d) (sym (length_push no_entry es added))

      cells : (p : ℕ) → (p < length es) ⊎ (length es ≤ p) → p < suc (length es) → (entry_at more p).cell < length ends
      cells p (inl l) h = subst (λ (e : Entry). e.cell < length ends) (sym (get_or-left no_entry es added p l)) (K.cells p l)
      cells p (inr g) h = subst (λ j. (entry_at more j).cell < length ends) (sym (at_end p g h)) (subst (λ (e : Entry). e.cell < length ends) (sym (get_or-last no_entry es added)) inside)

-- ---- more cells

last_none : (es : List Entry) (c n : ℕ) → ((p : ℕ) → p < n → (entry_at es p).cell ≢ c) → last_below es c n ≡ None
last_none es c zero h = refl
last_none es c (suc n) h = (λ i. cond (eqb_no (entry_at es n).cell c (h n (omega arith)) i) (Some n) (last_below es c n)) ∙ last_none es c n (λ p l. h p (omega (arith, l)))

take_past : {A : Type 0} (xs : List A) (n : ℕ) → length xs ≤ n → take n xs ≡ xs
take_past [] zero h = refl
take_past [] (suc n) h = refl
take_past (x ∷ xs) zero h = absurd (omega arith)
take_past (x ∷ xs) (suc n) h = ap (λ l. x ∷ l) (take_past xs n (omega arith))

get_or-replicate : (m k : ℕ) (d : Option ℕ) → get_or (replicate m d) k d ≡ d
get_or-replicate zero k d = refl
get_or-replicate (suc m) zero d = refl
get_or-replicate (suc m) (suc k) d = get_or-replicate m k d

get_or-more : (xs : List (Option ℕ)) (m k : ℕ) → ((k < length xs) × (get_or (xs ++ replicate m None) k None ≡ get_or xs k None)) ⊎ ((length xs ≤ k) × (get_or (xs ++ replicate m None) k None ≡ None))
get_or-more [] m k = inr (omega arith, get_or-replicate m k None)
get_or-more (x ∷ xs) m zero = inl (omega arith, refl)
get_or-more (x ∷ xs) m (suc k) = up (get_or-more xs m k)
  where
    up : ((k < length xs) × (get_or (xs ++ replicate m None) k None ≡ get_or xs k None)) ⊎ ((length xs ≤ k) × (get_or (xs ++ replicate m None) k None ≡ None))
        → ((suc k < suc (length xs)) × (get_or (xs ++ replicate m None) k None ≡ get_or xs k None)) ⊎ ((suc (length xs) ≤ suc k) × (get_or (xs ++ replicate m None) k None ≡ None))
    up (inl a) = inl (let h = a.0 in omega arith, a.1)
    up (inr a) = inr (let h = a.0 in omega arith, a.1)

pub threaded_admitted : (es : List Entry) (ends : List (Option ℕ)) (m : ℕ) (ends' : List (Option ℕ)) → IsThreaded es ends → ends' ≡ ends ++ replicate m None → length ends ≤ length ends' → IsThreaded es ends'
threaded_admitted es ends m ends' K e l = record {
  nexts = K.nexts;
  lasts = λ c h. subst (λ (t : List (Option ℕ)). get_or t c None ≡ last_below es c (length es)) (sym e) (lasts c (get_or-more ends m c));
  cells = λ p h. let k = K.cells p h in omega (arith, k);
}
  where
    lasts : (c : ℕ) → ((c < length ends) × (get_or (ends ++ replicate m None) c None ≡ get_or ends c None)) ⊎ ((length ends ≤ c) × (get_or (ends ++ replicate m None) c None ≡ None)) → get_or (ends ++ replicate m None) c None ≡ last_below es c (length es)
    lasts c (inl a) = a.1 ∙ K.lasts c a.0
    lasts c (inr a) = a.1 ∙ sym (last_none es c (length es) (λ p h s. let k = K.cells p h in let g = a.0 in absurd (omega (arith, k, g, s))))

pub resized : (xs : List (Option ℕ)) (n : ℕ) (ys : List (Option ℕ)) (k : ℕ) → length xs ≤ n → ys ≡ take n xs ++ replicate k None → ys ≡ xs ++ replicate k None
resized xs n ys k h e = e ∙ ap (λ l. l ++ replicate k None) (take_past xs n h)
