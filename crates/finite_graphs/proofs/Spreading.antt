-- Marks that spread along edges.
use Rattle.std.proofs.Common.{◌≡◌, ◌≢◌, ℕ, zero, suc, ◌+◌, ◌<◌, ◌≤◌, ◌⊎◌, inl, inr, Bool, true, false, List, [], ◌∷◌, ◌++◌, get_or, length, drop, refl, sym, ap, ◌∙◌, subst, arith, length-append}
use Rattle.std.specs.Prelude.{slice_set, IsTrue, ◌↔◌}
use Rattle.std.proofs.lemmas.List.{drop_more, drop_all, length-set}
use Rattle.finite_graphs.specs.Graphs.{Drawn, Leads}
use Rattle.finite_graphs.specs.Reached.{AreReached, AreStarts, IsSpread, ReachedFrom, SpreadsTo, stood, set, Went, went_marked, went_waits, went_due, unmarked}
use Rattle.finite_graphs.specs.Rows.{AreRows, RowsWithin, Steps}
use Rattle.finite_graphs.specs.Walks.{At, In, Reaches, go, stay, first, next, here, there}
use Rattle.finite_graphs.proofs.Lists.{at_here, at_none, at_other, at_same, at_set, at_was, at_within, in_left, in_none, in_one, in_right, in_split, same_or_not}
use Rattle.finite_graphs.proofs.Reaching.{carried, joined, one_step}

pub unmarked_set : (xs : List Bool) (i : ℕ) → At false xs i → unmarked (slice_set xs i true) + 1 ≡ unmarked xs
unmarked_set [] i h = absurd (at_none h)
unmarked_set (x ∷ xs) zero first = omega arith
unmarked_set (x ∷ xs) (suc i) (next h) = let rec = unmarked_set xs i h in omega (arith, rec)

pub count_spread : {old new : List Bool} {before after : List ℕ} {to : ℕ} → SpreadsTo old before to new after → unmarked new + length after ≡ unmarked old + length before
count_spread (stood h e f) = let a = ap unmarked e in let b = ap (λ (xs : List ℕ). length xs) f in omega (arith, a, b)
count_spread {old} {new} {before} {after} {to} (set h e f) =
    let a = ap unmarked e in let b = ap (λ (xs : List ℕ). length xs) f ∙ length-append before (to ∷ []) in let n = unmarked_set old to h in omega (arith, a, b, n)

pub sized_spread : {old new : List Bool} {before after : List ℕ} {to : ℕ} → SpreadsTo old before to new after → length new ≡ length old
sized_spread (stood h e f) = ap (λ (xs : List Bool). length xs) e
sized_spread {old} {to = to} (set h e f) = ap (λ (xs : List Bool). length xs) e ∙ length-set old to true

-- ---- the first end of an edge that is left has its mark

module _ {E : ℕ → ℕ → Type 0} {marks old : List Bool} {before : List ℕ} {due to : ℕ} {left : List ℕ} (s : IsSpread E marks old before due (to ∷ left)) where
  went_stood : At true old to → {a b : ℕ} → Went old before due (to ∷ left) a b → Went old before due left a b
  went_stood h (went_marked k) = went_marked k
  went_stood h (went_waits k) = went_waits k
  went_stood h (went_due e here) = went_marked h
  went_stood h (went_due e (there k)) = went_due e k

  spread_stood : At true old to → IsSpread E marks old before due left
  spread_stood h = record {
    sized = s.sized;
    within = s.within;
    kept = s.kept;
    sound = s.sound;
    waits = s.waits;
    leads = λ b k. s.leads b (there k);
    looked = λ b k. s.looked b (there k);
    led = λ a b k e. went_stood h (s.led a b k e);
  }

  now_true : At false old to → At true (slice_set old to true) to
  now_true h = at_set h

  set_kept : At false old to → {a : ℕ} → At true old a → At true (slice_set old to true) a
  set_kept h {a} k = at_other true to k (λ e. let f : true ≡ false = at_same (subst (λ n. At true old n) e k) h in cc)

  set_cases : At false old to → (a : ℕ) → At true (slice_set old to true) a → (a ≡ to) ⊎ At true old a
  set_cases h a k = by (same_or_not a to)
    where
      by : (a ≡ to) ⊎ (a ≢ to) → (a ≡ to) ⊎ At true old a
      by (inl e) = inl e
      by (inr n) = inr (at_was true old to k n)

  set_sound : At false old to → (a : ℕ) → At true (slice_set old to true) a → ReachedFrom E marks a
  set_sound h a k = by (set_cases h a k)
    where
      by : (a ≡ to) ⊎ At true old a → ReachedFrom E marks a
      by (inl e) = let r = s.sound due (s.looked to here) in subst (λ n. ReachedFrom E marks n) (sym e) (record { start = r.start; marked = r.marked; way = joined r.way (one_step (s.leads to here)) })
      by (inr m) = s.sound a m

  set_waits : At false old to → (a : ℕ) → In a (before ++ to ∷ []) → At true (slice_set old to true) a
  set_waits h a k = by (in_split before (to ∷ []) k)
    where
      by : In a before ⊎ In a (to ∷ []) → At true (slice_set old to true) a
      by (inl m) = set_kept h (s.waits a m)
      by (inr m) = subst (λ n. At true (slice_set old to true) n) (sym (in_one m)) (now_true h)

  went_set : At false old to → {a b : ℕ} → Went old before due (to ∷ left) a b → Went (slice_set old to true) (before ++ to ∷ []) due left a b
  went_set h (went_marked k) = went_marked (set_kept h k)
  went_set h (went_waits k) = went_waits (in_left (to ∷ []) k)
  went_set h (went_due e here) = went_marked (now_true h)
  went_set h (went_due e (there k)) = went_due e k

  set_led : At false old to → (a b : ℕ) → At true (slice_set old to true) a → E a b → Went (slice_set old to true) (before ++ to ∷ []) due left a b
  set_led h a b k e = by (set_cases h a k)
    where
      by : (a ≡ to) ⊎ At true old a → Went (slice_set old to true) (before ++ to ∷ []) due left a b
      by (inl is) = went_waits (subst (λ n. In n (before ++ to ∷ [])) (sym is) (in_right before here))
      by (inr m) = went_set h (s.led a b m e)

  spread_set : At false old to → IsSpread E marks (slice_set old to true) (before ++ to ∷ []) due left
  spread_set h = record {
    sized = length-set old to true ∙ s.sized;
    within = s.within;
    kept = λ a k. set_kept h (s.kept a k);
    sound = set_sound h;
    waits = set_waits h;
    leads = λ b k. s.leads b (there k);
    looked = λ b k. set_kept h (s.looked b (there k));
    led = set_led h;
  }

  pub spread_more : {new : List Bool} {after : List ℕ} → SpreadsTo old before to new after → IsSpread E marks new after due left
  spread_more {after = after} (stood h e f) = subst (λ xs. IsSpread E marks xs after due left) (sym e) (subst (λ ys. IsSpread E marks old ys due left) (sym f) (spread_stood h))
  spread_more {after = after} (set h e f) = subst (λ xs. IsSpread E marks xs after due left) (sym e) (subst (λ ys. IsSpread E marks (slice_set old to true) ys due left) (sym f) (spread_set h))

-- the same, in the loop over a row
pub spread_next : {E : ℕ → ℕ → Type 0} {marks old : List Bool} {before : List ℕ} {due : ℕ} (row : List ℕ) (n : ℕ) {new : List Bool} {after : List ℕ} → n < length row
    → IsSpread E marks old before due (drop n row) → SpreadsTo old before (get_or row n 0) new after → IsSpread E marks new after due (drop (n + 1) row)
spread_next {E} {marks} {old} {before} {due} row n l s t =
    spread_more (subst (λ (xs : List ℕ). IsSpread E marks old before due xs) (drop_more row n 0 l) s) t

pub spread_end : {E : ℕ → ℕ → Type 0} {marks now : List Bool} {waiting : List ℕ} {due : ℕ} (row : List ℕ) (n : ℕ) → length row ≤ n → IsSpread E marks now waiting due (drop n row) → IsSpread E marks now waiting due []
spread_end {E} {marks} {now} {waiting} {due} row n l s = subst (λ (xs : List ℕ). IsSpread E marks now waiting due xs) (drop_all n row l) s

-- ---- a node that waits is taken

module _ {rows : List (List ℕ)} {marks now : List Bool} {before : List ℕ} {due : ℕ} (waiting : List ℕ) (node : ℕ) (s : IsSpread (Steps rows) marks now before due []) (popped : before ≡ waiting ++ node ∷ []) where
  was_in : {a : ℕ} → In a (waiting ++ node ∷ []) → In a before
  was_in {a} h = subst (λ (xs : List ℕ). In a xs) (sym popped) h

  is_marked : At true now node
  is_marked = s.waits node (was_in (in_right waiting here))

  went_taken : {row : List ℕ} → At row rows node → {a b : ℕ} → Steps rows a b → Went now before due [] a b → Went now waiting node row a b
  went_taken stands st (went_marked k) = went_marked k
  went_taken {row} stands {a} {b} st (went_waits k) = by (in_split waiting (node ∷ []) (subst (λ (xs : List ℕ). In a xs) popped k))
    where
      by : In a waiting ⊎ In a (node ∷ []) → Went now waiting node row a b
      by (inl m) = went_waits m
      by (inr m) = let e = in_one m in
          let same : st.row ≡ row = at_same (subst (λ n. At st.row rows n) e st.stands) stands in
          went_due e (subst (λ (xs : List ℕ). In b xs) same st.among)
  went_taken stands st (went_due e k) = absurd (in_none k)

  pub spread_taken : (row : List ℕ) → At row rows node → IsSpread (Steps rows) marks now waiting node row
  spread_taken row stands = record {
    sized = s.sized;
    within = s.within;
    kept = s.kept;
    sound = s.sound;
    waits = λ a h. s.waits a (was_in (in_left (node ∷ []) h));
    leads = λ b h. record { row = row; stands = stands; among = h };
    looked = λ b h. is_marked;
    led = λ a b h st. went_taken stands st (s.led a b h st);
  }

-- ---- the start and the end

pub spread_init : {rows : List (List ℕ)} (marks now : List Bool) {waiting : List ℕ} → RowsWithin rows → length marks ≡ length rows → now ≡ marks → AreStarts marks (length marks) waiting → IsSpread (Steps rows) marks now waiting 0 []
spread_init {rows} marks now {waiting} w n e t = subst (λ xs. IsSpread (Steps rows) marks xs waiting 0 []) (sym e) (record {
  sized = refl;
  within = λ a b st. let l = w.within a b st in omega (arith, l, n);
  kept = λ a h. h;
  sound = λ a h. record { start = a; marked = h; way = stay };
  waits = t.only;
  leads = λ b h. absurd (in_none h);
  looked = λ b h. absurd (in_none h);
  led = λ a b h st. went_waits (t.all a (at_within h) h);
})

closed_step : {now : List Bool} {due a b : ℕ} → Went now [] due [] a b → At true now b
closed_step (went_marked h) = h
closed_step (went_waits h) = absurd (in_none h)
closed_step (went_due e h) = absurd (in_none h)

closed_way : {E : ℕ → ℕ → Type 0} {marks now : List Bool} {due : ℕ} → IsSpread E marks now [] due [] → {a b : ℕ} → Reaches E a b → At true now a → At true now b
closed_way s stay h = h
closed_way s (go {a = a} {b = c} e on) h = closed_way s on (closed_step (s.led a c h e))

reached_carried : {E F : ℕ → ℕ → Type 0} {marks : List Bool} {b : ℕ} → ((x y : ℕ) → E x y → F x y) → ReachedFrom E marks b → ReachedFrom F marks b
reached_carried f r = record { start = r.start; marked = r.marked; way = carried f r.way }

pub spread_done : {graph : Drawn} {rows : List (List ℕ)} (read : List (List ℕ)) {marks now : List Bool} {waiting : List ℕ} {due : ℕ} → AreRows graph rows → read ≡ rows → length marks ≡ graph.nodes → waiting ≡ []
    → IsSpread (Steps read) marks now waiting due [] → AreReached graph marks now
spread_done {graph} {rows} read {marks} {now} {waiting} {due} rows_are er n none found = record { sized = s.sized ∙ n; each = is }
  where
    r : AreRows graph read
    r = subst (λ (xs : List (List ℕ)). AreRows graph xs) (sym er) rows_are

    s : IsSpread (Steps read) marks now [] due []
    s = subst (λ (xs : List ℕ). IsSpread (Steps read) marks now xs due []) none found

    is : (b : ℕ) (mark : Bool) → At mark now b → IsTrue mark ↔ ReachedFrom (Leads graph.edges) marks b
    is b true h = (λ _. reached_carried r.back (s.sound b h), λ _. refl)
    is b false h = (λ f. absurd (cc), λ o. let back = reached_carried r.forth o in let t : true ≡ false = at_same (closed_way s back.way (s.kept back.start back.marked)) h in absurd (cc))

-- ---- the marked nodes

pub starts_init : (marks : List Bool) (waiting : List ℕ) → waiting ≡ [] → AreStarts marks 0 waiting
starts_init marks waiting e = record { only = λ a h. absurd (in_none (subst (λ (xs : List ℕ). In a xs) e h)); all = λ a l h. absurd (omega (arith, l)) }

pub starts_yes : {marks : List Bool} {waiting : List ℕ} (n : ℕ) {now : List ℕ} → AreStarts marks n waiting → At true marks n → now ≡ waiting ++ n ∷ [] → AreStarts marks (n + 1) now
starts_yes {marks} {waiting} n {now} s h e = subst (λ (xs : List ℕ). AreStarts marks (n + 1) xs) (sym e) (record { only = λ a k. only a (in_split waiting (n ∷ []) k); all = λ a l k. all a l k (same_or_not a n) })
  where
    only : (a : ℕ) → In a waiting ⊎ In a (n ∷ []) → At true marks a
    only a (inl k) = s.only a k
    only a (inr k) = subst (λ x. At true marks x) (sym (in_one k)) h

    all : (a : ℕ) → a < n + 1 → At true marks a → (a ≡ n) ⊎ (a ≢ n) → In a (waiting ++ n ∷ [])
    all a l k (inl is) = subst (λ x. In x (waiting ++ n ∷ [])) (sym is) (in_right waiting here)
    all a l k (inr not) = in_left (n ∷ []) (s.all a (omega (arith, l, not)) k)

pub starts_no : {marks : List Bool} {waiting : List ℕ} (n : ℕ) → AreStarts marks n waiting → At false marks n → AreStarts marks (n + 1) waiting
starts_no {marks} {waiting} n s h = record { only = s.only; all = λ a l k. all a l k (same_or_not a n) }
  where
    all : (a : ℕ) → a < n + 1 → At true marks a → (a ≡ n) ⊎ (a ≢ n) → In a waiting
    all a l k (inl is) = let f : true ≡ false = at_same (subst (λ x. At true marks x) is k) h in absurd (cc)
    all a l k (inr not) = s.all a (omega (arith, l, not)) k

pub starts_done : {marks : List Bool} {waiting : List ℕ} (n : ℕ) → length marks ≤ n → AreStarts marks n waiting → AreStarts marks (length marks) waiting
starts_done n l s = record { only = s.only; all = λ a m k. s.all a (omega (arith, m, l)) k }

-- what is marked is reached along rows, so it is a node
pub spread_within : {rows : List (List ℕ)} {marks now : List Bool} {before : List ℕ} {due : ℕ} (waiting : List ℕ) (node : ℕ) → IsSpread (Steps rows) marks now before due [] → length marks ≡ length rows → before ≡ waiting ++ node ∷ [] → node < length rows
spread_within {now = now} waiting node s n popped = let l = at_within (is_marked waiting node s popped) in let k = s.sized in omega (arith, l, k, n)

pub read_as : {now read : List Bool} {mark : Bool} (n : ℕ) → n < length now → read ≡ now → get_or read n false ≡ mark → At mark now n
read_as {now} {read} {mark} n l e is =
    subst (λ (b : Bool). At b now n) (ap (λ (xs : List Bool). get_or xs n false) (sym e) ∙ is) (at_here now n false l)

pub as_many : {graph : Drawn} {rows read : List (List ℕ)} (marks : List Bool) → length marks ≡ graph.nodes → AreRows graph rows → read ≡ rows → length marks ≡ length read
as_many marks n r e = n ∙ sym r.sized ∙ ap (λ (xs : List (List ℕ)). length xs) (sym e)
