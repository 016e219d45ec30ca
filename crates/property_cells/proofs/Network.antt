-- What states keep with pairs and running cells, from call to call. Nothing here speaks of tables.
use Rattle.std.proofs.Common.{◌≡◌, ◌≢◌, ℕ, List, [], ◌∷◌, ◌++◌, ◌⊎◌, inl, inr, refl, sym, ap, ◌∙◌, subst}
use Rattle.dep_list.specs.Pairs.{In}
use Rattle.value_types.specs.declared.facets.Facet.{Facet}
use Rattle.property_cells.specs.declared.marks.State.{State}
use Rattle.property_cells.specs.declared.marks.State.TheVariants.{Gone, Invalid, Running, Valid, Assigned, Marked}
use Rattle.property_cells.specs.Reach.{Reached, direct, through, Unmakes, Distinct}
use Rattle.property_cells.specs.Hits.{Touches}
use Rattle.property_cells.specs.Net.{InNoPair}
use Rattle.property_cells.specs.Marks.{HasValue}
use Rattle.property_cells.specs.Store.{IsNetwork}
use Rattle.property_cells.proofs.Reaching.{same_or_not, Sets}
use Rattle.property_cells.proofs.Lists.{in_push, Distinct-push}

-- the pairs are some of others, each once, and none is of a reader
pub record IsLess (pairs more : List (ℕ × (ℕ × Facet))) : Type 0 where
  pub within : (r : ℕ) (x : ℕ × Facet) → In (r, x) pairs → In (r, x) more
  pub once : Distinct more → Distinct pairs

abbrev pub IsNoReader : ℕ → List (ℕ × (ℕ × Facet)) → Type 0
IsNoReader c pairs = (r : ℕ) (x : ℕ × Facet) → In (r, x) pairs → r ≢ c

HasValue-not : (s t : State) → s ≡ t → t ≢ Valid → t ≢ Assigned → HasValue s → ⊥
HasValue-not s t e v a (inl h) = v (sym e ∙ h)
HasValue-not s t e v a (inr h) = a (sym e ∙ h)

valid_or_not : (s : State) → (s ≡ Valid) ⊎ (s ≢ Valid)
valid_or_not Valid = inl refl
valid_or_not Gone = inr (λ e. cc)
valid_or_not Invalid = inr (λ e. cc)
valid_or_not Running = inr (λ e. cc)
valid_or_not Assigned = inr (λ e. cc)
valid_or_not Marked = inr (λ e. cc)

-- marking makes nothing but invalid cells
pub unmade_was : (pairs : List (ℕ × (ℕ × Facet))) (hit : ℕ × Facet → Type 0) (st st1 : ℕ → State) → Unmakes pairs (λ x. x.0) hit st st1 → (c : ℕ) (s : State) → s ≢ Invalid → st1 c ≡ s → st c ≡ s
unmade_was pairs hit st st1 U c s n e = by_case (valid_or_not (st c))
  where
    by_fate : st c ≡ Valid → ((st1 c ≡ Valid) × (Reached pairs (λ x. x.0) hit c → ⊥)) ⊎ ((st1 c ≡ Invalid) × Reached pairs (λ x. x.0) hit c) → st c ≡ s
    by_fate v (inl f) = v ∙ sym f.0 ∙ e
    by_fate v (inr f) = absurd (n (sym e ∙ f.0))

    by_case : (st c ≡ Valid) ⊎ (st c ≢ Valid) → st c ≡ s
    by_case (inl v) = by_fate v (U.fate c v)
    by_case (inr d) = sym (U.kept c d) ∙ e

module _ (st : ℕ → State) (pairs : List (ℕ × (ℕ × Facet))) (running : List ℕ) (K : IsNetwork st pairs running) where
  -- ---- a cell runs
  module _ (cell : ℕ) (st' : ℕ → State) (pairs' : List (ℕ × (ℕ × Facet))) (invalid : st cell ≡ Invalid) (S : Sets cell Running st st') (less : IsLess pairs' pairs) (bare : IsNoReader cell pairs') where
    was : (c : ℕ) (s : State) → s ≢ Running → st' c ≡ s → st c ≡ s
    was c s n e = by_case (same_or_not c cell)
      where
        by_case : (c ≡ cell) ⊎ (c ≢ cell) → st c ≡ s
        by_case (inl same) = absurd (n (sym e ∙ ap st' same ∙ S.here))
        by_case (inr d) = sym (S.there c d) ∙ e

    still : (c : ℕ) (s : State) → s ≢ Invalid → st c ≡ s → st' c ≡ s
    still c s n e = by_case (same_or_not c cell)
      where
        by_case : (c ≡ cell) ⊎ (c ≢ cell) → st' c ≡ s
        by_case (inl same) = absurd (n (sym e ∙ ap st same ∙ invalid))
        by_case (inr d) = S.there c d ∙ e

    still_has : (c : ℕ) → HasValue (st c) → HasValue (st' c)
    still_has c (inl e) = inl (still c Valid (λ f. cc) e)
    still_has c (inr e) = inr (still c Assigned (λ f. cc) e)

    was_reading : (r : ℕ) → r ≢ cell → (st' r ≡ Valid) ⊎ (st' r ≡ Running) → (st r ≡ Valid) ⊎ (st r ≡ Running)
    was_reading r d (inl e) = inl (sym (S.there r d) ∙ e)
    was_reading r d (inr e) = inr (sym (S.there r d) ∙ e)

    pub IsNetwork-begun : IsNetwork st' pairs' (cell ∷ running)
    IsNetwork-begun = record {
      stands = λ r x i e. still_has x.0 (K.stands r x (less.within r x i) (was_reading r (bare r x i) e));
      bare = λ r x i e. K.bare r x (less.within r x i) (was r Assigned (λ f. cc) e);
      live = λ r x i. let l = K.live r x (less.within r x i) in (λ e. l.0 (was r Gone (λ f. cc) e), λ e. l.1 (was x.0 Gone (λ f. cc) e));
      once = less.once K.once;
      distinct = (λ i. let no : Invalid ≡ Running = sym invalid ∙ K.runs cell i in cc, K.distinct);
      runs = λ c i. runs c i;
      listed = λ c e. listed c e (same_or_not c cell);
      unmarked = λ c e. K.unmarked c (was c Marked (λ f. cc) e);
    }
      where
        runs : (c : ℕ) → In c (cell ∷ running) → st' c ≡ Running
        runs c (inl same) = ap st' same ∙ S.here
        runs c (inr i) = still c Running (λ f. cc) (K.runs c i)

        listed : (c : ℕ) → st' c ≡ Running → (c ≡ cell) ⊎ (c ≢ cell) → In c (cell ∷ running)
        listed c e (inl same) = inl same
        listed c e (inr d) = inr (K.listed c (sym (S.there c d) ∙ e))

  -- ---- a run ends
  module _ (cell : ℕ) (rest : List ℕ) (st' : ℕ → State) (first : running ≡ cell ∷ rest) (S : Sets cell Valid st st') where
    runs_now : st cell ≡ Running
    runs_now = K.runs cell (subst (In cell) (sym first) (inl refl))

    was_before : (c : ℕ) (s : State) → s ≢ Valid → st' c ≡ s → st c ≡ s
    was_before c s n e = by_case (same_or_not c cell)
      where
        by_case : (c ≡ cell) ⊎ (c ≢ cell) → st c ≡ s
        by_case (inl same) = absurd (n (sym e ∙ ap st' same ∙ S.here))
        by_case (inr d) = sym (S.there c d) ∙ e

    stays : (c : ℕ) (s : State) → s ≢ Running → st c ≡ s → st' c ≡ s
    stays c s n e = by_case (same_or_not c cell)
      where
        by_case : (c ≡ cell) ⊎ (c ≢ cell) → st' c ≡ s
        by_case (inl same) = absurd (n (sym e ∙ ap st same ∙ runs_now))
        by_case (inr d) = S.there c d ∙ e

    stays_has : (c : ℕ) → HasValue (st c) → HasValue (st' c)
    stays_has c (inl e) = inl (stays c Valid (λ f. cc) e)
    stays_has c (inr e) = inr (stays c Assigned (λ f. cc) e)

    reading : (r : ℕ) → (r ≡ cell) ⊎ (r ≢ cell) → (st' r ≡ Valid) ⊎ (st' r ≡ Running) → (st r ≡ Valid) ⊎ (st r ≡ Running)
    reading r (inl same) e = inr (ap st same ∙ runs_now)
    reading r (inr d) (inl e) = inl (sym (S.there r d) ∙ e)
    reading r (inr d) (inr e) = inr (sym (S.there r d) ∙ e)

    pub IsNetwork-ended : IsNetwork st' pairs rest
    IsNetwork-ended = record {
      stands = λ r x i e. stays_has x.0 (K.stands r x i (reading r (same_or_not r cell) e));
      bare = λ r x i e. K.bare r x i (was_before r Assigned (λ f. cc) e);
      live = λ r x i. let l = K.live r x i in (λ e. l.0 (was_before r Gone (λ f. cc) e), λ e. l.1 (was_before x.0 Gone (λ f. cc) e));
      once = K.once;
      distinct = d.1;
      runs = λ c i. S.there c (λ same. d.0 (subst (λ b. In b rest) same i)) ∙ K.runs c (subst (In c) (sym first) (inr i));
      listed = λ c e. listed c e (subst (In c) first (K.listed c (was_before c Running (λ f. cc) e)));
      unmarked = λ c e. K.unmarked c (was_before c Marked (λ f. cc) e);
    }
      where
        d : Distinct (cell ∷ rest)
        d = subst (λ (l : List ℕ). Distinct l) first K.distinct

        listed : (c : ℕ) → st' c ≡ Running → In c (cell ∷ rest) → In c rest
        listed c e (inl same) = let no : Valid ≡ Running = sym S.here ∙ sym (ap st' same) ∙ e in cc
        listed c e (inr i) = i

  -- ---- a running cell reads
  module _ (cell : ℕ) (x : ℕ × Facet) (runs : st cell ≡ Running) (stands : HasValue (st x.0)) (new : In (cell, x) pairs → ⊥) where
    of_pair : (r : ℕ) (y : ℕ × Facet) (P : ℕ → ℕ → Type 0) → ((r : ℕ) (y : ℕ × Facet) → In (r, y) pairs → P r y.0) → P cell x.0 → In (r, y) (pairs ++ (cell, x) ∷ []) → P r y.0
    of_pair r y P h own i = by_case (in_push (r, y) pairs (cell, x) i)
      where
        by_case : (In (r, y) pairs) ⊎ (◌≡◌ {A = ℕ × (ℕ × Facet)} (r, y) (cell, x)) → P r y.0
        by_case (inl j) = h r y j
        by_case (inr e) = subst (λ (z : ℕ × (ℕ × Facet)). P z.0 z.1.0) (sym e) own

    pub IsNetwork-noted : IsNetwork st (pairs ++ (cell, x) ∷ []) running
    IsNetwork-noted = record {
      stands = λ r y i. of_pair r y (λ a b. (st a ≡ Valid) ⊎ (st a ≡ Running) → HasValue (st b)) (λ a z j. K.stands a z j) (λ e. stands) i;
      bare = λ r y i. of_pair r y (λ a b. st a ≢ Assigned) (λ a z j. K.bare a z j) (λ e. let no : Running ≡ Assigned = sym runs ∙ e in cc) i;
      live = λ r y i. of_pair r y (λ a b. (st a ≢ Gone) × (st b ≢ Gone)) (λ a z j. K.live a z j) (λ e. let no : Running ≡ Gone = sym runs ∙ e in cc, λ e. HasValue-not (st x.0) Gone e (λ f. cc) (λ f. cc) stands) i;
      once = Distinct-push pairs (cell, x) K.once new;
      distinct = K.distinct;
      runs = K.runs;
      listed = K.listed;
      unmarked = K.unmarked;
    }

  -- ---- a cell is assigned
  module _ (cell : ℕ) (st1 st' : ℕ → State) (pairs' : List (ℕ × (ℕ × Facet))) (hit : ℕ × Facet → Type 0) (less : IsLess pairs' pairs) (bare : IsNoReader cell pairs')
      (U : Unmakes pairs' (λ x. x.0) hit st st1) (S : Sets cell Assigned st1 st') (calm : (r c : ℕ) → st r ≡ Running → Reached pairs' (λ x. x.0) hit c → ⊥) (no_run : st cell ≢ Running) where
    abbrev R : ℕ → Type 0
    R = Reached pairs' (λ x. x.0) hit

    was_other : (c : ℕ) (s : State) → s ≢ Assigned → s ≢ Invalid → st' c ≡ s → (c ≢ cell) × (st c ≡ s)
    was_other c s a n e = by_case (same_or_not c cell)
      where
        by_case : (c ≡ cell) ⊎ (c ≢ cell) → (c ≢ cell) × (st c ≡ s)
        by_case (inl same) = absurd (a (sym e ∙ ap st' same ∙ S.here))
        by_case (inr d) = (d, unmade_was pairs' hit st st1 U c s n (sym (S.there c d) ∙ e))

    -- what was read has a value still, where its reader isn't reached
    has_still : (c : ℕ) → (R c → ⊥) → HasValue (st c) → HasValue (st' c)
    has_still c free h = by_case (same_or_not c cell) h
      where
        by_fate : c ≢ cell → ((st1 c ≡ Valid) × (R c → ⊥)) ⊎ ((st1 c ≡ Invalid) × R c) → HasValue (st' c)
        by_fate d (inl f) = inl (S.there c d ∙ f.0)
        by_fate d (inr f) = absurd (free f.1)

        by_case : (c ≡ cell) ⊎ (c ≢ cell) → HasValue (st c) → HasValue (st' c)
        by_case (inl same) h = inr (ap st' same ∙ S.here)
        by_case (inr d) (inl v) = by_fate d (U.fate c v)
        by_case (inr d) (inr a) = inr (S.there c d ∙ U.kept c (λ v. let no : Assigned ≡ Valid = sym a ∙ v in cc) ∙ a)

    pub IsNetwork-assigned : IsNetwork st' pairs' running
    IsNetwork-assigned = record {
      stands = λ r x i e. stands r x i e;
      bare = λ r x i e. K.bare r x (less.within r x i) (unmade_was pairs' hit st st1 U r Assigned (λ f. cc) (sym (S.there r (bare r x i)) ∙ e));
      live = λ r x i. let l = K.live r x (less.within r x i) in (λ e. l.0 (was_other r Gone (λ f. cc) (λ f. cc) e).1, λ e. l.1 (was_other x.0 Gone (λ f. cc) (λ f. cc) e).1);
      once = less.once K.once;
      distinct = K.distinct;
      runs = λ c i. let r = K.runs c i in S.there c (λ same. no_run (ap st (sym same) ∙ r)) ∙ U.kept c (λ v. let no : Running ≡ Valid = sym r ∙ v in cc) ∙ r;
      listed = λ c e. K.listed c (was_other c Running (λ f. cc) (λ f. cc) e).1;
      unmarked = λ c e. K.unmarked c (was_other c Marked (λ f. cc) (λ f. cc) e).1;
    }
      where
        not_reached : (r : ℕ) (x : ℕ × Facet) → In (r, x) pairs' → st r ≡ Valid → st1 r ≡ Valid → R x.0 → ⊥
        not_reached r x i v w reached = by_fate (U.fate r v)
          where
            by_fate : ((st1 r ≡ Valid) × (R r → ⊥)) ⊎ ((st1 r ≡ Invalid) × R r) → ⊥
            by_fate (inl f) = f.1 (through r x i reached)
            by_fate (inr f) = let no : Valid ≡ Invalid = sym w ∙ f.0 in cc

        stands : (r : ℕ) (x : ℕ × Facet) → In (r, x) pairs' → (st' r ≡ Valid) ⊎ (st' r ≡ Running) → HasValue (st' x.0)
        stands r x i (inl e) =
            let w = sym (S.there r (bare r x i)) ∙ e in let v = unmade_was pairs' hit st st1 U r Valid (λ f. cc) w in
            has_still x.0 (not_reached r x i v w) (K.stands r x (less.within r x i) (inl v))
        stands r x i (inr e) =
            let v = unmade_was pairs' hit st st1 U r Running (λ f. cc) (sym (S.there r (bare r x i)) ∙ e) in has_still x.0 (calm r x.0 v) (K.stands r x (less.within r x i) (inr v))

  -- ---- cells are added
  module _ (st' : ℕ → State) (more : (c : ℕ) → (st' c ≡ st c) ⊎ ((st c ≡ Gone) × (st' c ≡ Invalid))) where
    was_there : (c : ℕ) (s : State) → s ≢ Invalid → st' c ≡ s → st c ≡ s
    was_there c s n e = by_case (more c)
      where
        by_case : (st' c ≡ st c) ⊎ ((st c ≡ Gone) × (st' c ≡ Invalid)) → st c ≡ s
        by_case (inl same) = sym same ∙ e
        by_case (inr a) = absurd (n (sym e ∙ a.1))

    is_there : (c : ℕ) (s : State) → s ≢ Gone → st c ≡ s → st' c ≡ s
    is_there c s n e = by_case (more c)
      where
        by_case : (st' c ≡ st c) ⊎ ((st c ≡ Gone) × (st' c ≡ Invalid)) → st' c ≡ s
        by_case (inl same) = same ∙ e
        by_case (inr a) = absurd (n (sym e ∙ a.0))

    there_has : (c : ℕ) → HasValue (st c) → HasValue (st' c)
    there_has c (inl e) = inl (is_there c Valid (λ f. cc) e)
    there_has c (inr e) = inr (is_there c Assigned (λ f. cc) e)

    there_reads : (r : ℕ) → (st' r ≡ Valid) ⊎ (st' r ≡ Running) → (st r ≡ Valid) ⊎ (st r ≡ Running)
    there_reads r (inl e) = inl (was_there r Valid (λ f. cc) e)
    there_reads r (inr e) = inr (was_there r Running (λ f. cc) e)

    pub IsNetwork-added : IsNetwork st' pairs running
    IsNetwork-added = record {
      stands = λ r x i e. there_has x.0 (K.stands r x i (there_reads r e));
      bare = λ r x i e. K.bare r x i (was_there r Assigned (λ f. cc) e);
      live = λ r x i. let l = K.live r x i in (λ e. l.0 (was_there r Gone (λ f. cc) e), λ e. l.1 (was_there x.0 Gone (λ f. cc) e));
      once = K.once;
      distinct = K.distinct;
      runs = λ c i. is_there c Running (λ f. cc) (K.runs c i);
      listed = λ c e. K.listed c (was_there c Running (λ f. cc) e);
      unmarked = λ c e. K.unmarked c (was_there c Marked (λ f. cc) e);
    }

  -- ---- cells are taken out
  module _ (st' : ℕ → State) (pairs' : List (ℕ × (ℕ × Facet))) (fewer : (c : ℕ) → (st' c ≡ st c) ⊎ (st' c ≡ Gone)) (less : IsLess pairs' pairs)
      (apart : (r : ℕ) (x : ℕ × Facet) → In (r, x) pairs' → (st' r ≡ st r) × (st' x.0 ≡ st x.0)) (idle : running ≡ []) where
    left : (c : ℕ) (s : State) → s ≢ Gone → st' c ≡ s → st c ≡ s
    left c s n e = by_case (fewer c)
      where
        by_case : (st' c ≡ st c) ⊎ (st' c ≡ Gone) → st c ≡ s
        by_case (inl same) = sym same ∙ e
        by_case (inr g) = absurd (n (sym e ∙ g))

    left_reads : (r : ℕ) → (st' r ≡ Valid) ⊎ (st' r ≡ Running) → (st r ≡ Valid) ⊎ (st r ≡ Running)
    left_reads r (inl e) = inl (left r Valid (λ f. cc) e)
    left_reads r (inr e) = inr (left r Running (λ f. cc) e)

    pub IsNetwork-removed : IsNetwork st' pairs' running
    IsNetwork-removed = record {
      stands = λ r x i e. subst HasValue (sym (apart r x i).1) (K.stands r x (less.within r x i) (left_reads r e));
      bare = λ r x i e. K.bare r x (less.within r x i) (left r Assigned (λ f. cc) e);
      live = λ r x i. let l = K.live r x (less.within r x i) in let a = apart r x i in (λ e. l.0 (sym a.0 ∙ e), λ e. l.1 (sym a.1 ∙ e));
      once = less.once K.once;
      distinct = K.distinct;
      runs = λ c i. absurd (subst (In c) idle i);
      listed = λ c e. K.listed c (left c Running (λ f. cc) e);
      unmarked = λ c e. K.unmarked c (left c Marked (λ f. cc) e);
    }

-- nothing is reached from a cell that is in no pair
pub reached_none : (pairs : List (ℕ × (ℕ × Facet))) (cell : ℕ) (differs : Facet → Type 0) → InNoPair cell pairs → (c : ℕ) → Reached pairs (λ x. x.0) (Touches cell differs) c → ⊥
reached_none pairs cell differs n s (direct r x i h) = (n r x i).1 h.0
reached_none pairs cell differs n s (through r x i d) = reached_none pairs cell differs n x.0 d
