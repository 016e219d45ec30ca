-- Free blocks as they are threaded through the cells, and what they keep.
use Rattle.std.proofs.Common.{◌≡◌, ◌≢◌, ℕ, zero, suc, ◌+◌, ◌-◌, ◌<◌, ◌≤◌, List, [], ◌∷◌, ◌++◌, length, get_or, replicate, Option, Some, None, ◌⊎◌, inl, inr, refl, sym, ap, ◌∙◌, subst, arith, get_or-set_same, get_or-set_other}
use Rattle.std.proofs.Math.ListN.{set, length-set}
use Rattle.dep_list.specs.Pairs.{In}
use Rattle.property_cells.specs.declared.marks.State.{State}
use Rattle.property_cells.specs.declared.marks.State.TheVariants.{Gone}
use Rattle.property_cells.specs.Reach.{Distinct}
use Rattle.property_cells.specs.Runs.{run_list, RunsThrough}
use Rattle.property_cells.specs.Blocks.{sized, chains, AreChains, IsMore, IsApart, AreFree}
use Rattle.property_cells.proofs.Reaching.{same_or_not}
use Rattle.property_cells.proofs.RunLemmas.{RunsThrough-set, RunsThrough-more}
use Rattle.property_cells.proofs.Lists.{length-distinct}

-- ---- threads by their length

run_none : (n : ℕ) (next : List (Option ℕ)) → run_list n None next ≡ []
run_none zero next = refl
run_none (suc n) next = refl

run_list-long : (n : ℕ) (next : List (Option ℕ)) (top : Option ℕ) (cs : List ℕ) → RunsThrough next top cs → length cs ≤ n → run_list n top next ≡ cs
run_list-long n next top [] t h = ap (λ (o : Option ℕ). run_list n o next) t ∙ run_none n next
run_list-long zero next top (c ∷ cs) t h = absurd (omega arith)
run_list-long (suc n) next top (c ∷ cs) t h = ap (λ (o : Option ℕ). run_list (suc n) o next) t.0 ∙ ap (λ l. c ∷ l) (run_list-long n next (get_or next c None) cs t.3 (omega arith))

through_distinct : (next : List (Option ℕ)) (top : Option ℕ) (cs : List ℕ) → RunsThrough next top cs → Distinct cs
through_distinct next top [] t = tt
through_distinct next top (c ∷ cs) t = (t.2, through_distinct next (get_or next c None) cs t.3)

through_below : (next : List (Option ℕ)) (top : Option ℕ) (cs : List ℕ) → RunsThrough next top cs → (c : ℕ) → In c cs → c < length next
through_below next top [] t c i = absurd i
through_below next top (d ∷ cs) t c (inl same) = subst (λ e. e < length next) (sym same) t.1
through_below next top (d ∷ cs) t c (inr i) = through_below next (get_or next d None) cs t.3 c i

chain_at : (heads next : List (Option ℕ)) (k : ℕ) → get_or (chains heads next) k [] ≡ run_list (length next) (get_or heads k None) next
chain_at [] next k = sym (run_none (length next) next)
chain_at (h ∷ heads) next zero = refl
chain_at (h ∷ heads) next (suc k) = chain_at heads next k

chain_is : (heads next : List (Option ℕ)) (k : ℕ) (cs : List ℕ) → RunsThrough next (get_or heads k None) cs → get_or (chains heads next) k [] ≡ cs
chain_is heads next k cs t =
    chain_at heads next k ∙ run_list-long (length next) next (get_or heads k None) cs t (length-distinct (length next) cs (through_distinct next (get_or heads k None) cs t) (through_below next (get_or heads k None) cs t))

split_through : (next : List (Option ℕ)) (first : ℕ) (cs : List ℕ) → RunsThrough next (Some first) cs
    → (rest : List ℕ) × (cs ≡ first ∷ rest) × RunsThrough next (get_or next first None) rest × (first < length next)
split_through next first [] t = cc
split_through next first (c ∷ cs) t =
    let e : c ≡ first = cc in (cs, ap (λ d. d ∷ cs) e, subst (λ d. RunsThrough next (get_or next d None) cs) e t.3, subst (λ d. d < length next) e t.1)

pub no_through : (next : List (Option ℕ)) (cs : List ℕ) → RunsThrough next None cs → cs ≡ []
no_through next [] t = refl
no_through next (c ∷ cs) t = cc

module _ (heads next : List (Option ℕ)) (K : AreChains heads next) where
  abbrev list : ℕ → List ℕ
  list j = get_or (chains heads next) j []

  -- the first of a list
  pub first_inside : (k first : ℕ) → get_or heads k None ≡ Some first → first < length next
  first_inside k first e = (split_through next first (list k) (subst (λ (o : Option ℕ). RunsThrough next o (list k)) e (K.through k))).3

  pub none_there : (k : ℕ) → get_or heads k None ≡ None → list k ≡ []
  none_there k e = no_through next (list k) (subst (λ (o : Option ℕ). RunsThrough next o (list k)) e (K.through k))

  pub none_past : (k : ℕ) → length heads ≤ k → list k ≡ []
  none_past k h = none_there k (past heads k h)
    where
      past : (xs : List (Option ℕ)) (k : ℕ) → length xs ≤ k → get_or xs k None ≡ None
      past [] k h = refl
      past (x ∷ xs) zero h = absurd (omega arith)
      past (x ∷ xs) (suc k) h = past xs k (omega arith)

  -- ---- the first of a list is taken
  module _ (k first : ℕ) (inside : k < length heads) (head : get_or heads k None ≡ Some first) where
    abbrev pub heads_less : List (Option ℕ)
    heads_less = set heads k (get_or next first None)

    rest : (rest : List ℕ) × (list k ≡ first ∷ rest) × RunsThrough next (get_or next first None) rest × (first < length next)
    rest = split_through next first (list k) (subst (λ (o : Option ℕ). RunsThrough next o (list k)) head (K.through k))

    abbrev list' : ℕ → List ℕ
    list' j = get_or (chains heads_less next) j []

    own : list' k ≡ rest.0
    own = chain_is heads_less next k rest.0 (subst (λ (o : Option ℕ). RunsThrough next o rest.0) (sym (get_or-set_same heads k (get_or next first None) None inside)) rest.2)

    other : (j : ℕ) → j ≢ k → list' j ≡ list j
    other j n = chain_is heads_less next j (list j) (subst (λ (o : Option ℕ). RunsThrough next o (list j)) (sym (get_or-set_other heads k j (get_or next first None) None n)) (K.through j))

    from : (j c : ℕ) → (j ≡ k) ⊎ (j ≢ k) → In c (list' j) → In c (list j)
    from j c (inl same) i = subst (λ l. In c (list l)) (sym same) (subst (In c) (sym rest.1) (inr (subst (In c) (ap list' same ∙ own) i)))
    from j c (inr n) i = subst (In c) (other j n) i

    pub AreChains-less : AreChains heads_less next
    AreChains-less = record {
      through = λ j. through j (same_or_not j k);
      apart = λ i j c a b. K.apart i j c (from i c (same_or_not i k) a) (from j c (same_or_not j k) b);
      longer = subst (λ n. length next ≤ n) (sym (length-set heads k (get_or next first None))) K.longer;
    }
      where
        through : (j : ℕ) → (j ≡ k) ⊎ (j ≢ k) → RunsThrough next (get_or heads_less j None) (list' j)
        through j (inl same) = subst (λ l. RunsThrough next (get_or heads_less l None) (list' l)) (sym same)
            (subst (λ (cs : List ℕ). RunsThrough next (get_or heads_less k None) cs) (sym own) (subst (λ (o : Option ℕ). RunsThrough next o rest.0) (sym (get_or-set_same heads k (get_or next first None) None inside)) rest.2))
        through j (inr n) = subst (λ (cs : List ℕ). RunsThrough next (get_or heads_less j None) cs) (sym (other j n)) (subst (λ (o : Option ℕ). RunsThrough next o (list j)) (sym (get_or-set_other heads k j (get_or next first None) None n)) (K.through j))

    pub is_more : IsMore (chains heads_less next) (suc k) first (chains heads next)
    is_more = record { own = rest.1 ∙ ap (λ l. first ∷ l) (sym own); others = others }
      where
        others : (n : ℕ) → n ≢ suc k → sized (chains heads next) n ≡ sized (chains heads_less next) n
        others zero d = refl
        others (suc j) d = sym (other j (λ same. d (ap suc same)))

  -- ---- a block comes in front of a list
  module _ (k first : ℕ) (inside : k < length heads) (within : first < length next) (new : (n : ℕ) → In first (sized (chains heads next) n) → ⊥) where
    abbrev pub next_more : List (Option ℕ)
    next_more = set next first (get_or heads k None)

    abbrev pub heads_more : List (Option ℕ)
    heads_more = set heads k (Some first)

    abbrev more : ℕ → List ℕ
    more j = get_or (chains heads_more next_more) j []

    kept : (j : ℕ) → RunsThrough next_more (get_or heads j None) (list j)
    kept j = RunsThrough-set next (get_or heads j None) (list j) first (get_or heads k None) (new (suc j)) (K.through j)

    through_own : RunsThrough next_more (get_or heads_more k None) (first ∷ list k)
    through_own = (
      get_or-set_same heads k (Some first) None inside,
      subst (λ n. first < n) (sym (length-set next first (get_or heads k None))) within,
      new (suc k),
      subst (λ (o : Option ℕ). RunsThrough next_more o (list k)) (sym (get_or-set_same next first (get_or heads k None) None within)) (kept k),
    )

    through_other : (j : ℕ) → j ≢ k → RunsThrough next_more (get_or heads_more j None) (list j)
    through_other j n = subst (λ (o : Option ℕ). RunsThrough next_more o (list j)) (sym (get_or-set_other heads k j (Some first) None n)) (kept j)

    own_more : more k ≡ first ∷ list k
    own_more = chain_is heads_more next_more k (first ∷ list k) through_own

    other_more : (j : ℕ) → j ≢ k → more j ≡ list j
    other_more j n = chain_is heads_more next_more j (list j) (through_other j n)

    from_more : (j c : ℕ) → (j ≡ k) ⊎ (j ≢ k) → In c (more j) → ((c ≡ first) × (j ≡ k)) ⊎ In c (list j)
    from_more j c (inl same) i = split (subst (In c) (ap more same ∙ own_more) i)
      where
        split : In c (first ∷ list k) → ((c ≡ first) × (j ≡ k)) ⊎ In c (list j)
        split (inl e) = inl (e, same)
        split (inr h) = inr (subst (λ l. In c (list l)) (sym same) h)
    from_more j c (inr n) i = inr (subst (In c) (other_more j n) i)

    pub AreChains-more : AreChains heads_more next_more
    AreChains-more = record {
      through = λ j. through j (same_or_not j k);
      apart = λ i j c a b. apart i j c (from_more i c (same_or_not i k) a) (from_more j c (same_or_not j k) b);
      longer = subst (λ n. n ≤ length heads_more) (sym (length-set next first (get_or heads k None))) (subst (λ n. length next ≤ n) (sym (length-set heads k (Some first))) K.longer);
    }
      where
        through : (j : ℕ) → (j ≡ k) ⊎ (j ≢ k) → RunsThrough next_more (get_or heads_more j None) (more j)
        through j (inl same) = subst (λ l. RunsThrough next_more (get_or heads_more l None) (more l)) (sym same) (subst (λ (cs : List ℕ). RunsThrough next_more (get_or heads_more k None) cs) (sym own_more) through_own)
        through j (inr n) = subst (λ (cs : List ℕ). RunsThrough next_more (get_or heads_more j None) cs) (sym (other_more j n)) (through_other j n)

        apart : (i j c : ℕ) → ((c ≡ first) × (i ≡ k)) ⊎ In c (list i) → ((c ≡ first) × (j ≡ k)) ⊎ In c (list j) → i ≡ j
        apart i j c (inl a) (inl b) = a.1 ∙ sym b.1
        apart i j c (inl a) (inr b) = absurd (new (suc j) (subst (λ d. In d (list j)) a.0 b))
        apart i j c (inr a) (inl b) = absurd (new (suc i) (subst (λ d. In d (list i)) b.0 a))
        apart i j c (inr a) (inr b) = K.apart i j c a b

    pub is_less : IsMore (chains heads next) (suc k) first (chains heads_more next_more)
    is_less = record { own = own_more; others = others }
      where
        others : (n : ℕ) → n ≢ suc k → sized (chains heads_more next_more) n ≡ sized (chains heads next) n
        others zero d = refl
        others (suc j) d = other_more j (λ same. d (ap suc same))

  -- ---- room for more
  module _ (heads' next' : List (Option ℕ)) (threads : (top : Option ℕ) (cs : List ℕ) → RunsThrough next top cs → RunsThrough next' top cs)
      (same : (j : ℕ) → get_or heads' j None ≡ get_or heads j None) (longer : length next' ≤ length heads') where
    through_room : (j : ℕ) → RunsThrough next' (get_or heads' j None) (list j)
    through_room j = subst (λ (o : Option ℕ). RunsThrough next' o (list j)) (sym (same j)) (threads (get_or heads j None) (list j) (K.through j))

    room : (j : ℕ) → get_or (chains heads' next') j [] ≡ list j
    room j = chain_is heads' next' j (list j) (through_room j)

    pub AreChains-room : AreChains heads' next'
    AreChains-room = record {
      through = λ j. subst (λ (cs : List ℕ). RunsThrough next' (get_or heads' j None) cs) (sym (room j)) (through_room j);
      apart = λ i j c a b. K.apart i j c (subst (In c) (room i) a) (subst (In c) (room j) b);
      longer = longer;
    }

    pub sized-room : (n : ℕ) → sized (chains heads' next') n ≡ sized (chains heads next) n
    sized-room zero = refl
    sized-room (suc j) = room j

-- ---- by the size of the blocks

module _ (heads next : List (Option ℕ)) (K : AreChains heads next) where
  pub sized_past : (size : ℕ) → length heads < size → sized (chains heads next) size ≡ []
  sized_past zero h = refl
  sized_past (suc k) h = none_past heads next K k (omega arith)

  pub sized_none : (size : ℕ) → 0 < size → get_or heads (size - 1) None ≡ None → sized (chains heads next) size ≡ []
  sized_none zero h e = absurd (omega arith)
  sized_none (suc k) h e = none_there heads next K k (subst (λ j. get_or heads j None ≡ None) (let one : suc k - 1 ≡ k = omega arith in one) e)

  pub taken_inside : (size first : ℕ) → get_or heads (size - 1) None ≡ Some first → first < length next
  taken_inside size first e = first_inside heads next K (size - 1) first e

  pub chains_less : (size first : ℕ) (x : Option ℕ) → 0 < size → size ≤ length heads → get_or heads (size - 1) None ≡ Some first → x ≡ get_or next first None
      → AreChains (set heads (size - 1) x) next × IsMore (chains (set heads (size - 1) x) next) size first (chains heads next)
  chains_less size first x some fits head e = subst (λ (y : Option ℕ). AreChains (set heads (size - 1) y) next × IsMore (chains (set heads (size - 1) y) next) size first (chains heads next)) (sym e) (
    AreChains-less heads next K (size - 1) first (omega arith) head,
    subst (λ j. IsMore (chains (set heads (size - 1) (get_or next first None)) next) j first (chains heads next)) (let one : suc (size - 1) ≡ size = omega arith in one) (is_more heads next K (size - 1) first (omega arith) head),
  )

  pub chains_more : (size first : ℕ) (x : Option ℕ) → 0 < size → size ≤ length heads → first < length next → ((n : ℕ) → In first (sized (chains heads next) n) → ⊥) → x ≡ get_or heads (size - 1) None
      → AreChains (set heads (size - 1) (Some first)) (set next first x) × IsMore (chains heads next) size first (chains (set heads (size - 1) (Some first)) (set next first x))
  chains_more size first x some fits within new e = subst (λ (y : Option ℕ). AreChains (set heads (size - 1) (Some first)) (set next first y) × IsMore (chains heads next) size first (chains (set heads (size - 1) (Some first)) (set next first y))) (sym e) (
    AreChains-more heads next K (size - 1) first (omega arith) within new,
    subst (λ j. IsMore (chains heads next) j first (chains (set heads (size - 1) (Some first)) (set next first (get_or heads (size - 1) None)))) (let one : suc (size - 1) ≡ size = omega arith in one) (is_less heads next K (size - 1) first (omega arith) within new),
  )

-- ---- tables with more places

get_or-none : (xs : List (Option ℕ)) (m j : ℕ) → get_or (xs ++ replicate m None) j None ≡ get_or xs j None
get_or-none [] zero j = refl
get_or-none [] (suc m) zero = refl
get_or-none [] (suc m) (suc j) = get_or-none [] m j
get_or-none (x ∷ xs) m zero = refl
get_or-none (x ∷ xs) m (suc j) = get_or-none xs m j

pub chains_room : (heads next : List (Option ℕ)) → AreChains heads next → (heads' next' : List (Option ℕ)) (m k : ℕ) → heads' ≡ heads ++ replicate m None → (next' ≡ next) ⊎ (next' ≡ next ++ replicate k None) → length next' ≤ length heads'
    → AreChains heads' next' × ((n : ℕ) → sized (chains heads' next') n ≡ sized (chains heads next) n)
chains_room heads next K heads' next' m k e f longer = (AreChains-room heads next K heads' next' threads same longer, sized-room heads next K heads' next' threads same longer)
  where
    same : (j : ℕ) → get_or heads' j None ≡ get_or heads j None
    same j = ap (λ (l : List (Option ℕ)). get_or l j None) e ∙ get_or-none heads m j

    threads : (top : Option ℕ) (cs : List ℕ) → RunsThrough next top cs → RunsThrough next' top cs
    threads top cs t = by_case f
      where
        by_case : (next' ≡ next) ⊎ (next' ≡ next ++ replicate k None) → RunsThrough next' top cs
        by_case (inl g) = subst (λ (l : List (Option ℕ)). RunsThrough l top cs) (sym g) t
        by_case (inr g) = subst (λ (l : List (Option ℕ)). RunsThrough l top cs) (sym g) (RunsThrough-more next (replicate k None) top cs t)

-- ---- free blocks and the states of cells

pub AreFree-states : (st st' : ℕ → State) (n n' : ℕ) (blocks : List (List ℕ)) → ((c : ℕ) → st c ≡ Gone → c < n → st' c ≡ Gone) → n ≤ n' → AreFree st n blocks → AreFree st' n' blocks
AreFree-states st st' n n' blocks h l K = record {
  gone = λ c m k i a b. h k (K.gone c m k i a b) (let j = K.inside c m i in omega arith);
  inside = λ c m i. let j = K.inside c m i in omega arith;
  apart = K.apart;
  distinct = K.distinct;
}

pub AreFree-sized : (st : ℕ → State) (n : ℕ) (blocks blocks' : List (List ℕ)) → ((m : ℕ) → sized blocks' m ≡ sized blocks m) → AreFree st n blocks → AreFree st n blocks'
AreFree-sized st n blocks blocks' same K = record {
  gone = λ c m k i a b. K.gone c m k (subst (In c) (same m) i) a b;
  inside = λ c m i. K.inside c m (subst (In c) (same m) i);
  apart = λ c m d k i j. K.apart c m d k (subst (In c) (same m) i) (subst (In d) (same k) j);
  distinct = λ m. subst (λ (l : List ℕ). Distinct l) (sym (same m)) (K.distinct m);
}

-- a block of a size is at least as long as one cell
pub sized_some : (blocks : List (List ℕ)) (n c : ℕ) → In c (sized blocks n) → 0 < n
sized_some blocks zero c i = absurd i
sized_some blocks (suc n) c i = omega arith

module _ (st : ℕ → State) (n : ℕ) (less more : List (List ℕ)) (size first : ℕ) (M : IsMore less size first more) where
  in_more : (m c : ℕ) → (m ≡ size) ⊎ (m ≢ size) → In c (sized less m) → In c (sized more m)
  in_more m c (inl same) i = subst (λ k. In c (sized more k)) (sym same) (subst (In c) (sym M.own) (inr (subst (λ k. In c (sized less k)) same i)))
  in_more m c (inr d) i = subst (In c) (sym (M.others m d)) i

  of_more : (m c : ℕ) → (m ≡ size) ⊎ (m ≢ size) → In c (sized more m) → ((c ≡ first) × (m ≡ size)) ⊎ In c (sized less m)
  of_more m c (inl same) i = split (subst (In c) M.own (subst (λ k. In c (sized more k)) same i))
    where
      split : In c (first ∷ sized less size) → ((c ≡ first) × (m ≡ size)) ⊎ In c (sized less m)
      split (inl e) = inl (e, same)
      split (inr h) = inr (subst (λ k. In c (sized less k)) (sym same) h)
  of_more m c (inr d) i = inr (subst (In c) (M.others m d) i)

  first_in : In first (sized more size)
  first_in = subst (In first) (sym M.own) (inl refl)

  module _ (K : AreFree st n more) where
    up : (m c : ℕ) → In c (sized less m) → In c (sized more m)
    up m c i = in_more m c (same_or_not m size) i

    pub AreFree-less : AreFree st n less
    AreFree-less = record {
      gone = λ c m k i a b. K.gone c m k (up m c i) a b;
      inside = λ c m i. K.inside c m (up m c i);
      apart = λ c m d k i j. K.apart c m d k (up m c i) (up k d j);
      distinct = λ m. distinct m (same_or_not m size);
    }
      where
        distinct : (m : ℕ) → (m ≡ size) ⊎ (m ≢ size) → Distinct (sized less m)
        distinct m (inl same) = subst (λ k. Distinct (sized less k)) (sym same) (subst (λ (l : List ℕ). Distinct l) M.own (K.distinct size)).1
        distinct m (inr d) = subst (λ (l : List ℕ). Distinct l) (M.others m d) (K.distinct m)

    pub first_gone : (k : ℕ) → first ≤ k → k < first + size → st k ≡ Gone
    first_gone k a b = K.gone first size k first_in a b

    pub first_fits : (first + size ≤ n) × (0 < size)
    first_fits = (K.inside first size first_in, sized_some more size first first_in)

    pub first_apart : IsApart less first size
    first_apart c m i = by_case (K.apart c m first size (up m c i) first_in)
      where
        by_case : ((c ≡ first) × (m ≡ size)) ⊎ ((c + m ≤ first) ⊎ (first + size ≤ c)) → (c + m ≤ first) ⊎ (first + size ≤ c)
        by_case (inl e) = absurd ((subst (λ (l : List ℕ). Distinct l) M.own (K.distinct size)).0 (subst (λ d. In d (sized less size)) e.0 (subst (λ k. In c (sized less k)) e.1 i)))
        by_case (inr h) = h

  module _ (K : AreFree st n less) (gone : (k : ℕ) → first ≤ k → k < first + size → st k ≡ Gone) (fits : first + size ≤ n) (some : 0 < size) (apart : IsApart less first size) where
    no_first : (m : ℕ) → In first (sized less m) → ⊥
    no_first m i = by_case (apart first m i)
      where
        by_case : (first + m ≤ first) ⊎ (first + size ≤ first) → ⊥
        by_case (inl h) = let s = sized_some less m first i in omega arith
        by_case (inr h) = omega arith

    pub AreFree-more : AreFree st n more
    AreFree-more = record {
      gone = λ c m k i a b. gone_more c m k (of_more m c (same_or_not m size) i) a b;
      inside = λ c m i. inside_more c m (of_more m c (same_or_not m size) i);
      apart = λ c m d k i j. apart_more c m d k (of_more m c (same_or_not m size) i) (of_more k d (same_or_not k size) j);
      distinct = λ m. distinct m (same_or_not m size);
    }
      where
        gone_more : (c m k : ℕ) → ((c ≡ first) × (m ≡ size)) ⊎ In c (sized less m) → c ≤ k → k < c + m → st k ≡ Gone
        gone_more c m k (inl e) a b = gone k (let f = e.0 in omega (arith, f)) (let f = e.0 in let g = e.1 in omega (arith, f, g))
        gone_more c m k (inr i) a b = K.gone c m k i a b

        inside_more : (c m : ℕ) → ((c ≡ first) × (m ≡ size)) ⊎ In c (sized less m) → c + m ≤ n
        inside_more c m (inl e) = let f = e.0 in let g = e.1 in omega (arith, f, g)
        inside_more c m (inr i) = K.inside c m i

        swap : (c m : ℕ) → (c + m ≤ first) ⊎ (first + size ≤ c) → (first + size ≤ c) ⊎ (c + m ≤ first)
        swap c m (inl h) = inr h
        swap c m (inr h) = inl h

        apart_more : (c m d k : ℕ) → ((c ≡ first) × (m ≡ size)) ⊎ In c (sized less m) → ((d ≡ first) × (k ≡ size)) ⊎ In d (sized less k) → ((c ≡ d) × (m ≡ k)) ⊎ ((c + m ≤ d) ⊎ (d + k ≤ c))
        apart_more c m d k (inl e) (inl f) = inl (e.0 ∙ sym f.0, e.1 ∙ sym f.1)
        apart_more c m d k (inl e) (inr j) = inr (subst (λ (x : ℕ × ℕ). (x.0 + x.1 ≤ d) ⊎ (d + k ≤ x.0)) (λ i. (sym e.0 i, sym e.1 i)) (swap d k (apart d k j)))
        apart_more c m d k (inr i) (inl f) = inr (subst (λ (x : ℕ × ℕ). (c + m ≤ x.0) ⊎ (x.0 + x.1 ≤ c)) (λ i. (sym f.0 i, sym f.1 i)) (apart c m i))
        apart_more c m d k (inr i) (inr j) = K.apart c m d k i j

        distinct : (m : ℕ) → (m ≡ size) ⊎ (m ≢ size) → Distinct (sized more m)
        distinct m (inl same) = subst (λ k. Distinct (sized more k)) (sym same) (subst (λ (l : List ℕ). Distinct l) (sym M.own) (no_first size, K.distinct size))
        distinct m (inr d) = subst (λ (l : List ℕ). Distinct l) (sym (M.others m d)) (K.distinct m)
