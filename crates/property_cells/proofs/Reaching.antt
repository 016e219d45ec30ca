-- Marking against reachability. Nothing here speaks of memory: states are functions of the cell, and those to be made invalid are a list.
use Rattle.std.proofs.Common.{◌≡◌, ◌≢◌, ℕ, Bool, true, false, ◌==◌, List, [], ◌∷◌, Option, Some, None, ◌⊎◌, inl, inr, refl, sym, ap, ◌∙◌, subst, T, eqb→eq}
use lib.Dec.{eqb_refl}
use Rattle.dep_list.specs.Pairs.{In}
use Rattle.property_cells.specs.declared.marks.State.{State}
use Rattle.property_cells.specs.declared.marks.State.TheVariants.{Gone, Invalid, Running, Valid, Assigned, Marked}
use Rattle.property_cells.specs.Reach.{Reached, direct, through, Unmakes, IsNet, Became, IsMarking}

true_of : (b : Bool) → b ≡ true → T b
true_of true e = tt
true_of false e = cc

eqb_same : (n : ℕ) → (n == n) ≡ true
eqb_same n = yes (n == n) (eqb_refl n)
  where
    yes : (b : Bool) → T b → b ≡ true
    yes true t = refl
    yes false t = absurd t

-- two numbers are the same or not
pub same_or_not : (k j : ℕ) → (k ≡ j) ⊎ (k ≢ j)
same_or_not k j = (elim (k == j) as (λ b. (k == j) ≡ b → (k ≡ j) ⊎ (k ≢ j)) [
  | true ↦ λ e. inl (eqb→eq k j (true_of (k == j) e))
  | false ↦ λ e. inr (λ same. let yes = eqb_same j in let no : (j == j) ≡ false = subst (λ i. (i == j) ≡ false) same e in cc)
]) refl

-- states with that of one cell replaced
pub record Sets (c : ℕ) (x : State) (before after : ℕ → State) : Type 0 where
  pub here : after c ≡ x
  pub there : (d : ℕ) → d ≢ c → after d ≡ before d

module _ {P : Type 0} (pairs : List (ℕ × P)) (cell_of : P → ℕ) (hit : P → Type 0) where
  abbrev R : ℕ → Type 0
  R = Reached pairs cell_of hit

  abbrev Fate : List ℕ → State → ℕ → Type 0
  Fate = Became pairs cell_of hit

  abbrev Marking : (ℕ → State) → (ℕ → State) → Option ℕ → List ℕ → Type 0
  Marking = IsMarking pairs cell_of hit

  -- no cell becomes valid
  abbrev pub Fades : (ℕ → State) → (ℕ → State) → Type 0
  Fades before after = (c : ℕ) → after c ≡ Valid → before c ≡ Valid

  -- no reader of the point is valid
  abbrev pub IsDone : (ℕ → State) → P → Type 0
  IsDone now p = (r : ℕ) → In (r, p) pairs → now r ≢ Valid

  module _ (first : ℕ → State) where
    pub begun : Marking first first None []
    begun = record {
      kept = λ c n. refl;
      fate = λ c v. subst (λ s. Fate [] s c) (sym v) tt;
      marked = λ c h. absurd h;
      distinct = tt;
      closed = λ r p i v n. let no : Valid ≡ Invalid = sym v ∙ n in cc;
    }

    -- the fate of a cell, when others come in front of those to be made invalid
    fate_more : (x : ℕ) (pending : List ℕ) (s : State) (c : ℕ) → Fate pending s c → Fate (x ∷ pending) s c
    fate_more x pending Valid c f = tt
    fate_more x pending Marked c f = (inr f.0, f.1)
    fate_more x pending Invalid c f = f
    fate_more x pending Gone c f = f
    fate_more x pending Running c f = f
    fate_more x pending Assigned c f = f

    was_valid : (now : ℕ → State) (busy : Option ℕ) (pending : List ℕ) → Marking first now busy pending → (c : ℕ) → now c ≡ Valid → first c ≡ Valid
    was_valid now busy pending m c v = decided (first c) refl
      where
        decided : (s : State) → first c ≡ s → first c ≡ Valid
        decided Valid e = e
        decided Gone e = sym (m.kept c (λ d. let bad : Gone ≡ Valid = sym e ∙ d in cc)) ∙ v
        decided Invalid e = sym (m.kept c (λ d. let bad : Invalid ≡ Valid = sym e ∙ d in cc)) ∙ v
        decided Running e = sym (m.kept c (λ d. let bad : Running ≡ Valid = sym e ∙ d in cc)) ∙ v
        decided Assigned e = sym (m.kept c (λ d. let bad : Assigned ≡ Valid = sym e ∙ d in cc)) ∙ v
        decided Marked e = sym (m.kept c (λ d. let bad : Marked ≡ Valid = sym e ∙ d in cc)) ∙ v

    -- a valid cell that is reached comes in front
    pub put : (now after : ℕ → State) (busy : Option ℕ) (pending : List ℕ) (c : ℕ) → Marking first now busy pending → now c ≡ Valid → R c → Sets c Marked now after → Marking first after busy (c ∷ pending)
    put now after busy pending c m v reached sets =
        let first_valid = was_valid now busy pending m c v in record {
          kept = λ d n. sets.there d (λ same. n (ap first same ∙ first_valid)) ∙ m.kept d n;
          fate = λ d w. fate d w (same_or_not d c);
          marked = λ d h. marked d h;
          distinct = (λ h. let no : Valid ≡ Marked = sym v ∙ (m.marked c h).1 in cc, m.distinct);
          closed = λ r p i w n. closed r p i w n (same_or_not (cell_of p) c) (same_or_not r c);
        }
      where
        fate : (d : ℕ) → first d ≡ Valid → (d ≡ c) ⊎ (d ≢ c) → Fate (c ∷ pending) (after d) d
        fate d w (inl same) = subst (λ s. Fate (c ∷ pending) s d) (sym (ap after same ∙ sets.here)) (inl same, subst R (sym same) reached)
        fate d w (inr differ) = subst (λ s. Fate (c ∷ pending) s d) (sym (sets.there d differ)) (fate_more c pending (now d) d (m.fate d w))

        marked : (d : ℕ) → In d (c ∷ pending) → (first d ≡ Valid) × (after d ≡ Marked)
        marked d (inl same) = (ap first same ∙ was_valid now busy pending m c v, ap after same ∙ sets.here)
        marked d (inr h) =
            let old = m.marked d h in
            (old.0, sets.there d (λ same. let no : Valid ≡ Marked = sym v ∙ ap now (sym same) ∙ old.1 in cc) ∙ old.1)

        later : (r : ℕ) → (r ≡ c) ⊎ (r ≢ c) → now r ≢ Valid → after r ≢ Valid
        later r (inl same) n e = let no : Marked ≡ Valid = sym (ap after same ∙ sets.here) ∙ e in cc
        later r (inr differ) n e = n (sym (sets.there r differ) ∙ e)

        closed : (r : ℕ) (p : P) → In (r, p) pairs → first (cell_of p) ≡ Valid → after (cell_of p) ≡ Invalid → (cell_of p ≡ c) ⊎ (cell_of p ≢ c) → (r ≡ c) ⊎ (r ≢ c) → (busy ≡ Some (cell_of p)) ⊎ (after r ≢ Valid)
        closed r p i w n (inl same) q = let no : Marked ≡ Invalid = sym (ap after same ∙ sets.here) ∙ n in cc
        closed r p i w n (inr differ) q = next (m.closed r p i w (sym (sets.there (cell_of p) differ) ∙ n))
          where
            next : (busy ≡ Some (cell_of p)) ⊎ (now r ≢ Valid) → (busy ≡ Some (cell_of p)) ⊎ (after r ≢ Valid)
            next (inl e) = inl e
            next (inr k) = inr (later r q k)

    -- the first of those to be made invalid is invalid, and its readers are next
    pub took : (now after : ℕ → State) (c : ℕ) (rest : List ℕ) → Marking first now None (c ∷ rest) → Sets c Invalid now after → Marking first after (Some c) rest
    took now after c rest m sets = record {
      kept = λ d n. sets.there d (λ same. n (ap first same ∙ (m.marked c (inl refl)).0)) ∙ m.kept d n;
      fate = λ d w. fate d w (same_or_not d c);
      marked = λ d h. let old = m.marked d (inr h) in (old.0, sets.there d (λ same. m.distinct.0 (subst (λ e. In e rest) same h)) ∙ old.1);
      distinct = m.distinct.1;
      closed = λ r p i w n. closed r p i w n (same_or_not (cell_of p) c) (same_or_not r c);
    }
      where
        reached : R c
        reached = (subst (λ s. Fate (c ∷ rest) s c) (m.marked c (inl refl)).1 (m.fate c (m.marked c (inl refl)).0)).1

        stays : (d : ℕ) (s : State) → d ≢ c → Fate (c ∷ rest) s d → Fate rest s d
        stays d Valid n f = tt
        stays d Marked n f = (other f.0, f.1)
          where
            other : In d (c ∷ rest) → In d rest
            other (inl same) = absurd (n same)
            other (inr h) = h
        stays d Invalid n f = f
        stays d Gone n f = f
        stays d Running n f = f
        stays d Assigned n f = f

        fate : (d : ℕ) → first d ≡ Valid → (d ≡ c) ⊎ (d ≢ c) → Fate rest (after d) d
        fate d w (inl same) = subst (λ s. Fate rest s d) (sym (ap after same ∙ sets.here)) (subst R (sym same) reached)
        fate d w (inr differ) = subst (λ s. Fate rest s d) (sym (sets.there d differ)) (stays d (now d) differ (m.fate d w))

        later : (r : ℕ) → (r ≡ c) ⊎ (r ≢ c) → now r ≢ Valid → after r ≢ Valid
        later r (inl same) n e = let no : Invalid ≡ Valid = sym (ap after same ∙ sets.here) ∙ e in cc
        later r (inr differ) n e = n (sym (sets.there r differ) ∙ e)

        closed : (r : ℕ) (p : P) → In (r, p) pairs → first (cell_of p) ≡ Valid → after (cell_of p) ≡ Invalid → (cell_of p ≡ c) ⊎ (cell_of p ≢ c) → (r ≡ c) ⊎ (r ≢ c) → (Some c ≡ Some (cell_of p)) ⊎ (after r ≢ Valid)
        closed r p i w n (inl same) q = inl (ap Some (sym same))
        closed r p i w n (inr differ) q = next (m.closed r p i w (sym (sets.there (cell_of p) differ) ∙ n))
          where
            next : (None ≡ Some (cell_of p)) ⊎ (now r ≢ Valid) → (Some c ≡ Some (cell_of p)) ⊎ (after r ≢ Valid)
            next (inl e) = cc
            next (inr k) = inr (later r q k)

    -- no reader of the busy cell is valid any more
    pub passed : (now : ℕ → State) (c : ℕ) (pending : List ℕ) → Marking first now (Some c) pending → ((p : P) → cell_of p ≡ c → IsDone now p) → Marking first now None pending
    passed now c pending m done = record {
      kept = m.kept;
      fate = m.fate;
      marked = m.marked;
      distinct = m.distinct;
      closed = λ r p i w n. next r p i (m.closed r p i w n);
    }
      where
        next : (r : ℕ) (p : P) → In (r, p) pairs → (Some c ≡ Some (cell_of p)) ⊎ (now r ≢ Valid) → (None ≡ Some (cell_of p)) ⊎ (now r ≢ Valid)
        next r p i (inl e) = let same : c ≡ cell_of p = cc in inr (done p (sym same) r i)
        next r p i (inr k) = inr k

    -- nothing is left to be made invalid: exactly the valid cells that are reached are invalid
    module _ (now : ℕ → State) (m : Marking first now None []) (done : (p : P) → hit p → IsDone now p) (net : IsNet pairs cell_of hit first) where
      reads : (c : ℕ) → R c → (p : P) × In (c, p) pairs
      reads c (direct r p i h) = (p, i)
      reads c (through r p i d) = (p, i)

      not_reached : (c : ℕ) → R c → now c ≢ Valid
      not_reached c (direct r p i h) v = done p h c i v
      not_reached c (through r p i d) v = stands (net.stands c p i (was_valid now None [] m c v)) (not_reached (cell_of p) d)
        where
          by_state : (s : State) → now (cell_of p) ≡ s → first (cell_of p) ≡ Valid → now (cell_of p) ≢ Valid → Fate [] s (cell_of p) → ⊥
          by_state Valid e w n f = n e
          by_state Marked e w n f = f.0
          by_state Gone e w n f = f
          by_state Running e w n f = f
          by_state Assigned e w n f = f
          by_state Invalid e w n f = closed (m.closed c p i w e)
            where
              closed : (None ≡ Some (cell_of p)) ⊎ (now c ≢ Valid) → ⊥
              closed (inl e) = cc
              closed (inr k) = k v

          stands : (first (cell_of p) ≡ Valid) ⊎ (first (cell_of p) ≡ Assigned) → now (cell_of p) ≢ Valid → ⊥
          stands (inl w) n = by_state (now (cell_of p)) refl w n (m.fate (cell_of p) w)
          stands (inr a) n = let x = reads (cell_of p) d in net.bare (cell_of p) x.0 x.1 a

      pub ended : Unmakes pairs cell_of hit first now
      ended = record { kept = m.kept; fate = λ c v. by_fate c (now c) refl (m.fate c v) }
        where
          by_fate : (c : ℕ) (s : State) → now c ≡ s → Fate [] s c → ((now c ≡ Valid) × (R c → ⊥)) ⊎ ((now c ≡ Invalid) × R c)
          by_fate c Valid e f = inl (e, λ r. not_reached c r e)
          by_fate c Marked e f = absurd f.0
          by_fate c Invalid e f = inr (e, f)
          by_fate c Gone e f = absurd f
          by_fate c Running e f = absurd f
          by_fate c Assigned e f = absurd f
