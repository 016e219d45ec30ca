-- What the parts of `Cells` keep where a cell is assigned a value.
use Rattle.std.proofs.Common.{◌≡◌, ◌≢◌, ℕ, ◌<◌, ◌==◌, not, ◌↔◌, Bool, List, [], length, get_or, Option, Some, None, ◌⊎◌, inl, inr, refl, sym, ap, ◌∙◌, subst}
use Rattle.std.specs.Prelude.{IsSome}
use Rattle.dep_list.specs.Pairs.{In, SameEnds, drop_reader}
use Rattle.value_types.specs.declared.values.Value.{Value}
use Rattle.value_types.specs.declared.facets.Facet.{Facet}
use Rattle.property_cells.specs.declared.marks.State.{State}
use Rattle.property_cells.specs.declared.marks.State.TheVariants.{Gone, Invalid, Running, Valid, Assigned, Marked}
use Rattle.property_cells.specs.declared.points.Entry.{Entry}
use Rattle.property_cells.specs.declared.store.Store.{Store}
use Rattle.property_cells.specs.Marks.{HasValue, Pending, pending, state_at, written, EachInside}
use Rattle.property_cells.specs.Hits.{named, Touches}
use Rattle.property_cells.specs.Reach.{Reached, direct, through, Unmakes, IsNet}
use Rattle.property_cells.specs.Net.{Cell, no_cell, invalid_cell, cell_in, value_of, without, InNoPair, Replaces, Fate, Assigns}
use Rattle.property_cells.specs.Store.{cell_of, seen, IsNetwork, Held}
use Rattle.property_cells.proofs.Reaching.{same_or_not, Sets}
use Rattle.property_cells.proofs.Lists.{in_filter}
use Rattle.property_cells.proofs.Network.{IsLess, IsNetwork-assigned, unmade_was, reached_none}
use Rattle.property_cells.proofs.PairLemmas.{named-drop_reader, EachInside-filter, IsLess-without, IsNoReader-without}
use Rattle.property_cells.proofs.Seen.{none_not, below_cells, seen_invalid, seen_live, seen_at, length-cells_of}
use Rattle.property_cells.proofs.HeldLemmas.{Stays, Held-stays, Sets-written, length-written, head-written}
use Rattle.property_cells.proofs.RunHeld.{seen_pairs}

-- ---- changes of the same facets reach the same

module _ (pairs : List (ℕ × (ℕ × Facet))) (c : ℕ) (D E : Facet → Type 0) (same : (f : Facet) → D f ↔ E f) where
  reached_same : (r : ℕ) → Reached pairs (λ x. x.0) (Touches c D) r → Reached pairs (λ x. x.0) (Touches c E) r
  reached_same s (direct r x i h) = direct r x i (h.0, (same x.1).0 h.1)
  reached_same s (through r x i d) = through r x i (reached_same x.0 d)

  reached_back : (r : ℕ) → Reached pairs (λ x. x.0) (Touches c E) r → Reached pairs (λ x. x.0) (Touches c D) r
  reached_back s (direct r x i h) = direct r x i (h.0, (same x.1).1 h.1)
  reached_back s (through r x i d) = through r x i (reached_back x.0 d)

  pub Unmakes-same : (st st1 : ℕ → State) → Unmakes pairs (λ x. x.0) (Touches c D) st st1 → Unmakes pairs (λ x. x.0) (Touches c E) st st1
  Unmakes-same st st1 U = record { kept = U.kept; fate = λ d v. out d (U.fate d v) }
    where
      out : (d : ℕ) → ((st1 d ≡ Valid) × (Reached pairs (λ x. x.0) (Touches c D) d → ⊥)) ⊎ ((st1 d ≡ Invalid) × Reached pairs (λ x. x.0) (Touches c D) d)
          → ((st1 d ≡ Valid) × (Reached pairs (λ x. x.0) (Touches c E) d → ⊥)) ⊎ ((st1 d ≡ Invalid) × Reached pairs (λ x. x.0) (Touches c E) d)
      out d (inl f) = inl (f.0, λ r. f.1 (reached_back d r))
      out d (inr f) = inr (f.0, reached_same d f.1)

-- nothing changes, and nothing is reached
pub Unmakes-none : (pairs : List (ℕ × (ℕ × Facet))) (c : ℕ) (D : Facet → Type 0) (st : ℕ → State) → ((f : Facet) → D f → ⊥) → Unmakes pairs (λ x. x.0) (Touches c D) st st
Unmakes-none pairs c D st n = record { kept = λ d v. refl; fate = λ d v. inl (v, none d) }
  where
    none : (d : ℕ) → Reached pairs (λ x. x.0) (Touches c D) d → ⊥
    none s (direct r x i h) = n x.1 h.1
    none s (through r x i d) = none x.0 d

-- values that are the same are replaced alike
pub Replaces-same : (a b : Option Value) (v : Value) (k : Bool) → a ≡ b → (f : Facet) → Replaces a v k f ↔ Replaces b v k f
Replaces-same a b v k e f = subst (λ (o : Option Value). Replaces a v k f ↔ Replaces o v k f) e (λ h. h, λ h. h)

-- ---- what becomes of a cell, as it is seen

fate_is : (R : Type 0) (s t : State) (v w : Option Value) → w ≡ v → (s ≢ Valid → t ≡ s) → (s ≡ Valid → ((t ≡ Valid) × (R → ⊥)) ⊎ ((t ≡ Invalid) × R)) → (HasValue s → IsSome v) → Fate R (cell_of s v) (cell_of t w)
fate_is R Gone t v w e kept fate valued = λ i. cell_of (kept (λ f. cc) i) w
fate_is R Invalid t v w e kept fate valued = λ i. cell_of (kept (λ f. cc) i) w
fate_is R Running t v w e kept fate valued = λ i. cell_of (kept (λ f. cc) i) w
fate_is R Marked t v w e kept fate valued = λ i. cell_of (kept (λ f. cc) i) w
fate_is R Assigned t (Some v) w e kept fate valued = λ i. cell_of (kept (λ f. cc) i) (e i)
fate_is R Assigned t None w e kept fate valued = none_not (valued (inr refl))
fate_is R Valid t None w e kept fate valued = none_not (valued (inl refl))
fate_is R Valid t (Some v) w e kept fate valued = by_fate (fate refl)
  where
    by_fate : ((t ≡ Valid) × (R → ⊥)) ⊎ ((t ≡ Invalid) × R) → Fate R (cell_of Valid (Some v)) (cell_of t w)
    by_fate (inl f) = inl ((λ i. cell_of (f.0 i) (e i)), f.1)
    by_fate (inr f) = inr ((λ i. cell_of (f.0 i) w), f.1)

-- ---- the marking may begin

module _ (s : Store) (K : Held s) (c : ℕ) (ds : List (ℕ × ℕ)) (e : ds ≡ drop_reader c s.deps.pairs) where
  abbrev es : List Entry
  es = s.points.entries.items

  pub pairs_without : named es ds ≡ without c (named es s.deps.pairs)
  pairs_without = ap (named es) e ∙ named-drop_reader es c s.deps.pairs

  less : IsLess (named es ds) (named es s.deps.pairs)
  less = subst (λ pairs. IsLess pairs (named es s.deps.pairs)) (sym pairs_without) (IsLess-without c (named es s.deps.pairs))

  pub inside_without : EachInside (length s.marks.cells.items) (length es) ds
  inside_without = subst (EachInside (length s.marks.cells.items) (length es)) (sym e) (EachInside-filter (length s.marks.cells.items) (length es) (λ x. not (x.0 == c)) s.deps.pairs K.inside)

  pub net_without : (hit : ℕ × Facet → Type 0) → IsNet (named es ds) (λ x. x.0) hit (state_at s.marks.cells.items)
  net_without hit = record { stands = λ r x i v. K.network.stands r x (less.within r x i) (inl v); bare = λ r x i a. K.network.bare r x (less.within r x i) a }

-- ---- a cell is assigned

module _ (s n : Store) (K : Held s) (c : ℕ) (v : Value) (live : cell_in (seen s) c ≢ no_cell)
    (idle : (s.running.list ≡ []) ⊎ ((cell_in (seen s) c ≡ invalid_cell) × InNoPair c (named s.points.entries.items s.deps.pairs)))
    (deps : n.deps.pairs ≡ drop_reader c s.deps.pairs) (ends : SameEnds s.deps n.deps) (m : Pending) (D : Facet → Type 0)
    (U : Unmakes (named s.points.entries.items n.deps.pairs) (λ x. x.0) (Touches c D) (state_at s.marks.cells.items) (state_at m.cells)) (head : m.head ≡ None) (count : length m.cells ≡ length s.marks.cells.items)
    (marks : pending n.marks ≡ written c Assigned m) (points : n.points ≡ s.points) (running : n.running ≡ s.running)
    (own : get_or n.values.items c None ≡ Some v) (others : (d : ℕ) → d ≢ c → get_or n.values.items d None ≡ get_or s.values.items d None) (long : length n.values.items ≡ length s.values.items) (blocks : n.blocks ≡ s.blocks) where
  abbrev ens : List Entry
  ens = s.points.entries.items

  abbrev st : ℕ → State
  st = state_at s.marks.cells.items

  abbrev st' : ℕ → State
  st' = state_at n.marks.cells.items

  abbrev seen_before : List (ℕ × (ℕ × Facet))
  seen_before = named ens s.deps.pairs

  inside : c < length m.cells
  inside = subst (λ k. c < k) (sym count) (below_cells s.marks.cells.items c (seen_live s K c live))

  S : Sets c Assigned (state_at m.cells) st'
  S = Sets-written m (pending n.marks) c Assigned marks inside

  pairs_now : named ens n.deps.pairs ≡ without c seen_before
  pairs_now = pairs_without s K c n.deps.pairs deps

  U' : Unmakes (without c seen_before) (λ x. x.0) (Touches c D) st (state_at m.cells)
  U' = subst (λ pairs. Unmakes pairs (λ x. x.0) (Touches c D) st (state_at m.cells)) pairs_now U

  was : (d : ℕ) (x : State) → x ≢ Invalid → state_at m.cells d ≡ x → st d ≡ x
  was = unmade_was (without c seen_before) (Touches c D) st (state_at m.cells) U'

  calm : (r d : ℕ) → st r ≡ Running → Reached (without c seen_before) (λ x. x.0) (Touches c D) d → ⊥
  calm r d e reached = by_case idle
    where
      by_case : (s.running.list ≡ []) ⊎ ((cell_in (seen s) c ≡ invalid_cell) × InNoPair c seen_before) → ⊥
      by_case (inl none) = subst (In r) none (K.network.listed r e)
      by_case (inr a) = reached_none (without c seen_before) c D (λ q x i. a.1 q x (in_filter (λ y. not (y.0 == c)) (q, x) seen_before i).0) d reached

  no_run : st c ≢ Running
  no_run e = by_case idle
    where
      by_case : (s.running.list ≡ []) ⊎ ((cell_in (seen s) c ≡ invalid_cell) × InNoPair c seen_before) → ⊥
      by_case (inl none) = subst (In c) none (K.network.listed c e)
      by_case (inr a) = let no : Running ≡ Invalid = sym e ∙ seen_invalid s K c a.0 in cc

  stays : Stays s n
  stays = record {
    points = points;
    count = length-written m (pending n.marks) c Assigned marks inside ∙ count;
    head = head-written m (pending n.marks) c Assigned marks inside ∙ head;
    values = long;
    running = λ i. (running i).cells;
    blocks = blocks;
    ends = ends;
    inside = inside_without s K c n.deps.pairs deps;
    gone = λ d g. S.there d (λ same. seen_live s K c live (ap st (sym same) ∙ g)) ∙ U'.kept d (λ w. let no : Gone ≡ Valid = sym g ∙ w in cc) ∙ g;
  }

  pub held_assigned : Held n
  held_assigned = Held-stays s n K stays
      (subst (λ (x : List (ℕ × (ℕ × Facet)) × List ℕ). IsNetwork st' x.0 x.1) (λ i. (sym pairs_now i, (sym running i).list))
      (IsNetwork-assigned st seen_before s.running.list K.network c (state_at m.cells) st' (without c seen_before) (Touches c D) (IsLess-without c seen_before) (IsNoReader-without c seen_before) U' S calm no_run))
      (λ d h. valued d (same_or_not d c) h)
    where
      has_was : (d : ℕ) → d ≢ c → HasValue (st' d) → HasValue (st d)
      has_was d differ (inl h) = inl (was d Valid (λ f. cc) (sym (S.there d differ) ∙ h))
      has_was d differ (inr h) = inr (was d Assigned (λ f. cc) (sym (S.there d differ) ∙ h))

      valued : (d : ℕ) → (d ≡ c) ⊎ (d ≢ c) → HasValue (st' d) → IsSome (get_or n.values.items d None)
      valued d (inl same) h = subst (λ j. IsSome (get_or n.values.items j None)) (sym same) (subst (λ (o : Option Value). IsSome o) (sym own) refl)
      valued d (inr differ) h = subst (λ (o : Option Value). IsSome o) (sym (others d differ)) (K.valued d (has_was d differ h))

  pub assigns : Held n → (new_keys : Bool) → ((f : Facet) → D f ↔ Replaces (value_of (cell_in (seen s) c)) v new_keys f) → n.runs ≡ s.runs → Assigns (seen s) (seen n) c v new_keys
  assigns H new_keys same runs = record {
    own = seen_now c ∙ (λ i. cell_of (S.here i) (own i));
    others = λ d differ. subst (λ (x : Cell × Cell). Fate (R d) x.0 x.1) (λ i. (sym (seen_at s K d) i, sym (seen_now d ∙ (λ j. cell_of (S.there d differ j) (get_or n.values.items d None))) i))
        (fate_is (R d) (st d) (state_at m.cells d) (get_or s.values.items d None) (get_or n.values.items d None) (others d differ) (V.kept d) (V.fate d) (K.valued d));
    count = length-cells_of n.marks.cells.items n.values.items ∙ stays.count ∙ sym (length-cells_of s.marks.cells.items s.values.items);
    pairs = seen_pairs s n points (drop_reader c s.deps.pairs) (without c seen_before) deps (named-drop_reader ens c s.deps.pairs);
    running = λ i. (running i).list;
    runs = runs;
  }
    where
      seen_now : (d : ℕ) → cell_in (seen n) d ≡ cell_of (st' d) (get_or n.values.items d None)
      seen_now d = seen_at n held_assigned d

      E : Facet → Type 0
      E = Replaces (value_of (cell_in (seen s) c)) v new_keys

      R : ℕ → Type 0
      R d = Reached (without c seen_before) (λ x. x.0) (Touches c E) d

      V : Unmakes (without c seen_before) (λ x. x.0) (Touches c E) st (state_at m.cells)
      V = Unmakes-same (without c seen_before) c D E same st (state_at m.cells) U'
