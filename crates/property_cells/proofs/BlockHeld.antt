-- What the parts of `Cells` keep where a block of cells is added or taken out.
use Rattle.std.proofs.Common.{◌≡◌, ◌≢◌, ℕ, ◌+◌, ◌-◌, ◌<◌, ◌≤◌, not, ◌&&◌, Bool, true, false, List, [], length, get_or, Option, None, ◌⊎◌, inl, inr, refl, sym, ap, ◌∙◌, subst, arith}
use Rattle.std.specs.Prelude.{IsSome, filter, nat_le, nat_lt}
use Rattle.std.proofs.lemmas.Bool.{cases_lt, le-leb, lt-ltb}
use Rattle.dep_list.specs.Pairs.{In, SameEnds}
use Rattle.value_types.specs.declared.values.Value.{Value}
use Rattle.value_types.specs.declared.facets.Facet.{Facet}
use Rattle.property_cells.specs.declared.marks.State.{State}
use Rattle.property_cells.specs.declared.marks.State.TheVariants.{Gone}
use Rattle.property_cells.specs.declared.points.Entry.{Entry}
use Rattle.property_cells.specs.declared.points.Points.{Points}
use Rattle.property_cells.specs.declared.store.Store.{Store}
use Rattle.property_cells.specs.Points.{IsThreaded}
use Rattle.property_cells.specs.Marks.{HasValue, pending, state_at, AreWritten, EachInside}
use Rattle.property_cells.specs.Hits.{named}
use Rattle.property_cells.specs.Blocks.{sized, IsMore, IsApart}
use Rattle.property_cells.specs.Net.{no_cell, cell_in, is_outside, outside, Removes}
use Rattle.property_cells.specs.Removing.{is_apart, AreDropped}
use Rattle.property_cells.specs.Store.{cell_of, seen, IsNetwork, HasRoom, NamedOnce, Held}
use Rattle.property_cells.proofs.Lists.{in_filter}
use Rattle.property_cells.proofs.Network.{IsNetwork-removed}
use Rattle.property_cells.proofs.PairLemmas.{named-filter, EachInside-filter, IsLess-filter}
use Rattle.property_cells.proofs.Seen.{seen_live, seen_inside, cell_at, length-cells_of}
use Rattle.property_cells.proofs.BlockLemmas.{AreFree-states, AreFree-more, sized_some}
use Rattle.property_cells.proofs.RunHeld.{seen_pairs}

-- a number is outside, or it is one of those from a first one on
pub in_or_out : (first past c : ℕ) → ((c < first) ⊎ (past ≤ c)) ⊎ ((first ≤ c) × (c < past))
in_or_out first past c = by_case (cases_lt c first) (cases_lt c past)
  where
    by_case : (c < first) ⊎ (first ≤ c) → (c < past) ⊎ (past ≤ c) → ((c < first) ⊎ (past ≤ c)) ⊎ ((first ≤ c) × (c < past))
    by_case (inl h) k = inl (inl h)
    by_case (inr h) (inl k) = inr (h, k)
    by_case (inr h) (inr k) = inl (inr k)

-- ---- a block is taken out

module _ (s : Store) (K : Held s) (first count : ℕ) (some : 0 < count) (live : (c : ℕ) → first ≤ c → c < first + count → cell_in (seen s) c ≢ no_cell) where
  abbrev st : ℕ → State
  st = state_at s.marks.cells.items

  live_state : (c : ℕ) → first ≤ c → c < first + count → st c ≢ Gone
  live_state c a b = seen_live s K c (live c a b)

  pub fits : first + count ≤ length s.marks.cells.items
  fits = let last = seen_inside s K (first + (count - 1)) (live (first + (count - 1)) (omega arith) (omega arith)) in omega arith

  pub block_new : (n : ℕ) → In first (sized s.blocks.blocks n) → ⊥
  block_new n i = live_state first (omega arith) (omega arith) (K.free.gone first n first i (omega arith) (let h = sized_some s.blocks.blocks n first i in omega arith))

  block_apart : IsApart s.blocks.blocks first count
  block_apart c m i = by_case (cases_lt first (c + m)) (cases_lt c (first + count))
    where
      by_case : (first < c + m) ⊎ (c + m ≤ first) → (c < first + count) ⊎ (first + count ≤ c) → (c + m ≤ first) ⊎ (first + count ≤ c)
      by_case (inr h) k = inl h
      by_case (inl h) (inr k) = inr k
      by_case (inl h) (inl k) = absurd (common (cases_lt c first))
        where
          common : (c < first) ⊎ (first ≤ c) → ⊥
          common (inl l) = live_state first (omega arith) (omega arith) (K.free.gone c m first i (omega arith) h)
          common (inr l) = let some_m = sized_some s.blocks.blocks m c i in live_state c l k (K.free.gone c m c i (omega arith) (omega arith))

  module _ (n : Store) (idle : s.running.list ≡ []) (deps : n.deps.pairs ≡ filter (is_apart s.points.entries.items first (first + count)) s.deps.pairs) (ends : SameEnds s.deps n.deps)
      (values : AreDropped s.values.items n.values.items first (first + count)) (marks : AreWritten (pending s.marks) (pending n.marks) first (first + count) Gone)
      (points : n.points ≡ s.points) (running : n.running ≡ s.running) (cells : n.blocks.cells ≡ s.blocks.cells) (blocks : IsMore s.blocks.blocks count first n.blocks.blocks) where
    abbrev es : List Entry
    es = s.points.entries.items

    abbrev before : List (ℕ × (ℕ × Facet))
    before = named es s.deps.pairs

    abbrev st' : ℕ → State
    st' = state_at n.marks.cells.items

    pairs_left : named es n.deps.pairs ≡ outside first (first + count) before
    pairs_left = ap (named es) deps ∙ named-filter es (λ x. is_outside first (first + count) x.0 && is_outside first (first + count) x.1.0) s.deps.pairs

    both : (a b : Bool) → (a && b) ≡ true → (a ≡ true) × (b ≡ true)
    both true true e = (refl, refl)
    both true false e = cc
    both false true e = cc
    both false false e = cc

    out_is : (c : ℕ) → is_outside first (first + count) c ≡ true → (c < first) ⊎ (first + count ≤ c)
    out_is c e = by_case (in_or_out first (first + count) c)
      where
        by_case : ((c < first) ⊎ (first + count ≤ c)) ⊎ ((first ≤ c) × (c < first + count)) → (c < first) ⊎ (first + count ≤ c)
        by_case (inl o) = o
        by_case (inr i) =
            let a : nat_le first c ≡ true = le-leb first c i.0 in
            let b : nat_lt c (first + count) ≡ true = lt-ltb c (first + count) i.1 in
            let f : not (true && true) ≡ true = (λ j. not (sym a j && sym b j)) ∙ e in
            cc

    apart : (r : ℕ) (x : ℕ × Facet) → In (r, x) (outside first (first + count) before) → (st' r ≡ st r) × (st' x.0 ≡ st x.0)
    apart r x i =
        let o = both (is_outside first (first + count) r) (is_outside first (first + count) x.0) (in_filter (λ y. is_outside first (first + count) y.0 && is_outside first (first + count) y.1.0) (r, x) before i).1 in
        (marks.others r (out_is r o.0), marks.others x.0 (out_is x.0 o.1))

    fewer : (c : ℕ) → (st' c ≡ st c) ⊎ (st' c ≡ Gone)
    fewer c = by_case (in_or_out first (first + count) c)
      where
        by_case : ((c < first) ⊎ (first + count ≤ c)) ⊎ ((first ≤ c) × (c < first + count)) → (st' c ≡ st c) ⊎ (st' c ≡ Gone)
        by_case (inl o) = inl (marks.others c o)
        by_case (inr i) = inr (marks.own c i.0 i.1)

    gone_stays : (c : ℕ) → st c ≡ Gone → c < length s.marks.cells.items → st' c ≡ Gone
    gone_stays c e l = by_case (fewer c)
      where
        by_case : (st' c ≡ st c) ⊎ (st' c ≡ Gone) → st' c ≡ Gone
        by_case (inl same) = same ∙ e
        by_case (inr g) = g

    abbrev len : ℕ
    len = length s.marks.cells.items

    len_same : length n.marks.cells.items ≡ len
    len_same = marks.count

    room : HasRoom n
    room = record {
      lasts = subst (λ k. k ≤ length n.points.lasts.items) (sym len_same) (subst (λ (p : Points). len ≤ length p.lasts.items) (sym points) K.room.lasts);
      values = subst (λ k. k ≤ length n.values.items) (sym len_same) (subst (λ k. len ≤ k) (sym values.count) K.room.values);
      running = subst (λ k. k ≤ n.running.cells) (sym len_same) (subst (λ k. len ≤ k) (λ i. (sym running i).cells) K.room.running);
      blocks = subst (λ k. k ≤ n.blocks.cells) (sym len_same) (subst (λ k. len ≤ k) (sym cells) K.room.blocks);
      readers = subst (λ k. k ≤ n.deps.readers) (sym len_same) (subst (λ k. len ≤ k) (sym ends.readers) K.room.readers);
      points = subst (λ (p : Points). length p.entries.items ≤ n.deps.points) (sym points) (subst (λ k. length es ≤ k) (sym ends.points) K.room.points);
    }

    valued : (c : ℕ) → HasValue (st' c) → IsSome (get_or n.values.items c None)
    valued c h = by_case (in_or_out first (first + count) c)
      where
        no_value : HasValue Gone → ⊥
        no_value (inl f) = cc
        no_value (inr f) = cc

        by_case : ((c < first) ⊎ (first + count ≤ c)) ⊎ ((first ≤ c) × (c < first + count)) → IsSome (get_or n.values.items c None)
        by_case (inl o) = subst (λ (v : Option Value). IsSome v) (sym (values.others c o)) (K.valued c (subst HasValue (marks.others c o) h))
        by_case (inr i) = absurd (no_value (subst HasValue (marks.own c i.0 i.1) h))

    pub held_removed : Held n
    held_removed = record {
      network = subst (λ (x : List (ℕ × (ℕ × Facet)) × List ℕ). IsNetwork st' x.0 x.1) (λ i. (
        sym (seen_pairs s n points (filter (is_apart es first (first + count)) s.deps.pairs) (outside first (first + count) before) deps
            (named-filter es (λ x. is_outside first (first + count) x.0 && is_outside first (first + count) x.1.0) s.deps.pairs)) i,
        (sym running i).list,
      ))
          (IsNetwork-removed st before s.running.list K.network st' (outside first (first + count) before) fewer (IsLess-filter (λ x. is_outside first (first + count) x.0 && is_outside first (first + count) x.1.0) before) apart idle);
      valued = valued;
      free = AreFree-more st' (length n.marks.cells.items) s.blocks.blocks n.blocks.blocks count first blocks
          (AreFree-states st st' len (length n.marks.cells.items) s.blocks.blocks gone_stays (let h = len_same in omega arith) K.free) marks.own (let h = len_same in let f = fits in omega arith) some block_apart;
      threaded = subst (λ (p : Points). IsThreaded p.entries.items p.lasts.items) (sym points) K.threaded;
      named_once = subst (λ (p : Points). NamedOnce p.entries.items) (sym points) K.named_once;
      inside = subst (λ (x : ℕ × List Entry). EachInside x.0 (length x.1) n.deps.pairs) (λ i. (sym len_same i, (sym points i).entries.items))
          (subst (EachInside len (length es)) (sym deps) (EachInside-filter len (length es) (is_apart es first (first + count)) s.deps.pairs K.inside));
      room = room;
      idle = marks.head ∙ K.idle;
    }

    pub removes : Held n → n.runs ≡ s.runs → Removes (seen s) (seen n) first count
    removes H runs = record {
      gone = λ c a b. cell_at n.marks.cells.items n.values.items c ∙ (λ i. cell_of (marks.own c a b i) (get_or n.values.items c None));
      others = λ c o. cell_at n.marks.cells.items n.values.items c ∙ (λ i. cell_of (marks.others c o i) (values.others c o i)) ∙ sym (cell_at s.marks.cells.items s.values.items c);
      count = length-cells_of n.marks.cells.items n.values.items ∙ len_same ∙ sym (length-cells_of s.marks.cells.items s.values.items);
      pairs = seen_pairs s n points (filter (is_apart es first (first + count)) s.deps.pairs) (outside first (first + count) before) deps
          (named-filter es (λ x. is_outside first (first + count) x.0 && is_outside first (first + count) x.1.0) s.deps.pairs);
      running = λ i. (running i).list;
      runs = runs;
    }
