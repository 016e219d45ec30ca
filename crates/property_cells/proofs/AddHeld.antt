-- What the parts of `Cells` keep where cells are added.
use Rattle.std.proofs.Common.{◌≡◌, ◌≢◌, ℕ, zero, suc, ◌+◌, ◌<◌, ◌≤◌, List, [], ◌∷◌, ◌++◌, length, get_or, replicate, Option, None, ◌⊎◌, inl, inr, refl, sym, ap, ◌∙◌, subst, arith}
use Rattle.std.specs.Prelude.{IsSome}
use Rattle.std.proofs.lemmas.Bool.{cases_lt}
use Rattle.dep_list.specs.Pairs.{In}
use Rattle.value_types.specs.declared.values.Value.{Value}
use Rattle.value_types.specs.declared.facets.Facet.{Facet}
use Rattle.property_cells.specs.declared.marks.State.{State}
use Rattle.property_cells.specs.declared.marks.State.TheVariants.{Gone, Invalid}
use Rattle.property_cells.specs.declared.marks.Mark.{Mark}
use Rattle.property_cells.specs.declared.marks.Marks.{Marks}
use Rattle.property_cells.specs.declared.points.Entry.{Entry}
use Rattle.property_cells.specs.declared.points.Points.{Points}
use Rattle.property_cells.specs.declared.store.Store.{Store}
use Rattle.property_cells.specs.Points.{name_at, IsThreaded, IsNew, AddsPoint}
use Rattle.property_cells.specs.Marks.{HasValue, pending, fresh, state_at, AreWritten, EachInside}
use Rattle.property_cells.specs.Hits.{named}
use Rattle.property_cells.specs.Blocks.{Free, sized, IsMore, AreFree}
use Rattle.property_cells.specs.Net.{no_cell, cell_in, Adds}
use Rattle.property_cells.specs.Store.{cell_of, cells_of, seen, IsNetwork, HasTables, HasEnds, NamedOnce, Held}
use Rattle.property_cells.proofs.Network.{IsNetwork-added}
use Rattle.property_cells.proofs.PairLemmas.{named-points, EachInside-more}
use Rattle.property_cells.proofs.Seen.{gone_past, cell_at, cells_are, length-cells_of}
use Rattle.property_cells.proofs.BlockLemmas.{AreFree-states, AreFree-less, AreFree-sized, first_gone, first_fits, first_apart}
use Rattle.property_cells.proofs.BlockHeld.{in_or_out}

-- ---- the tables grow, and nothing that is seen changes

module _ (s n : Store) (K : Held s) (marks : n.marks ≡ s.marks) (pairs : n.deps.pairs ≡ s.deps.pairs) (readers : s.deps.readers ≤ n.deps.readers) (points : length n.points.entries.items ≤ n.deps.points)
    (names : (p : ℕ) → p < length s.points.entries.items → name_at n.points.entries.items p ≡ name_at s.points.entries.items p) (wider : length s.points.entries.items ≤ length n.points.entries.items) (once : NamedOnce n.points.entries.items)
    (lasts : length s.points.lasts.items ≤ length n.points.lasts.items) (threaded : IsThreaded n.points.entries.items n.points.lasts.items)
    (list : n.running.list ≡ s.running.list) (cells : s.running.cells ≤ n.running.cells) (values : (c : ℕ) → get_or n.values.items c None ≡ get_or s.values.items c None) (long : length s.values.items ≤ length n.values.items)
    (blocks : (k : ℕ) → sized n.blocks.blocks k ≡ sized s.blocks.blocks k) (wide : s.blocks.cells ≤ n.blocks.cells) where
  count : length n.marks.cells.items ≡ length s.marks.cells.items
  count = λ i. length (marks i).cells.items

  pairs_same : named n.points.entries.items n.deps.pairs ≡ named s.points.entries.items s.deps.pairs
  pairs_same = ap (named n.points.entries.items) pairs ∙ named-points s.points.entries.items n.points.entries.items (length s.marks.cells.items) s.deps.pairs K.inside names

  pub held_grown : Held n
  held_grown = record {
    network = subst (λ (x : Marks × (List (ℕ × (ℕ × Facet)) × List ℕ)). IsNetwork (state_at x.0.cells.items) x.1.0 x.1.1) (λ i. (sym marks i, (sym pairs_same i, sym list i))) K.network;
    valued = λ c h. subst (λ (o : Option Value). IsSome o) (sym (values c)) (K.valued c (subst HasValue (λ i. state_at (marks i).cells.items c) h));
    free = AreFree-sized (state_at n.marks.cells.items) (length n.marks.cells.items) s.blocks.blocks n.blocks.blocks blocks (subst (λ (m : Marks). AreFree (state_at m.cells.items) (length m.cells.items) s.blocks.blocks) (sym marks) K.free);
    threaded = threaded;
    named_once = once;
    inside = subst (λ (x : ℕ × List (ℕ × ℕ)). EachInside x.0 (length n.points.entries.items) x.1) (λ i. (sym count i, sym pairs i))
        (EachInside-more (length s.marks.cells.items) (length s.marks.cells.items) (length s.points.entries.items) (length n.points.entries.items) s.deps.pairs (omega arith) wider K.inside);
    room = record {
      lasts = let h = K.room.lasts in let e = count in omega arith;
      values = let h = K.room.values in let e = count in omega arith;
      running = let h = K.room.running in let e = count in omega arith;
      blocks = let h = K.room.blocks in let e = count in omega arith;
      readers = let h = K.room.readers in let e = count in omega arith;
      points = points;
    };
    idle = (λ i. (marks i).head) ∙ K.idle;
  }

  pub seen_grown : Held n → n.runs ≡ s.runs → seen n ≡ seen s
  seen_grown H runs = λ i. record { cells = seen_cells i; pairs = pairs_same i; running = list i; runs = runs i }
    where
      seen_cells : cells_of n.marks.cells.items n.values.items ≡ cells_of s.marks.cells.items s.values.items
      seen_cells = (λ i. cells_of (marks i).cells.items n.values.items) ∙ cells_are s.marks.cells.items n.values.items (cells_of s.marks.cells.items s.values.items) (length-cells_of s.marks.cells.items s.values.items)
          (λ c. (λ i. cell_of (state_at s.marks.cells.items c) (values c i)) ∙ sym (cell_at s.marks.cells.items s.values.items c))

-- a point more has a name of its own
pub once_added : (es es' : List Entry) (x : ℕ × Facet) → NamedOnce es → IsNew es x → AddsPoint es es' x → NamedOnce es'
once_added es es' x once new A p q h k same = by_case (cases_lt p (length es)) (cases_lt q (length es))
  where
    at_end : (r : ℕ) → length es ≤ r → r < length es' → r ≡ length es
    at_end r a b = let m = A.more in omega arith

    last : (r : ℕ) → length es ≤ r → r < length es' → name_at es' r ≡ x
    last r a b = ap (name_at es') (at_end r a b) ∙ A.named

    by_case : (p < length es) ⊎ (length es ≤ p) → (q < length es) ⊎ (length es ≤ q) → p ≡ q
    by_case (inl a) (inl b) = once p q a b (sym (A.kept p a) ∙ same ∙ A.kept q b)
    by_case (inl a) (inr b) = absurd (new p a (sym (A.kept p a) ∙ same ∙ last q b k))
    by_case (inr a) (inl b) = absurd (new q b (sym (A.kept q b) ∙ sym same ∙ last p a h))
    by_case (inr a) (inr b) = at_end p a h ∙ sym (at_end q b k)

-- ---- the new cells are invalid

module _ (s n : Store) (K : Held s) (first k : ℕ) (own : (c : ℕ) → first ≤ c → c < first + k → (state_at s.marks.cells.items c ≡ Gone) × (state_at n.marks.cells.items c ≡ Invalid))
    (others : (c : ℕ) → (c < first) ⊎ (first + k ≤ c) → state_at n.marks.cells.items c ≡ state_at s.marks.cells.items c) where
  pub more : (c : ℕ) → (state_at n.marks.cells.items c ≡ state_at s.marks.cells.items c) ⊎ ((state_at s.marks.cells.items c ≡ Gone) × (state_at n.marks.cells.items c ≡ Invalid))
  more c = by_case (in_or_out first (first + k) c)
    where
      by_case : ((c < first) ⊎ (first + k ≤ c)) ⊎ ((first ≤ c) × (c < first + k)) → (state_at n.marks.cells.items c ≡ state_at s.marks.cells.items c) ⊎ ((state_at s.marks.cells.items c ≡ Gone) × (state_at n.marks.cells.items c ≡ Invalid))
      by_case (inl o) = inl (others c o)
      by_case (inr i) = inr (own c i.0 i.1)

  has_was : (c : ℕ) → HasValue (state_at n.marks.cells.items c) → HasValue (state_at s.marks.cells.items c)
  has_was c h = by_case (more c)
    where
      none : HasValue Invalid → HasValue (state_at s.marks.cells.items c)
      none (inl f) = cc
      none (inr f) = cc

      by_case : (state_at n.marks.cells.items c ≡ state_at s.marks.cells.items c) ⊎ ((state_at s.marks.cells.items c ≡ Gone) × (state_at n.marks.cells.items c ≡ Invalid)) → HasValue (state_at s.marks.cells.items c)
      by_case (inl same) = subst HasValue same h
      by_case (inr a) = none (subst HasValue a.1 h)

  module _ (pairs : n.deps.pairs ≡ s.deps.pairs) (entries : n.points.entries.items ≡ s.points.entries.items) (list : n.running.list ≡ s.running.list) (values : n.values.items ≡ s.values.items) (runs : n.runs ≡ s.runs) where
    pub network_added : IsNetwork (state_at n.marks.cells.items) (named n.points.entries.items n.deps.pairs) n.running.list
    network_added = subst (λ (x : List Entry × (List (ℕ × ℕ) × List ℕ)). IsNetwork (state_at n.marks.cells.items) (named x.0 x.1.0) x.1.1) (λ i. (sym entries i, (sym pairs i, sym list i)))
        (IsNetwork-added (state_at s.marks.cells.items) (named s.points.entries.items s.deps.pairs) s.running.list K.network (state_at n.marks.cells.items) more)

    pub valued_added : (c : ℕ) → HasValue (state_at n.marks.cells.items c) → IsSome (get_or n.values.items c None)
    valued_added c h = subst (λ (vs : List (Option Value)). IsSome (get_or vs c None)) (sym values) (K.valued c (has_was c h))

    pub adds : (((c : ℕ) → c < length (seen s).cells → cell_in (seen s) c ≢ no_cell) → (first ≡ length (seen s).cells) × (length (seen n).cells ≡ length (seen s).cells + k)) → Adds (seen s) (seen n) first k
    adds behind = record {
      fresh = λ c a b. cell_at s.marks.cells.items s.values.items c ∙ (λ i. cell_of ((own c a b).0 i) (get_or s.values.items c None));
      added = λ c a b. cell_at n.marks.cells.items n.values.items c ∙ (λ i. cell_of ((own c a b).1 i) (get_or n.values.items c None));
      others = λ c o. cell_at n.marks.cells.items n.values.items c ∙ (λ i. cell_of (others c o i) (get_or (values i) c None)) ∙ sym (cell_at s.marks.cells.items s.values.items c);
      behind = behind;
      pairs = λ i. named (entries i) (pairs i);
      running = list;
      runs = runs;
    }

-- ---- a block that was taken out is used again

module _ (s n : Store) (K : Held s) (first k : ℕ) (blocks : IsMore n.blocks.blocks k first s.blocks.blocks) where
  pub again_fits : first + k ≤ length s.marks.cells.items
  again_fits = (first_fits (state_at s.marks.cells.items) (length s.marks.cells.items) n.blocks.blocks s.blocks.blocks k first blocks K.free).0

  module _ (marks : AreWritten (pending s.marks) (pending n.marks) first (first + k) Invalid) (deps : n.deps ≡ s.deps) (points : n.points ≡ s.points) (running : n.running ≡ s.running) (values : n.values ≡ s.values) (cells : n.blocks.cells ≡ s.blocks.cells) (runs : n.runs ≡ s.runs) where
    abbrev st : ℕ → State
    st = state_at s.marks.cells.items

    abbrev st' : ℕ → State
    st' = state_at n.marks.cells.items

    own : (c : ℕ) → first ≤ c → c < first + k → (st c ≡ Gone) × (st' c ≡ Invalid)
    own c a b = (first_gone st (length s.marks.cells.items) n.blocks.blocks s.blocks.blocks k first blocks K.free c a b, marks.own c a b)

    free_again : AreFree st' (length n.marks.cells.items) n.blocks.blocks
    free_again = record {
      gone = λ c m j i a b. marks.others j (outside c m j i a b) ∙ F.gone c m j i a b;
      inside = λ c m i. let h = F.inside c m i in let e = marks.count in omega arith;
      apart = F.apart;
      distinct = F.distinct;
    }
      where
        F : AreFree st (length s.marks.cells.items) n.blocks.blocks
        F = AreFree-less st (length s.marks.cells.items) n.blocks.blocks s.blocks.blocks k first blocks K.free

        outside : (c m j : ℕ) → In c (sized n.blocks.blocks m) → c ≤ j → j < c + m → (j < first) ⊎ (first + k ≤ j)
        outside c m j i a b = by_case (first_apart st (length s.marks.cells.items) n.blocks.blocks s.blocks.blocks k first blocks K.free c m i)
          where
            by_case : (c + m ≤ first) ⊎ (first + k ≤ c) → (j < first) ⊎ (first + k ≤ j)
            by_case (inl h) = inl (omega arith)
            by_case (inr h) = inr (omega arith)

    pub held_again : Held n
    held_again = record {
      network = network_added s n K first k own marks.others (λ i. (deps i).pairs) (λ i. (points i).entries.items) (λ i. (running i).list) (λ i. (values i).items) runs;
      valued = valued_added s n K first k own marks.others (λ i. (deps i).pairs) (λ i. (points i).entries.items) (λ i. (running i).list) (λ i. (values i).items) runs;
      free = free_again;
      threaded = subst (λ (p : Points). IsThreaded p.entries.items p.lasts.items) (sym points) K.threaded;
      named_once = subst (λ (p : Points). NamedOnce p.entries.items) (sym points) K.named_once;
      inside = subst (λ (x : ℕ × (List Entry × List (ℕ × ℕ))). EachInside x.0 (length x.1.0) x.1.1) (λ i. (sym marks.count i, ((sym points i).entries.items, (sym deps i).pairs))) K.inside;
      room = record {
        lasts = subst (λ (p : Points). length n.marks.cells.items ≤ length p.lasts.items) (sym points) (let h = K.room.lasts in let e = marks.count in omega arith);
        values = let h = K.room.values in let e = marks.count in let f : length n.values.items ≡ length s.values.items = (λ i. length (values i).items) in omega arith;
        running = let h = K.room.running in let e = marks.count in let f : n.running.cells ≡ s.running.cells = (λ i. (running i).cells) in omega arith;
        blocks = let h = K.room.blocks in let e = marks.count in let f = cells in omega arith;
        readers = let h = K.room.readers in let e = marks.count in let f : n.deps.readers ≡ s.deps.readers = (λ i. (deps i).readers) in omega arith;
        points = let h = K.room.points in let f : n.deps.points ≡ s.deps.points = (λ i. (deps i).points) in let g : length n.points.entries.items ≡ length s.points.entries.items = (λ i. length (points i).entries.items) in omega arith;
      };
      idle = marks.head ∙ K.idle;
    }

    pub adds_again : Held n → Adds (seen s) (seen n) first k
    adds_again H = adds s n K first k own marks.others (λ i. (deps i).pairs) (λ i. (points i).entries.items) (λ i. (running i).list) (λ i. (values i).items) runs behind
      where
        f : (first + k ≤ length s.marks.cells.items) × (0 < k)
        f = first_fits st (length s.marks.cells.items) n.blocks.blocks s.blocks.blocks k first blocks K.free

        behind : ((c : ℕ) → c < length (seen s).cells → cell_in (seen s) c ≢ no_cell) → (first ≡ length (seen s).cells) × (length (seen n).cells ≡ length (seen s).cells + k)
        behind h = absurd (h first (subst (λ l. first < l) (sym (length-cells_of s.marks.cells.items s.values.items)) (let g = f in omega arith))
            (cell_at s.marks.cells.items s.values.items first ∙ (λ i. cell_of ((own first (omega arith) (let g = f in omega arith)).0 i) (get_or s.values.items first None))))

-- ---- cells with numbers that no cell had

-- the states of cells behind which there are so many invalid ones
appended : (ms : List Mark) (k c : ℕ) → ((c < length ms) × (state_at (ms ++ replicate k fresh) c ≡ state_at ms c)) ⊎ ((length ms ≤ c) × (((c < length ms + k) × (state_at (ms ++ replicate k fresh) c ≡ Invalid)) ⊎ ((length ms + k ≤ c) × (state_at (ms ++ replicate k fresh) c ≡ Gone))))
appended [] zero c = inr (omega arith, inr (omega arith, refl))
appended [] (suc k) zero = inr (omega arith, inl (omega arith, refl))
appended [] (suc k) (suc c) = up (appended [] k c)
  where
    up : ((c < 0) × (state_at (replicate k fresh) c ≡ Gone)) ⊎ ((0 ≤ c) × (((c < 0 + k) × (state_at (replicate k fresh) c ≡ Invalid)) ⊎ ((0 + k ≤ c) × (state_at (replicate k fresh) c ≡ Gone))))
        → ((suc c < 0) × (state_at (replicate k fresh) c ≡ Gone)) ⊎ ((0 ≤ suc c) × (((suc c < 0 + suc k) × (state_at (replicate k fresh) c ≡ Invalid)) ⊎ ((0 + suc k ≤ suc c) × (state_at (replicate k fresh) c ≡ Gone))))
    up (inl h) = absurd (let g = h.0 in omega arith)
    up (inr (h, inl g)) = inr (omega arith, inl (let l = g.0 in omega arith, g.1))
    up (inr (h, inr g)) = inr (omega arith, inr (let l = g.0 in omega arith, g.1))
appended (m ∷ ms) k zero = inl (omega arith, refl)
appended (m ∷ ms) k (suc c) = up (appended ms k c)
  where
    up : ((c < length ms) × (state_at (ms ++ replicate k fresh) c ≡ state_at ms c)) ⊎ ((length ms ≤ c) × (((c < length ms + k) × (state_at (ms ++ replicate k fresh) c ≡ Invalid)) ⊎ ((length ms + k ≤ c) × (state_at (ms ++ replicate k fresh) c ≡ Gone))))
        → ((suc c < suc (length ms)) × (state_at (ms ++ replicate k fresh) c ≡ state_at ms c)) ⊎ ((suc (length ms) ≤ suc c) × (((suc c < suc (length ms) + k) × (state_at (ms ++ replicate k fresh) c ≡ Invalid)) ⊎ ((suc (length ms) + k ≤ suc c) × (state_at (ms ++ replicate k fresh) c ≡ Gone))))
    up (inl h) = inl (let l = h.0 in omega arith, h.1)
    up (inr (h, inl g)) = inr (omega arith, inl (let l = g.0 in omega arith, g.1))
    up (inr (h, inr g)) = inr (omega arith, inr (let l = g.0 in omega arith, g.1))

length_appended : (ms : List Mark) (k : ℕ) → length (ms ++ replicate k fresh) ≡ length ms + k
length_appended [] zero = refl
length_appended [] (suc k) = let h = length_appended [] k in omega arith
length_appended (m ∷ ms) k = let h = length_appended ms k in omega arith

module _ (s n : Store) (K : Held s) (k : ℕ) (marks : n.marks.cells.items ≡ s.marks.cells.items ++ replicate k fresh) (head : n.marks.head ≡ s.marks.head) (deps : n.deps ≡ s.deps) (points : n.points ≡ s.points)
    (running : n.running ≡ s.running) (values : n.values ≡ s.values) (blocks : n.blocks ≡ s.blocks) (runs : n.runs ≡ s.runs)
    (tables : HasTables (length s.marks.cells.items + k) s) (ends : HasEnds (length s.marks.cells.items + k) s) where
  abbrev len : ℕ
  len = length s.marks.cells.items

  at : (c : ℕ) → ((c < len) × (state_at n.marks.cells.items c ≡ state_at s.marks.cells.items c)) ⊎ ((len ≤ c) × (((c < len + k) × (state_at n.marks.cells.items c ≡ Invalid)) ⊎ ((len + k ≤ c) × (state_at n.marks.cells.items c ≡ Gone))))
  at c = subst (λ (ms : List Mark). ((c < len) × (state_at ms c ≡ state_at s.marks.cells.items c)) ⊎ ((len ≤ c) × (((c < len + k) × (state_at ms c ≡ Invalid)) ⊎ ((len + k ≤ c) × (state_at ms c ≡ Gone))))) (sym marks) (appended s.marks.cells.items k c)

  own_new : (c : ℕ) → len ≤ c → c < len + k → (state_at s.marks.cells.items c ≡ Gone) × (state_at n.marks.cells.items c ≡ Invalid)
  own_new c a b = (gone_past s.marks.cells.items c a, by_case (at c))
    where
      by_case : ((c < len) × (state_at n.marks.cells.items c ≡ state_at s.marks.cells.items c)) ⊎ ((len ≤ c) × (((c < len + k) × (state_at n.marks.cells.items c ≡ Invalid)) ⊎ ((len + k ≤ c) × (state_at n.marks.cells.items c ≡ Gone)))) → state_at n.marks.cells.items c ≡ Invalid
      by_case (inl h) = absurd (let l = h.0 in omega arith)
      by_case (inr (h, inl g)) = g.1
      by_case (inr (h, inr g)) = absurd (let l = g.0 in omega arith)

  others_new : (c : ℕ) → (c < len) ⊎ (len + k ≤ c) → state_at n.marks.cells.items c ≡ state_at s.marks.cells.items c
  others_new c o = by_case (at c) o
    where
      by_case : ((c < len) × (state_at n.marks.cells.items c ≡ state_at s.marks.cells.items c)) ⊎ ((len ≤ c) × (((c < len + k) × (state_at n.marks.cells.items c ≡ Invalid)) ⊎ ((len + k ≤ c) × (state_at n.marks.cells.items c ≡ Gone)))) → (c < len) ⊎ (len + k ≤ c) → state_at n.marks.cells.items c ≡ state_at s.marks.cells.items c
      by_case (inl h) o = h.1
      by_case (inr (h, inr g)) o = g.1 ∙ sym (gone_past s.marks.cells.items c h)
      by_case (inr (h, inl g)) (inl o) = absurd (omega arith)
      by_case (inr (h, inl g)) (inr o) = absurd (let l = g.0 in omega arith)

  long : length n.marks.cells.items ≡ len + k
  long = ap (λ (ms : List Mark). length ms) marks ∙ length_appended s.marks.cells.items k

  pub held_new : Held n
  held_new = record {
    network = network_added s n K len k own_new others_new (λ i. (deps i).pairs) (λ i. (points i).entries.items) (λ i. (running i).list) (λ i. (values i).items) runs;
    valued = valued_added s n K len k own_new others_new (λ i. (deps i).pairs) (λ i. (points i).entries.items) (λ i. (running i).list) (λ i. (values i).items) runs;
    free = subst (λ (b : Free). AreFree (state_at n.marks.cells.items) (length n.marks.cells.items) b.blocks) (sym blocks)
        (AreFree-states (state_at s.marks.cells.items) (state_at n.marks.cells.items) len (length n.marks.cells.items) s.blocks.blocks (λ c e l. others_new c (inl l) ∙ e) (let h = long in omega arith) K.free);
    threaded = subst (λ (p : Points). IsThreaded p.entries.items p.lasts.items) (sym points) K.threaded;
    named_once = subst (λ (p : Points). NamedOnce p.entries.items) (sym points) K.named_once;
    inside = subst (λ (x : List Entry × List (ℕ × ℕ)). EachInside (length n.marks.cells.items) (length x.0) x.1) (λ i. ((sym points i).entries.items, (sym deps i).pairs))
        (EachInside-more len (length n.marks.cells.items) (length s.points.entries.items) (length s.points.entries.items) s.deps.pairs (let h = long in omega arith) (omega arith) K.inside);
    room = record {
      lasts = subst (λ (p : Points). length n.marks.cells.items ≤ length p.lasts.items) (sym points) (let h = tables.lasts in let e = long in omega arith);
      values = let h = ends.values in let e = long in let f : length n.values.items ≡ length s.values.items = (λ i. length (values i).items) in omega arith;
      running = let h = tables.running in let e = long in let f : n.running.cells ≡ s.running.cells = (λ i. (running i).cells) in omega arith;
      blocks = let h = tables.blocks in let e = long in let f : n.blocks.cells ≡ s.blocks.cells = (λ i. (blocks i).cells) in omega arith;
      readers = let h = ends.readers in let e = long in let f : n.deps.readers ≡ s.deps.readers = (λ i. (deps i).readers) in omega arith;
      points = let h = K.room.points in let f : n.deps.points ≡ s.deps.points = (λ i. (deps i).points) in let g : length n.points.entries.items ≡ length s.points.entries.items = (λ i. length (points i).entries.items) in omega arith;
    };
    idle = head ∙ K.idle;
  }

  pub adds_new : Held n → Adds (seen s) (seen n) len k
  adds_new H = adds s n K len k own_new others_new (λ i. (deps i).pairs) (λ i. (points i).entries.items) (λ i. (running i).list) (λ i. (values i).items) runs
      (λ h. (sym (length-cells_of s.marks.cells.items s.values.items), length-cells_of n.marks.cells.items n.values.items ∙ long ∙ sym (ap (λ l. l + k) (length-cells_of s.marks.cells.items s.values.items))))
