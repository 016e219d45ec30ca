-- What the parts of `Cells` keep where a run begins, where it ends, and where a running cell reads.
use Rattle.std.proofs.Common.{◌≡◌, ◌≢◌, ℕ, ◌<◌, ◌==◌, not, List, [], ◌∷◌, ◌++◌, length, get_or, Option, Some, None, inl, inr, refl, sym, ap, ◌∙◌, subst, arith, get_or-set_same, get_or-set_other}
use Rattle.std.specs.Prelude.{IsSome}
use Rattle.std.proofs.Math.ListN.{set, length-set}
use Rattle.dep_list.specs.Pairs.{In, SameEnds, drop_reader}
use Rattle.value_types.specs.declared.values.Value.{Value}
use Rattle.value_types.specs.declared.facets.Facet.{Facet}
use Rattle.property_cells.specs.declared.marks.State.{State}
use Rattle.property_cells.specs.declared.marks.State.TheVariants.{Gone, Invalid, Running, Valid}
use Rattle.property_cells.specs.declared.points.Entry.{Entry}
use Rattle.property_cells.specs.declared.store.Store.{Store}
use Rattle.property_cells.specs.Points.{name_at}
use Rattle.property_cells.specs.Marks.{HasValue, pending, state_at, written, EachInside}
use Rattle.property_cells.specs.Hits.{named}
use Rattle.property_cells.specs.Net.{invalid_cell, running_cell, valid_cell, cell_in, Stands, without, begun, ended, noted, Notes, one_more, behind_first}
use Rattle.property_cells.specs.Store.{cell_of, cells_of, seen, IsNetwork, Held}
use Rattle.property_cells.proofs.Lists.{length-distinct}
use Rattle.property_cells.proofs.Network.{IsNetwork-begun, IsNetwork-ended, IsNetwork-noted}
use Rattle.property_cells.proofs.PairLemmas.{named-drop_reader, named-push, EachInside-filter, EachInside-push, IsLess-without, IsNoReader-without, of_point}
use Rattle.property_cells.proofs.Naming.{in_named}
use Rattle.property_cells.proofs.Seen.{below_cells, seen_invalid, seen_stands}
use Rattle.property_cells.proofs.HeldLemmas.{Stays, Held-stays, Sets-written, length-written, head-written, gone-written, seen-written, valued-written}

-- what a call on the pairs leaves
pub seen_pairs : (s n : Store) → n.points ≡ s.points → (ds : List (ℕ × ℕ)) (pairs : List (ℕ × (ℕ × Facet))) → n.deps.pairs ≡ ds → named s.points.entries.items ds ≡ pairs → named n.points.entries.items n.deps.pairs ≡ pairs
seen_pairs s n p ds pairs e f = (λ i. named (p i).entries.items n.deps.pairs) ∙ ap (named s.points.entries.items) e ∙ f

module _ (s n : Store) (K : Held s) (c : ℕ) (e : cell_in (seen s) c ≡ invalid_cell) where
  invalid : state_at s.marks.cells.items c ≡ Invalid
  invalid = seen_invalid s K c e

  pub begun_inside : c < length s.marks.cells.items
  begun_inside = below_cells s.marks.cells.items c (λ g. let no : Invalid ≡ Gone = sym invalid ∙ g in cc)

  -- fewer cells run than there are
  pub begun_new : In c s.running.list → ⊥
  begun_new i = let no : Invalid ≡ Running = sym invalid ∙ K.network.runs c i in cc

  pub begun_room : length s.running.list < s.running.cells
  begun_room = let h = length-distinct (length s.marks.cells.items) (c ∷ s.running.list) (begun_new, K.network.distinct) below in let r = K.room.running in omega arith
    where
      below : (d : ℕ) → In d (c ∷ s.running.list) → d < length s.marks.cells.items
      below d (inl same) = subst (λ j. j < length s.marks.cells.items) (sym same) begun_inside
      below d (inr i) = below_cells s.marks.cells.items d (λ g. let no : Running ≡ Gone = sym (K.network.runs d i) ∙ g in cc)

  module _ (deps : n.deps.pairs ≡ drop_reader c s.deps.pairs) (ends : SameEnds s.deps n.deps) (marks : pending n.marks ≡ written c Running (pending s.marks)) (points : n.points ≡ s.points)
      (cells : n.running.cells ≡ s.running.cells) (list : n.running.list ≡ c ∷ s.running.list) (values : n.values.items ≡ s.values.items) (blocks : n.blocks ≡ s.blocks) where
    abbrev es : List Entry
    es = s.points.entries.items

    live : state_at s.marks.cells.items c ≢ Gone
    live g = let no : Invalid ≡ Gone = sym invalid ∙ g in cc

    pairs_begun : named es n.deps.pairs ≡ without c (named es s.deps.pairs)
    pairs_begun = ap (named es) deps ∙ named-drop_reader es c s.deps.pairs

    stays : Stays s n
    stays = record {
      points = points;
      count = length-written (pending s.marks) (pending n.marks) c Running marks begun_inside;
      head = head-written (pending s.marks) (pending n.marks) c Running marks begun_inside ∙ K.idle;
      values = ap (λ (vs : List (Option Value)). length vs) values;
      running = cells;
      blocks = blocks;
      ends = ends;
      inside = subst (EachInside (length s.marks.cells.items) (length es)) (sym deps) (EachInside-filter (length s.marks.cells.items) (length es) (λ x. not (x.0 == c)) s.deps.pairs K.inside);
      gone = gone-written (pending s.marks) (pending n.marks) c Running marks begun_inside live;
    }

    pub held_begun : Held n
    held_begun = Held-stays s n K stays
        (subst (λ (x : List (ℕ × (ℕ × Facet)) × List ℕ). IsNetwork (state_at n.marks.cells.items) x.0 x.1) (λ i. (sym pairs_begun i, sym list i))
        (IsNetwork-begun (state_at s.marks.cells.items) (named es s.deps.pairs) s.running.list K.network c (state_at n.marks.cells.items) (without c (named es s.deps.pairs)) invalid
        (Sets-written (pending s.marks) (pending n.marks) c Running marks begun_inside) (IsLess-without c (named es s.deps.pairs)) (IsNoReader-without c (named es s.deps.pairs))))
        (valued-written (pending s.marks) (pending n.marks) c Running marks begun_inside s.values.items n.values.items K.valued none (λ d differ. ap (λ (vs : List (Option Value)). get_or vs d None) values))
      where
        none : HasValue Running → IsSome (get_or n.values.items c None)
        none (inl f) = cc
        none (inr f) = cc

    pub seen_begun : n.runs ≡ s.runs → seen n ≡ begun c (seen s)
    seen_begun runs = λ i. record { cells = seen_cells i; pairs = seen_pairs s n points (drop_reader c s.deps.pairs) (without c (named es s.deps.pairs)) deps (named-drop_reader es c s.deps.pairs) i; running = list i; runs = runs i }
      where
        seen_cells : cells_of n.marks.cells.items n.values.items ≡ set (cells_of s.marks.cells.items s.values.items) c running_cell
        seen_cells = seen-written (pending s.marks) (pending n.marks) c Running marks begun_inside s.values.items n.values.items running_cell refl (λ d differ. ap (λ (vs : List (Option Value)). get_or vs d None) values)

-- ---- a run ends

module _ (s n : Store) (K : Held s) (c : ℕ) (v : Value) (rest : List ℕ) (first : s.running.list ≡ c ∷ rest) where
  runs_now : state_at s.marks.cells.items c ≡ Running
  runs_now = K.network.runs c (subst (In c) (sym first) (inl refl))

  pub ended_inside : c < length s.marks.cells.items
  ended_inside = below_cells s.marks.cells.items c (λ g. let no : Running ≡ Gone = sym runs_now ∙ g in cc)

  module _ (deps : n.deps ≡ s.deps) (marks : pending n.marks ≡ written c Valid (pending s.marks)) (points : n.points ≡ s.points)
      (cells : n.running.cells ≡ s.running.cells) (list : s.running.list ≡ c ∷ n.running.list) (values : n.values.items ≡ set s.values.items c (Some v)) (blocks : n.blocks ≡ s.blocks) where
    abbrev es' : List Entry
    es' = s.points.entries.items

    own : get_or n.values.items c None ≡ Some v
    own = ap (λ (vs : List (Option Value)). get_or vs c None) values ∙ get_or-set_same s.values.items c (Some v) None (let h = ended_inside in let r = K.room.values in omega arith)

    others : (d : ℕ) → d ≢ c → get_or n.values.items d None ≡ get_or s.values.items d None
    others d differ = ap (λ (vs : List (Option Value)). get_or vs d None) values ∙ get_or-set_other s.values.items c d (Some v) None differ

    stays' : Stays s n
    stays' = record {
      points = points;
      count = length-written (pending s.marks) (pending n.marks) c Valid marks ended_inside;
      head = head-written (pending s.marks) (pending n.marks) c Valid marks ended_inside ∙ K.idle;
      values = ap (λ (vs : List (Option Value)). length vs) values ∙ length-set s.values.items c (Some v);
      running = cells;
      blocks = blocks;
      ends = record { readers = λ i. (deps i).readers; points = λ i. (deps i).points };
      inside = subst (EachInside (length s.marks.cells.items) (length es')) (λ i. (sym deps i).pairs) K.inside;
      gone = gone-written (pending s.marks) (pending n.marks) c Valid marks ended_inside (λ g. let no : Running ≡ Gone = sym runs_now ∙ g in cc);
    }

    pub held_ended : Held n
    held_ended = Held-stays s n K stays'
        (subst (λ (ds : List (ℕ × ℕ)). IsNetwork (state_at n.marks.cells.items) (named es' ds) n.running.list) (λ i. (sym deps i).pairs)
        (IsNetwork-ended (state_at s.marks.cells.items) (named es' s.deps.pairs) s.running.list K.network c n.running.list (state_at n.marks.cells.items) list (Sets-written (pending s.marks) (pending n.marks) c Valid marks ended_inside)))
        (valued-written (pending s.marks) (pending n.marks) c Valid marks ended_inside s.values.items n.values.items K.valued (λ h. subst (λ (o : Option Value). IsSome o) (sym own) refl) others)

    pub seen_ended : Held n → n.runs ≡ one_more s.runs → seen n ≡ ended c v (seen s)
    seen_ended H runs = λ i. record { cells = seen_cells i; pairs = named (points i).entries.items (deps i).pairs; running = tail i; runs = runs i }
      where
        seen_cells : cells_of n.marks.cells.items n.values.items ≡ set (cells_of s.marks.cells.items s.values.items) c (valid_cell v)
        seen_cells = seen-written (pending s.marks) (pending n.marks) c Valid marks ended_inside s.values.items n.values.items (valid_cell v) (ap (cell_of Valid) own) others

        tail : n.running.list ≡ behind_first s.running.list
        tail = sym (ap behind_first list)

-- ---- a running cell reads

module _ (s : Store) (K : Held s) (c p : ℕ) (runs : In c s.running.list) (inside : p < length s.points.entries.items) where
  abbrev ens : List Entry
  ens = s.points.entries.items

  pub note_inside : c < length s.marks.cells.items
  note_inside = below_cells s.marks.cells.items c (λ g. let no : Running ≡ Gone = sym (K.network.runs c runs) ∙ g in cc)

  -- the pair is there by its names exactly where it is there by its numbers
  pub there_named : In (c, p) s.deps.pairs → In (c, name_at ens p) (named ens s.deps.pairs)
  there_named i = in_named ens c p s.deps.pairs i

  pub new_named : (In (c, p) s.deps.pairs → ⊥) → In (c, name_at ens p) (named ens s.deps.pairs) → ⊥
  new_named n i = n (of_point ens (length s.marks.cells.items) s.deps.pairs c p K.named_once K.inside inside i)

  module _ (n : Store) (stands : Stands (cell_in (seen s) (name_at ens p).0)) (new : In (c, p) s.deps.pairs → ⊥) (deps : n.deps.pairs ≡ s.deps.pairs ++ (c, p) ∷ []) (ends : SameEnds s.deps n.deps)
      (marks : n.marks ≡ s.marks) (points : n.points ≡ s.points) (running : n.running ≡ s.running) (values : n.values.items ≡ s.values.items) (blocks : n.blocks ≡ s.blocks) where
    pairs_noted : named ens n.deps.pairs ≡ named ens s.deps.pairs ++ (c, name_at ens p) ∷ []
    pairs_noted = ap (named ens) deps ∙ named-push ens s.deps.pairs (c, p)

    stays_noted : Stays s n
    stays_noted = record {
      points = points;
      count = λ i. length (marks i).cells.items;
      head = (λ i. (marks i).head) ∙ K.idle;
      values = ap (λ (vs : List (Option Value)). length vs) values;
      running = λ i. (running i).cells;
      blocks = blocks;
      ends = ends;
      inside = subst (EachInside (length s.marks.cells.items) (length ens)) (sym deps) (EachInside-push (length s.marks.cells.items) (length ens) s.deps.pairs (c, p) K.inside note_inside inside);
      gone = λ d g. (λ i. state_at (marks i).cells.items d) ∙ g;
    }

    pub held_noted : Held n
    held_noted = Held-stays s n K stays_noted
        (subst (λ (pairs : List (ℕ × (ℕ × Facet))). IsNetwork (state_at n.marks.cells.items) pairs n.running.list) (sym pairs_noted)
        (subst (λ (st : ℕ → State). IsNetwork st (named ens s.deps.pairs ++ (c, name_at ens p) ∷ []) n.running.list) (λ i. state_at (sym marks i).cells.items)
        (subst (λ (l : List ℕ). IsNetwork (state_at s.marks.cells.items) (named ens s.deps.pairs ++ (c, name_at ens p) ∷ []) l) (λ i. (sym running i).list)
        (IsNetwork-noted (state_at s.marks.cells.items) (named ens s.deps.pairs) s.running.list K.network c (name_at ens p) (K.network.runs c runs) (seen_stands s K (name_at ens p).0 stands) (new_named new)))))
        (λ d h. subst (λ (o : Option Value). IsSome o) (sym (ap (λ (vs : List (Option Value)). get_or vs d None) values)) (K.valued d (subst HasValue (λ i. state_at (marks i).cells.items d) h)))

    pub seen_noted : Held n → n.runs ≡ s.runs → seen n ≡ noted (c, name_at ens p) (seen s)
    seen_noted H runs = λ i. record { cells = cells_of (marks i).cells.items (values i); pairs = seen_pairs s n points (s.deps.pairs ++ (c, p) ∷ []) (named ens s.deps.pairs ++ (c, name_at ens p) ∷ []) deps (named-push ens s.deps.pairs (c, p)) i; running = (running i).list; runs = runs i }

    pub notes_new : (rest : List ℕ) → s.running.list ≡ c ∷ rest → Held n → n.runs ≡ s.runs → Notes s.running.list (name_at ens p) (seen s) (seen n)
    notes_new rest first H runs = subst (λ (l : List ℕ). Notes l (name_at ens p) (seen s) (seen n)) (sym first) (inr (new_named new, seen_noted H runs))

  pub notes_there : (rest : List ℕ) → s.running.list ≡ c ∷ rest → In (c, p) s.deps.pairs → Notes s.running.list (name_at ens p) (seen s) (seen s)
  notes_there rest first i = subst (λ (l : List ℕ). Notes l (name_at ens p) (seen s) (seen s)) (sym first) (inl (there_named i, refl))
