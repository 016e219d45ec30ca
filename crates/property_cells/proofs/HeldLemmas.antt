-- What the parts of `Cells` keep, from call to call.
use Rattle.std.proofs.Common.{◌≡◌, ◌≢◌, ℕ, ◌<◌, ◌≤◌, List, length, get_or, Option, None, ◌⊎◌, inl, inr, sym, ap, ◌∙◌, subst, arith}
use Rattle.std.specs.Prelude.{IsSome}
use Rattle.std.proofs.Math.ListN.{set, length-set}
use Rattle.dep_list.specs.Pairs.{SameEnds}
use Rattle.value_types.specs.declared.values.Value.{Value}
use Rattle.property_cells.specs.declared.marks.State.{State}
use Rattle.property_cells.specs.declared.marks.State.TheVariants.{Gone}
use Rattle.property_cells.specs.declared.marks.Mark.{Mark}
use Rattle.property_cells.specs.declared.points.Entry.{Entry}
use Rattle.property_cells.specs.declared.points.Points.{Points}
use Rattle.property_cells.specs.declared.store.Store.{Store}
use Rattle.property_cells.specs.Points.{IsThreaded}
use Rattle.property_cells.specs.Marks.{HasValue, Pending, state_at, written, EachInside}
use Rattle.property_cells.specs.Hits.{named}
use Rattle.property_cells.specs.Blocks.{Free, AreFree}
use Rattle.property_cells.specs.Net.{Cell}
use Rattle.property_cells.specs.Store.{cell_of, cells_of, IsNetwork, HasRoom, NamedOnce, Held}
use Rattle.property_cells.proofs.Reaching.{same_or_not, Sets}
use Rattle.property_cells.proofs.Threads.{sets}
use Rattle.property_cells.proofs.BlockLemmas.{AreFree-states}
use Rattle.property_cells.proofs.Seen.{cells_set}

-- ---- the tables stay as they are

-- what a call leaves of the tables
pub record Stays (s n : Store) : Type 0 where
  pub points : n.points ≡ s.points
  pub count : length n.marks.cells.items ≡ length s.marks.cells.items
  pub head : n.marks.head ≡ None
  pub values : length n.values.items ≡ length s.values.items
  pub running : n.running.cells ≡ s.running.cells
  pub blocks : n.blocks ≡ s.blocks
  pub ends : SameEnds s.deps n.deps
  pub inside : EachInside (length s.marks.cells.items) (length s.points.entries.items) n.deps.pairs
  pub gone : (c : ℕ) → state_at s.marks.cells.items c ≡ Gone → state_at n.marks.cells.items c ≡ Gone

module _ (s n : Store) (K : Held s) (Y : Stays s n) where
  entries_same : n.points.entries.items ≡ s.points.entries.items
  entries_same = ap (λ (p : Points). p.entries.items) Y.points

  room_stays : HasRoom n
  room_stays = record {
    lasts = subst (λ k. k ≤ length n.points.lasts.items) (sym Y.count) (subst (λ (p : Points). length s.marks.cells.items ≤ length p.lasts.items) (sym Y.points) K.room.lasts);
    values = subst (λ k. k ≤ length n.values.items) (sym Y.count) (subst (λ k. length s.marks.cells.items ≤ k) (sym Y.values) K.room.values);
    running = subst (λ k. k ≤ n.running.cells) (sym Y.count) (subst (λ k. length s.marks.cells.items ≤ k) (sym Y.running) K.room.running);
    blocks = subst (λ k. k ≤ n.blocks.cells) (sym Y.count) (subst (λ (b : Free). length s.marks.cells.items ≤ b.cells) (sym Y.blocks) K.room.blocks);
    readers = subst (λ k. k ≤ n.deps.readers) (sym Y.count) (subst (λ k. length s.marks.cells.items ≤ k) (sym Y.ends.readers) K.room.readers);
    points = subst (λ (p : Points). length p.entries.items ≤ n.deps.points) (sym Y.points) (subst (λ k. length s.points.entries.items ≤ k) (sym Y.ends.points) K.room.points);
  }

  pub Held-stays : IsNetwork (state_at n.marks.cells.items) (named s.points.entries.items n.deps.pairs) n.running.list
      → ((c : ℕ) → HasValue (state_at n.marks.cells.items c) → IsSome (get_or n.values.items c None)) → Held n
  Held-stays network valued = record {
    network = subst (λ (es : List Entry). IsNetwork (state_at n.marks.cells.items) (named es n.deps.pairs) n.running.list) (sym entries_same) network;
    valued = valued;
    free = subst (λ (b : Free). AreFree (state_at n.marks.cells.items) (length n.marks.cells.items) b.blocks) (sym Y.blocks)
        (AreFree-states (state_at s.marks.cells.items) (state_at n.marks.cells.items) (length s.marks.cells.items) (length n.marks.cells.items) s.blocks.blocks (λ c e l. Y.gone c e) (let h = Y.count in omega arith) K.free);
    threaded = subst (λ (p : Points). IsThreaded p.entries.items p.lasts.items) (sym Y.points) K.threaded;
    named_once = subst (λ (es : List Entry). NamedOnce es) (sym entries_same) K.named_once;
    inside = subst (λ k. EachInside k (length n.points.entries.items) n.deps.pairs) (sym Y.count) (subst (λ (es : List Entry). EachInside (length s.marks.cells.items) (length es) n.deps.pairs) (sym entries_same) Y.inside);
    room = room_stays;
    idle = Y.head;
  }

-- ---- one cell gets another state

module _ (m n : Pending) (c : ℕ) (x : State) (e : n ≡ written c x m) (inside : c < length m.cells) where
  cells_written : n.cells ≡ set m.cells c (record { state = x; next = None })
  cells_written = ap (λ (p : Pending). p.cells) e

  pub Sets-written : Sets c x (state_at m.cells) (state_at n.cells)
  Sets-written = subst (λ (ms : List Mark). Sets c x (state_at m.cells) (state_at ms)) (sym cells_written) (sets m.cells c (record { state = x; next = None }) inside)

  pub length-written : length n.cells ≡ length m.cells
  length-written = ap (λ (ms : List Mark). length ms) cells_written ∙ length-set m.cells c (record { state = x; next = None })

  pub head-written : n.head ≡ m.head
  head-written = ap (λ (p : Pending). p.head) e

  pub gone-written : state_at m.cells c ≢ Gone → (d : ℕ) → state_at m.cells d ≡ Gone → state_at n.cells d ≡ Gone
  gone-written live d g = Sets-written.there d (λ same. live (ap (state_at m.cells) (sym same) ∙ g)) ∙ g

  pub seen-written : (vs vs' : List (Option Value)) (y : Cell) → cell_of x (get_or vs' c None) ≡ y → ((d : ℕ) → d ≢ c → get_or vs' d None ≡ get_or vs d None) → cells_of n.cells vs' ≡ set (cells_of m.cells vs) c y
  seen-written vs vs' y own others =
      cells_set m.cells n.cells vs vs' c y inside length-written (ap (λ (t : State). cell_of t (get_or vs' c None)) Sets-written.here ∙ own) (λ d differ. (Sets-written.there d differ, others d differ))

  -- values stay where they have to be
  pub valued-written : (vs vs' : List (Option Value)) → ((d : ℕ) → HasValue (state_at m.cells d) → IsSome (get_or vs d None)) → (HasValue x → IsSome (get_or vs' c None)) → ((d : ℕ) → d ≢ c → get_or vs' d None ≡ get_or vs d None)
      → (d : ℕ) → HasValue (state_at n.cells d) → IsSome (get_or vs' d None)
  valued-written vs vs' k own others d h = by_case (same_or_not d c)
    where
      by_case : (d ≡ c) ⊎ (d ≢ c) → IsSome (get_or vs' d None)
      by_case (inl same) = subst (λ j. IsSome (get_or vs' j None)) (sym same) (own (subst HasValue (ap (state_at n.cells) same ∙ Sets-written.here) h))
      by_case (inr differ) = subst (λ (o : Option Value). IsSome o) (sym (others d differ)) (k d (subst HasValue (Sets-written.there d differ) h))
