-- Cells as they are seen, from their states and values.
use Rattle.std.proofs.Common.{◌≡◌, ◌≢◌, ℕ, zero, suc, ◌<◌, ◌≤◌, true, false, List, [], ◌∷◌, length, get_or, Option, Some, None, ◌⊎◌, inl, inr, refl, sym, ap, ◌∙◌, subst, arith, get_or-set_same, get_or-set_other}
use Rattle.std.specs.Prelude.{IsSome}
use Rattle.std.proofs.Math.ListN.{set, length-set}
use Rattle.std.proofs.lemmas.List.{ext_get_or}
use Rattle.value_types.specs.declared.values.Value.{Value}
use Rattle.property_cells.specs.declared.marks.State.{State}
use Rattle.property_cells.specs.declared.marks.State.TheVariants.{Gone, Invalid, Running, Valid, Assigned, Marked}
use Rattle.property_cells.specs.declared.marks.Mark.{Mark}
use Rattle.property_cells.specs.declared.states.CellState.TheVariants as Shown
use Rattle.property_cells.specs.declared.store.Store.{Store}
use Rattle.property_cells.specs.Marks.{HasValue, state_at}
use Rattle.property_cells.specs.Net.{Cell, no_cell, invalid_cell, running_cell, assigned_cell, cell_in, Stands, Reads, state_of, value_of, IsKept}
use Rattle.property_cells.specs.Store.{cell_of, cells_of, seen, Held}
use Rattle.std.proofs.lemmas.Bool.{cases_lt}
use Rattle.property_cells.proofs.Reaching.{same_or_not}

-- none is not some
pub none_not : {X : Type 0} → IsSome {T = Value} None → X
none_not h = let no : false ≡ true = h in cc

pub length-cells_of : (ms : List Mark) (vs : List (Option Value)) → length (cells_of ms vs) ≡ length ms
length-cells_of [] vs = refl
length-cells_of (m ∷ ms) [] = ap suc (length-cells_of ms [])
length-cells_of (m ∷ ms) (v ∷ vs) = ap suc (length-cells_of ms vs)

pub cell_at : (ms : List Mark) (vs : List (Option Value)) (c : ℕ) → get_or (cells_of ms vs) c no_cell ≡ cell_of (state_at ms c) (get_or vs c None)
cell_at [] vs c = refl
cell_at (m ∷ ms) [] zero = refl
cell_at (m ∷ ms) [] (suc c) = cell_at ms [] c
cell_at (m ∷ ms) (v ∷ vs) zero = refl
cell_at (m ∷ ms) (v ∷ vs) (suc c) = cell_at ms vs c

pub cells_are : (ms : List Mark) (vs : List (Option Value)) (xs : List Cell) → length xs ≡ length ms → ((c : ℕ) → cell_of (state_at ms c) (get_or vs c None) ≡ get_or xs c no_cell) → cells_of ms vs ≡ xs
cells_are ms vs xs n h = ext_get_or no_cell (cells_of ms vs) xs (length-cells_of ms vs ∙ sym n) (λ c l. cell_at ms vs c ∙ h c)

-- one cell changes
pub cells_set : (ms ms' : List Mark) (vs vs' : List (Option Value)) (c : ℕ) (x : Cell) → c < length ms → length ms' ≡ length ms → cell_of (state_at ms' c) (get_or vs' c None) ≡ x
    → ((d : ℕ) → d ≢ c → (state_at ms' d ≡ state_at ms d) × (get_or vs' d None ≡ get_or vs d None)) → cells_of ms' vs' ≡ set (cells_of ms vs) c x
cells_set ms ms' vs vs' c x l n own others =
    cells_are ms' vs' (set (cells_of ms vs) c x) (length-set (cells_of ms vs) c x ∙ length-cells_of ms vs ∙ sym n) (λ d. by_case d (same_or_not d c))
  where
    inside : c < length (cells_of ms vs)
    inside = subst (λ k. c < k) (sym (length-cells_of ms vs)) l

    by_case : (d : ℕ) → (d ≡ c) ⊎ (d ≢ c) → cell_of (state_at ms' d) (get_or vs' d None) ≡ get_or (set (cells_of ms vs) c x) d no_cell
    by_case d (inl same) = subst (λ e. cell_of (state_at ms' e) (get_or vs' e None) ≡ get_or (set (cells_of ms vs) c x) e no_cell) (sym same) (own ∙ sym (get_or-set_same (cells_of ms vs) c x no_cell inside))
    by_case d (inr differ) = let o = others d differ in (λ i. cell_of (o.0 i) (o.1 i)) ∙ sym (cell_at ms vs d) ∙ sym (get_or-set_other (cells_of ms vs) c d x no_cell differ)

-- ---- from what is seen to states

pub no_cell_is : (s : State) (v : Option Value) → cell_of s v ≡ no_cell → s ≡ Gone
no_cell_is Gone v e = refl
no_cell_is Invalid v e = cc
no_cell_is Running v e = cc
no_cell_is Valid (Some v) e = cc
no_cell_is Valid None e = cc
no_cell_is Assigned (Some v) e = cc
no_cell_is Assigned None e = cc
no_cell_is Marked v e = cc

pub running_is : (s : State) (v : Option Value) → cell_of s v ≡ running_cell → s ≡ Running
running_is Gone v e = cc
running_is Invalid v e = cc
running_is Running v e = refl
running_is Valid (Some v) e = cc
running_is Valid None e = cc
running_is Assigned (Some v) e = cc
running_is Assigned None e = cc
running_is Marked v e = cc

pub assigned_is : (s : State) (v : Option Value) (w : Value) → cell_of s v ≡ assigned_cell w → s ≡ Assigned
assigned_is Gone v w e = cc
assigned_is Invalid v w e = cc
assigned_is Running v w e = cc
assigned_is Valid (Some v) w e = cc
assigned_is Valid None w e = cc
assigned_is Assigned v w e = refl
assigned_is Marked v w e = cc

pub invalid_is : (s : State) (v : Option Value) → (HasValue s → IsSome v) → s ≢ Marked → cell_of s v ≡ invalid_cell → s ≡ Invalid
invalid_is Gone v h m e = cc
invalid_is Invalid v h m e = refl
invalid_is Running v h m e = cc
invalid_is Valid (Some v) h m e = cc
invalid_is Valid None h m e = none_not (h (inl refl))
invalid_is Assigned (Some v) h m e = cc
invalid_is Assigned None h m e = none_not (h (inr refl))
invalid_is Marked v h m e = absurd (m refl)

pub stands_is : (s : State) (v : Option Value) → Stands (cell_of s v) → HasValue s
stands_is Gone v e = absurd e
stands_is Invalid v e = absurd e
stands_is Running v e = absurd e
stands_is Valid v e = inl refl
stands_is Assigned v e = inr refl
stands_is Marked v e = absurd e

pub reads_is : (s : State) (v : Option Value) → Reads (cell_of s v) → (s ≡ Valid) ⊎ (s ≡ Running)
reads_is Gone v e = absurd e
reads_is Invalid v e = absurd e
reads_is Running v e = inr refl
reads_is Valid v e = inl refl
reads_is Assigned (Some v) e = absurd e
reads_is Assigned None e = absurd e
reads_is Marked v e = absurd e

pub has_stands : (s : State) (v : Option Value) → HasValue s → (HasValue s → IsSome v) → Stands (cell_of s v)
has_stands Gone v (inl e) k = cc
has_stands Gone v (inr e) k = cc
has_stands Invalid v (inl e) k = cc
has_stands Invalid v (inr e) k = cc
has_stands Running v (inl e) k = cc
has_stands Running v (inr e) k = cc
has_stands Valid (Some v) h k = tt
has_stands Valid None h k = none_not (k h)
has_stands Assigned (Some v) h k = tt
has_stands Assigned None h k = none_not (k h)
has_stands Marked v (inl e) k = cc
has_stands Marked v (inr e) k = cc

-- the state of a cell, as it is seen
pub state_running : (s : State) (v : Option Value) → s ≡ Running → state_of (cell_of s v) ≡ Some Shown.Running
state_running s v e = ap (λ (t : State). state_of (cell_of t v)) e

pub state_valid : (s : State) (v : Option Value) → s ≡ Valid → (HasValue s → IsSome v) → state_of (cell_of s v) ≡ Some Shown.Valid
state_valid s (Some v) e k = ap (λ (t : State). state_of (cell_of t (Some v))) e
state_valid s None e k = none_not (k (inl e))

pub state_assigned : (s : State) (v : Option Value) → s ≡ Assigned → (HasValue s → IsSome v) → state_of (cell_of s v) ≡ Some Shown.Assigned
state_assigned s (Some v) e k = ap (λ (t : State). state_of (cell_of t (Some v))) e
state_assigned s None e k = none_not (k (inr e))

pub state_other : (s : State) (v : Option Value) → s ≢ Gone → s ≢ Running → s ≢ Valid → s ≢ Assigned → state_of (cell_of s v) ≡ Some Shown.Invalid
state_other Gone v g r k a = absurd (g refl)
state_other Invalid v g r k a = refl
state_other Running v g r k a = absurd (r refl)
state_other Valid v g r k a = absurd (k refl)
state_other Assigned v g r k a = absurd (a refl)
state_other Marked v g r k a = refl

-- the value of a cell, as it is seen
pub value_some : (s : State) (v : Option Value) → HasValue s → value_of (cell_of s v) ≡ v
value_some Gone v (inl e) = cc
value_some Gone v (inr e) = cc
value_some Invalid v (inl e) = cc
value_some Invalid v (inr e) = cc
value_some Running v (inl e) = cc
value_some Running v (inr e) = cc
value_some Valid (Some v) h = refl
value_some Valid None h = refl
value_some Assigned (Some v) h = refl
value_some Assigned None h = refl
value_some Marked v (inl e) = cc
value_some Marked v (inr e) = cc

pub value_none : (s : State) (v : Option Value) → (HasValue s → ⊥) → value_of (cell_of s v) ≡ None
value_none Gone v n = refl
value_none Invalid v n = refl
value_none Running v n = refl
value_none Valid v n = absurd (n (inl refl))
value_none Assigned v n = absurd (n (inr refl))
value_none Marked v n = refl

-- past the cells there is none
pub gone_past : (ms : List Mark) (c : ℕ) → length ms ≤ c → state_at ms c ≡ Gone
gone_past [] c h = refl
gone_past (m ∷ ms) zero h = absurd (omega arith)
gone_past (m ∷ ms) (suc c) h = gone_past ms c (omega arith)

pub below_cells : (ms : List Mark) (c : ℕ) → state_at ms c ≢ Gone → c < length ms
below_cells ms c n = by_case (cases_lt c (length ms))
  where
    by_case : (c < length ms) ⊎ (length ms ≤ c) → c < length ms
    by_case (inl h) = h
    by_case (inr h) = absurd (n (gone_past ms c h))

-- ---- what `Cells` keeps, as it is seen

module _ (s : Store) (K : Held s) where
  abbrev ms : List Mark
  ms = s.marks.cells.items

  abbrev vs : List (Option Value)
  vs = s.values.items

  pub seen_at : (c : ℕ) → cell_in (seen s) c ≡ cell_of (state_at ms c) (get_or vs c None)
  seen_at c = cell_at ms vs c

  pub seen_invalid : (c : ℕ) → cell_in (seen s) c ≡ invalid_cell → state_at ms c ≡ Invalid
  seen_invalid c e = invalid_is (state_at ms c) (get_or vs c None) (K.valued c) (K.network.unmarked c) (sym (seen_at c) ∙ e)

  pub seen_live : (c : ℕ) → cell_in (seen s) c ≢ no_cell → state_at ms c ≢ Gone
  seen_live c n e = n (seen_at c ∙ ap (λ (t : State). cell_of t (get_or vs c None)) e)

  pub seen_stands : (c : ℕ) → Stands (cell_in (seen s) c) → HasValue (state_at ms c)
  seen_stands c h = stands_is (state_at ms c) (get_or vs c None) (subst Stands (seen_at c) h)

  pub seen_inside : (c : ℕ) → cell_in (seen s) c ≢ no_cell → c < length ms
  seen_inside c n = below_cells ms c (seen_live c n)

  pub kept : IsKept (seen s)
  kept = record {
    stands = λ r x i h. subst Stands (sym (seen_at x.0)) (has_stands (state_at ms x.0) (get_or vs x.0 None) (K.network.stands r x i (reads_is (state_at ms r) (get_or vs r None) (subst Reads (seen_at r) h))) (K.valued x.0));
    bare = λ r x v i e. K.network.bare r x i (assigned_is (state_at ms r) (get_or vs r None) v (sym (seen_at r) ∙ e));
    live = λ r x i. let l = K.network.live r x i in (λ e. l.0 (no_cell_is (state_at ms r) (get_or vs r None) (sym (seen_at r) ∙ e)), λ e. l.1 (no_cell_is (state_at ms x.0) (get_or vs x.0 None) (sym (seen_at x.0) ∙ e)));
    once = K.network.once;
    distinct = K.network.distinct;
    runs = λ c i. seen_at c ∙ ap (λ (t : State). cell_of t (get_or vs c None)) (K.network.runs c i);
    listed = λ c e. K.network.listed c (running_is (state_at ms c) (get_or vs c None) (sym (seen_at c) ∙ e));
  }
