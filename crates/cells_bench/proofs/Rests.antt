-- Cells between two rounds.
use Rattle.std.proofs.Common.{◌≡◌, ◌≢◌, ℕ, ◌+◌, ◌<◌, ◌≤◌, Bool, Option, Some, None, IfSome, [], length, ◌⊎◌, inl, inr, refl, sym, ap, ◌∙◌, subst, arith}
use Rattle.std.proofs.lemmas.Bool.{cases_lt}
use Rattle.value_types.specs.declared.values.Value.{Value}
use Rattle.property_cells.specs.declared.states.CellState.{CellState}
use Rattle.property_cells.specs.declared.states.CellState.TheVariants.{Invalid, Running, Valid, Assigned}
use Rattle.property_cells.specs.Reach.{Reached}
use Rattle.property_cells.specs.Net.{Cell, no_cell, invalid_cell, running_cell, valid_cell, assigned_cell, no_cells, Net, cell_in, state_of, value_of, Stands, without, Replaces, Fate, Assigns, Adds}
use Rattle.property_cells.specs.Hits.{Touches}
use Rattle.cells_bench.specs.Rest.{IsIdle, AtRest, AllStand}

pub idle_live : (x : Cell) → IsIdle x → x ≢ no_cell
idle_live x h e = subst IsIdle e h

pub stands_idle : (x : Cell) → Stands x → IsIdle x
stands_idle no_cell h = h
stands_idle invalid_cell h = tt
stands_idle running_cell h = h
stands_idle (valid_cell v) h = tt
stands_idle (assigned_cell v) h = tt

pub is_invalid : (x : Cell) → state_of x ≡ Some Invalid → x ≡ invalid_cell
is_invalid no_cell e = cc
is_invalid invalid_cell e = refl
is_invalid running_cell e = cc
is_invalid (valid_cell v) e = cc
is_invalid (assigned_cell v) e = cc

pub stands_else : (x : Cell) (s : CellState) → IsIdle x → state_of x ≡ Some s → s ≢ Invalid → Stands x
stands_else no_cell s h e n = h
stands_else invalid_cell s h e n = absurd (n cc)
stands_else running_cell s h e n = h
stands_else (valid_cell v) s h e n = tt
stands_else (assigned_cell v) s h e n = tt

pub if_below : (n : Net) (cell : ℕ) (o : Option ℕ) → AllStand cell n → IfSome o (λ on. on < cell) → IfSome o (λ c. Stands (cell_in n c))
if_below n cell None h b = tt
if_below n cell (Some on) h b = h on b

-- what holds of a cell and was so of each other holds of all
each : (P : Cell → Type 0) (n m : Net) (cell c : ℕ) → P (cell_in m cell) → ((d : ℕ) → d ≢ cell → cell_in m d ≡ cell_in n d) → (c ≢ cell → P (cell_in n c)) → P (cell_in m c)
each P n m cell c own others h = by_case (cases_lt c cell) (cases_lt cell c)
  where
    other : c ≢ cell → P (cell_in m c)
    other d = subst P (sym (others c d)) (h d)

    by_case : (c < cell) ⊎ (cell ≤ c) → (cell < c) ⊎ (c ≤ cell) → P (cell_in m c)
    by_case (inl l) b = other (λ e. omega arith)
    by_case (inr g) (inl l) = other (λ e. omega arith)
    by_case (inr g) (inr b) = let e : cell ≡ c = omega arith in subst (λ d. P (cell_in m d)) e own

-- a cell more stands
pub rest_next : (count cell : ℕ) (n m : Net) → AtRest count n → Stands (cell_in m cell) → ((d : ℕ) → d ≢ cell → cell_in m d ≡ cell_in n d) → m.running ≡ n.running → AtRest count m
rest_next count cell n m R own others running = record {
  idle = λ c h. each IsIdle n m cell c (stands_idle (cell_in m cell) own) others (λ d. R.idle c h);
  running = running ∙ R.running;
}

pub stand_next : (cell : ℕ) (n m : Net) → AllStand cell n → Stands (cell_in m cell) → ((d : ℕ) → d ≢ cell → cell_in m d ≡ cell_in n d) → AllStand (cell + 1) m
stand_next cell n m S own others = λ c h. each Stands n m cell c own others (λ d. S c (omega arith))

-- cells that were added to none are at rest
pub rest_added : (n m : Net) (first count : ℕ) → n ≡ no_cells → Adds n m first count → AtRest count m
rest_added n m first count e A = record {
  idle = λ c h. subst IsIdle (sym (A.added c (omega (arith, start)) (omega (arith, start)))) tt;
  running = A.running ∙ ap (λ (k : Net). k.running) e;
}
  where
    none : length n.cells ≡ 0
    none = ap (λ (k : Net). length k.cells) e

    start : first ≡ 0
    start = (A.behind (λ c h. absurd (omega (arith, none)))).0 ∙ none

fate_idle : (R : Type 0) (x y : Cell) → Fate R x y → IsIdle x → IsIdle y
fate_idle R no_cell y f h = absurd h
fate_idle R invalid_cell y f h = subst IsIdle (sym f) tt
fate_idle R running_cell y f h = absurd h
fate_idle R (valid_cell v) y (inl f) h = subst IsIdle (sym f.0) tt
fate_idle R (valid_cell v) y (inr f) h = subst IsIdle (sym f.0) tt
fate_idle R (assigned_cell v) y f h = subst IsIdle (sym f) tt

-- an assignment leaves cells at rest
pub rest_assigned : (count : ℕ) (n m : Net) (cell : ℕ) (v : Value) (k : Bool) → Assigns n m cell v k → AtRest count n → AtRest count m
rest_assigned count n m cell v k A R = record { idle = idle; running = A.running ∙ R.running }
  where
    own : IsIdle (cell_in m cell)
    own = subst IsIdle (sym A.own) tt

    other : (c : ℕ) → c < count → c ≢ cell → IsIdle (cell_in m c)
    other c h d = fate_idle (Reached (without cell n.pairs) (λ x. x.0) (Touches cell (Replaces (value_of (cell_in n cell)) v k)) c) (cell_in n c) (cell_in m c) (A.others c d) (R.idle c h)

    by_case : (c : ℕ) → c < count → (c < cell) ⊎ (cell ≤ c) → (cell < c) ⊎ (c ≤ cell) → IsIdle (cell_in m c)
    by_case c h (inl l) b = other c h (λ e. omega arith)
    by_case c h (inr g) (inl l) = other c h (λ e. omega arith)
    by_case c h (inr g) (inr b) = let e : cell ≡ c = omega arith in subst (λ d. IsIdle (cell_in m d)) e own

    idle : (c : ℕ) → c < count → IsIdle (cell_in m c)
    idle c h = by_case c h (cases_lt c cell) (cases_lt cell c)
