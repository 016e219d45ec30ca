-- What a run of a cell leaves of the others.
use Rattle.std.proofs.Common.{◌≡◌, ◌≢◌, ℕ, zero, suc, ◌+◌, ◌<◌, ◌≤◌, Bool, Option, Some, None, List, [], ◌∷◌, length, get_or, ◌⊎◌, inl, inr, refl, sym, ap, ◌∙◌, subst, arith, get_or-set_same, get_or-set_other}
use Rattle.std.specs.Prelude.{IfSome}
use Rattle.std.proofs.Math.ListN.{set, length-set}
use Rattle.std.proofs.lemmas.Bool.{cases_lt}
use Rattle.value_types.specs.declared.values.Value.{Value}
use Rattle.property_cells.specs.Reach.{Reached}
use Rattle.property_cells.specs.Net.{Cell, no_cell, invalid_cell, running_cell, valid_cell, assigned_cell, Net, cell_in, Stands, begun, ended, without, value_of, Replaces, Fate, Assigns, Adds}
use Rattle.property_cells.specs.Hits.{Touches}

pub not_invalid : (x : Cell) → x ≡ invalid_cell → Stands x → ⊥
not_invalid x e h = subst Stands e h

pub apart : (n : Net) (cell a : ℕ) → cell_in n cell ≡ invalid_cell → Stands (cell_in n a) → a ≢ cell
apart n cell a e h same = not_invalid (cell_in n cell) e (subst (λ d. Stands (cell_in n d)) same h)

pub stands_begun : (n m : Net) (cell a : ℕ) → cell_in n cell ≡ invalid_cell → m.cells ≡ (begun cell n).cells → Stands (cell_in n a) → Stands (cell_in m a)
stands_begun n m cell a e f h = subst Stands (sym ((λ i. get_or (f i) a no_cell) ∙ get_or-set_other n.cells cell a running_cell no_cell (apart n cell a e h))) h

there : (xs : List Cell) (c : ℕ) (x : Cell) → get_or xs c no_cell ≡ x → x ≢ no_cell → c < length xs
there [] c x e n = absurd (n (sym e))
there (y ∷ xs) zero x e n = omega arith
there (y ∷ xs) (suc c) x e n = let h = there xs c x e n in omega arith

pub run_own : (n m : Net) (cell : ℕ) (v : Value) → cell_in n cell ≡ invalid_cell → m.cells ≡ (begun cell n).cells → Stands (cell_in (ended cell v m) cell)
run_own n m cell v e f = subst Stands (sym (get_or-set_same m.cells cell (valid_cell v) no_cell inside)) tt
  where
    inside : cell < length m.cells
    inside = subst (λ (l : List Cell). cell < length l) (sym f) (subst (λ k. cell < k) (sym (length-set n.cells cell running_cell)) (there n.cells cell invalid_cell e (λ g. cc)))

pub run_others : (n m : Net) (cell c : ℕ) (v : Value) → m.cells ≡ (begun cell n).cells → c ≢ cell → cell_in (ended cell v m) c ≡ cell_in n c
run_others n m cell c v f d = get_or-set_other m.cells cell c (valid_cell v) no_cell d ∙ (λ i. get_or (f i) c no_cell) ∙ get_or-set_other n.cells cell c running_cell no_cell d

-- a change leaves every cell there
pub fate_live : (R : Type 0) (x y : Cell) → Fate R x y → x ≢ no_cell → y ≢ no_cell
fate_live R no_cell y f n = absurd (n refl)
fate_live R invalid_cell y f n = λ e. let g : invalid_cell ≡ no_cell = sym f ∙ e in cc
fate_live R running_cell y f n = λ e. let g : running_cell ≡ no_cell = sym f ∙ e in cc
fate_live R (assigned_cell v) y f n = λ e. let g : assigned_cell v ≡ no_cell = sym f ∙ e in cc
fate_live R (valid_cell v) y (inl f) n = λ e. let g : valid_cell v ≡ no_cell = sym f.0 ∙ e in cc
fate_live R (valid_cell v) y (inr f) n = λ e. let g : invalid_cell ≡ no_cell = sym f.0 ∙ e in cc

pub stands_live : (x : Cell) → Stands x → x ≢ no_cell
stands_live x h e = subst Stands e h

pub if_begun : (n m : Net) (cell : ℕ) (o : Option ℕ) → cell_in n cell ≡ invalid_cell → m.cells ≡ (begun cell n).cells → IfSome o (λ c. Stands (cell_in n c)) → IfSome o (λ c. Stands (cell_in m c))
if_begun n m cell None e f h = h
if_begun n m cell (Some a) e f h = stands_begun n m cell a e f h

-- what stands before cells are added stands behind that
pub stands_added : (n m : Net) (first k a : ℕ) → Adds n m first k → Stands (cell_in n a) → Stands (cell_in m a)
stands_added n m first k a A h = by_case (cases_lt a first) (cases_lt a (first + k))
  where
    outside : (a < first) ⊎ (first + k ≤ a) → Stands (cell_in m a)
    outside o = subst Stands (sym (A.others a o)) h

    by_case : (a < first) ⊎ (first ≤ a) → (a < first + k) ⊎ (first + k ≤ a) → Stands (cell_in m a)
    by_case (inl l) b = outside (inl l)
    by_case (inr g) (inr b) = outside (inr b)
    by_case (inr g) (inl b) = absurd (subst Stands (A.fresh a g b) h)

pub one_zero : ◌≡◌ {A = ℕ} 1 0 → ⊥
one_zero e = omega arith

pub two_zero : ◌≡◌ {A = ℕ} 2 0 → ⊥
two_zero e = omega arith

pub two_one : ◌≡◌ {A = ℕ} 2 1 → ⊥
two_one e = omega arith

pub zero_one : ◌≡◌ {A = ℕ} 0 1 → ⊥
zero_one e = omega arith

pub zero_two : ◌≡◌ {A = ℕ} 0 2 → ⊥
zero_two e = omega arith

pub one_two : ◌≡◌ {A = ℕ} 1 2 → ⊥
one_two e = omega arith

-- a cell that was there is there behind an assignment of another
pub assign_live : (n m : Net) (cell c : ℕ) (v : Value) (k : Bool) → Assigns n m cell v k → c ≢ cell → cell_in n c ≢ no_cell → cell_in m c ≢ no_cell
assign_live n m cell c v k A d h =
    fate_live (Reached (without cell n.pairs) (λ x. x.0) (Touches cell (Replaces (value_of (cell_in n cell)) v k)) c) (cell_in n c) (cell_in m c) (A.others c d) h

pub assign_own : (n m : Net) (cell : ℕ) (v : Value) (k : Bool) → Assigns n m cell v k → cell_in m cell ≢ no_cell
assign_own n m cell v k A e = let g : assigned_cell v ≡ no_cell = sym A.own ∙ e in cc
