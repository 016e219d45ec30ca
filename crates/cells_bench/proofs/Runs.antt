-- What a run of a cell leaves of the others.
use Rattle.std.proofs.Common.{◌≡◌, ◌≢◌, ℕ, zero, suc, ◌<◌, Option, Some, None, List, [], ◌∷◌, length, get_or, sym, ◌∙◌, subst, arith, get_or-set_same, get_or-set_other}
use Rattle.std.specs.Prelude.{IfSome}
use Rattle.std.proofs.Math.ListN.{length-set}
use Rattle.value_types.specs.declared.values.Value.{Value}
use Rattle.property_cells.specs.Net.{Cell, no_cell, invalid_cell, running_cell, valid_cell, Net, cell_in, Stands, begun, ended}

apart : (n : Net) (cell a : ℕ) → cell_in n cell ≡ invalid_cell → Stands (cell_in n a) → a ≢ cell
apart n cell a e h same = subst Stands (subst (λ d. cell_in n d ≡ invalid_cell) (sym same) e) h

stands_begun : (n m : Net) (cell a : ℕ) → cell_in n cell ≡ invalid_cell → m.cells ≡ (begun cell n).cells → Stands (cell_in n a) → Stands (cell_in m a)
stands_begun n m cell a e f h = subst Stands (sym ((λ i. get_or (f i) a no_cell) ∙ get_or-set_other n.cells cell a running_cell no_cell (apart n cell a e h))) h

there : (xs : List Cell) (c : ℕ) (x : Cell) → get_or xs c no_cell ≡ x → x ≢ no_cell → c < length xs
there [] c x e n = absurd (n (sym e))
there (y ∷ xs) zero x e n = omega arith
there (y ∷ xs) (suc c) x e n = let h = there xs c x e n in omega arith

-- a cell that stood stands while an invalid one runs
pub if_begun : (n m : Net) (cell : ℕ) (o : Option ℕ) → cell_in n cell ≡ invalid_cell → m.cells ≡ (begun cell n).cells → IfSome o (λ c. Stands (cell_in n c)) → IfSome o (λ c. Stands (cell_in m c))
if_begun n m cell None e f h = h
if_begun n m cell (Some a) e f h = stands_begun n m cell a e f h

pub run_own : (n m : Net) (cell : ℕ) (v : Value) → cell_in n cell ≡ invalid_cell → m.cells ≡ (begun cell n).cells → Stands (cell_in (ended cell v m) cell)
run_own n m cell v e f = subst Stands (sym (get_or-set_same m.cells cell (valid_cell v) no_cell inside)) tt
  where
    inside : cell < length m.cells
    inside = subst (λ (l : List Cell). cell < length l) (sym f) (subst (λ k. cell < k) (sym (length-set n.cells cell running_cell)) (there n.cells cell invalid_cell e (λ g. cc)))

pub run_others : (n m : Net) (cell c : ℕ) (v : Value) → m.cells ≡ (begun cell n).cells → c ≢ cell → cell_in (ended cell v m) c ≡ cell_in n c
run_others n m cell c v f d = get_or-set_other m.cells cell c (valid_cell v) no_cell d ∙ (λ i. get_or (f i) c no_cell) ∙ get_or-set_other n.cells cell c running_cell no_cell d
