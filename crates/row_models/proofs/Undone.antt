-- An insert that is undone.
use Rattle.std.proofs.Common.{◌≡◌, ℕ, zero, suc, ◌≤◌, List, [], ◌∷◌, length, ap, refl, arith}
use Rattle.std.specs.Prelude.{insert, remove}

pub remove-insert : {X : Type 0} (xs : List X) (i : ℕ) (x : X) → i ≤ length xs → remove (insert xs i x) i ≡ xs
remove-insert [] zero x le = refl
remove-insert [] (suc i) x le = absurd (omega (arith, le))
remove-insert (y ∷ ys) zero x le = refl
remove-insert (y ∷ ys) (suc i) x le = ap (λ zs. y ∷ zs) (remove-insert ys i x (omega (arith, le)))
