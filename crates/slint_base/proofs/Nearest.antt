-- What rounding comes to.
use Rattle.std.proofs.Common.{◌≡◌, ℕ, ◌+◌, ◌*◌, ◌%◌, ◌<◌, ◌≤◌, inl, inr, ap, arith}
use Rattle.std.specs.Int.{abs_diff}
use Rattle.slint_base.specs.Numbers.{near_size, IsNearest}
use Rattle.std.proofs.lemmas.Bool.{cases_lt}
use Rattle.std.proofs.Math.Nat.{mul-le-mul_right, eq-or-lt_of_le}

-- the rounded quotient, times the divisor, is at most half a divisor above, and less than half a divisor below
record Rounds (n d q : ℕ) : Type 0 where
  above : 2 * (q * d) ≤ 2 * n + d
  below : 2 * n < 2 * (q * d) + d

rounds_by : (n d q r : ℕ) → r < 2 * d → (2 * d) * q + r ≡ 2 * n + d → Rounds n d q
rounds_by n d q r small e = record { above = omega arith; below = omega arith }

rounds : (n d : ℕ) → 0 < d → Rounds n d (near_size n d)
rounds n d h = let two : 0 < 2 * d = omega arith in rounds_by n d (near_size n d) ((2 * n + d) % (2 * d)) (omega arith) (omega arith)

-- a greater multiple is a divisor further at least
steps : (q r d : ℕ) → q < r → q * d + d ≤ r * d
steps q r d h = let e : (q + 1) * d ≤ r * d = mul-le-mul_right d (omega arith) in omega (arith, e)

-- how far a multiple is that isn't greater
upto : (n d q r : ℕ) → Rounds n d q → r ≤ q → abs_diff n (q * d) ≤ abs_diff n (r * d)
upto n d q r f h = elim (eq-or-lt_of_le h) [
  | inl same ↦ let e : r * d ≡ q * d = ap (λ k. k * d) same in omega (arith, e)
  | inr less ↦ let e = steps r q d less in let above = f.above in let below = f.below in omega (arith, e, above, below)
]

-- a greater one is further
beyond : (n d q r : ℕ) → Rounds n d q → q < r → abs_diff n (q * d) < abs_diff n (r * d)
beyond n d q r f h = let e = steps q r d h in let above = f.above in let below = f.below in omega (arith, e, above, below)

pub near_size_nearest : (n d : ℕ) → 0 < d → IsNearest n d (near_size n d)
near_size_nearest n d h =
    let q = near_size n d in
    let facts = rounds n d h in
    record {
      closest = λ r. elim (cases_lt q r) [ inl past ↦ (let e = beyond n d q r facts past in omega (arith, e)) | inr within ↦ upto n d q r facts within ];
      away = λ r near. elim (cases_lt q r) [ inl past ↦ (let e = beyond n d q r facts past in absurd (omega (arith, e, near))) | inr within ↦ within ];
    }
