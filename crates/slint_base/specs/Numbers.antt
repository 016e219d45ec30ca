-- The numbers of the language's `int`, and of its types of whole units.
use Rattle.std.specs.Prelude.{ℕ, zero, suc, ℤ, pos, negsuc, neg_ℤ, min, ◌≤◌, ◌+◌, ◌*◌, ◌/◌}
use Rattle.std.specs.Int.{abs_diff}

-- the greatest int
abbrev pub greatest_int : ℕ
greatest_int = 2147483647

-- an exact number brought between -2147483648 and 2147483647
abbrev pub to_int : ℤ → ℤ
to_int (pos n) = pos (min n greatest_int)
to_int (negsuc n) = negsuc (min n greatest_int)

-- the greatest value of a type of whole units: 9 * 10^15
abbrev pub most_units : ℕ
most_units = 9000000000000000

-- an exact number brought between -9 * 10^15 and 9 * 10^15
abbrev pub sat : ℤ → ℤ
sat (pos n) = pos (min n most_units)
sat (negsuc n) = neg_ℤ (pos (min (suc n) most_units))

-- the size of n / d, where d is positive: rounded to nearest, and up where two are as near
abbrev pub near_size : ℕ → ℕ → ℕ
near_size n d = (2 * n + d) / (2 * d)

-- n / d, where d is positive: rounded to nearest, and away from zero where two are as near
abbrev pub near_positive : ℤ → ℕ → ℤ
near_positive (pos n) d = pos (near_size n d)
near_positive (negsuc n) d = neg_ℤ (pos (near_size (suc n) d))

-- the greatest value of a number's sign, and 0 for 0
abbrev pub greatest_alike : ℤ → ℤ
greatest_alike (pos zero) = pos 0
greatest_alike (pos (suc n)) = pos most_units
greatest_alike (negsuc n) = neg_ℤ (pos most_units)

-- n / d: rounded to nearest, and away from zero where two are as near; for d = 0 it is the greatest value of n's sign
abbrev pub near : ℤ → ℤ → ℤ
near n (pos zero) = greatest_alike n
near n (pos (suc d)) = near_positive n (suc d)
near n (negsuc d) = near_positive (neg_ℤ n) (suc d)

-- q times d is as close to n as a multiple of d can be, and no greater multiple is as close
pub record IsNearest (n d q : ℕ) : Type 0 where
  pub closest : (r : ℕ) → abs_diff n (q * d) ≤ abs_diff n (r * d)
  pub away : (r : ℕ) → abs_diff n (r * d) ≤ abs_diff n (q * d) → r ≤ q
