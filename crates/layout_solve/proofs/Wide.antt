-- What 128 bits hold of sums and products of 64.
use Rattle.std.proofs.Common.{◌≡◌, ◌^◌, ℤ, pos, negsuc, neg_ℤ, ◌+ℤ◌, ◌≤ℤ◌, ap, ◌∙◌, arith, FitsSigned, to_z, of_z, w64}
use Rattle.std.specs.Int.{w128}
use Rattle.std.proofs.lemmas.Int.{ints, to_z-of_z}
use Rattle.layout_solve.specs.Items.{IsWithinLimits}

-- a number far within 128 bits
pub record IsHeld (z : ℤ) : Type 0 where
  pub low : neg_ℤ (pos (2 ^ 118)) ≤ℤ z
  pub high : z ≤ℤ pos (2 ^ 118)

pub held_fits : (z : ℤ) → IsHeld z → FitsSigned w128 z
held_fits (pos n) h = record { sfits = omega (arith, ints, h.high) }
held_fits (negsuc n) h = record { sfits = omega (arith, ints, h.low) }

pub within_fits : (z : ℤ) → IsWithinLimits z → FitsSigned w64 z
within_fits (pos n) h = record { sfits = omega (arith, ints, h.high) }
within_fits (negsuc n) h = record { sfits = omega (arith, ints, h.low) }

-- what is kept in 128 bits
abbrev pub kept : ℤ → ℤ
kept z = to_z w128 (of_z w128 z)

pub kept-is : (z y : ℤ) → z ≡ y → IsHeld y → kept z ≡ y
kept-is z y e h = ap kept e ∙ to_z-of_z w128 y (held_fits y h)

pub kept_within : (z y : ℤ) → z ≡ y → IsWithinLimits y → kept z ≡ y
kept_within z y e h = kept-is z y e (record { low = omega (arith, ints, h.low); high = omega (arith, ints, h.high) })

-- two sides of an operation
pub both : (f : ℤ → ℤ → ℤ) (a b x y : ℤ) → a ≡ x → b ≡ y → f a b ≡ f x y
both f a b x y p q = ap (λ z. f z b) p ∙ ap (f x) q

-- what is kept in 64 bits of a number within the limits
pub within-is : (z y : ℤ) → IsWithinLimits y → z ≡ to_z w64 (of_z w64 y) → z ≡ y
within-is z y h e = e ∙ to_z-of_z w64 y (within_fits y h)

-- a number of 128 bits that a cast takes to 64
pub cast-is : (m y : ℤ) → IsWithinLimits y → m ≡ y → to_z w64 (of_z w64 (kept m)) ≡ y
cast-is m y h e = ap (λ z. to_z w64 (of_z w64 z)) (kept_within m y e h) ∙ to_z-of_z w64 y (within_fits y h)

pub cast_fits : (m y : ℤ) → IsWithinLimits y → m ≡ y → FitsSigned w64 (kept m)
cast_fits m y h e = rw (kept_within m y e h) (within_fits y h)

-- a number of 64 bits that is added in 128
pub widened-is : (v s y : ℤ) → IsWithinLimits y → v ≡ to_z w64 (of_z w64 s) → s ≡ y → kept v ≡ y
widened-is v s y h e f = kept_within v y (e ∙ ap (λ z. to_z w64 (of_z w64 z)) f ∙ to_z-of_z w64 y (within_fits y h)) h

pub added-is : (old v s y : ℤ) → IsWithinLimits y → v ≡ to_z w64 (of_z w64 s) → s ≡ y → old +ℤ kept v ≡ old +ℤ y
added-is old v s y h e f = ap (λ z. old +ℤ z) (widened-is v s y h e f)

-- what 64 bits hold
pub narrow_fits : (z : ℤ) → neg_ℤ (pos (2 ^ 62)) ≤ℤ z → z ≤ℤ pos (2 ^ 62) → FitsSigned w64 z
narrow_fits (pos n) low high = record { sfits = omega (arith, ints, high) }
narrow_fits (negsuc n) low high = record { sfits = omega (arith, ints, low) }

-- what is left of a number that fits
pub left_fits : (old new : ℤ) → FitsSigned w128 old → pos 0 ≤ℤ new → new ≤ℤ old → FitsSigned w128 new
left_fits (pos m) (pos n) fits some high = record { sfits = omega (arith, ints, high, fits.sfits) }
left_fits (negsuc m) (pos n) fits some high = absurd (omega (arith, ints, high))
left_fits (pos m) (negsuc n) fits some high = absurd (omega (arith, ints, some))
left_fits (negsuc m) (negsuc n) fits some high = absurd (omega (arith, ints, some))

pub near_fits : (z : ℤ) → neg_ℤ (pos (2 ^ 125)) ≤ℤ z → z ≤ℤ pos (2 ^ 125) → FitsSigned w128 z
near_fits (pos n) low high = record { sfits = omega (arith, ints, high) }
near_fits (negsuc n) low high = record { sfits = omega (arith, ints, low) }
