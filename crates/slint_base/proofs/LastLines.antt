-- How long the last line of a text is.
use Rattle.std.proofs.Common.{◌≡◌, ◌==◌, ℕ, ◌-◌, ◌≤◌, List, length, take, min, not, ap, ◌∙◌, arith}
use Rattle.std.specs.List.{after_last, suffix_len}
use Rattle.std.proofs.lemmas.List.{length-drop, take_min}
use Rattle.std.proofs.lemmas.List.Sums.{suffix_len-le-length}

-- what stands behind the last line feed is all that is none, counted from the end
pub length-after_last : (xs : List ℕ) → length (after_last (λ b. b == 10) xs) ≡ suffix_len (λ b. not (b == 10)) xs
length-after_last xs =
    let within = suffix_len-le-length (λ (b : ℕ). not (b == 10)) xs in
    length-drop (length xs - suffix_len (λ (b : ℕ). not (b == 10)) xs) xs ∙ omega (arith, within)

pub suffix_len_within : (xs : List ℕ) → suffix_len (λ b. not (b == 10)) xs ≤ length xs
suffix_len_within xs = suffix_len-le-length (λ b. not (b == 10)) xs

-- the front of a text, cut at its end where it is shorter
pub take_within : (at : ℕ) (xs : List ℕ) → take (min (length xs) at) xs ≡ take at xs
take_within at xs = ap (λ n. take n xs) (omega arith) ∙ take_min at xs
