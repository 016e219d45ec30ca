-- The folder of a name: what it has up to its last slash.
use Rattle.std.proofs.Common.{◌≡◌, ◌≢◌, ℕ, ◌<◌, ◌≤◌, ◌-◌, ◌+◌, Bool, true, false, List, [], length, take, get_or, ap, ◌∙◌, arith, eq-eqb}
use Rattle.std.specs.Prelude.{not}
use Rattle.std.specs.List.{after_last, suffix_len}
use Rattle.std.proofs.lemmas.Bool.{ne_eqb}
use Rattle.std.proofs.lemmas.List.{length-drop}
use Rattle.std.proofs.lemmas.List.Sums.{suffix_len_is}
use Rattle.import_paths.specs.Paths.{is_slash, folder_of}

abbrev is_other : ℕ → Bool
is_other b = not (is_slash b)

-- behind so many bytes no slash stands, and the last of them is one
folder_of-cut : (name : List ℕ) (count : ℕ) → count ≤ length name → ((k : ℕ) → count ≤ k → k < length name → is_other (get_or name k 0) ≡ true) → (0 < count → is_other (get_or name (count - 1) 0) ≡ false)
    → take count name ≡ folder_of name
folder_of-cut name count within behind last =
    let other = suffix_len_is is_other name count 0 within behind last in
    let rest = length-drop (length name - suffix_len is_other name) name in
    let same : count ≡ length name - length (after_last is_slash name) = omega (arith, other, rest) in
    ap (λ n. take n name) same

-- where the last slash stands at a place
pub folder_of-slash : (name : List ℕ) (slash : ℕ) → slash < length name → get_or name slash 0 ≡ 47 → ((k : ℕ) → slash < k → k < length name → get_or name k 0 ≢ 47) → take (slash + 1) name ≡ folder_of name
folder_of-slash name slash within is behind =
    let at : slash + 1 - 1 ≡ slash = omega arith in
    folder_of-cut name (slash + 1) (omega arith) (λ k over under. ap not (ne_eqb (get_or name k 0) 47 (behind k (omega arith) under)))
    (λ some. ap (λ n. is_other (get_or name n 0)) at ∙ ap not (eq-eqb (get_or name slash 0) 47 is))

-- a name without a slash has none
pub folder_of-none : (name : List ℕ) → ((k : ℕ) → k < length name → get_or name k 0 ≢ 47) → [] ≡ folder_of name
folder_of-none name none =
    folder_of-cut name 0 (omega arith) (λ k over under. ap not (ne_eqb (get_or name k 0) 47 (none k under))) (λ some. absurd (omega arith))
