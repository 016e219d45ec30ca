-- A character's width in a table.
use Rattle.std.proofs.Common.{◌≡◌, ℕ, zero, suc, ◌<◌, ◌≤◌, cond, List, [], ◌∷◌, length, get_or, Ok, Err, sym, ap, ◌∙◌, ⊎_elim, refl, arith}
use Rattle.std.proofs.lemmas.Bool.{cases_lt, eq-eqb, ne_eqb}
use Rattle.std.specs.Ordering.{nat_cmp}
use Rattle.std.specs.List.Sorted.{IsBinarySearchResult}
use Rattle.std.proofs.lemmas.List.Sorted.{searched}
use Rattle.text_measure.specs.Tables.{pairs_of, advance_in, IsRising}

-- the width of the first character, or of the others
pub advance-first : (c w d ch : ℕ) (cs ws : List ℕ) → c ≡ ch → w ≡ advance_in (pairs_of (c ∷ cs) (w ∷ ws)) d ch
advance-first c w d ch cs ws e = ap (λ b. cond b w (advance_in (pairs_of cs ws) d ch)) (sym (eq-eqb c ch e))

advance-other : (c w d ch : ℕ) (cs ws : List ℕ) → (c ≡ ch → ⊥) → advance_in (pairs_of cs ws) d ch ≡ advance_in (pairs_of (c ∷ cs) (w ∷ ws)) d ch
advance-other c w d ch cs ws ne = ap (λ b. cond b w (advance_in (pairs_of cs ws) d ch)) (sym (ne_eqb c ch ne))

pub rising-tail : (c : ℕ) (cs : List ℕ) → IsRising (c ∷ cs) → IsRising cs
rising-tail c cs r i j lt below = r (suc i) (suc j) (omega arith) (omega arith)

-- a listed character has the width beside it
pub advance-found : (cs ws : List ℕ) (d ch i : ℕ) → length cs ≡ length ws → IsRising cs → i < length cs → get_or cs i 0 ≡ ch → get_or ws i 0 ≡ advance_in (pairs_of cs ws) d ch
advance-found [] ws d ch i long r below e = absurd (omega arith)
advance-found (c ∷ cs) [] d ch i long r below e = absurd (omega arith)
advance-found (c ∷ cs) (w ∷ ws) d ch zero long r below e = advance-first c w d ch cs ws e
advance-found (c ∷ cs) (w ∷ ws) d ch (suc i) long r below e =
    let above : c < get_or cs i 0 = r zero (suc i) (omega arith) below in
    advance-found cs ws d ch i (omega arith) (rising-tail c cs r) (omega arith) e ∙ advance-other c w d ch cs ws (λ same. absurd (omega (arith, above, e, same)))

-- one that isn't listed has the width for all others
pub advance-missing : (cs ws : List ℕ) (d ch : ℕ) → ((k : ℕ) → k < length cs → get_or cs k 0 ≡ ch → ⊥) → d ≡ advance_in (pairs_of cs ws) d ch
advance-missing [] ws d ch none = refl
advance-missing (c ∷ cs) [] d ch none = refl
advance-missing (c ∷ cs) (w ∷ ws) d ch none =
    advance-missing cs ws d ch (λ k below. none (suc k) (omega arith)) ∙ advance-other c w d ch cs ws (none zero (omega arith))

-- a rising list doesn't fall
pub rising-le : (cs : List ℕ) → IsRising cs → (i j : ℕ) → i ≤ j → j < length cs → get_or cs i 0 ≤ get_or cs j 0
rising-le cs r i j le below = ⊎_elim (λ lt. let h = r i j lt below in omega arith) (λ ge. let same : j ≡ i = omega arith in rw same (omega arith)) (cases_lt i j)

-- what a search by halving finds
pub searched_ok : (cs ws : List ℕ) (d ch i : ℕ) → length cs ≡ length ws → IsRising cs → IsBinarySearchResult (λ y. nat_cmp y ch) cs (Ok i) → get_or ws i 0 ≡ advance_in (pairs_of cs ws) d ch
searched_ok cs ws d ch i long r e = let found = searched cs ch (Ok i) e (rising-le cs r) in advance-found cs ws d ch i long r found.0 found.1

pub searched_err : (cs ws : List ℕ) (d ch i : ℕ) → IsRising cs → IsBinarySearchResult (λ y. nat_cmp y ch) cs (Err i) → d ≡ advance_in (pairs_of cs ws) d ch
searched_err cs ws d ch i r e =
    let found = searched cs ch (Err i) e (rising-le cs r) in
    advance-missing cs ws d ch (λ k below same.
    ⊎_elim (λ lt. absurd (omega (arith, found.1 k lt, same))) (λ ge. absurd (omega (arith, found.2 k ge below, same))) (cases_lt k i))
