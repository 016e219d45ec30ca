-- Steps along chains, taken twice.
use Rattle.std.proofs.Common.{◌≡◌, ℕ, zero, suc, List, [], ◌∷◌, ◌++◌, ◌+◌, ◌-◌, ◌<◌, ◌≤◌, length, map, Option, Some, None, refl, sym, ◌∙◌, ap, arith}
use Rattle.std.specs.Prelude.{slice_get, if◌then◌else◌, ◌⊎◌}
use Rattle.std.specs.Option.{unwrap_or}
use Rattle.std.proofs.Common.{inl, inr}
use Rattle.std.proofs.lemmas.Bool.{cases_lt, lt-ltb, le-ltb}
use Rattle.source_outline.specs.Doubling.{again, doubled}
use Rattle.source_outline.specs.Ends.{after, afters, enough, step, stepped, steps_for}

-- the members at which chains are, one member more
pub afters_more : (k : ℕ) (nexts : List (Option ℕ)) (i n : ℕ) → afters k nexts i (suc n) ≡ afters k nexts i n ++ after k nexts (i + n) ∷ []
afters_more k nexts i zero = let e : i ≡ i + 0 = omega arith in ap (λ j. after k nexts j ∷ []) e
afters_more k nexts i (suc n) =
    let e : suc i + n ≡ i + suc n = omega arith in
    ap (λ ys. after k nexts i ∷ ys) (afters_more k nexts (suc i) n ∙ ap (λ j. afters k nexts (suc i) n ++ after k nexts j ∷ []) e)

pub first_turn : (nexts : List (Option ℕ)) (n stepped : ℕ) (ends next : List ℕ) → stepped ≡ step nexts n → next ≡ ends ++ stepped ∷ [] → ends ≡ afters 1 nexts 0 n → next ≡ afters 1 nexts 0 (n + 1)
first_turn nexts n stepped ends next e added is =
    let z : 0 + n ≡ n = omega arith in
    let m : n + 1 ≡ suc n = omega arith in
    added ∙ ap (λ x. ends ++ x ∷ []) e ∙ ap (λ ys. ys ++ step nexts n ∷ []) is
    ∙ ap (λ j. afters 1 nexts 0 n ++ step nexts j ∷ []) (sym z) ∙ sym (afters_more 1 nexts 0 n) ∙ ap (λ j. afters 1 nexts 0 j) (sym m)

-- as many steps again
pub after-sum : (a b : ℕ) (nexts : List (Option ℕ)) (i : ℕ) → after b nexts (after a nexts i) ≡ after (a + b) nexts i
after-sum zero b nexts i = let e : b ≡ 0 + b = omega arith in ap (λ n. after n nexts i) e
after-sum (suc a) b nexts i = let e : suc (a + b) ≡ suc a + b = omega arith in after-sum a b nexts (step nexts i) ∙ ap (λ n. after n nexts i) e

-- a member that isn't there stays
nothing_there : {A : Type 0} (xs : List A) (i : ℕ) → length xs ≤ i → slice_get xs i ≡ None
nothing_there [] i h = refl
nothing_there (x ∷ xs) zero h = absurd (omega arith)
nothing_there (x ∷ xs) (suc i) h = nothing_there xs i (omega arith)

stays : (k : ℕ) (nexts : List (Option ℕ)) (e : ℕ) → length nexts ≤ e → after k nexts e ≡ e
stays zero nexts e h = refl
stays (suc k) nexts e h = ap (λ o. after k nexts (stepped e o)) (nothing_there nexts e h) ∙ stays k nexts e h

length-afters : (k : ℕ) (nexts : List (Option ℕ)) (i n : ℕ) → length (afters k nexts i n) ≡ n
length-afters k nexts i zero = refl
length-afters k nexts i (suc n) = ap (λ m. suc m) (length-afters k nexts (suc i) n)

afters_read : (k : ℕ) (nexts : List (Option ℕ)) (i n e : ℕ) → e < n → slice_get (afters k nexts i n) e ≡ Some (after k nexts (i + e))
afters_read k nexts i zero e h = absurd (omega arith)
afters_read k nexts i (suc n) zero h = let z : i ≡ i + 0 = omega arith in ap (λ j. Some (after k nexts j)) z
afters_read k nexts i (suc n) (suc e) h = let z : suc i + e ≡ i + suc e = omega arith in afters_read k nexts (suc i) n e (omega arith) ∙ ap (λ j. Some (after k nexts j)) z

again_within : (k : ℕ) (nexts : List (Option ℕ)) (e : ℕ) → (e < length nexts) ⊎ (length nexts ≤ e) → again (afters k nexts 0 (length nexts)) e ≡ after k nexts e
again_within k nexts e (inl h) = ap (λ o. unwrap_or o e) (afters_read k nexts 0 (length nexts) e h) ∙ (let z : 0 + e ≡ e = omega arith in ap (λ j. after k nexts j) z)
again_within k nexts e (inr h) = ap (λ o. unwrap_or o e) (nothing_there (afters k nexts 0 (length nexts)) e (let l : length (afters k nexts 0 (length nexts)) ≡ length nexts = length-afters k nexts 0 (length nexts) in omega arith)) ∙ sym (stays k nexts e h)

again_is : (k : ℕ) (nexts : List (Option ℕ)) (e : ℕ) → again (afters k nexts 0 (length nexts)) e ≡ after k nexts e
again_is k nexts e = again_within k nexts e (cases_lt e (length nexts))

map_again : (k : ℕ) (nexts : List (Option ℕ)) (i n : ℕ) → map (again (afters k nexts 0 (length nexts))) (afters k nexts i n) ≡ afters (k + k) nexts i n
map_again k nexts i zero = refl
map_again k nexts i (suc n) =
    ap (λ x. x ∷ map (again (afters k nexts 0 (length nexts))) (afters k nexts (suc i) n)) (again_is k nexts (after k nexts i) ∙ after-sum k k nexts i)
    ∙ ap (λ ys. after (k + k) nexts i ∷ ys) (map_again k nexts (suc i) n)

pub doubled_is : (k : ℕ) (nexts : List (Option ℕ)) (ends more : List ℕ) → ends ≡ afters k nexts 0 (length nexts) → more ≡ doubled ends → more ≡ afters (k + k) nexts 0 (length nexts)
doubled_is k nexts ends more is e = e ∙ ap doubled is ∙ map_again k nexts 0 (length nexts)

-- rounds
pub enough_more : (rounds n k i whole : ℕ) → i < rounds → k < n → enough (rounds - i) n k ≡ whole → enough (rounds - (i + 1)) n (k + k) ≡ whole
enough_more rounds n k i whole h l is =
    let e : rounds - i ≡ suc (rounds - (i + 1)) = omega arith in
    sym (ap (λ b. if b then enough (rounds - (i + 1)) n (k + k) else k) (lt-ltb k n l)) ∙ ap (λ r. enough r n k) (sym e) ∙ is

enough_done : (rounds n k : ℕ) → n ≤ k → enough rounds n k ≡ k
enough_done zero n k h = refl
enough_done (suc rounds) n k h = ap (λ b. if b then enough rounds n (k + k) else k) (le-ltb k n h)

pub ends_there : (rounds n k whole : ℕ) (nexts : List (Option ℕ)) (ends : List ℕ) → n ≤ k → enough rounds n k ≡ whole → ends ≡ afters k nexts 0 (length nexts) → ends ≡ afters whole nexts 0 (length nexts)
ends_there rounds n k whole nexts ends h e is = is ∙ ap (λ j. afters j nexts 0 (length nexts)) (sym (enough_done rounds n k h) ∙ e)

pub ends_last : (rounds n k i whole : ℕ) (nexts : List (Option ℕ)) (ends : List ℕ) → rounds ≤ i → enough (rounds - i) n k ≡ whole → ends ≡ afters k nexts 0 (length nexts) → ends ≡ afters whole nexts 0 (length nexts)
ends_last rounds n k i whole nexts ends h e is =
    let none : rounds - i ≡ 0 = omega arith in
    is ∙ ap (λ j. afters j nexts 0 (length nexts)) (sym (ap (λ r. enough r n k) none) ∙ e)

pub all_rounds : (n k : ℕ) → enough (n - 0) n k ≡ enough n n k
all_rounds n k = let e : n - 0 ≡ n = omega arith in ap (λ r. enough r n k) e
