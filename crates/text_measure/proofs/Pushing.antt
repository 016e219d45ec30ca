-- A pair behind all others.
use Rattle.std.proofs.Common.{◌≡◌, ℕ, suc, ◌+◌, ◌-◌, ◌<◌, ◌≤◌, Some, List, [], ◌∷◌, ◌++◌, length, get_or, sym, ap, subst, ◌∙◌, ⊎_elim, length-append, refl, arith}
use Rattle.std.proofs.Math.ListN.{get_or-append}
use Rattle.std.proofs.Math.Seq.{get_or-append_seam}
use Rattle.std.specs.Prelude.{slice_get, nat_lt, nat_le}
use Rattle.std.proofs.lemmas.Bool.{cases_lt}
use Rattle.std.proofs.lemmas.Bool.Decides.{nat_tests}
use Rattle.std.proofs.lemmas.Option.{get_or_from_slice_get, slice_get_within}
use Rattle.text_measure.specs.Tables.{Table, pairs_of, least_from, IsRising}
use Rattle.text_measure.proofs.Lookups.{rising-le}

pub pairs_of-append : (cs ws : List ℕ) (c w : ℕ) → length cs ≡ length ws → pairs_of (cs ++ c ∷ []) (ws ++ w ∷ []) ≡ pairs_of cs ws ++ (c, w) ∷ []
pairs_of-append [] [] c w long = refl
pairs_of-append [] (v ∷ ws) c w long = absurd (omega (arith, long))
pairs_of-append (b ∷ cs) [] c w long = absurd (omega (arith, long))
pairs_of-append (b ∷ cs) (v ∷ ws) c w long = ap (λ ps. (b, v) ∷ ps) (pairs_of-append cs ws c w (omega (arith, long)))

-- the least character that may follow comes from the last one
least-last : (cs ws : List ℕ) (n : ℕ) → length cs ≡ length ws → 0 < length cs → least_from n (pairs_of cs ws) ≡ get_or cs (length cs - 1) 0 + 1
least-last [] ws n long some = absurd (omega (arith, some))
least-last (c ∷ cs) [] n long some = absurd (omega (arith, long))
least-last (c ∷ []) (w ∷ []) n long some = refl
least-last (c ∷ []) (w ∷ v ∷ ws) n long some = absurd (omega (arith, long))
least-last (c ∷ d ∷ cs) (w ∷ []) n long some = absurd (omega (arith, long))
least-last (c ∷ d ∷ cs) (w ∷ v ∷ ws) n long some =
    let back : suc (length cs) - 1 ≡ length cs = omega arith in
    let at : suc (suc (length cs)) - 1 ≡ suc (length cs) = omega arith in
    least-last (d ∷ cs) (v ∷ ws) (c + 1) (omega (arith, long)) (omega arith)
    ∙ ap (λ k. get_or (d ∷ cs) k 0 + 1) back
    ∙ sym (ap (λ k. get_or (c ∷ d ∷ cs) k 0 + 1) at)

below_next : (a b : ℕ) → nat_lt a b ≡ nat_le (a + 1) b
below_next a b = grind (arith, nat_tests)

-- what the last character tells
pub above-last : (table : Table) (s cs ws : List ℕ) (last ch : ℕ) → s ≡ cs → pairs_of cs ws ≡ table.pairs → length cs ≡ length ws → slice_get s (length s - 1) ≡ Some last
    → nat_lt last ch ≡ nat_le (least_from 0 table.pairs) ch
above-last table s cs ws last ch same view long e =
    let P : List ℕ → Type 0 = λ xs. slice_get xs (length xs - 1) ≡ Some last in
    let f = subst P same e in
    let some = slice_get_within cs (length cs - 1) last f in
    below_next last ch
    ∙ ap (λ n. nat_le n ch) (ap (λ k. k + 1) (sym (get_or_from_slice_get cs (length cs - 1) last 0 f)) ∙ sym (least-last cs ws 0 long (omega (arith, some))) ∙ ap (least_from 0) view)

-- a rising list goes on above its last character
pub rising-append : (cs ws : List ℕ) (c : ℕ) → length cs ≡ length ws → IsRising cs → least_from 0 (pairs_of cs ws) ≤ c → IsRising (cs ++ c ∷ [])
rising-append cs ws c long r above i j lt below =
    let all : length (cs ++ c ∷ []) ≡ length cs + 1 = length-append cs (c ∷ []) in
    let first : i < length cs = omega (arith, all) in
    let left = get_or-append cs (c ∷ []) 0 i first in
    ⊎_elim
    (λ inner. let right = get_or-append cs (c ∷ []) 0 j inner in let h = r i j lt inner in omega (arith, left, right, h))
    (λ outer.
    let at : j ≡ length cs = omega (arith, all) in
    let right : get_or (cs ++ c ∷ []) j 0 ≡ c = ap (λ n. get_or (cs ++ c ∷ []) n 0) at ∙ get_or-append_seam cs c [] 0 in
    let last = least-last cs ws 0 long (omega (arith, first)) in
    let most = rising-le cs r i (length cs - 1) (omega (arith, first)) (omega (arith, first)) in
    omega (arith, left, right, last, most))
    (cases_lt j (length cs))

-- the same of the table
pub pushed : (old : Table) (line default : ℕ) (cs ws new_cs new_ws : List ℕ) (c w : ℕ) → ◌≡◌ {A = Table} (record { line = line; default = default; pairs = pairs_of cs ws }) old → length cs ≡ length ws
    → new_cs ≡ cs ++ c ∷ [] → new_ws ≡ ws ++ w ∷ []
    → ◌≡◌ {A = Table} (record { line = line; default = default; pairs = pairs_of new_cs new_ws }) (record old { pairs = old.pairs ++ (c, w) ∷ [] })
pushed old line default cs ws new_cs new_ws c w view long e f =
    let made : List (ℕ × ℕ) → Table = λ ps. record { line = line; default = default; pairs = ps } in
    let more : Table → Table = λ t. record t { pairs = t.pairs ++ (c, w) ∷ [] } in
    ap made (ap (λ xs. pairs_of xs new_ws) e ∙ ap (λ ys. pairs_of (cs ++ c ∷ []) ys) f ∙ pairs_of-append cs ws c w long) ∙ ap more view

pub rises : (old : Table) (cs ws new : List ℕ) (c : ℕ) → pairs_of cs ws ≡ old.pairs → length cs ≡ length ws → IsRising cs → least_from 0 old.pairs ≤ c → new ≡ cs ++ c ∷ [] → IsRising new
rises old cs ws new c view long r above e =
    let P : List (ℕ × ℕ) → Type 0 = λ ps. least_from 0 ps ≤ c in
    subst IsRising (sym e) (rising-append cs ws c long r (subst P (sym view) above))
