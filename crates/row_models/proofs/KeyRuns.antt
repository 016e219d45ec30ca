-- Keys that follow each other, and keys among others.
use Rattle.std.proofs.Common.{◌≡◌, ℕ, zero, suc, ◌+◌, ◌-◌, ◌<◌, ◌≤◌, ◌==◌, ◌||◌, Bool, true, false, not, cond, List, [], ◌∷◌, ◌++◌, length, get_or, take, Ok, Err, sym, ap, subst, ◌∙◌, ⊎_elim, refl, arith}
use Rattle.std.specs.List.Sorted.{IsBinarySearchResult, IsSorted, IsPermutation}
use Rattle.std.specs.Ordering.{nat_cmp}
use Rattle.std.proofs.lemmas.Bool.{cases_lt, eq-eqb, ne_eqb}
use Rattle.std.proofs.lemmas.List.{append-nil}
use Rattle.std.proofs.lemmas.List.Elements.{filter_more}
use Rattle.std.proofs.lemmas.List.Folds.{list_any_at}
use Rattle.std.proofs.lemmas.List.Sorted.{searched, IsNonDecreasingBy-from_sort, list_any-IsPermutation}
use Rattle.row_models.specs.Rows.{keys_from, is_among, keys_gone}

-- ---- keys in a row

keys_from-suc : (key count : ℕ) → keys_from key (suc count) ≡ keys_from key count ++ (key + count) ∷ []
keys_from-suc key zero = ap (λ k. k ∷ []) (let last : key ≡ key + 0 = omega arith in last)
keys_from-suc key (suc count) =
    ap (λ ks. key ∷ ks) (keys_from-suc (key + 1) count)
    ∙ ap (λ k. key ∷ (keys_from (key + 1) count ++ k ∷ [])) (let last : key + 1 + count ≡ key + suc count = omega arith in last)

pub keys_from-more : (first key : ℕ) (keys new : List ℕ) → first ≤ key → keys ≡ keys_from first (key - first) → new ≡ keys ++ key ∷ [] → new ≡ keys_from first (key + 1 - first)
keys_from-more first key keys new le e f =
    f
    ∙ ap (λ ks. ks ++ key ∷ []) e
    ∙ ap (λ k. keys_from first (key - first) ++ k ∷ []) (let at : key ≡ first + (key - first) = omega (arith, le) in at)
    ∙ sym (keys_from-suc first (key - first))
    ∙ ap (keys_from first) (let more : suc (key - first) ≡ key + 1 - first = omega (arith, le) in more)

pub length-keys_from : (key count : ℕ) → length (keys_from key count) ≡ count
length-keys_from key zero = refl
length-keys_from key (suc count) = ap suc (length-keys_from (key + 1) count)

-- ---- a key among sorted ones

among-none : (keys : List ℕ) (key : ℕ) → ((i : ℕ) → i < length keys → get_or keys i 0 ≡ key → ⊥) → is_among keys key ≡ false
among-none [] key none = refl
among-none (k ∷ ks) key none =
    ap (λ b. b || is_among ks key) (ne_eqb k key (none zero (omega arith)))
    ∙ among-none ks key (λ i below. none (suc i) (omega arith))

pub found_ok : (keys : List ℕ) (key i : ℕ) → IsSorted nat_cmp keys → IsBinarySearchResult (λ k. nat_cmp k key) keys (Ok i) → true ≡ is_among keys key
found_ok keys key i sorted e =
    let up = IsNonDecreasingBy-from_sort (λ k. k) keys sorted in
    let found = searched keys key (Ok i) e (λ i j le below. up i j 0 le below) in
    sym (list_any_at (λ k. k == key) keys i 0 found.0 (eq-eqb (get_or keys i 0) key found.1))

pub found_err : (keys : List ℕ) (key i : ℕ) → IsSorted nat_cmp keys → IsBinarySearchResult (λ k. nat_cmp k key) keys (Err i) → false ≡ is_among keys key
found_err keys key i sorted e =
    let up = IsNonDecreasingBy-from_sort (λ k. k) keys sorted in
    let found = searched keys key (Err i) e (λ i j le below. up i j 0 le below) in
    sym (among-none keys key (λ k below same.
    ⊎_elim (λ lt. absurd (omega (arith, found.1 k lt, same))) (λ ge. absurd (omega (arith, found.2 k ge below, same))) (cases_lt k i)))

-- ---- keys that are gone

-- the test of a key among sorted ones is that among those before the sort
kept_test : (now sorted : List ℕ) (key : ℕ) (b : Bool) → IsPermutation now sorted → b ≡ is_among sorted key → not (is_among now key) ≡ not b
kept_test now sorted key b moved e = ap not (list_any-IsPermutation (λ k. k == key) now sorted moved ∙ sym e)

gone-step : (now old : List ℕ) (i : ℕ) → i < length old
    → keys_gone now (take (i + 1) old) ≡ keys_gone now (take i old) ++ cond (not (is_among now (get_or old i 0))) (get_or old i 0 ∷ []) []
gone-step now old i below = filter_more (λ key. not (is_among now key)) old i 0 below

pub gone-more : (now sorted old gone new : List ℕ) (i : ℕ) (b : Bool) → i < length old → IsPermutation now sorted → b ≡ is_among sorted (get_or old i 0) → b ≡ false
    → gone ≡ keys_gone now (take i old) → new ≡ gone ++ get_or old i 0 ∷ [] → new ≡ keys_gone now (take (i + 1) old)
gone-more now sorted old gone new i b below moved e f g h =
    h
    ∙ ap (λ ks. ks ++ get_or old i 0 ∷ []) g
    ∙ ap (λ t. keys_gone now (take i old) ++ cond t (get_or old i 0 ∷ []) []) (sym (kept_test now sorted (get_or old i 0) b moved e ∙ ap not f))
    ∙ sym (gone-step now old i below)

pub gone-same : (now sorted old gone : List ℕ) (i : ℕ) (b : Bool) → i < length old → IsPermutation now sorted → b ≡ is_among sorted (get_or old i 0) → b ≡ true
    → gone ≡ keys_gone now (take i old) → gone ≡ keys_gone now (take (i + 1) old)
gone-same now sorted old gone i b below moved e f g =
    g
    ∙ sym (append-nil (keys_gone now (take i old)))
    ∙ ap (λ t. keys_gone now (take i old) ++ cond t (get_or old i 0 ∷ []) []) (sym (kept_test now sorted (get_or old i 0) b moved e ∙ ap not f))
    ∙ sym (gone-step now old i below)

-- the keys that are looked through are those now in another order
pub moved_keys : (now copied sorted seen : List ℕ) → copied ≡ now → IsPermutation copied sorted → seen ≡ sorted → IsPermutation now seen
moved_keys now copied sorted seen e moved f = subst (λ ks. IsPermutation now ks) (sym f) (subst (λ ks. IsPermutation ks sorted) e moved)
