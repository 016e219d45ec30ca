-- Lemmas on bytes that are told, over several calls.
use Rattle.std.proofs.Common.{◌≡◌, ℕ, ◌+◌, ◌≤◌, List, ◌++◌, length, take, drop, Option, Some, None, Result, Ok, Err, OnErr, sym, ap, ◌∙◌, subst}
use Rattle.std.proofs.lemmas.List.{length-take-le, take_at, drop-drop, take-append-drop}
use Rattle.std.proofs.Math.Seq.{take-add}
use Rattle.std.specs.Io.KnownBytes.{Keeps, Appends, Consumes}
use Rattle.std.proofs.KnownBytes.{Appends-trans}

-- calls that kept what is left, and then one that took some of it
pub kept-Consumes : (a b c : Option (List ℕ)) (bs : List ℕ) → Keeps a b → Consumes b c bs → Consumes a c bs
kept-Consumes None b c bs p q = tt
kept-Consumes (Some x) None c bs p q = absurd p
kept-Consumes (Some x) (Some y) None bs p q = absurd q
kept-Consumes (Some x) (Some y) (Some z) bs p q = sym p ∙ q

-- calls that kept what was taken, and then one that took more
pub kept-Appends : (a b c : Option (List ℕ)) (bs : List ℕ) → Keeps a b → Appends b c bs → Appends a c bs
kept-Appends None b c bs p q = tt
kept-Appends (Some x) None c bs p q = absurd p
kept-Appends (Some x) (Some y) None bs p q = absurd q
kept-Appends (Some x) (Some y) (Some z) bs p q = q ∙ ap (λ l. l ++ bs) p

-- the first at bytes of some were taken, and then n more of them
pub Appends-next : (a b c : Option (List ℕ)) (bytes rest : List ℕ) (at n : ℕ) → rest ≡ drop at bytes → Appends a b (take at bytes)
    → Appends b c (take n rest) → Appends a c (take (at + n) bytes)
Appends-next a b c bytes rest at n is p q =
    let more : take at bytes ++ take n rest ≡ take (at + n) bytes = ap (λ l. take at bytes ++ take n l) is ∙ sym (take-add at n bytes) in
    subst (Appends a c) more (Appends-trans a b c _ _ p q)

-- n bytes were copied to the front of a buffer, and what is left begins n bytes later
pub left_behind : (at n : ℕ) (bytes front rest : List ℕ) → front ≡ take n (drop at bytes) → n ≤ length (drop at bytes)
    → drop at bytes ≡ take n (front ++ rest) ++ drop (at + n) bytes
left_behind at n bytes front rest copied fits =
    let len : length front ≡ n = ap length copied ∙ length-take-le n (drop at bytes) fits in
    let first : take n (front ++ rest) ≡ take n (drop at bytes) = take_at front rest n len ∙ copied in
    let second : drop n (drop at bytes) ≡ drop (at + n) bytes = drop-drop n at bytes in
    sym (take-append-drop n (drop at bytes)) ∙ ap (λ l. take n (drop at bytes) ++ l) second ∙ ap (λ l. l ++ drop (at + n) bytes) (sym first)

-- what holds whatever the answer is holds at an error
pub OnErr-always : {T E P : Type 0} (r : Result T E) → P → OnErr r P
OnErr-always (Ok x) p = tt
OnErr-always (Err e) p = p
