-- The starts of lines, a byte after the other.
use Rattle.std.proofs.Common.{◌≡◌, ◌==◌, ℕ, ◌<◌, ◌≤◌, ◌+◌, suc, Bool, true, false, List, [], ◌∷◌, ◌++◌, length, take, drop, get_or, sym, ap, ◌∙◌, arith, add-zero, add-one, drop-cons, le-leb}
use Rattle.std.specs.Prelude.{if◌then◌else◌}
use Rattle.std.proofs.lemmas.Bool.{lt-leb}
use Rattle.std.proofs.lemmas.List.{length-take-le, take_more}
use Rattle.source_lines.specs.Starts.{starts_behind, last_upto, line_starts}

-- the start of a line behind a byte
abbrev start_at : Bool → ℕ → List ℕ
start_at feed at = if feed then suc at ∷ [] else []

onto-push : (feed : Bool) (start : ℕ) (more front back : List ℕ) → more ≡ front ++ back → (if feed then start ∷ more else more) ≡ (if feed then start ∷ front else front) ++ back
onto-push true start more front back e = ap (λ v. start ∷ v) e
onto-push false start more front back e = e

starts_behind-push : (at : ℕ) (bytes : List ℕ) (b : ℕ) → starts_behind at (bytes ++ b ∷ []) ≡ starts_behind at bytes ++ start_at (b == 10) (at + length bytes)
starts_behind-push at [] b = ap (start_at (b == 10)) (sym (add-zero at))
starts_behind-push at (x ∷ bytes) b =
    let same : suc at + length bytes ≡ at + suc (length bytes) = omega arith in
    onto-push (x == 10) (suc at) (starts_behind (suc at) (bytes ++ b ∷ [])) (starts_behind (suc at) bytes) (start_at (b == 10) (at + suc (length bytes)))
    (starts_behind-push (suc at) bytes b ∙ ap (λ n. starts_behind (suc at) bytes ++ start_at (b == 10) n) same)

line_starts-push : (bytes : List ℕ) (b : ℕ) → line_starts (bytes ++ b ∷ []) ≡ line_starts bytes ++ start_at (b == 10) (length bytes)
line_starts-push bytes b =
    let same : 0 + length bytes ≡ length bytes = omega arith in
    ap (λ v. 0 ∷ v) (starts_behind-push 0 bytes b ∙ ap (λ n. starts_behind 0 bytes ++ start_at (b == 10) n) same)

-- the starts with one more byte, along a file
pub starts-step : (bytes : List ℕ) (at byte : ℕ) (old new : List ℕ) → at < length bytes → byte ≡ get_or bytes at 0 → old ≡ line_starts (take at bytes) → new ≡ old ++ (if byte == 10 then (at + 1) ∷ [] else [])
    → new ≡ line_starts (take (at + 1) bytes)
starts-step bytes at byte old new within is so_far pushed =
    let front = take at bytes in
    let len = length-take-le at bytes (omega arith) in
    let behind : (if byte == 10 then (at + 1) ∷ [] else []) ≡ start_at (byte == 10) (length front) = ap (λ n. if byte == 10 then n ∷ [] else []) (add-one at) ∙ ap (start_at (byte == 10)) (sym len) in
    pushed
    ∙ (ap (λ starts. starts ++ (if byte == 10 then (at + 1) ∷ [] else [])) so_far
    ∙ (ap (λ back. line_starts front ++ back) behind
    ∙ (sym (line_starts-push front byte) ∙ ap line_starts (ap (λ b. front ++ b ∷ []) is ∙ sym (take_more bytes at 0 within)))))

-- the last start, along the starts
cut_at : (starts : List ℕ) (i : ℕ) → i < length starts → drop i starts ≡ get_or starts i 0 ∷ drop (suc i) starts
cut_at starts i within = drop-cons starts i 0 within

pub last_upto_step : (found i at : ℕ) (starts : List ℕ) → i < length starts → get_or starts i 0 ≤ at → last_upto found (drop i starts) at ≡ last_upto (get_or starts i 0) (drop (i + 1) starts) at
last_upto_step found i at starts within near =
    ap (λ s. last_upto found s at) (cut_at starts i within)
    ∙ (ap (λ t. if t then last_upto (get_or starts i 0) (drop (suc i) starts) at else found) (le-leb (get_or starts i 0) at near)
    ∙ ap (λ n. last_upto (get_or starts i 0) (drop n starts) at) (sym (add-one i)))

pub last_upto_stop : (found i at : ℕ) (starts : List ℕ) → i < length starts → at < get_or starts i 0 → last_upto found (drop i starts) at ≡ found
last_upto_stop found i at starts within far =
    ap (λ s. last_upto found s at) (cut_at starts i within)
    ∙ ap (λ t. if t then last_upto (get_or starts i 0) (drop (suc i) starts) at else found) (lt-leb (get_or starts i 0) at far)
