-- The line and the column that the starts of lines tell.
use Rattle.std.proofs.Common.{◌≡◌, ◌==◌, ℕ, ◌<◌, ◌≤◌, ◌+◌, ◌-◌, min, zero, suc, Bool, true, false, List, [], ◌∷◌, ◌++◌, length, take, get_or, cond, refl, sym, ap, ◌∙◌, subst, arith, le-leb}
use Rattle.std.specs.Prelude.{if◌then◌else◌, nat_le, not}
use Rattle.std.specs.List.{after_last, count_by, suffix_len}
use Rattle.std.proofs.lemmas.Bool.{lt-leb}
use Rattle.std.proofs.lemmas.List.{length-drop}
use Rattle.std.proofs.lemmas.List.Sums.{sum_by-cons, suffix_len-take_yes, suffix_len-take_no, suffix_len-le-length}
use Rattle.std.proofs.Math.Seq.{take-suc}
use Rattle.slint_base.specs.declared.places.Place.{Place}
use Rattle.slint_base.specs.Places.{place_of}
use Rattle.source_lines.specs.Starts.{starts_behind, line_starts, last_upto, most_column, place_by}

abbrev is_feed : ℕ → Bool
is_feed b = b == 10

abbrev is_other : ℕ → Bool
is_other b = not (b == 10)

-- how many of the starts are no greater than a place
abbrev upto : ℕ → List ℕ → ℕ
upto place starts = count_by (λ start. nat_le start place) starts

-- ---- lines

upto-cons : (place start : ℕ) (starts : List ℕ) → upto place (start ∷ starts) ≡ cond (nat_le start place) 1 0 + upto place starts
upto-cons place start starts = sum_by-cons (λ s. cond (nat_le s place) 1 0) start starts

feeds-cons : (b : ℕ) (bytes : List ℕ) → count_by is_feed (b ∷ bytes) ≡ cond (is_feed b) 1 0 + count_by is_feed bytes
feeds-cons b bytes = sum_by-cons (λ x. cond (is_feed x) 1 0) b bytes

-- starts behind a place aren't counted
none-behind : (feed : Bool) (at place : ℕ) (starts : List ℕ) → place ≤ at → upto place starts ≡ 0 → upto place (if feed then suc at ∷ starts else starts) ≡ 0
none-behind true at place starts over e =
    let test : nat_le (suc at) place ≡ false = lt-leb (suc at) place (omega arith) in
    upto-cons place (suc at) starts ∙ (ap (λ t. cond t 1 0 + upto place starts) test ∙ omega (arith, e))
none-behind false at place starts over e = e

upto-behind : (at place : ℕ) (bytes : List ℕ) → place ≤ at → upto place (starts_behind at bytes) ≡ 0
upto-behind at place [] over = refl
upto-behind at place (b ∷ bytes) over = none-behind (b == 10) at place (starts_behind (suc at) bytes) over (upto-behind (suc at) place bytes (omega arith))

-- a start that is counted
upto-more : (feed : Bool) (at place lines : ℕ) (starts : List ℕ) → suc at ≤ place → upto place starts ≡ lines → upto place (if feed then suc at ∷ starts else starts) ≡ cond feed 1 0 + lines
upto-more true at place lines starts within e =
    upto-cons place (suc at) starts ∙ (ap (λ t. cond t 1 0 + upto place starts) (le-leb (suc at) place within) ∙ ap (λ n. 1 + n) e)
upto-more false at place lines starts within e = e ∙ omega arith

-- the starts up to a place are as many as the line feeds before it
upto-take : (at count : ℕ) (bytes : List ℕ) → upto (at + count) (starts_behind at bytes) ≡ count_by is_feed (take count bytes)
upto-take at zero bytes = upto-behind at (at + 0) bytes (omega arith)
upto-take at (suc count) [] = refl
upto-take at (suc count) (b ∷ bytes) =
    let same : at + suc count ≡ suc at + count = omega arith in
    upto-more (b == 10) at (at + suc count) (count_by is_feed (take count bytes)) (starts_behind (suc at) bytes) (omega arith)
    (ap (λ place. upto place (starts_behind (suc at) bytes)) same ∙ upto-take (suc at) count bytes)
    ∙ sym (feeds-cons b (take count bytes))

line_same : (bytes : List ℕ) (at : ℕ) → upto at (line_starts bytes) ≡ count_by is_feed (take at bytes) + 1
line_same bytes at =
    let same : at ≡ 0 + at = omega arith in
    let lines : upto at (starts_behind 0 bytes) ≡ count_by is_feed (take at bytes) = ap (λ place. upto place (starts_behind 0 bytes)) same ∙ upto-take 0 at bytes in
    upto-cons at 0 (starts_behind 0 bytes) ∙ (ap (λ t. cond t 1 0 + upto at (starts_behind 0 bytes)) (le-leb 0 at (omega arith)) ∙ omega (arith, lines))

-- ---- columns

-- how many bytes stand behind the last line feed, where so many stood before these bytes
abbrev since : ℕ → List ℕ → ℕ
since before [] = before
since before (b ∷ bytes) = if b == 10 then since 0 bytes else since (suc before) bytes

either_push : (feed last : Bool) (at_feed at_other front_feed front_other : ℕ) → at_feed ≡ (if last then 0 else suc front_feed) → at_other ≡ (if last then 0 else suc front_other)
    → (if feed then at_feed else at_other) ≡ (if last then 0 else suc (if feed then front_feed else front_other))
either_push true last a b f g e h = e
either_push false last a b f g e h = h

since-push : (before : ℕ) (bytes : List ℕ) (b : ℕ) → since before (bytes ++ b ∷ []) ≡ (if b == 10 then 0 else suc (since before bytes))
since-push before [] b = refl
since-push before (x ∷ bytes) b =
    either_push (x == 10) (b == 10) (since 0 (bytes ++ b ∷ [])) (since (suc before) (bytes ++ b ∷ [])) (since 0 bytes) (since (suc before) bytes) (since-push 0 bytes b) (since-push (suc before) bytes b)

-- starts behind a place aren't the last before it
last-none : (feed : Bool) (found at place : ℕ) (starts : List ℕ) → place ≤ at → last_upto found starts place ≡ found → last_upto found (if feed then suc at ∷ starts else starts) place ≡ found
last-none true found at place starts over e = ap (λ t. if t then last_upto (suc at) starts place else found) (lt-leb (suc at) place (omega arith))
last-none false found at place starts over e = e

last-behind : (found at place : ℕ) (bytes : List ℕ) → place ≤ at → last_upto found (starts_behind at bytes) place ≡ found
last-behind found at place [] over = refl
last-behind found at place (b ∷ bytes) over = last-none (b == 10) found at place (starts_behind (suc at) bytes) over (last-behind found (suc at) place bytes (omega arith))

-- one byte more
last-more : (feed : Bool) (found at place before : ℕ) (starts rest : List ℕ) → suc at ≤ place → last_upto (suc at) starts place + since 0 rest ≡ place → last_upto found starts place + since (suc before) rest ≡ place
    → last_upto found (if feed then suc at ∷ starts else starts) place + (if feed then since 0 rest else since (suc before) rest) ≡ place
last-more true found at place before starts rest within e h = ap (λ t. (if t then last_upto (suc at) starts place else found) + since 0 rest) (le-leb (suc at) place within) ∙ e
last-more false found at place before starts rest within e h = h

-- the last start that isn't behind a place, and the bytes since it
last-since : (found at before count : ℕ) (bytes : List ℕ) → found + before ≡ at → count ≤ length bytes → last_upto found (starts_behind at bytes) (at + count) + since before (take count bytes) ≡ at + count
last-since found at before zero bytes from within = let e = last-behind found at (at + 0) bytes (omega arith) in omega (arith, e, from)
last-since found at before (suc count) [] from within = absurd (omega arith)
last-since found at before (suc count) (b ∷ bytes) from within =
    let same : suc at + count ≡ at + suc count = omega arith in
    let starts = starts_behind (suc at) bytes in
    let rest = take count bytes in
    let P : ℕ → Type 0 = λ place. last_upto (suc at) starts place + since 0 rest ≡ place in
    let Q : ℕ → Type 0 = λ place. last_upto found starts place + since (suc before) rest ≡ place in
    last-more (b == 10) found at (at + suc count) before starts rest (omega arith)
    (subst P same (last-since (suc at) (suc at) 0 count bytes (omega arith) (omega arith)))
    (subst Q same (last-since found (suc at) (suc before) count bytes (omega arith) (omega arith)))

-- the bytes since the last line feed, counted from the end
since-more : (feed : Bool) (bytes : List ℕ) (count : ℕ) → suc count ≤ length bytes → (get_or bytes count 0 == 10) ≡ feed → since 0 (take count bytes) ≡ suffix_len is_other (take count bytes)
    → (if feed then 0 else suc (since 0 (take count bytes))) ≡ suffix_len is_other (take (suc count) bytes)
since-more true bytes count within is e =
    let at : suc count - 1 ≡ count = omega arith in
    sym (suffix_len-take_no is_other bytes (suc count) 0 (omega arith) within (ap (λ n. is_other (get_or bytes n 0)) at ∙ ap not is))
since-more false bytes count within is e =
    let at : suc count - 1 ≡ count = omega arith in
    let yes = suffix_len-take_yes is_other bytes (suc count) 0 (omega arith) within (ap (λ n. is_other (get_or bytes n 0)) at ∙ ap not is) in
    let back : suffix_len is_other (take (suc count - 1) bytes) ≡ suffix_len is_other (take count bytes) = ap (λ n. suffix_len is_other (take n bytes)) at in
    omega (arith, yes, back, e)

since-suffix : (bytes : List ℕ) (count : ℕ) → count ≤ length bytes → since 0 (take count bytes) ≡ suffix_len is_other (take count bytes)
since-suffix bytes zero within = refl
since-suffix bytes (suc count) within =
    ap (since 0) (take-suc bytes count 0 (omega arith))
    ∙ (since-push 0 (take count bytes) (get_or bytes count 0) ∙ since-more (get_or bytes count 0 == 10) bytes count within refl (since-suffix bytes count (omega arith)))

length-after_last : (bytes : List ℕ) → length (after_last is_feed bytes) ≡ suffix_len is_other bytes
length-after_last bytes =
    let rest = length-drop (length bytes - suffix_len is_other bytes) bytes in
    let within = suffix_len-le-length is_other bytes in
    omega (arith, rest, within)

column_same : (bytes : List ℕ) (at : ℕ) → length bytes < most_column → at ≤ length bytes → min (at - last_upto 0 (line_starts bytes) at + 1) most_column ≡ length (after_last is_feed (take at bytes)) + 1
column_same bytes at short within =
    let starts = starts_behind 0 bytes in
    let same : 0 + at ≡ at = omega arith in
    let P : ℕ → Type 0 = λ place. last_upto 0 starts place + since 0 (take at bytes) ≡ place in
    let sum = subst P same (last-since 0 0 0 at bytes (omega arith) within) in
    let first : last_upto 0 (line_starts bytes) at ≡ last_upto 0 starts at = ap (λ t. if t then last_upto 0 starts at else 0) (le-leb 0 at (omega arith)) in
    let back = since-suffix bytes at within in
    let behind = length-after_last (take at bytes) in
    omega (arith, sum, first, back, behind)

pub place_same : (bytes : List ℕ) (at : ℕ) → length bytes < most_column → at ≤ length bytes → place_by (line_starts bytes) at ≡ place_of bytes at
place_same bytes at short within =
    let P : ℕ → ℕ → Place = λ l c. record { line = l; column = c } in
    ap (λ l. P l (min (at - last_upto 0 (line_starts bytes) at + 1) most_column)) (line_same bytes at) ∙ ap (P (count_by is_feed (take at bytes) + 1)) (column_same bytes at short within)
