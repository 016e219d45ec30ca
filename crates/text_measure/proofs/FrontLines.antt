-- The first line of bytes, and those behind it.
use Rattle.std.proofs.Common.{◌≡◌, ℕ, zero, suc, ◌+◌, ◌<◌, ◌≤◌, Bool, true, false, cond, eqb, None, Some, List, [], ◌∷◌, length, get_or, take, drop, sym, ap, ◌∙◌, ⊎_elim, add-one, refl, arith}
use Rattle.std.specs.List.{position, position_or_len}
use Rattle.std.proofs.lemmas.Bool.{cases_lt, lt-ltb, eq-eqb, eqb-true, true≢false}
use Rattle.std.proofs.lemmas.Option.{none-some}
use Rattle.std.proofs.lemmas.List.{drop_all}
use Rattle.std.proofs.lemmas.List.Quantifiers.{position-Some}
use Rattle.std.proofs.lemmas.List.Sums.{fails_before_first}
use Rattle.text_measure.specs.Measures.{begun, parts}
use Rattle.text_measure.specs.Reading.{ended, lines_in}
use Rattle.text_measure.proofs.PenSteps.{parts-cons}

-- the test for a separator
abbrev pub is : ℕ → ℕ → Bool
is s c = eqb c s

-- the first part ends at the first separator
parts-front : (s : ℕ) (cs : List ℕ) (i : ℕ) → i < length cs → is s (get_or cs i 0) ≡ true → ((k : ℕ) → k < i → is s (get_or cs k 0) ≡ false)
    → parts s cs ≡ take i cs ∷ parts s (drop (suc i) cs)
parts-front s [] i below ends goes = absurd (omega arith)
parts-front s (c ∷ cs) zero below ends goes = ap (λ b. cond b ([] ∷ parts s cs) (begun c (parts s cs))) ends
parts-front s (c ∷ cs) (suc i) below ends goes =
    ap (λ b. cond b ([] ∷ parts s cs) (begun c (parts s cs))) (goes zero (omega arith))
    ∙ ap (begun c) (parts-front s cs i (omega arith) ends (λ k lt. goes (suc k) (omega arith)))

-- without one there is one part
parts-whole : (s : ℕ) (cs : List ℕ) → ((k : ℕ) → k < length cs → is s (get_or cs k 0) ≡ false) → parts s cs ≡ cs ∷ []
parts-whole s [] goes = refl
parts-whole s (c ∷ cs) goes =
    ap (λ b. cond b ([] ∷ parts s cs) (begun c (parts s cs))) (goes zero (omega arith))
    ∙ ap (begun c) (parts-whole s cs (λ k lt. goes (suc k) (omega arith)))

no_position : (p : ℕ → Bool) (xs : List ℕ) → position p xs ≡ None → length xs ≤ position_or_len p xs
no_position p xs e =
    ⊎_elim
    (λ lt. absurd (none-some (position_or_len p xs) (sym e ∙ ap (λ b. cond b (Some (position_or_len p xs)) None) (lt-ltb (position_or_len p xs) (length xs) lt))))
    (λ ge. ge)
    (cases_lt (position_or_len p xs) (length xs))

-- the parts are one where there is goes separator
pub parts_alone : (bytes : List ℕ) → position (is 10) bytes ≡ None → parts 10 bytes ≡ bytes ∷ []
parts_alone bytes e =
    let past = no_position (is 10) bytes e in parts-whole 10 bytes (λ k lt. fails_before_first (is 10) bytes k 0 (omega (arith, lt, past)))

-- lines whose first one ends
pub lines_front : (cut : Bool) (bytes : List ℕ) (i : ℕ) → position (is 10) bytes ≡ Some i → lines_in cut bytes ≡ take i bytes ∷ lines_in cut (drop (i + 1) bytes)
lines_front cut bytes i e =
    let p = position-Some (is 10) bytes i 0 e in
    let more = parts-cons 10 (drop (suc i) bytes) in
    ap (ended cut) (parts-front 10 bytes i p.0 p.1 p.2 ∙ ap (λ ps. take i bytes ∷ ps) more.2)
    ∙ ap (λ ps. take i bytes ∷ ended cut ps) (sym more.2)
    ∙ ap (λ n. take i bytes ∷ lines_in cut (drop n bytes)) (sym (add-one i))

pub position_within : (bytes : List ℕ) (i : ℕ) → position (is 10) bytes ≡ Some i → i < length bytes
position_within bytes i e = let p = position-Some (is 10) bytes i 0 e in p.0

-- a last line
pub lines_last : (cut : Bool) (bytes : List ℕ) → position (is 10) bytes ≡ None → cut ≡ false → (bytes ≡ [] → ⊥) → lines_in cut bytes ≡ bytes ∷ lines_in cut (drop (length bytes) bytes)
lines_last cut [] e f some = absurd (some refl)
lines_last cut (b ∷ bs) e f some =
    ap (ended cut) (parts_alone (b ∷ bs) e)
    ∙ ap (λ c. cond c [] ((b ∷ bs) ∷ [])) f
    ∙ ap (λ rest. (b ∷ bs) ∷ lines_in cut rest) (sym (drop_all (length (b ∷ bs)) (b ∷ bs) (omega arith)))

-- goes line
pub lines_cut : (cut : Bool) (bytes : List ℕ) → position (is 10) bytes ≡ None → cut ≡ true → lines_in cut bytes ≡ []
lines_cut cut [] e f = refl
lines_cut cut (b ∷ bs) e f = ap (ended cut) (parts_alone (b ∷ bs) e) ∙ ap (λ c. cond c [] ((b ∷ bs) ∷ [])) f

pub lines_none : (cut : Bool) (bytes : List ℕ) → bytes ≡ [] → lines_in cut bytes ≡ []
lines_none cut bytes e = ap (lines_in cut) e

-- the same over the parts that code makes
pub behind : (cut : Bool) (bytes : List ℕ) (i : ℕ) (line rest : List ℕ) → position (is 10) bytes ≡ Some i → line ≡ take i bytes → rest ≡ drop (i + 1) bytes
    → lines_in cut bytes ≡ line ∷ lines_in cut rest
behind cut bytes i line rest e f g = lines_front cut bytes i e ∙ ap (λ l. l ∷ lines_in cut (drop (i + 1) bytes)) (sym f) ∙ ap (λ r. line ∷ lines_in cut r) (sym g)

-- whether there are bytes
pub none_there : (bytes : List ℕ) (r : Bool) → r ≡ eqb (length bytes) 0 → r ≡ true → bytes ≡ []
none_there [] r e f = refl
none_there (b ∷ bs) r e f = let h : length (b ∷ bs) ≡ 0 = eqb-true (length (b ∷ bs)) 0 (sym e ∙ f) in absurd (omega (arith, h))

pub some_there : (bytes : List ℕ) (r : Bool) → r ≡ eqb (length bytes) 0 → r ≡ false → bytes ≡ [] → ⊥
some_there bytes r e f none = let h : eqb (length bytes) 0 ≡ true = eq-eqb (length bytes) 0 (ap length none) in true≢false (sym h ∙ sym e ∙ f)
