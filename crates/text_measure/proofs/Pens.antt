-- What a pen comes to that goes over the rest of a text.
use Rattle.std.proofs.Common.{◌≡◌, ℕ, ◌+◌, ◌-◌, ◌^◌, min, max, ℤ, pos, cond, Option, None, Some, List, [], ◌∷◌, map, sum, sym, ap, ◌∙◌, refl, arith}
use Rattle.std.specs.Prelude.{int_le}
use Rattle.std.proofs.lemmas.Bool.{eq-eqb, ne_eqb}
use Rattle.text_measure.specs.Tables.{Table}
use Rattle.text_measure.specs.Measures.{begun, parts, char_width, width_of, greatest, text_width, fits, breaks, line_rows}

-- a number as 64 bits have it
abbrev pub cap : ℕ → ℕ
cap n = min n (2 ^ 64 - 1)

-- ---- the widest line

-- the widest line where lines follow, of which the first continues one of this width
abbrev pub pen_width : Table → ℕ → ℕ → ℕ → List (List ℕ) → ℕ
pen_width t size widest line [] = max widest line
pen_width t size widest line (p ∷ ps) = max widest (max (line + width_of t size p) (greatest (map (width_of t size) ps)))

pub parts-separator : (s c : ℕ) (cs : List ℕ) → c ≡ s → parts s (c ∷ cs) ≡ [] ∷ parts s cs
parts-separator s c cs e = ap (λ b. cond b ([] ∷ parts s cs) (begun c (parts s cs))) (eq-eqb c s e)

pub parts-other : (s c : ℕ) (cs : List ℕ) → (c ≡ s → ⊥) → parts s (c ∷ cs) ≡ begun c (parts s cs)
parts-other s c cs ne = ap (λ b. cond b ([] ∷ parts s cs) (begun c (parts s cs))) (ne_eqb c s ne)

width-at_line : (t : Table) (size widest line : ℕ) (ps : List (List ℕ)) → cap (pen_width t size (max widest line) 0 ps) ≡ cap (pen_width t size widest line ([] ∷ ps))
width-at_line t size widest line [] = omega arith
width-at_line t size widest line (p ∷ ps) = omega arith

width-at_other : (t : Table) (size widest line c new : ℕ) (ps : List (List ℕ)) → new ≡ cap (line + cap (char_width t size c))
    → cap (pen_width t size widest new ps) ≡ cap (pen_width t size widest line (begun c ps))
width-at_other t size widest line c new [] e = omega arith
width-at_other t size widest line c new (p ∷ ps) e = omega arith

-- a line ends
pub width-line : (t : Table) (size widest line c : ℕ) (cs : List ℕ) → c ≡ 10 → cap (pen_width t size (max widest line) 0 (parts 10 cs)) ≡ cap (pen_width t size widest line (parts 10 (c ∷ cs)))
width-line t size widest line c cs e = width-at_line t size widest line (parts 10 cs) ∙ ap (λ ps. cap (pen_width t size widest line ps)) (sym (parts-separator 10 c cs e))

-- a line goes on
pub width-other : (t : Table) (size widest line c new : ℕ) (cs : List ℕ) → (c ≡ 10 → ⊥) → new ≡ cap (line + cap (char_width t size c))
    → cap (pen_width t size widest new (parts 10 cs)) ≡ cap (pen_width t size widest line (parts 10 (c ∷ cs)))
width-other t size widest line c new cs ne e =
    width-at_other t size widest line c new (parts 10 cs) e ∙ ap (λ ps. cap (pen_width t size widest line ps)) (sym (parts-other 10 c cs ne))

-- all is before the pen at first, and nothing in the end
width-all : (t : Table) (size : ℕ) (ps : List (List ℕ)) → pen_width t size 0 0 ps ≡ greatest (map (width_of t size) ps)
width-all t size [] = omega arith
width-all t size (p ∷ ps) = omega arith

pub width-first : (t : Table) (size : ℕ) (cs : List ℕ) → cap (pen_width t size 0 0 (parts 10 cs)) ≡ cap (text_width t size cs)
width-first t size cs = ap cap (width-all t size (parts 10 cs))

pub width-last : (t : Table) (size widest line : ℕ) → pen_width t size widest line (parts 10 []) ≡ max widest line
width-last t size widest line = omega arith

-- ---- rows

-- rows of the same width as 64 bits have it fit alike
pub record SeesRoom (room : Option ℤ) (seen : ℤ) : Type 0 where
  pub sees : (row : ℕ) → int_le (pos (cap row)) seen ≡ fits room row

pub fits_same : (room : Option ℤ) (seen : ℤ) → SeesRoom room seen → (x y : ℕ) → cap x ≡ cap y → fits room x ≡ fits room y
fits_same room seen r x y e = sym (r.sees x) ∙ ap (λ n. int_le (pos n) seen) e ∙ r.sees y

-- so what follows a row breaks alike
pub breaks_same : (room : Option ℤ) (seen : ℤ) → SeesRoom room seen → (s s' : ℕ) → cap s ≡ cap s' → (words : List ℕ) (row row' : ℕ) → cap row ≡ cap row' → breaks room s row words ≡ breaks room s' row' words
breaks_same room seen r s s' e [] row row' f = refl
breaks_same room seen r s s' e (w ∷ ws) row row' f =
    ap (λ b. cond b (breaks room s (row + s + w) ws) (1 + breaks room s w ws)) (fits_same room seen r (row + s + w) (row' + s' + w) (omega (arith, e, f)))
    ∙ ap (λ n. cond (fits room (row' + s' + w)) n (1 + breaks room s w ws)) (breaks_same room seen r s s' e ws (row + s + w) (row' + s' + w) (omega (arith, e, f)))
    ∙ ap (λ n. cond (fits room (row' + s' + w)) (breaks room s' (row' + s' + w) ws) (1 + n)) (breaks_same room seen r s s' e ws w w refl)

-- the breaks to come in a line: behind a row and before a word, or at its first word
abbrev pub pending : Option ℤ → ℕ → Option ℕ → ℕ → List ℕ → ℕ
pending room s None word words = breaks room s word words
pending room s (Some row) word words = breaks room s row (word ∷ words)

pub pending_same : (room : Option ℤ) (seen : ℤ) → SeesRoom room seen → (s : ℕ) (row : Option ℕ) (w w' : ℕ) (words : List ℕ) → cap w ≡ cap w' → pending room s row w words ≡ pending room s row w' words
pending_same room seen r s None w w' words e = breaks_same room seen r s s refl words w w' e
pending_same room seen r s (Some row) w w' words e =
    ap (λ b. cond b (breaks room s (row + s + w) words) (1 + breaks room s w words)) (fits_same room seen r (row + s + w) (row + s + w') (omega (arith, e)))
    ∙ ap (λ n. cond (fits room (row + s + w')) n (1 + breaks room s w words)) (breaks_same room seen r s s refl words (row + s + w) (row + s + w') (omega (arith, e)))
    ∙ ap (λ n. cond (fits room (row + s + w')) (breaks room s (row + s + w') words) (1 + n)) (breaks_same room seen r s s refl words w w' e)

-- the same where words follow of which the first goes on with the current one
abbrev pub line_left : Table → ℕ → Option ℤ → Option ℕ → ℕ → List (List ℕ) → ℕ
line_left t size room row word [] = pending room (char_width t size 32) row word []
line_left t size room row word (p ∷ ps) = pending room (char_width t size 32) row (word + width_of t size p) (map (width_of t size) ps)

-- the rows where lines follow, of which the first goes on with the current one
abbrev pub pen_rows : Table → ℕ → Option ℤ → ℕ → Option ℕ → ℕ → List (List ℕ) → ℕ
pen_rows t size room rows row word [] = rows + (1 + line_left t size room row word (parts 32 []))
pen_rows t size room rows row word (p ∷ ps) = rows + (1 + line_left t size room row word (parts 32 p)) + sum (map (line_rows t size room) ps)
