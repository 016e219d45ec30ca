-- What a pen comes to, character by character.
use Rattle.std.proofs.Common.{◌≡◌, ℕ, ◌+◌, ◌<◌, ◌≤◌, max, ℤ, pos, Bool, true, false, cond, eqb, Option, None, Some, List, [], ◌∷◌, length, get_or, drop, map, sum, sym, ap, ◌∙◌, subst, MatchOption, MatchBool, FitsSigned, to_z, of_z, refl, arith}
use Rattle.std.specs.Prelude.{int_le}
use Rattle.std.specs.Int.{w128}
use Rattle.std.proofs.lemmas.Int.{to_z-of_z}
use Rattle.std.proofs.lemmas.List.{at_drop_more, at_drop_all}
use Rattle.std.proofs.lemmas.List.Sums.{sum_by-cons}
use Rattle.text_measure.specs.Tables.{Table}
use Rattle.text_measure.specs.declared.measuring.Pen.{Pen}
use Rattle.text_measure.specs.Measures.{begun, parts, char_width, width_of, text_width, fits, breaks, rows_of, line_rows, text_rows}
use Rattle.text_measure.proofs.Pens.{cap, pen_width, pen_rows, line_left, pending, pending_same, breaks_same, SeesRoom, parts-separator, parts-other, width-line, width-other, width-first, width-last}

-- there is always a first part
pub parts-cons : (s : ℕ) (cs : List ℕ) → (q : List ℕ) × (qs : List (List ℕ)) × (parts s cs ≡ q ∷ qs)
parts-cons s [] = ([], [], refl)
parts-cons s (c ∷ cs) = split (eqb c s)
  where
    behind : (ps : List (List ℕ)) → (q : List ℕ) × (qs : List (List ℕ)) × (begun c ps ≡ q ∷ qs)
    behind [] = (c ∷ [], [], refl)
    behind (p ∷ ps) = (c ∷ p, ps, refl)

    split : (b : Bool) → (q : List ℕ) × (qs : List (List ℕ)) × (cond b ([] ∷ parts s cs) (begun c (parts s cs)) ≡ q ∷ qs)
    split true = ([], parts s cs, refl)
    split false = behind (parts s cs)

-- ---- a letter

letter-left : (t : Table) (size : ℕ) (room : Option ℤ) (seen : ℤ) → SeesRoom room seen → (row : Option ℕ) (word new c : ℕ) → new ≡ cap (word + cap (char_width t size c)) → (ps : List (List ℕ))
    → line_left t size room row new ps ≡ line_left t size room row word (begun c ps)
letter-left t size room seen r row word new c e [] = pending_same room seen r (char_width t size 32) row new (word + (char_width t size c + 0)) [] (omega (arith, e))
letter-left t size room seen r row word new c e (p ∷ ps) =
    pending_same room seen r (char_width t size 32) row (new + width_of t size p) (word + (char_width t size c + width_of t size p)) (map (width_of t size) ps) (omega (arith, e))

letter-line : (t : Table) (size : ℕ) (room : Option ℤ) (seen : ℤ) → SeesRoom room seen → (row : Option ℕ) (word new c : ℕ) → new ≡ cap (word + cap (char_width t size c)) → (c ≡ 32 → ⊥) → (p : List ℕ)
    → line_left t size room row new (parts 32 p) ≡ line_left t size room row word (parts 32 (c ∷ p))
letter-line t size room seen r row word new c e ne p =
    letter-left t size room seen r row word new c e (parts 32 p) ∙ ap (line_left t size room row word) (sym (parts-other 32 c p ne))

letter-rows : (t : Table) (size : ℕ) (room : Option ℤ) (seen : ℤ) → SeesRoom room seen → (rows : ℕ) (row : Option ℕ) (word new c : ℕ) → new ≡ cap (word + cap (char_width t size c)) → (c ≡ 32 → ⊥) → (ps : List (List ℕ))
    → pen_rows t size room rows row new ps ≡ pen_rows t size room rows row word (begun c ps)
letter-rows t size room seen r rows row word new c e ne [] = let l = letter-line t size room seen r row word new c e ne [] in omega (arith, l)
letter-rows t size room seen r rows row word new c e ne (p ∷ ps) = ap (λ n. rows + (1 + n) + sum (map (line_rows t size room) ps)) (letter-line t size room seen r row word new c e ne p)

-- ---- a word ends

-- a row ends in `at`, and what follows breaks as behind the word that ended
pub record IsEnded (room : Option ℤ) (space : ℕ) (row : Option ℕ) (word rows : ℕ) (at new : ℕ) : Type 0 where
  pub same : (x : ℕ) (words : List ℕ) → cap (new + (x + breaks room space at words)) ≡ cap (rows + (x + pending room space row word words))

ended_none : (room : Option ℤ) (space word rows : ℕ) → IsEnded room space None word rows word rows
ended_none room space word rows = record { same = λ x words. refl }

ended_fits : (room : Option ℤ) (seen : ℤ) → SeesRoom room seen → (space row word rows whole : ℕ) → cap whole ≡ cap (row + space + word) → fits room (row + space + word) ≡ true → IsEnded room space (Some row) word rows whole rows
ended_fits room seen r space row word rows whole e f = record {
  same = λ x words.
      ap (λ n. cap (rows + (x + n)))
      (breaks_same room seen r space space refl words whole (row + space + word) e
      ∙ ap (λ b. cond b (breaks room space (row + space + word) words) (1 + breaks room space word words)) (sym f));
}

ended_breaks : (room : Option ℤ) (space row word rows new : ℕ) → new ≡ cap (rows + 1) → fits room (row + space + word) ≡ false → IsEnded room space (Some row) word rows word new
ended_breaks room space row word rows new e f = record {
  same = λ x words.
      let b : 1 + breaks room space word words ≡ breaks room space row (word ∷ words) = ap (λ b. cond b (breaks room space (row + space + word) words) (1 + breaks room space word words)) (sym f) in
      omega (arith, e, b);
}

-- ---- a space

space-left : (t : Table) (size : ℕ) (room : Option ℤ) (row : Option ℕ) (word rows at new : ℕ) → IsEnded room (char_width t size 32) row word rows at new → (x : ℕ) (q : List ℕ) (qs : List (List ℕ))
    → cap (new + (x + line_left t size room (Some at) 0 (q ∷ qs))) ≡ cap (rows + (x + line_left t size room row word ([] ∷ q ∷ qs)))
space-left t size room row word rows at new h x q qs =
    let s = char_width t size 32 in
    let ws = map (width_of t size) qs in
    let zero : 0 + width_of t size q ≡ width_of t size q = omega arith in
    let same : word + 0 ≡ word = omega arith in
    ap (λ n. cap (new + (x + breaks room s at (n ∷ ws)))) zero
    ∙ h.same x (width_of t size q ∷ ws)
    ∙ ap (λ n. cap (rows + (x + pending room s row n (width_of t size q ∷ ws)))) (sym same)

space-line : (t : Table) (size : ℕ) (room : Option ℤ) (row : Option ℕ) (word rows at new : ℕ) → IsEnded room (char_width t size 32) row word rows at new → (x c : ℕ) → c ≡ 32 → (p : List ℕ)
    → cap (new + (x + line_left t size room (Some at) 0 (parts 32 p))) ≡ cap (rows + (x + line_left t size room row word (parts 32 (c ∷ p))))
space-line t size room row word rows at new h x c e p =
    let d = parts-cons 32 p in
    ap (λ ps. cap (new + (x + line_left t size room (Some at) 0 ps))) d.2
    ∙ space-left t size room row word rows at new h x d.0 d.1
    ∙ ap (λ ps. cap (rows + (x + line_left t size room row word ([] ∷ ps)))) (sym d.2)
    ∙ ap (λ ps. cap (rows + (x + line_left t size room row word ps))) (sym (parts-separator 32 c p e))

space-rows : (t : Table) (size : ℕ) (room : Option ℤ) (row : Option ℕ) (word rows at new : ℕ) → IsEnded room (char_width t size 32) row word rows at new → (c : ℕ) → c ≡ 32 → (ps : List (List ℕ))
    → cap (pen_rows t size room new (Some at) 0 ps) ≡ cap (pen_rows t size room rows row word (begun c ps))
space-rows t size room row word rows at new h c e [] = let l = space-line t size room row word rows at new h 1 c e [] in omega (arith, l)
space-rows t size room row word rows at new h c e (p ∷ ps) =
    let l = space-line t size room row word rows at new h (1 + sum (map (line_rows t size room) ps)) c e p in omega (arith, l)

-- ---- a line ends

-- a line's rows from its start
line-start : (t : Table) (size : ℕ) (room : Option ℤ) (p : List ℕ) → 1 + line_left t size room None 0 (parts 32 p) ≡ line_rows t size room p
line-start t size room p = by (parts 32 p)
  where
    by : (ps : List (List ℕ)) → 1 + line_left t size room None 0 ps ≡ rows_of room (char_width t size 32) (map (width_of t size) ps)
    by [] = refl
    by (q ∷ qs) = let zero : 0 + width_of t size q ≡ width_of t size q = omega arith in ap (λ n. 1 + breaks room (char_width t size 32) n (map (width_of t size) qs)) zero

all-start : (t : Table) (size : ℕ) (room : Option ℤ) (rows : ℕ) (cs : List ℕ) → pen_rows t size room rows None 0 (parts 10 cs) ≡ rows + text_rows t size room cs
all-start t size room rows cs =
    let d = parts-cons 10 cs in
    ap (pen_rows t size room rows None 0) d.2
    ∙ (let l = line-start t size room d.0 in let s = sum_by-cons (λ (n : ℕ). n) (line_rows t size room d.0) (map (line_rows t size room) d.1) in
    let whole : pen_rows t size room rows None 0 (d.0 ∷ d.1) ≡ rows + sum (map (line_rows t size room) (d.0 ∷ d.1)) = omega (arith, l, s) in whole)
    ∙ ap (λ ps. rows + sum (map (line_rows t size room) ps)) (sym d.2)

line-end : (t : Table) (size : ℕ) (room : Option ℤ) (row : Option ℕ) (word rows at new : ℕ) → IsEnded room (char_width t size 32) row word rows at new → (x : ℕ)
    → cap (new + (x + 0)) ≡ cap (rows + (x + line_left t size room row word (parts 32 [])))
line-end t size room row word rows at new h x =
    let same : word + 0 ≡ word = omega arith in
    h.same x [] ∙ ap (λ n. cap (rows + (x + pending room (char_width t size 32) row n []))) (sym same)

-- ---- the whole

-- the pen and the rest of a text come to what all of it comes to
pub record IsWriting (t : Table) (size : ℕ) (room : Option ℤ) (text : List ℕ) (pen : Pen) (rest : List ℕ) : Type 0 where
  pub width : cap (pen_width t size pen.widest pen.line (parts 10 rest)) ≡ cap (text_width t size text)
  pub rows : cap (pen_rows t size room pen.rows pen.row pen.word (parts 10 rest)) ≡ cap (text_rows t size room text)

pub writing-first : (t : Table) (size : ℕ) (room : Option ℤ) (text : List ℕ) → IsWriting t size room text (record { widest = 0; line = 0; rows = 0; row = None; word = 0 }) text
writing-first t size room text = record {
  width = width-first t size text;
  rows = let a = all-start t size room 0 text in omega (arith, a);
}

-- a letter
pub writing-letter : (t : Table) (size : ℕ) (room : Option ℤ) (seen : ℤ) → SeesRoom room seen → (text : List ℕ) (pen new : Pen) (c w : ℕ) (rest : List ℕ) → IsWriting t size room text pen (c ∷ rest)
    → (c ≡ 10 → ⊥) → (c ≡ 32 → ⊥) → w ≡ cap (char_width t size c) → new ≡ record pen { line = cap (pen.line + w); word = cap (pen.word + w) } → IsWriting t size room text new rest
writing-letter t size room seen r text pen new c w rest h no_line no_space e f = record {
  width =
      ap (λ (p : Pen). cap (pen_width t size p.widest p.line (parts 10 rest))) f
      ∙ width-other t size pen.widest pen.line c (cap (pen.line + w)) rest no_line (ap (λ n. cap (pen.line + n)) e)
      ∙ h.width;
  rows =
      ap (λ (p : Pen). cap (pen_rows t size room p.rows p.row p.word (parts 10 rest))) f
      ∙ ap cap (letter-rows t size room seen r pen.rows pen.row pen.word (cap (pen.word + w)) c (ap (λ n. cap (pen.word + n)) e) no_space (parts 10 rest))
      ∙ ap (λ ps. cap (pen_rows t size room pen.rows pen.row pen.word ps)) (sym (parts-other 10 c rest no_line))
      ∙ h.rows;
}

-- what the end of a word makes of a pen
pub record EndsWord (room : Option ℤ) (space : ℕ) (pen new : Pen) : Type 0 where
  pub widest : new.widest ≡ pen.widest
  pub line : new.line ≡ pen.line
  pub word : new.word ≡ 0
  pub at : ℕ
  pub row : new.row ≡ Some at
  pub ends : IsEnded room space pen.row pen.word pen.rows at new.rows

-- a space
pub writing-space : (t : Table) (size : ℕ) (room : Option ℤ) (text : List ℕ) (pen ended new : Pen) (c w : ℕ) (rest : List ℕ) → IsWriting t size room text pen (c ∷ rest)
    → c ≡ 32 → w ≡ cap (char_width t size 32) → EndsWord room (char_width t size 32) pen ended → new ≡ record ended { line = cap (ended.line + w) } → IsWriting t size room text new rest
writing-space t size room text pen ended new c w rest h is e d f =
    let no_line : c ≡ 10 → ⊥ = λ same. absurd (omega (arith, same, is)) in
    record {
      width =
          ap (λ (p : Pen). cap (pen_width t size p.widest p.line (parts 10 rest))) f
          ∙ ap (λ n. cap (pen_width t size n (cap (ended.line + w)) (parts 10 rest))) d.widest
          ∙ width-other t size pen.widest pen.line c (cap (ended.line + w)) rest no_line (ap (λ n. cap (n + w)) d.line ∙ ap (λ n. cap (pen.line + n)) (e ∙ ap (λ n. cap (char_width t size n)) (sym is)))
          ∙ h.width;
      rows =
          ap (λ (p : Pen). cap (pen_rows t size room p.rows p.row p.word (parts 10 rest))) f
          ∙ ap (λ o. cap (pen_rows t size room ended.rows o ended.word (parts 10 rest))) d.row
          ∙ ap (λ n. cap (pen_rows t size room ended.rows (Some d.at) n (parts 10 rest))) d.word
          ∙ space-rows t size room pen.row pen.word pen.rows d.at ended.rows d.ends c is (parts 10 rest)
          ∙ ap (λ ps. cap (pen_rows t size room pen.rows pen.row pen.word ps)) (sym (parts-other 10 c rest no_line))
          ∙ h.rows;
    }

-- what the end of a line makes of a pen
pub record EndsLine (ended new : Pen) : Type 0 where
  pub is : new ≡ record { widest = max ended.widest ended.line; line = 0; rows = cap (ended.rows + 1); row = None; word = 0 }

pub writing-line : (t : Table) (size : ℕ) (room : Option ℤ) (text : List ℕ) (pen ended new : Pen) (c : ℕ) (rest : List ℕ) → IsWriting t size room text pen (c ∷ rest)
    → c ≡ 10 → EndsWord room (char_width t size 32) pen ended → EndsLine ended new → IsWriting t size room text new rest
writing-line t size room text pen ended new c rest h is d f = record {
  width =
      ap (λ (p : Pen). cap (pen_width t size p.widest p.line (parts 10 rest))) f.is
      ∙ ap (λ n. cap (pen_width t size (max n ended.line) 0 (parts 10 rest))) d.widest
      ∙ ap (λ n. cap (pen_width t size (max pen.widest n) 0 (parts 10 rest))) d.line
      ∙ width-line t size pen.widest pen.line c rest is
      ∙ h.width;
  rows =
      ap (λ (p : Pen). cap (pen_rows t size room p.rows p.row p.word (parts 10 rest))) f.is
      ∙ (let a = all-start t size room (cap (ended.rows + 1)) rest in
      let l = line-end t size room pen.row pen.word pen.rows d.at ended.rows d.ends (1 + text_rows t size room rest) in
      let both : cap (pen_rows t size room (cap (ended.rows + 1)) None 0 (parts 10 rest)) ≡ cap (pen_rows t size room pen.rows pen.row pen.word ([] ∷ parts 10 rest)) = omega (arith, a, l) in both)
      ∙ ap (λ ps. cap (pen_rows t size room pen.rows pen.row pen.word ps)) (sym (parts-separator 10 c rest is))
      ∙ h.rows;
}

-- the end of the text
pub writing-last-width : (t : Table) (size : ℕ) (room : Option ℤ) (text : List ℕ) (pen ended new : Pen) → IsWriting t size room text pen [] → EndsWord room (char_width t size 32) pen ended → EndsLine ended new
    → cap new.widest ≡ cap (text_width t size text)
writing-last-width t size room text pen ended new h d f =
    ap (λ (p : Pen). cap p.widest) f.is
    ∙ ap (λ n. cap (max n ended.line)) d.widest
    ∙ ap (λ n. cap (max pen.widest n)) d.line
    ∙ ap cap (sym (width-last t size pen.widest pen.line))
    ∙ h.width

pub writing-last-rows : (t : Table) (size : ℕ) (room : Option ℤ) (text : List ℕ) (pen ended new : Pen) → IsWriting t size room text pen [] → EndsWord room (char_width t size 32) pen ended → EndsLine ended new
    → cap new.rows ≡ cap (text_rows t size room text)
writing-last-rows t size room text pen ended new h d f =
    ap (λ (p : Pen). cap p.rows) f.is
    ∙ (let l = line-end t size room pen.row pen.word pen.rows d.at ended.rows d.ends 1 in
    let both : cap (cap (ended.rows + 1)) ≡ cap (pen_rows t size room pen.rows pen.row pen.word (parts 10 [])) = omega (arith, l) in both)
    ∙ h.rows

-- whether a row fits, as the code sees it
seen-is : (room : Option ℤ) (seen : ℤ) → SeesRoom room seen → (row space s word : ℕ) → s ≡ cap space → fits room (row + space + word) ≡ int_le (pos (cap (cap (row + s) + word))) seen
seen-is room seen r row space s word e =
    let same : cap (row + space + word) ≡ cap (cap (row + s) + word) = omega (arith, e) in
    sym (r.sees (row + space + word)) ∙ ap (λ n. int_le (pos n) seen) same

-- what the code's end of a word is
pub ends-word : (room : Option ℤ) (seen : ℤ) → SeesRoom room seen → (space s : ℕ) → s ≡ cap space → (row : Option ℕ) (pen new : Pen) → pen.row ≡ row
    → MatchOption row (new ≡ record pen { row = Some pen.word; word = 0 }) (λ row.
    let whole = cap (cap (row + s) + pen.word) in
    MatchBool (int_le (pos whole) seen) (new ≡ record pen { row = Some whole; word = 0 }) (new ≡ record pen { rows = cap (pen.rows + 1); row = Some pen.word; word = 0 }))
    → EndsWord room space pen new
ends-word room seen r space s e None pen new f g = record {
  widest = ap (λ (p : Pen). p.widest) g;
  line = ap (λ (p : Pen). p.line) g;
  word = ap (λ (p : Pen). p.word) g;
  at = pen.word;
  row = ap (λ (p : Pen). p.row) g;
  ends =
      let P : Option ℕ → Type 0 = λ o. IsEnded room space o pen.word pen.rows pen.word new.rows in
      let Q : ℕ → Type 0 = λ n. IsEnded room space None pen.word pen.rows pen.word n in
      subst P (sym f) (subst Q (sym (ap (λ (p : Pen). p.rows) g)) (ended_none room space pen.word pen.rows));
}
ends-word room seen r space s e (Some old) pen new f g = split (int_le (pos (cap (cap (old + s) + pen.word))) seen) refl g
  where
    split : (b : Bool) → int_le (pos (cap (cap (old + s) + pen.word))) seen ≡ b
        → MatchBool b (new ≡ record pen { row = Some (cap (cap (old + s) + pen.word)); word = 0 }) (new ≡ record pen { rows = cap (pen.rows + 1); row = Some pen.word; word = 0 })
        → EndsWord room space pen new
    split true b g = record {
      widest = ap (λ (p : Pen). p.widest) g;
      line = ap (λ (p : Pen). p.line) g;
      word = ap (λ (p : Pen). p.word) g;
      at = cap (cap (old + s) + pen.word);
      row = ap (λ (p : Pen). p.row) g;
      ends =
          let P : Option ℕ → Type 0 = λ o. IsEnded room space o pen.word pen.rows (cap (cap (old + s) + pen.word)) new.rows in
          let Q : ℕ → Type 0 = λ n. IsEnded room space (Some old) pen.word pen.rows (cap (cap (old + s) + pen.word)) n in
          subst P (sym f)
          (subst Q (sym (ap (λ (p : Pen). p.rows) g))
          (ended_fits room seen r space old pen.word pen.rows (cap (cap (old + s) + pen.word)) (omega (arith, e)) (seen-is room seen r old space s pen.word e ∙ b)));
    }
    split false b g = record {
      widest = ap (λ (p : Pen). p.widest) g;
      line = ap (λ (p : Pen). p.line) g;
      word = ap (λ (p : Pen). p.word) g;
      at = pen.word;
      row = ap (λ (p : Pen). p.row) g;
      ends =
          let P : Option ℕ → Type 0 = λ o. IsEnded room space o pen.word pen.rows pen.word new.rows in
          subst P (sym f) (ended_breaks room space old pen.word pen.rows new.rows (ap (λ (p : Pen). p.rows) g) (seen-is room seen r old space s pen.word e ∙ b));
    }

-- the rest of a text begins with the character that is next
pub turned : (P : List ℕ → Type 0) (cs : List ℕ) (n c : ℕ) → (n < length cs) × (c ≡ get_or cs n c) → P (drop n cs) → P (c ∷ drop (n + 1) cs)
turned P cs n c t h =
    let e : drop n cs ≡ get_or cs n c ∷ drop (n + 1) cs = at_drop_more (λ (xs : List ℕ). xs) cs n c t.0 in
    let Q : ℕ → Type 0 = λ d. P (d ∷ drop (n + 1) cs) in
    subst Q (sym t.1) (subst P e h)

-- nothing is left behind the last character
pub finished : (P : List ℕ → Type 0) (cs : List ℕ) (n : ℕ) → length cs ≤ n → P (drop n cs) → P []
finished P cs n past h = subst P (at_drop_all (λ (xs : List ℕ). xs) cs n past) h

-- the room as the code keeps it
pub sees-kept : (room : Option ℤ) (seen : ℤ) → FitsSigned w128 seen → ((row : ℕ) → int_le (pos (cap row)) seen ≡ fits room row) → SeesRoom room (to_z w128 (of_z w128 seen))
sees-kept room seen short sees = rw (to_z-of_z w128 seen short) (record { sees = sees })
