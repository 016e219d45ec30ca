-- Lines of texts that are cut, or that go on by a byte.
use Rattle.std.proofs.Common.{◌≡◌, ℕ, zero, suc, ◌+◌, ◌-◌, ◌<◌, List, [], ◌∷◌, ◌++◌, length, get_or, take, drop, refl, ap, sym, ◌∙◌, arith, eq-eqb, inl, inr}
use Rattle.std.proofs.lemmas.Bool.{ne_eqb}
use Rattle.std.proofs.lemmas.List.{take_more, length-drop}
use Rattle.std.proofs.Math.Seq.{take-length}
use Rattle.std.proofs.lemmas.Bool.Decides.{eqb_tells}
use Rattle.script_lines.specs.Lines.{lines_of, whole_lines, onto_first, onto_whole}

-- a line feed ends a line
pub lines_of-feed : (b : ℕ) (bs : List ℕ) → b ≡ 10 → lines_of (b ∷ bs) ≡ [] ∷ lines_of bs
lines_of-feed b bs e = rw (eq-eqb b 10 e) refl

-- every other byte goes onto the first line
pub lines_of-other : (b : ℕ) (bs : List ℕ) → (b ≡ 10 → ⊥) → lines_of (b ∷ bs) ≡ onto_first b (lines_of bs)
lines_of-other b bs n = rw (ne_eqb b 10 n) refl

pub whole_lines-feed : (b : ℕ) (bs : List ℕ) → b ≡ 10 → whole_lines (b ∷ bs) ≡ [] ∷ whole_lines bs
whole_lines-feed b bs e = rw (eq-eqb b 10 e) refl

pub whole_lines-other : (b : ℕ) (bs : List ℕ) → (b ≡ 10 → ⊥) → whole_lines (b ∷ bs) ≡ onto_whole b (whole_lines bs)
whole_lines-other b bs n = rw (ne_eqb b 10 n) refl

-- a text is cut at its first line feed
pub lines_of-first : (xs : List ℕ) (i : ℕ) → i < length xs → get_or xs i 0 ≡ 10 → ((k : ℕ) → k < i → get_or xs k 0 ≡ 10 → ⊥)
    → lines_of xs ≡ take i xs ∷ lines_of (drop (suc i) xs)
lines_of-first [] i h e n = absurd (omega arith)
lines_of-first (b ∷ bs) zero h e n = lines_of-feed b bs e
lines_of-first (b ∷ bs) (suc i) h e n =
    lines_of-other b bs (n 0 (omega arith)) ∙ ap (onto_first b) (lines_of-first bs i (omega arith) e (λ k s. n (suc k) (omega arith)))

-- a text without line feed is one line, if it has a byte
pub lines_of-last : (xs : List ℕ) → 0 < length xs → ((k : ℕ) → k < length xs → get_or xs k 0 ≡ 10 → ⊥) → lines_of xs ≡ xs ∷ []
lines_of-last [] h n = absurd (omega arith)
lines_of-last (b ∷ []) h n = lines_of-other b [] (n 0 (omega arith))
lines_of-last (b ∷ c ∷ bs) h n =
    lines_of-other b (c ∷ bs) (n 0 (omega arith)) ∙ ap (onto_first b) (lines_of-last (c ∷ bs) (omega arith) (λ k s. n (suc k) (omega arith)))

-- what ends no line adds none
pub whole_lines-push : (xs : List ℕ) (b : ℕ) → (b ≡ 10 → ⊥) → whole_lines (xs ++ b ∷ []) ≡ whole_lines xs
whole_lines-push [] b n = whole_lines-other b [] n
whole_lines-push (x ∷ xs) b n = elim (eqb_tells x 10) [
  | inl t ↦ whole_lines-feed x (xs ++ b ∷ []) t.1 ∙ ap (λ ls. [] ∷ ls) (whole_lines-push xs b n) ∙ sym (whole_lines-feed x xs t.1)
  | inr f ↦ whole_lines-other x (xs ++ b ∷ []) f.1 ∙ ap (onto_whole x) (whole_lines-push xs b n) ∙ sym (whole_lines-other x xs f.1)
]

-- where there is a line, a byte goes onto it either way
onto_first-onto_whole : (x : ℕ) (lines : List (List ℕ)) → 0 < length lines → onto_whole x lines ≡ onto_first x lines
onto_first-onto_whole x [] h = absurd (omega arith)
onto_first-onto_whole x (line ∷ lines) h = refl

-- a text that ends at a line feed has a line
length-onto_first : (x : ℕ) (lines : List (List ℕ)) → 0 < length (onto_first x lines)
length-onto_first x [] = omega arith
length-onto_first x (line ∷ lines) = omega arith

-- all lines of a text that ends at a line feed are whole
pub whole_lines-ended : (xs : List ℕ) → (whole_lines (xs ++ 10 ∷ []) ≡ lines_of (xs ++ 10 ∷ [])) × (0 < length (lines_of (xs ++ 10 ∷ [])))
whole_lines-ended [] = (refl, omega arith)
whole_lines-ended (x ∷ xs) = let rest = whole_lines-ended xs in elim (eqb_tells x 10) [
  | inl t ↦ (whole_lines-feed x (xs ++ 10 ∷ []) t.1 ∙ ap (λ ls. [] ∷ ls) rest.0 ∙ sym (lines_of-feed x (xs ++ 10 ∷ []) t.1), rw (lines_of-feed x (xs ++ 10 ∷ []) t.1) (omega arith))
  | inr f ↦ (
    whole_lines-other x (xs ++ 10 ∷ []) f.1 ∙ ap (onto_whole x) rest.0 ∙ onto_first-onto_whole x (lines_of (xs ++ 10 ∷ [])) rest.1 ∙ sym (lines_of-other x (xs ++ 10 ∷ []) f.1),
    rw (lines_of-other x (xs ++ 10 ∷ []) f.1) (length-onto_first x (lines_of (xs ++ 10 ∷ []))),
  )
]

-- a front that goes on by what ends no line has the same whole lines
pub whole_lines-take : (xs : List ℕ) (n : ℕ) → n < length xs → (get_or xs n 0 ≡ 10 → ⊥) → whole_lines (take (n + 1) xs) ≡ whole_lines (take n xs)
whole_lines-take xs n h ne = rw (take_more xs n 0 h) (whole_lines-push (take n xs) (get_or xs n 0) ne)

-- all lines of a front that ends at a line feed are whole
pub lines_of-take : (xs : List ℕ) (n : ℕ) → n < length xs → get_or xs n 0 ≡ 10 → lines_of (take (n + 1) xs) ≡ whole_lines (take (n + 1) xs)
lines_of-take xs n h e = rw (take_more xs n 0 h) (rw e (sym (whole_lines-ended (take n xs)).0))

-- what is left behind a place, by its length
pub rest_from : (xs : List ℕ) (n : ℕ) → take (length xs - n) (drop n xs) ≡ drop n xs
rest_from xs n = rw (← length-drop n xs) (take-length (drop n xs))

-- no text has no line
pub lines_of-none : (xs : List ℕ) → length xs ≡ 0 → lines_of xs ≡ []
lines_of-none [] h = refl
lines_of-none (x ∷ xs) h = absurd (omega arith)
