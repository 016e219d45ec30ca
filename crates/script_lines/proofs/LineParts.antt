-- The lines of a text, part by part.
use Rattle.std.proofs.Common.{◌≡◌, ℕ, ◌<◌, List, [], ◌∷◌, ◌++◌, length, refl, ap, sym, ◌∙◌, arith, inl, inr}
use Rattle.std.proofs.lemmas.Bool.Decides.{eqb_tells}
use Rattle.std.proofs.lemmas.List.Elements.{All-head, All-tail}
use Rattle.script_lines.specs.Lines.{lines_of, whole_lines, onto_first, onto_whole}
use Rattle.script_lines.specs.Written.{HasNoFeed}
use Rattle.script_lines.proofs.LineCuts.{lines_of-feed, lines_of-other, whole_lines-feed, whole_lines-other, whole_lines-ended}

head_no_feed : (b : ℕ) (bs : List ℕ) → HasNoFeed (b ∷ bs) → b ≡ 10 → ⊥
head_no_feed b bs none = All-head (λ x. x ≡ 10 → ⊥) b bs none

tail_no_feed : (b : ℕ) (bs : List ℕ) → HasNoFeed (b ∷ bs) → HasNoFeed bs
tail_no_feed b bs none = All-tail (λ x. x ≡ 10 → ⊥) b bs none

pub lines_of-last : (line : List ℕ) → HasNoFeed line → 0 < length line → lines_of line ≡ line ∷ []
lines_of-last [] none some = absurd (omega arith)
lines_of-last (b ∷ []) none some = lines_of-other b [] (head_no_feed b [] none)
lines_of-last (b ∷ c ∷ bs) none some =
    lines_of-other b (c ∷ bs) (head_no_feed b (c ∷ bs) none) ∙ ap (onto_first b) (lines_of-last (c ∷ bs) (tail_no_feed b (c ∷ bs) none) (omega arith))

pub lines_of-line : (line rest : List ℕ) → HasNoFeed line → lines_of (line ++ 10 ∷ rest) ≡ line ∷ lines_of rest
lines_of-line [] rest none = lines_of-feed 10 rest refl
lines_of-line (b ∷ bs) rest none = lines_of-other b (bs ++ 10 ∷ rest) (head_no_feed b bs none) ∙ ap (onto_first b) (lines_of-line bs rest (tail_no_feed b bs none))

-- a byte goes onto the first of some lines, whatever follows them
onto_first-append : (b : ℕ) (lines others : List (List ℕ)) → 0 < length lines → onto_first b (lines ++ others) ≡ onto_first b lines ++ others
onto_first-append b [] others some = absurd (omega arith)
onto_first-append b (line ∷ lines) others some = refl

pub lines_of-joined : (text rest : List ℕ) → lines_of (text ++ 10 ∷ rest) ≡ lines_of (text ++ 10 ∷ []) ++ lines_of rest
lines_of-joined [] rest = lines_of-feed 10 rest refl
lines_of-joined (b ∷ bs) rest = elim (eqb_tells b 10) [
  | inl t ↦ lines_of-feed b (bs ++ 10 ∷ rest) t.1 ∙ ap (λ ls. [] ∷ ls) (lines_of-joined bs rest) ∙ ap (λ ls. ls ++ lines_of rest) (sym (lines_of-feed b (bs ++ 10 ∷ []) t.1))
  | inr f ↦ lines_of-other b (bs ++ 10 ∷ rest) f.1 ∙ ap (onto_first b) (lines_of-joined bs rest)
      ∙ onto_first-append b (lines_of (bs ++ 10 ∷ [])) (lines_of rest) (whole_lines-ended bs).1 ∙ ap (λ ls. ls ++ lines_of rest) (sym (lines_of-other b (bs ++ 10 ∷ []) f.1))
]

pub whole_lines-none : (line : List ℕ) → HasNoFeed line → whole_lines line ≡ []
whole_lines-none [] none = refl
whole_lines-none (b ∷ bs) none = whole_lines-other b bs (head_no_feed b bs none) ∙ ap (onto_whole b) (whole_lines-none bs (tail_no_feed b bs none))

pub whole_lines-line : (line rest : List ℕ) → HasNoFeed line → whole_lines (line ++ 10 ∷ rest) ≡ line ∷ whole_lines rest
whole_lines-line [] rest none = whole_lines-feed 10 rest refl
whole_lines-line (b ∷ bs) rest none = whole_lines-other b (bs ++ 10 ∷ rest) (head_no_feed b bs none) ∙ ap (onto_whole b) (whole_lines-line bs rest (tail_no_feed b bs none))

-- what follows the last line feed adds no whole line
pub whole_lines-text : (text rest : List ℕ) → HasNoFeed rest → whole_lines (text ++ 10 ∷ rest) ≡ whole_lines (text ++ 10 ∷ [])
whole_lines-text [] rest none = whole_lines-feed 10 rest refl ∙ ap (λ ls. [] ∷ ls) (whole_lines-none rest none)
whole_lines-text (b ∷ bs) rest none = elim (eqb_tells b 10) [
  | inl t ↦ whole_lines-feed b (bs ++ 10 ∷ rest) t.1 ∙ ap (λ ls. [] ∷ ls) (whole_lines-text bs rest none) ∙ sym (whole_lines-feed b (bs ++ 10 ∷ []) t.1)
  | inr f ↦ whole_lines-other b (bs ++ 10 ∷ rest) f.1 ∙ ap (onto_whole b) (whole_lines-text bs rest none) ∙ sym (whole_lines-other b (bs ++ 10 ∷ []) f.1)
]

pub whole_lines-last : (text rest : List ℕ) → HasNoFeed rest → whole_lines (text ++ 10 ∷ rest) ≡ lines_of (text ++ 10 ∷ [])
whole_lines-last text rest none = whole_lines-text text rest none ∙ (whole_lines-ended text).0
