-- Where `split_once` cuts a text at its first blank.
use Rattle.std.proofs.Common.{◌≡◌, ℕ, ◌<◌, ◌≤◌, Bool, true, false, List, [], ◌∷◌, ◌++◌, length, suc, get_or, take, drop, Option, Some, None, refl, sym, ap, ◌∙◌, subst, arith, inl, inr}
use Rattle.std.specs.Str.{NoCharPasses}
use Rattle.std.specs.Str.Pattern.{HasCharAt, FindsBy}
use Rattle.std.specs.Char.{char_set_contains}
use Rattle.std.proofs.lemmas.Str.{encode_ascii, NoCharPasses-byte}
use Rattle.std.proofs.lemmas.Bool.{cases_lt}
use Rattle.std.proofs.lemmas.Bool.Decides.{nat_tests}
use Rattle.std.proofs.lemmas.List.{take-append-drop}
use Rattle.script_lines.specs.Lines.{is_blank, after_blanks, word_of, after_word}
use Rattle.script_lines.proofs.Trims.{blank_set, blank_small}

-- no byte is a blank
abbrev NoBlank : List ℕ → Type 0
NoBlank [] = Unit {0}
NoBlank (b ∷ bs) = (is_blank b ≡ false) × NoBlank bs

no_blank_by_index : (bs : List ℕ) → ((i : ℕ) → i < length bs → is_blank (get_or bs i 0) ≡ false) → NoBlank bs
no_blank_by_index [] h = tt
no_blank_by_index (b ∷ bs) h = (h 0 (omega arith), no_blank_by_index bs (λ i l. h (suc i) (omega arith)))

high_is_no_blank : (b : ℕ) → 128 ≤ b → is_blank b ≡ false
high_is_no_blank b h = grind (arith, nat_tests)

no_blank_by_chars : (bs : List ℕ) → NoCharPasses is_blank bs → NoBlank bs
no_blank_by_chars bs h =
    no_blank_by_index bs (λ i l. elim (cases_lt (get_or bs i 0) 128) [ inl low ↦ NoCharPasses-byte is_blank bs i h l low | inr high ↦ high_is_no_blank (get_or bs i 0) high ])

-- the word in front of a blank
word_of-before : (xs : List ℕ) (b : ℕ) (ys : List ℕ) → NoBlank xs → is_blank b ≡ true → word_of (xs ++ b ∷ ys) ≡ xs
word_of-before [] b ys h e = rw e refl
word_of-before (x ∷ xs) b ys (here, more) e = rw (here, word_of-before xs b ys more e) refl

after_word-behind : (xs : List ℕ) (b : ℕ) (ys : List ℕ) → NoBlank xs → is_blank b ≡ true → after_word (xs ++ b ∷ ys) ≡ after_blanks ys
after_word-behind [] b ys h e = rw e refl
after_word-behind (x ∷ xs) b ys (here, more) e = rw (here, after_word-behind xs b ys more e) refl

-- a text of one word
word_of-all : (xs : List ℕ) → NoBlank xs → word_of xs ≡ xs
word_of-all [] h = refl
word_of-all (x ∷ xs) (here, more) = rw (here, word_of-all xs more) refl

after_word-all : (xs : List ℕ) → NoBlank xs → after_word xs ≡ []
after_word-all [] h = refl
after_word-all (x ∷ xs) (here, more) = rw here (after_word-all xs more)

-- the pattern of blanks in a text
abbrev pub FirstBlank : List ℕ → Option (ℕ × ℕ) → Type 0
FirstBlank s o = (k : ℕ → Bool) → ((c : ℕ) → char_set_contains (32 ∷ 9 ∷ []) c ≡ k c) → FindsBy k s o

cut_at : (s : List ℕ) (i j c : ℕ) → is_blank c ≡ true → HasCharAt c s i j → s ≡ take i s ++ c ∷ drop j s
cut_at s i j c t at =
    let rest : drop i s ≡ c ∷ drop j s = at.split ∙ ap (λ bs. bs ++ drop j s) (encode_ascii c (blank_small c t)) in
    sym (take-append-drop i s) ∙ ap (λ bs. take i s ++ bs) rest

pub word_of-cut : (s word : List ℕ) (i j : ℕ) → FirstBlank s (Some (i, j)) → word ≡ take i s → word ≡ word_of s
word_of-cut s word i j h e =
    let f = h is_blank blank_set in
    let whole = cut_at s i j f.1.0 f.1.1 f.1.2 in
    let P : List ℕ → Type 0 = λ v. take i s ≡ word_of v in
    e ∙ subst P (sym whole) (sym (word_of-before (take i s) f.1.0 (drop j s) (no_blank_by_chars (take i s) f.0) f.1.1))

pub after_word-cut : (s rest trim : List ℕ) (i j : ℕ) → FirstBlank s (Some (i, j)) → rest ≡ drop j s → trim ≡ after_blanks rest → trim ≡ after_word s
after_word-cut s rest trim i j h e g =
    let f = h is_blank blank_set in
    let whole = cut_at s i j f.1.0 f.1.1 f.1.2 in
    let P : List ℕ → Type 0 = λ v. after_blanks (drop j s) ≡ after_word v in
    g ∙ (ap after_blanks e ∙ subst P (sym whole) (sym (after_word-behind (take i s) f.1.0 (drop j s) (no_blank_by_chars (take i s) f.0) f.1.1)))

pub word_of-uncut : (s : List ℕ) → FirstBlank s None → s ≡ word_of s
word_of-uncut s h = sym (word_of-all s (no_blank_by_chars s (h is_blank blank_set)))

pub after_word-uncut : (s : List ℕ) → FirstBlank s None → [] ≡ after_word s
after_word-uncut s h = sym (after_word-all s (no_blank_by_chars s (h is_blank blank_set)))
