-- What `trim_start_matches` and `trim_end_matches` leave where the pattern is the blanks.
use Rattle.std.proofs.Common.{◌≡◌, ℕ, ◌-◌, ◌<◌, Bool, true, false, List, [], ◌∷◌, ◌++◌, length, take, drop, Option, Some, None, refl, sym, ap, ◌∙◌, subst, arith, ◌⊎◌, inl, inr}
use Rattle.std.specs.List.{list_all}
use Rattle.std.specs.Char.{char_set_contains}
use Rattle.std.specs.Str.Pattern.{FindsPrefixBy, FindsSuffixBy, CutsPrefixes, CutsSuffixes, IsFullyTrimmed, IsTrimStartMatches, IsTrimEndMatches, HasPassingCharAt}
use Rattle.std.proofs.lemmas.Str.{encode_ascii, len_utf8_bounds}
use Rattle.std.proofs.lemmas.List.Folds.{list_all-append}
use Rattle.std.specs.Prelude.{IfSome}
use Rattle.std.proofs.Math.Utf8.{low_scalar}
use Rattle.std.proofs.Math.Seq.{drop-length}
use Rattle.std.proofs.lemmas.List.{take-append-drop}
use Rattle.std.proofs.lemmas.Bool.{false≢true}
use Rattle.std.proofs.lemmas.Bool.Decides.{nat_tests}
use Rattle.script_lines.specs.Lines.{is_blank, after_blanks, without_end_blanks}

-- the pattern of blanks is the test of a blank
pub blank_set : (c : ℕ) → char_set_contains (32 ∷ 9 ∷ []) c ≡ is_blank c
blank_set c = grind (arith, nat_tests)

-- a blank is one of two
pub blank_is : (c : ℕ) → is_blank c ≡ true → (c ≡ 32) ⊎ (c ≡ 9)
blank_is c e = grind (arith, nat_tests)

-- a byte is a blank or not
pub blank_or : (c : ℕ) → (is_blank c ≡ true) ⊎ (is_blank c ≡ false)
blank_or c = elim (is_blank c) as (λ v. (v ≡ true) ⊎ (v ≡ false)) [ true ↦ inl refl | false ↦ inr refl ]

pub blank_small : (c : ℕ) → is_blank c ≡ true → c < 128
blank_small c e = elim (blank_is c e) [ inl h ↦ omega arith | inr h ↦ omega arith ]

-- a blank in front counts for nothing
pub after_blanks-cons : (b : ℕ) (bs : List ℕ) → is_blank b ≡ true → after_blanks (b ∷ bs) ≡ after_blanks bs
after_blanks-cons b bs e = rw e refl

pub after_blanks-stop : (b : ℕ) (bs : List ℕ) → is_blank b ≡ false → after_blanks (b ∷ bs) ≡ b ∷ bs
after_blanks-stop b bs e = rw e refl

after_blanks-prefix : (m : List ℕ) (n : ℕ) → HasPassingCharAt is_blank m 0 n → after_blanks m ≡ after_blanks (drop n m)
after_blanks-prefix m n (c, t, at) =
    let e : m ≡ c ∷ drop n m = at.split ∙ ap (λ bs. bs ++ drop n m) (encode_ascii c (blank_small c t)) in
    ap after_blanks e ∙ after_blanks-cons c (drop n m) t

after_blanks-cuts : (R : List ℕ → Option ℕ → Type 0) → ((s : List ℕ) (o : Option ℕ) → R s o → FindsPrefixBy is_blank s o)
    → (s r : List ℕ) (ns : List ℕ) → CutsPrefixes R s ns r → after_blanks s ≡ after_blanks r
after_blanks-cuts R sees s r [] h = ap after_blanks (sym h)
after_blanks-cuts R sees s r (n ∷ ns) (m, before, found, e) =
    after_blanks-cuts R sees s m ns before ∙ (after_blanks-prefix m n (sees m (Some n) found) ∙ ap after_blanks (sym e))

-- nothing more to cut in front
no_prefix : (b : ℕ) (bs : List ℕ) (o : Option ℕ) → FindsPrefixBy is_blank (b ∷ bs) o → IfSome o (λ n. n ≡ 0) → after_blanks (b ∷ bs) ≡ b ∷ bs
no_prefix b bs None found none =
    elim (blank_or b) [
      | inl e ↦ absurd (false≢true (sym (found b bs (low_scalar b (omega (arith, blank_small b e))) (ap (λ c. c ++ bs) (sym (encode_ascii b (blank_small b e))))) ∙ e))
      | inr e ↦ after_blanks-stop b bs e
    ]
no_prefix b bs (Some n) (c, t, at) none = absurd (omega (arith, len_utf8_bounds c, at.ends, none))

after_blanks-trimmed : (R : List ℕ → Option ℕ → Type 0) → ((s : List ℕ) (o : Option ℕ) → R s o → FindsPrefixBy is_blank s o)
    → (r : List ℕ) → IsFullyTrimmed R r → after_blanks r ≡ r
after_blanks-trimmed R sees [] h = refl
after_blanks-trimmed R sees (b ∷ bs) (o, found, none) = no_prefix b bs o (sees (b ∷ bs) o found) none

-- a blank at the end counts for nothing
without_end_blanks-push : (xs : List ℕ) (b : ℕ) → is_blank b ≡ true → without_end_blanks (xs ++ b ∷ []) ≡ without_end_blanks xs
without_end_blanks-push [] b e = rw e refl
without_end_blanks-push (x ∷ xs) b e =
    let all : list_all is_blank (xs ++ b ∷ []) ≡ list_all is_blank xs = grind (arith, list_all-append) in
    rw (all, without_end_blanks-push xs b e) refl

-- what ends with another byte stays
without_end_blanks-stop : (xs : List ℕ) (b : ℕ) → is_blank b ≡ false → without_end_blanks (xs ++ b ∷ []) ≡ xs ++ b ∷ []
without_end_blanks-stop [] b e = rw e refl
without_end_blanks-stop (x ∷ xs) b e =
    let all : list_all is_blank ((x ∷ xs) ++ b ∷ []) ≡ false = grind (arith, list_all-append) in
    rw (all, without_end_blanks-stop xs b e) refl

-- the last byte of a list
pub snoc : (x : ℕ) (xs : List ℕ) → (front : List ℕ) × (b : ℕ) × (x ∷ xs ≡ front ++ b ∷ [])
snoc x [] = ([], x, refl)
snoc x (y ∷ ys) = let s = snoc y ys in (x ∷ s.0, s.1, ap (λ bs. x ∷ bs) s.2)

without_end_blanks-suffix : (m r : List ℕ) (n : ℕ) → HasPassingCharAt is_blank m (length m - n) (length m) → r ≡ take (length m - n) m → without_end_blanks m ≡ without_end_blanks r
without_end_blanks-suffix m r n (c, t, at) e =
    let last : drop (length m - n) m ≡ c ∷ [] = at.split ∙ (ap (λ bs. bs ++ drop (length m) m) (encode_ascii c (blank_small c t)) ∙ ap (λ bs. c ∷ bs) (drop-length m)) in
    let whole : m ≡ r ++ c ∷ [] = sym (take-append-drop (length m - n) m) ∙ (ap (λ bs. take (length m - n) m ++ bs) last ∙ ap (λ bs. bs ++ c ∷ []) (sym e)) in
    ap without_end_blanks whole ∙ without_end_blanks-push r c t

without_end_blanks-cuts : (R : List ℕ → Option ℕ → Type 0) → ((s : List ℕ) (o : Option ℕ) → R s o → FindsSuffixBy is_blank s o)
    → (s r : List ℕ) (ns : List ℕ) → CutsSuffixes R s ns r → without_end_blanks s ≡ without_end_blanks r
without_end_blanks-cuts R sees s r [] h = ap without_end_blanks (sym h)
without_end_blanks-cuts R sees s r (n ∷ ns) (m, before, found, e) =
    without_end_blanks-cuts R sees s m ns before ∙ without_end_blanks-suffix m r n (sees m (Some n) found) e

-- nothing more to cut at the end
no_suffix : (xs : List ℕ) (b : ℕ) (o : Option ℕ) → FindsSuffixBy is_blank (xs ++ b ∷ []) o → IfSome o (λ n. n ≡ 0) → without_end_blanks (xs ++ b ∷ []) ≡ xs ++ b ∷ []
no_suffix xs b None found none =
    elim (blank_or b) [
      | inl e ↦ absurd (false≢true (sym (found b xs (low_scalar b (omega (arith, blank_small b e))) (ap (λ c. xs ++ c) (sym (encode_ascii b (blank_small b e))))) ∙ e))
      | inr e ↦ without_end_blanks-stop xs b e
    ]
no_suffix xs b (Some n) (c, t, at) none = absurd (omega (arith, len_utf8_bounds c, at.ends, none))

without_end_blanks-trimmed : (R : List ℕ → Option ℕ → Type 0) → ((s : List ℕ) (o : Option ℕ) → R s o → FindsSuffixBy is_blank s o)
    → (r : List ℕ) → IsFullyTrimmed R r → without_end_blanks r ≡ r
without_end_blanks-trimmed R sees [] h = refl
without_end_blanks-trimmed R sees (b ∷ bs) (o, found, none) =
    let s = snoc b bs in
    let P : List ℕ → Type 0 = λ v. without_end_blanks v ≡ v in
    let Q : List ℕ → Type 0 = λ v. FindsSuffixBy is_blank v o in
    subst P (sym s.2) (no_suffix s.0 s.1 o (subst Q s.2 (sees (b ∷ bs) o found)) none)

-- the pattern of blanks at a text's front and at its end
abbrev pub BlankInFront : List ℕ → Option ℕ → Type 0
BlankInFront s o = (k : ℕ → Bool) → ((c : ℕ) → char_set_contains (32 ∷ 9 ∷ []) c ≡ k c) → FindsPrefixBy k s o

abbrev pub BlankAtEnd : List ℕ → Option ℕ → Type 0
BlankAtEnd s o = (k : ℕ → Bool) → ((c : ℕ) → char_set_contains (32 ∷ 9 ∷ []) c ≡ k c) → FindsSuffixBy k s o

pub after_blanks-trim : (s r : List ℕ) → IsTrimStartMatches BlankInFront s r → r ≡ after_blanks s
after_blanks-trim s r (cuts, whole) =
    let sees : (m : List ℕ) (o : Option ℕ) → BlankInFront m o → FindsPrefixBy is_blank m o = λ m o f. f is_blank blank_set in
    sym (after_blanks-cuts BlankInFront sees s r cuts.0 cuts.1 ∙ after_blanks-trimmed BlankInFront sees r whole)

pub without_end_blanks-trim : (s r : List ℕ) → IsTrimEndMatches BlankAtEnd s r → r ≡ without_end_blanks s
without_end_blanks-trim s r (cuts, whole) =
    let sees : (m : List ℕ) (o : Option ℕ) → BlankAtEnd m o → FindsSuffixBy is_blank m o = λ m o f. f is_blank blank_set in
    sym (without_end_blanks-cuts BlankAtEnd sees s r cuts.0 cuts.1 ∙ without_end_blanks-trimmed BlankAtEnd sees r whole)
