-- That a printed text is UTF-8.
use Rattle.std.proofs.Common.{◌≡◌, ℕ, suc, ◌<◌, ◌≤◌, Bool, true, false, cond, eqb, ltb, ◌||◌, ◌/◌, ◌%◌, inl, inr, List, [], ◌∷◌, ◌++◌, length, get_or, refl, sym, ap, ◌∙◌, subst, arith}
use Rattle.std.proofs.Math.Utf8.{scalar, scalars, encode, encodes, low_scalar}
use Rattle.std.specs.Char.{digit_char}
use Rattle.std.specs.Str.{IsUtf8}
use Rattle.std.proofs.lemmas.Bool.{ne_eqb, cases_lt, le-ltb, ltb-true}
use Rattle.std.proofs.lemmas.Bool.Decides.{nat_tests}
use Rattle.std.proofs.lemmas.List.{append-nil}
use Rattle.std.proofs.lemmas.Str.{encode_ascii, inside_one, IsUtf8-append, IsUtf8-nil, IsUtf8-encode}
use Rattle.slint_literals.specs.Printed.{hexadecimal, printed_byte, printed_text}
use Rattle.slint_literals.proofs.Choices.{both}
use Rattle.slint_literals.proofs.PrintedTexts.{flat_map-append}

high_byte : (b : ℕ) → 128 ≤ b → printed_byte b ≡ b ∷ []
high_byte b h = rw (ne_eqb b 34 (λ e. omega arith)) (rw (ne_eqb b 92 (λ e. omega arith)) (rw (ne_eqb b 10 (λ e. omega arith)) (rw (le-ltb b 32 (omega arith)) (rw (ne_eqb b 127 (λ e. omega arith)) refl))))

high_text : (bs : List ℕ) → ((k : ℕ) → k < length bs → 128 ≤ get_or bs k 0) → printed_text bs ≡ bs
high_text [] h = refl
high_text (b ∷ bs) h =
    ap (λ t. t ++ printed_text bs) (high_byte b (h 0 (omega arith))) ∙ ap (λ t. b ∷ t) (high_text bs (λ k p. h (suc k) (omega arith)))

high_bytes : (c : ℕ) → 128 ≤ c → (k : ℕ) → k < length (encode c) → 128 ≤ get_or (encode c) k 0
high_bytes c h k p = elim (cases_lt (get_or (encode c) k 0) 128) [
  | inl less ↦ let same : c ≡ get_or (encode c) k 0 = inside_one c [] (encode c) k (sym (append-nil (encode c))) p less in absurd (omega arith)
  | inr most ↦ most
]

pub digit_ascii : (d : ℕ) → d < 16 → digit_char d < 128
digit_ascii d h = grind (arith, nat_tests)

pub one : (a : ℕ) → a < 128 → IsUtf8 (a ∷ [])
one a h = subst IsUtf8 (encode_ascii a h) (IsUtf8-encode a (low_scalar a (omega arith)))

pub then_one : (a : ℕ) (bs : List ℕ) → a < 128 → IsUtf8 bs → IsUtf8 (a ∷ bs)
then_one a bs h k = IsUtf8-append (a ∷ []) bs (one a h) k

hexadecimal_utf8 : (t : Bool) (b : ℕ) → ltb b 16 ≡ t → b < 128 → IsUtf8 (cond t (digit_char b ∷ []) (digit_char (b / 16) ∷ digit_char (b % 16) ∷ []) ++ 125 ∷ [])
hexadecimal_utf8 true b e h = then_one (digit_char b) (125 ∷ []) (digit_ascii b (ltb-true b 16 e)) (one 125 (omega arith))
hexadecimal_utf8 false b e h = then_one (digit_char (b / 16)) (digit_char (b % 16) ∷ 125 ∷ []) (digit_ascii (b / 16) (omega arith)) (then_one (digit_char (b % 16)) (125 ∷ []) (digit_ascii (b % 16) (omega arith)) (one 125 (omega arith)))

low_by : (p q r t : Bool) (b : ℕ) → b < 128 → IsUtf8 (cond p (92 ∷ 34 ∷ []) (cond q (92 ∷ 92 ∷ []) (cond r (92 ∷ 110 ∷ []) (cond t (92 ∷ 117 ∷ 123 ∷ (hexadecimal b ++ 125 ∷ [])) (b ∷ [])))))
low_by true q r t b h = then_one 92 (34 ∷ []) (omega arith) (one 34 (omega arith))
low_by false true r t b h = then_one 92 (92 ∷ []) (omega arith) (one 92 (omega arith))
low_by false false true t b h = then_one 92 (110 ∷ []) (omega arith) (one 110 (omega arith))
low_by false false false true b h =
    then_one 92 (117 ∷ 123 ∷ (hexadecimal b ++ 125 ∷ [])) (omega arith) (then_one 117 (123 ∷ (hexadecimal b ++ 125 ∷ [])) (omega arith) (then_one 123 (hexadecimal b ++ 125 ∷ []) (omega arith) (hexadecimal_utf8 (ltb b 16) b refl h)))
low_by false false false false b h = one b h

low_byte : (b : ℕ) → b < 128 → IsUtf8 (printed_byte b)
low_byte b h = low_by (eqb b 34) (eqb b 92) (eqb b 10) (ltb b 32 || eqb b 127) b h

utf8_char : (c : ℕ) → scalar c ≡ true → IsUtf8 (printed_text (encode c))
utf8_char c h = elim (cases_lt c 128) [
  | inl low ↦ subst (λ t. IsUtf8 (printed_text t)) (sym (encode_ascii c low)) (subst IsUtf8 (sym (append-nil (printed_byte c))) (low_byte c low))
  | inr high ↦ subst IsUtf8 (sym (high_text (encode c) (high_bytes c high))) (IsUtf8-encode c h)
]

utf8_chars : (cs : List ℕ) → scalars cs ≡ true → IsUtf8 (printed_text (encodes cs))
utf8_chars [] h = IsUtf8-nil
utf8_chars (c ∷ cs) h =
    let parts = both (scalar c) (scalars cs) h in
    subst IsUtf8 (sym (flat_map-append printed_byte (encode c) (encodes cs))) (IsUtf8-append (printed_text (encode c)) (printed_text (encodes cs)) (utf8_char c parts.0) (utf8_chars cs parts.1))

pub printed_utf8 : (text : List ℕ) → IsUtf8 text → IsUtf8 (printed_text text)
printed_utf8 text h = subst (λ t. IsUtf8 (printed_text t)) h.1.1 (utf8_chars h.0 h.1.0)
