-- The characters of a text that fit into so much room.
use Rattle.std.proofs.Common.{◌≡◌, ℕ, ◌+◌, ◌-◌, ◌<◌, ◌≤◌, inl, inr, List, [], ◌∷◌, ◌++◌, length, take, drop, sym, ◌∙◌, ap, refl, arith, length-append}
use Rattle.std.specs.Prelude.{encode_utf8, encode_utf8_all}
use Rattle.std.specs.Char.{len_utf8}
use Rattle.std.specs.Str.{chars, IsUtf8, IsCharBoundary}
use Rattle.slint_base.specs.Texts.{fitting, cut_text}
use Rattle.std.proofs.lemmas.Bool.{cases_lt, le-leb, lt-leb}
use Rattle.std.proofs.lemmas.List.{take-append-drop, length-take-le}
use Rattle.std.proofs.Math.Seq.{take-length}
use Rattle.std.proofs.lemmas.Str.{length-encode, len_utf8_bounds, IsCharBoundary-end, IsCharBoundary-past_char, IsUtf8-take, IsUtf8-drop, chars-append, encodes-chars}

-- a character that fits is taken, and one that doesn't ends the list
fitting-fits : (room c : ℕ) (cs : List ℕ) → len_utf8 c ≤ room → fitting room (c ∷ cs) ≡ c ∷ fitting (room - len_utf8 c) cs
fitting-fits room c cs h = rw (le-leb (len_utf8 c) room h) refl

fitting-tight : (room c : ℕ) (cs : List ℕ) → room < len_utf8 c → fitting room (c ∷ cs) ≡ []
fitting-tight room c cs h = rw (lt-leb (len_utf8 c) room h) refl

-- the characters in front fit, and the next one doesn't
pub fitting-append : (front back : List ℕ) (room : ℕ) → length (encode_utf8_all front) ≤ room
    → ((c : ℕ) (cs : List ℕ) → back ≡ c ∷ cs → room < length (encode_utf8_all front) + len_utf8 c)
    → fitting room (front ++ back) ≡ front
fitting-append [] [] room fits next = refl
fitting-append [] (c ∷ cs) room fits next = let tight : room < 0 + len_utf8 c = next c cs refl in fitting-tight room c cs (omega arith)
fitting-append (a ∷ front) back room fits next =
    let sizes : length (encode_utf8 a ++ encode_utf8_all front) ≡ len_utf8 a + length (encode_utf8_all front) = length-append (encode_utf8 a) (encode_utf8_all front) ∙ ap (λ n. n + length (encode_utf8_all front)) (length-encode a) in
    let first : len_utf8 a ≤ room = omega (arith, sizes, fits) in
    let rest : length (encode_utf8_all front) ≤ room - len_utf8 a = omega (arith, sizes, fits) in
    let after : (c : ℕ) (cs : List ℕ) → back ≡ c ∷ cs → room - len_utf8 a < length (encode_utf8_all front) + len_utf8 c = λ c cs e. (let far : room < length (encode_utf8 a ++ encode_utf8_all front) + len_utf8 c = next c cs e in omega (arith, sizes, far)) in
    fitting-fits room a (front ++ back) first ∙ ap (λ xs. a ∷ xs) (fitting-append front back (room - len_utf8 a) rest after)

-- a text that is cut at the last place within the limit
pub cut_text_at : (text : List ℕ) (end : ℕ) → IsUtf8 text → end ≤ 65535 → IsCharBoundary text end
    → ((i : ℕ) → end < i → i ≤ 65535 → IsCharBoundary text i → ⊥)
    → take end text ≡ cut_text text
cut_text_at text end utf8 small edge last =
    let front_utf8 = IsUtf8-take text end utf8 edge in
    let back_utf8 = IsUtf8-drop text end utf8 edge in
    let front = encodes-chars (take end text) front_utf8 in
    let back = encodes-chars (drop end text) back_utf8 in
    let size : length (encode_utf8_all (chars (take end text))) ≡ end = ap length front ∙ length-take-le end text edge.0 in
    let parts : chars text ≡ chars (take end text) ++ chars (drop end text) = ap chars (sym (take-append-drop end text)) ∙ chars-append (take end text) (drop end text) front_utf8 in
    let fits : length (encode_utf8_all (chars (take end text))) ≤ 65535 = omega (arith, size) in
    let next : (c : ℕ) (cs : List ℕ) → chars (drop end text) ≡ c ∷ cs → 65535 < length (encode_utf8_all (chars (take end text))) + len_utf8 c = λ c cs e.
    (elim (cases_lt 65535 (end + len_utf8 c)) [
      | inl past ↦ omega (arith, size, past)
      | inr within ↦ absurd (last (end + len_utf8 c) (omega (arith, len_utf8_bounds c)) within (IsCharBoundary-past_char text (encode_utf8_all cs) end c edge.0 back_utf8 (sym back ∙ ap encode_utf8_all e)))
    ]) in
    sym (ap (λ cs. encode_utf8_all (fitting 65535 cs)) parts ∙ ap encode_utf8_all (fitting-append (chars (take end text)) (chars (drop end text)) 65535 fits next) ∙ front)

-- a text within the limit is cut at its end
pub cut_text_whole : (text : List ℕ) → IsUtf8 text → length text ≤ 65535 → cut_text text ≡ text
cut_text_whole text utf8 small =
    sym (cut_text_at text (length text) utf8 small (IsCharBoundary-end text) (λ i past fits edge. (let within : i ≤ length text = edge.0 in omega (arith, past, within)))) ∙ take-length text
