-- Names at the front of bytes.
use Rattle.std.proofs.Common.{◌≡◌, ℕ, ◌+◌, ◌<◌, ◌≤◌, Bool, true, false, cond, ◌&&◌, Option, Some, None, List, [], ◌∷◌, ◌++◌, length, take, drop, refl, sym, ap, ◌∙◌, subst, arith}
use Rattle.std.specs.Char.{len_utf8}
use Rattle.std.specs.List.{list_all}
use Rattle.std.specs.Str.{IsUtf8}
use Rattle.std.proofs.Math.Utf8.{scalar, scalars, encode, encodes}
use Rattle.std.proofs.Math.Seq.{take-add}
use Rattle.std.proofs.lemmas.List.{append_assoc, append-nil, length-append, length-drop, length-take-le, take_at, take-append-drop}
use Rattle.std.proofs.lemmas.List.Folds.{list_all-append}
use Rattle.std.proofs.lemmas.Str.{encode_same, encodes-append, length-encode, len_utf8_bounds}
use Rattle.slint_literals.specs.Characters.{char_len, front_char}
use Rattle.slint_literals.proofs.Chars.{front_char_is, front_char-encode, char_len_le}
use Rattle.slint_literals.proofs.Choices.{both, both_true}
use Rattle.slint_lexer.specs.Names.{is_name_start, is_name_part, starts_name, begins_name, IsName}
use Rattle.slint_lexer.specs.Found.{part_length, IsWholeName}

-- the bytes up to a place are a name
pub record NamedUpTo (s : List ℕ) (at : ℕ) : Type 0 where
  pub within : at ≤ length s
  pub name : IsName (take at s)

start_by : (s : List ℕ) (found : Option ℕ) → front_char s ≡ found → starts_name found ≡ true → (c : ℕ) × (front_char s ≡ Some c) × (is_name_start c ≡ true)
start_by s None e h = cc
start_by s (Some c) e h = (c, e, h)

take_first : (s : List ℕ) (c : ℕ) → front_char s ≡ Some c → take (char_len s) s ≡ encode c
take_first s c h = let is = front_char_is s c h in ap (take (char_len s)) is.2 ∙ take_at (encode c) (drop (char_len s) s) (char_len s) (sym is.1)

pub named_first : (s : List ℕ) → begins_name s ≡ true → NamedUpTo s (char_len s)
named_first s h =
    let at = start_by s (front_char s) refl h in
    let is = front_char_is s at.0 at.1 in
    record {
      within = char_len_le s;
      name = record {
        first = at.0;
        others = [];
        are_chars = both_true (scalar at.0) true is.0 refl;
        starts = at.2;
        goes_on = refl;
        is = take_first s at.0 at.1 ∙ sym (append-nil (encode at.0));
      };
    }

scalars-append : (cs ds : List ℕ) → scalars cs ≡ true → scalars ds ≡ true → scalars (cs ++ ds) ≡ true
scalars-append [] ds h k = k
scalars-append (c ∷ cs) ds h k = let parts = both (scalar c) (scalars cs) h in both_true (scalar c) (scalars (cs ++ ds)) parts.0 (scalars-append cs ds parts.1 k)

-- a name and one character more
name_snoc : (text more : List ℕ) (c : ℕ) → IsName text → scalar c ≡ true → is_name_part c ≡ true → more ≡ encode c → IsName (text ++ more)
name_snoc text more c n h k e = record {
  first = n.first;
  others = n.others ++ c ∷ [];
  are_chars = scalars-append (n.first ∷ n.others) (c ∷ []) n.are_chars (both_true (scalar c) true h refl);
  starts = n.starts;
  goes_on = list_all-append is_name_part n.others (c ∷ []) ∙ both_true (list_all is_name_part n.others) (is_name_part c && true) n.goes_on (both_true (is_name_part c) true k refl);
  is = ap (λ t. t ++ more) n.is ∙ ap (λ t. encodes (n.first ∷ n.others) ++ t) (e ∙ sym (append-nil (encode c))) ∙ sym (encodes-append (n.first ∷ n.others) (c ∷ []));
}

part_by : (t : Bool) (c n : ℕ) → is_name_part c ≡ t → n ≡ cond t (len_utf8 c) 0 → 0 < n → (is_name_part c ≡ true) × (n ≡ len_utf8 c)
part_by true c n e h p = (e, h)
part_by false c n e h p = absurd (omega arith)

part_is : (s : List ℕ) (n : ℕ) (found : Option ℕ) → front_char s ≡ found → n ≡ part_length found → 0 < n → (c : ℕ) × (front_char s ≡ Some c) × (is_name_part c ≡ true) × (n ≡ len_utf8 c)
part_is s n None e h p = absurd (omega arith)
part_is s n (Some c) e h p = let at = part_by (is_name_part c) c n refl h p in (c, e, at.0, at.1)

pub part_within : (s : List ℕ) (n : ℕ) → n ≡ part_length (front_char s) → 0 < n → (n ≤ length s) × (n ≡ char_len s)
part_within s n h p =
    let at = part_is s n (front_char s) refl h p in
    let is = front_char_is s at.0 at.1 in
    let count : n ≡ char_len s = at.3 ∙ sym (length-encode at.0) ∙ sym is.1 in
    (omega (arith, char_len_le s), count)

pub named_more : (s behind : List ℕ) (at n : ℕ) → behind ≡ drop at s → NamedUpTo s at → n ≡ part_length (front_char behind) → 0 < n → NamedUpTo s (at + n)
named_more s behind at n e named h p =
    let found = part_is behind n (front_char behind) refl h p in
    let is = front_char_is behind found.0 found.1 in
    let within = part_within behind n h p in
    let more : take n behind ≡ encode found.0 = ap (λ k. take k behind) within.1 ∙ take_first behind found.0 found.1 in
    let whole : take at s ++ take n behind ≡ take (at + n) s = ap (λ t. take at s ++ take n t) e ∙ sym (take-add at n s) in
    record {
      within = omega (arith, length-drop at s, ap length e, named.within);
      name = subst IsName whole (name_snoc (take at s) (take n behind) found.0 named.name is.0 found.2 more);
    }

pub named_whole : (s behind : List ℕ) (at n : ℕ) → behind ≡ drop at s → NamedUpTo s at → n ≡ part_length (front_char behind) → n ≡ 0 → IsWholeName s at
named_whole s behind at n e named h z = record { within = named.within; name = named.name; ended = ap (λ t. part_length (front_char t)) (sym e) ∙ sym h ∙ z }

-- no name at the front is longer

part_none : (c : ℕ) → is_name_part c ≡ true → cond (is_name_part c) (len_utf8 c) 0 ≡ 0 → ⊥
part_none c h e = let count : len_utf8 c ≡ 0 = sym (ap (λ t. cond t (len_utf8 c) 0) h) ∙ e in omega (arith, len_utf8_bounds c)

not_longer : (cs ds r q : List ℕ) → scalars ds ≡ true → list_all is_name_part ds ≡ true → encodes cs ++ r ≡ encodes ds ++ q → part_length (front_char r) ≡ 0 → length (encodes ds) ≤ length (encodes cs)
not_longer cs [] r q h k e z = omega arith
not_longer [] (d ∷ ds) r q h k e z =
    let front : r ≡ encode d ++ (encodes ds ++ q) = e ∙ append_assoc (encode d) (encodes ds) q in
    let found : front_char r ≡ Some d = ap front_char front ∙ front_char-encode d (encodes ds ++ q) (both (scalar d) (scalars ds) h).0 in
    absurd (part_none d (both (is_name_part d) (list_all is_name_part ds) k).0 (ap part_length (sym found) ∙ z))
not_longer (c ∷ cs) (d ∷ ds) r q h k e z =
    let whole : encode c ++ (encodes cs ++ r) ≡ encode d ++ (encodes ds ++ q) = sym (append_assoc (encode c) (encodes cs) r) ∙ e ∙ append_assoc (encode d) (encodes ds) q in
    let same = encode_same c d (encodes cs ++ r) (encodes ds ++ q) whole in
    let fewer = not_longer cs ds r q (both (scalar d) (scalars ds) h).1 (both (is_name_part d) (list_all is_name_part ds) k).1 same.1 z in
    let count : length (encode c) ≡ length (encode d) = ap (λ x. length (encode x)) same.0 in
    omega (arith, length-append (encode c) (encodes cs), length-append (encode d) (encodes ds))

pub no_longer_name : (s text q : List ℕ) (n : ℕ) → IsWholeName s n → IsName text → s ≡ text ++ q → length text ≤ n
no_longer_name s text q n whole name e =
    let own = whole.name in
    let split : encode own.first ++ (encodes own.others ++ drop n s) ≡ encode name.first ++ (encodes name.others ++ q) =
    sym (append_assoc (encode own.first) (encodes own.others) (drop n s)) ∙ ap (λ t. t ++ drop n s) (sym own.is) ∙ take-append-drop n s ∙ e ∙ ap (λ t. t ++ q) name.is ∙ append_assoc (encode name.first) (encodes name.others) q in
    let same = encode_same own.first name.first (encodes own.others ++ drop n s) (encodes name.others ++ q) split in
    let fewer = not_longer own.others name.others (drop n s) q (both (scalar name.first) (scalars name.others) name.are_chars).1 name.goes_on same.1 whole.ended in
    let count : length (encode own.first) ≡ length (encode name.first) = ap (λ x. length (encode x)) same.0 in
    let front : length (take n s) ≡ n = length-take-le n s whole.within in
    omega (arith, ap length own.is, ap length name.is, length-append (encode own.first) (encodes own.others), length-append (encode name.first) (encodes name.others))

pub name_utf8 : (text : List ℕ) → IsName text → IsUtf8 text
name_utf8 text n = (n.first ∷ n.others, (n.are_chars, sym n.is))
