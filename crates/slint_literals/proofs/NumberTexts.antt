-- The texts of numbers: their parts, and the longest at the front of bytes.
use Rattle.std.proofs.Common.{◌≡◌, ℕ, ◌+◌, ◌<◌, ◌≤◌, Bool, true, false, cond, eqb, ◌&&◌, ◌⊎◌, inl, inr, None, List, [], ◌∷◌, ◌++◌, length, take, drop, refl, sym, ap, ◌∙◌, subst, arith}
use Rattle.std.specs.Prelude.{codes}
use Rattle.std.specs.Char.{is_ascii_digit, is_ascii_alphabetic}
use Rattle.std.specs.List.{list_all, prefix_len, take_while}
use Rattle.std.specs.Str.{bytes_eq}
use Rattle.std.proofs.Math.Seq.{take-append-add}
use Rattle.std.proofs.lemmas.Bool.{or_cases, eqb-true, or_right}
use Rattle.std.proofs.lemmas.Bool.Decides.{nat_tests}
use Rattle.std.proofs.lemmas.List.{append_assoc, length-append, length-take-le, take_at, drop_at, take-append-drop}
use Rattle.std.proofs.lemmas.List.Folds.{length-prefix_len}
use Rattle.std.proofs.lemmas.List.Sums.{prefix_len-le-length}
use Rattle.std.proofs.lemmas.Slice.Eq.{bytes_eq-Decides}
use Rattle.slint_literals.specs.Numbers.{pointed, numeral, some_digits, is_unit, are_parts, whole_of, behind_whole, behind_point, fraction_of, unit_of, is_number, unit_length, number_length, starts_with_digit, worth, number_value, IsLongestNumber}
use Rattle.slint_literals.proofs.Choices.{both, both_true}
use Rattle.slint_literals.proofs.Hex.{all_front}
use Rattle.slint_literals.proofs.Worths.{behind_digits}

abbrev digit : ℕ → Bool
digit = is_ascii_digit

-- what passes at the front of a list, and what follows
pub prefix_len-all : (p : ℕ → Bool) (xs ys : List ℕ) → list_all p xs ≡ true → prefix_len p (xs ++ ys) ≡ length xs + prefix_len p ys
prefix_len-all p [] ys h = omega arith
prefix_len-all p (x ∷ xs) ys h =
    let parts = both (p x) (list_all p xs) h in
    let more = prefix_len-all p xs ys parts.1 in
    rw parts.0 (omega (arith, more))

-- a list that doesn't begin with what passes
abbrev pub Fails : (ℕ → Bool) → List ℕ → Type 0
Fails p [] = Unit {0}
Fails p (x ∷ xs) = p x ≡ false

pub prefix_len-fails : (p : ℕ → Bool) (xs : List ℕ) → Fails p xs → prefix_len p xs ≡ 0
prefix_len-fails p [] h = refl
prefix_len-fails p (x ∷ xs) h = rw h refl

pub prefix_len-whole : (p : ℕ → Bool) (xs ys : List ℕ) → list_all p xs ≡ true → Fails p ys → prefix_len p (xs ++ ys) ≡ length xs
prefix_len-whole p xs ys h k = omega (arith, prefix_len-all p xs ys h, prefix_len-fails p ys k)

pub take_while-whole : (p : ℕ → Bool) (xs ys : List ℕ) → list_all p xs ≡ true → Fails p ys → take_while p (xs ++ ys) ≡ xs
take_while-whole p xs ys h k = take_at xs ys (prefix_len p (xs ++ ys)) (sym (prefix_len-whole p xs ys h k))

pub drop_while-whole : (p : ℕ → Bool) (xs ys : List ℕ) → list_all p xs ≡ true → Fails p ys → drop (prefix_len p (xs ++ ys)) (xs ++ ys) ≡ ys
drop_while-whole p xs ys h k = drop_at xs ys (prefix_len p (xs ++ ys)) (sym (prefix_len-whole p xs ys h k))

-- units begin with no digit and no point

letter_no_digit : (b : ℕ) → is_ascii_alphabetic b ≡ true → is_ascii_digit b ≡ false
letter_no_digit b h = grind (arith, nat_tests)

letter_no_point : (b : ℕ) → is_ascii_alphabetic b ≡ true → eqb b 46 ≡ false
letter_no_point b h = grind (arith, nat_tests)

letter_no_percent : (b : ℕ) → is_ascii_alphabetic b ≡ true → eqb b 37 ≡ false
letter_no_percent b h = grind (arith, nat_tests)

abbrev is_point : ℕ → Bool
is_point b = eqb b 46

unit_kinds : (u : List ℕ) → is_unit u ≡ true → (u ≡ 37 ∷ []) ⊎ (list_all is_ascii_alphabetic u ≡ true)
unit_kinds u h = elim (or_cases (bytes_eq u (codes "%")) (list_all is_ascii_alphabetic u) h) [
  | inl same ↦ inl ((bytes_eq-Decides u (codes "%")).0 same)
  | inr letters ↦ inr letters
]

letters_fail : (p : ℕ → Bool) (u : List ℕ) → ((b : ℕ) → is_ascii_alphabetic b ≡ true → p b ≡ false) → list_all is_ascii_alphabetic u ≡ true → Fails p u
letters_fail p [] h k = tt
letters_fail p (b ∷ u) h k = h b (both (is_ascii_alphabetic b) (list_all is_ascii_alphabetic u) k).0

unit_fails : (p : ℕ → Bool) (u : List ℕ) → p 37 ≡ false → ((b : ℕ) → is_ascii_alphabetic b ≡ true → p b ≡ false) → is_unit u ≡ true → Fails p u
unit_fails p u percent h k = elim (unit_kinds u k) [
  | inl same ↦ subst (λ x. Fails p x) (sym same) percent
  | inr letters ↦ letters_fail p u h letters
]

fails_before : (p : ℕ → Bool) (u q : List ℕ) → Fails p u → 0 < length u → Fails p (u ++ q)
fails_before p [] q h s = absurd (omega arith)
fails_before p (b ∷ u) q h s = h

point_before : (f u : List ℕ) → Fails is_ascii_digit u → Fails is_ascii_digit (pointed f ++ u)
point_before [] u h = h
point_before (d ∷ ds) u h = refl

-- the parts of a number's text are those that it is made of

digits_from_some : (w : List ℕ) → some_digits w ≡ true → (list_all is_ascii_digit w ≡ true) × (0 < length w)
digits_from_some [] h = cc
digits_from_some (d ∷ ds) h = (h, omega arith)

point_part : (u : List ℕ) → Fails is_point u → behind_point u ≡ []
point_part [] h = refl
point_part (b ∷ u) h = rw h refl

fraction_part : (f u : List ℕ) → list_all is_ascii_digit f ≡ true → Fails is_ascii_digit u → Fails is_point u → behind_point (pointed f ++ u) ≡ f
fraction_part [] u h k l = point_part u l
fraction_part (d ∷ ds) u h k l = take_while-whole digit (d ∷ ds) u h k

pub record HasParts (text w f u : List ℕ) : Type 0 where
  pub whole : whole_of text ≡ w
  pub fraction : fraction_of text ≡ f
  pub unit : unit_of text ≡ u

-- where neither a digit nor a point goes on behind them
pub parts_before : (w f t : List ℕ) → list_all is_ascii_digit w ≡ true → list_all is_ascii_digit f ≡ true → Fails digit t → Fails is_point t → HasParts (w ++ (pointed f ++ t)) w f t
parts_before w f t h k no_digit no_point =
    let text = w ++ (pointed f ++ t) in
    let stops = point_before f t no_digit in
    let behind : behind_whole text ≡ pointed f ++ t = drop_while-whole digit w (pointed f ++ t) h stops in
    let fraction : fraction_of text ≡ f = ap behind_point behind ∙ fraction_part f t k no_digit no_point in
    record {
      whole = take_while-whole digit w (pointed f ++ t) h stops;
      fraction = fraction;
      unit = ap (λ ds. drop (length (pointed ds)) (behind_whole text)) fraction ∙ ap (drop (length (pointed f))) behind ∙ drop_at (pointed f) t (length (pointed f)) refl;
    }

pub record ArePartsOf (w f u : List ℕ) : Type 0 where
  pub digits : list_all is_ascii_digit w ≡ true
  pub some : 0 < length w
  pub behind : list_all is_ascii_digit f ≡ true
  pub unit : is_unit u ≡ true
  pub no_digit : Fails digit u
  pub no_point : Fails is_point u

pub parts_of : (w f u : List ℕ) → are_parts w f u ≡ true → ArePartsOf w f u
parts_of w f u h =
    let some = both (some_digits w) (list_all is_ascii_digit f && is_unit u) h in
    let good = both (list_all is_ascii_digit f) (is_unit u) some.1 in
    let digits = digits_from_some w some.0 in
    record {
      digits = digits.0;
      some = digits.1;
      behind = good.0;
      unit = good.1;
      no_digit = unit_fails digit u refl letter_no_digit good.1;
      no_point = unit_fails is_point u refl letter_no_point good.1;
    }

pub parts_are : (w f u : List ℕ) → are_parts w f u ≡ true → HasParts (numeral w f u) w f u
parts_are w f u h = let p = parts_of w f u h in parts_before w f u p.digits p.behind p.no_digit p.no_point

-- three parts make a number's text, which is worth what they are
pub numeral_is : (w f u : List ℕ) → are_parts w f u ≡ true → (is_number (numeral w f u) ≡ true) × (number_value (numeral w f u) ≡ worth w f u)
numeral_is w f u h =
    let at = parts_are w f u h in
    let text = numeral w f u in
    let good : is_number text ≡ true =
    ap (λ x. are_parts x (fraction_of text) (unit_of text)) at.whole ∙ ap (λ x. are_parts w x (unit_of text)) at.fraction ∙ ap (are_parts w f) at.unit ∙ h in (
      good,
      ap (λ t. cond t (worth (whole_of text) (fraction_of text) (unit_of text)) None) good
          ∙ ap (λ x. worth x (fraction_of text) (unit_of text)) at.whole ∙ ap (λ x. worth w x (unit_of text)) at.fraction ∙ ap (worth w f) at.unit,
    )

-- a text is made of its parts
point_text : (b : ℕ) (cs ds : List ℕ) → b ≡ 46 → cs ≡ ds ++ drop (length ds) cs → b ∷ cs ≡ pointed ds ++ drop (length (pointed ds)) (b ∷ cs)
point_text b cs [] e h = refl
point_text b cs (d ∷ ds) e h = ap (λ x. x ∷ cs) e ∙ ap (λ t. 46 ∷ t) h

digits_text : (cs : List ℕ) → cs ≡ take_while is_ascii_digit cs ++ drop (length (take_while is_ascii_digit cs)) cs
digits_text cs =
    let n = prefix_len is_ascii_digit cs in
    sym (take-append-drop n cs) ∙ ap (λ k. take n cs ++ drop k cs) (sym (length-prefix_len is_ascii_digit cs))

fraction_by : (t : Bool) (b : ℕ) (cs : List ℕ) → eqb b 46 ≡ t → b ∷ cs ≡ pointed (cond t (take_while is_ascii_digit cs) []) ++ drop (length (pointed (cond t (take_while is_ascii_digit cs) []))) (b ∷ cs)
fraction_by true b cs e = point_text b cs (take_while is_ascii_digit cs) (eqb-true b 46 e) (digits_text cs)
fraction_by false b cs e = refl

fraction_text : (s : List ℕ) → s ≡ pointed (behind_point s) ++ drop (length (pointed (behind_point s))) s
fraction_text [] = refl
fraction_text (b ∷ cs) = fraction_by (eqb b 46) b cs refl

pub text_is : (text : List ℕ) → text ≡ numeral (whole_of text) (fraction_of text) (unit_of text)
text_is text = sym (take-append-drop (prefix_len is_ascii_digit text) text) ∙ ap (λ t. whole_of text ++ t) (fraction_text (behind_whole text))

-- units at the front

letters_more : (b : ℕ) (u q : List ℕ) → list_all is_ascii_alphabetic (b ∷ u) ≡ true → length (b ∷ u) ≤ unit_length ((b ∷ u) ++ q)
letters_more b u q h =
    let not_percent : eqb b 37 ≡ false = letter_no_percent b (both (is_ascii_alphabetic b) (list_all is_ascii_alphabetic u) h).0 in
    let whole : unit_length ((b ∷ u) ++ q) ≡ prefix_len is_ascii_alphabetic ((b ∷ u) ++ q) = rw not_percent refl in
    omega (arith, prefix_len-all is_ascii_alphabetic (b ∷ u) q h)

letters_longer : (u q : List ℕ) → list_all is_ascii_alphabetic u ≡ true → length u ≤ unit_length (u ++ q)
letters_longer [] q h = omega arith
letters_longer (b ∷ u) q h = letters_more b u q h

unit_longer : (u q : List ℕ) → is_unit u ≡ true → length u ≤ unit_length (u ++ q)
unit_longer u q h = elim (unit_kinds u h) [
  | inl same ↦ let Short : List ℕ → Type 0 = λ x. length x ≤ unit_length (x ++ q) in let one : length {A = ℕ} (37 ∷ []) ≤ 1 = omega arith in subst Short (sym same) one
  | inr letters ↦ letters_longer u q letters
]

front_by : (t : Bool) (b : ℕ) (s : List ℕ) → eqb b 37 ≡ t → is_unit (take (cond t 1 (prefix_len is_ascii_alphabetic (b ∷ s))) (b ∷ s)) ≡ true
front_by true b s e = subst (λ x. is_unit (x ∷ []) ≡ true) (sym (eqb-true b 37 e)) refl
front_by false b s e = or_right (bytes_eq (take_while is_ascii_alphabetic (b ∷ s)) (codes "%")) (list_all is_ascii_alphabetic (take_while is_ascii_alphabetic (b ∷ s))) (all_front is_ascii_alphabetic (b ∷ s))

unit_front : (s : List ℕ) → is_unit (take (unit_length s) s) ≡ true
unit_front [] = refl
unit_front (b ∷ s) = front_by (eqb b 37) b s refl

within_by : (t : Bool) (b : ℕ) (s : List ℕ) → cond t 1 (prefix_len is_ascii_alphabetic (b ∷ s)) ≤ length (b ∷ s)
within_by true b s = omega arith
within_by false b s = prefix_len-le-length is_ascii_alphabetic (b ∷ s)

pub unit_within : (s : List ℕ) → unit_length s ≤ length s
unit_within [] = omega arith
unit_within (b ∷ s) = within_by (eqb b 37) b s

-- what begins with a number's text has a number at the front that is no shorter

bare_longer : (w q : List ℕ) → list_all is_ascii_digit w ≡ true → length w ≤ number_length (w ++ q)
bare_longer w q h = omega (arith, length-prefix_len is_ascii_digit (w ++ q), prefix_len-all is_ascii_digit w q h)

pointed_more : (ds : List ℕ) → 0 < length ds → length (pointed ds) ≡ 1 + length ds
pointed_more [] h = absurd (omega arith)
pointed_more (d ∷ ds) h = omega arith

pointed_longer : (w q : List ℕ) (d : ℕ) (ds : List ℕ) → list_all is_ascii_digit w ≡ true → list_all is_ascii_digit (d ∷ ds) ≡ true → length w + length (pointed (d ∷ ds)) ≤ number_length (w ++ (46 ∷ ((d ∷ ds) ++ q)))
pointed_longer w q d ds h k =
    let text = w ++ (46 ∷ ((d ∷ ds) ++ q)) in
    let whole : whole_of text ≡ w = take_while-whole digit w (46 ∷ ((d ∷ ds) ++ q)) h refl in
    let behind : behind_whole text ≡ 46 ∷ ((d ∷ ds) ++ q) = drop_while-whole digit w (46 ∷ ((d ∷ ds) ++ q)) h refl in
    let fraction : fraction_of text ≡ take_while is_ascii_digit ((d ∷ ds) ++ q) = ap behind_point behind in
    let more : length (take_while is_ascii_digit ((d ∷ ds) ++ q)) ≡ length (d ∷ ds) + prefix_len is_ascii_digit q =
    length-prefix_len is_ascii_digit ((d ∷ ds) ++ q) ∙ prefix_len-all is_ascii_digit (d ∷ ds) q k in
    let count = ap length whole in
    let points = pointed_more (take_while is_ascii_digit ((d ∷ ds) ++ q)) (omega arith) in
    let same : length (pointed (fraction_of text)) ≡ length (pointed (take_while is_ascii_digit ((d ∷ ds) ++ q))) = ap (λ x. length (pointed x)) fraction in
    omega arith

longer_by : (w f u q : List ℕ) → ArePartsOf w f u → 0 < length u → length (numeral w f u) ≤ number_length (w ++ (pointed f ++ (u ++ q)))
longer_by w f u q p h =
    let at = parts_before w f (u ++ q) p.digits p.behind (fails_before digit u q p.no_digit h) (fails_before is_point u q p.no_point h) in
    let whole = ap length at.whole in
    let fraction = ap (λ x. length (pointed x)) at.fraction in
    let unit = ap unit_length at.unit in
    omega (arith, unit_longer u q p.unit, length-append w (pointed f ++ u), length-append (pointed f) u)

longer_bare : (w f q : List ℕ) → list_all is_ascii_digit w ≡ true → list_all is_ascii_digit f ≡ true → length (numeral w f []) ≤ number_length (w ++ (pointed f ++ q))
longer_bare w [] q h k = omega (arith, bare_longer w q h, length-append w [])
longer_bare w (d ∷ ds) q h k = omega (arith, pointed_longer w q d ds h k, length-append w (pointed (d ∷ ds) ++ []), length-append (pointed (d ∷ ds)) [])

longer_parts : (w f u q : List ℕ) → ArePartsOf w f u → length (numeral w f u) ≤ number_length (w ++ (pointed f ++ (u ++ q)))
longer_parts w f [] q p = longer_bare w f q p.digits p.behind
longer_parts w f (b ∷ u) q p = longer_by w f (b ∷ u) q p (omega arith)

numeral-append : (w f u q : List ℕ) → numeral w f u ++ q ≡ w ++ (pointed f ++ (u ++ q))
numeral-append w f u q = append_assoc w (pointed f ++ u) q ∙ ap (λ t. w ++ t) (append_assoc (pointed f) u q)

pub no_longer : (text q : List ℕ) → is_number text ≡ true → length text ≤ number_length (text ++ q)
no_longer text q h =
    let w = whole_of text in
    let f = fraction_of text in
    let u = unit_of text in
    let longer = longer_parts w f u q (parts_of w f u h) in
    let same : text ++ q ≡ w ++ (pointed f ++ (u ++ q)) = ap (λ t. t ++ q) (text_is text) ∙ numeral-append w f u q in
    let count = ap length (text_is text) in
    omega (arith, ap number_length same)

-- and a number of that length lies there

some_from : (ds : List ℕ) → list_all is_ascii_digit ds ≡ true → 0 < length ds → some_digits ds ≡ true
some_from [] h p = absurd (omega arith)
some_from (d ∷ ds) h p = h

some_whole : (text : List ℕ) → starts_with_digit text ≡ true → some_digits (whole_of text) ≡ true
some_whole [] h = cc
some_whole (b ∷ s) h =
    let count : prefix_len is_ascii_digit (b ∷ s) ≡ 1 + prefix_len is_ascii_digit s = rw h refl in
    some_from (whole_of (b ∷ s)) (all_front is_ascii_digit (b ∷ s)) (omega (arith, length-prefix_len is_ascii_digit (b ∷ s)))

number_front : (text : List ℕ) → starts_with_digit text ≡ true → take (number_length text) text ≡ numeral (whole_of text) (fraction_of text) (take (unit_length (unit_of text)) (unit_of text))
number_front text h =
    let w = whole_of text in
    let f = fraction_of text in
    let u = unit_of text in
    let n = unit_length u in
    ap (take (number_length text)) (text_is text) ∙ take-append-add w (pointed f ++ u) (length (pointed f) + n) ∙ ap (λ t. w ++ t) (take-append-add (pointed f) u n)

pub longest_number : (text : List ℕ) → starts_with_digit text ≡ true → IsLongestNumber text (number_length text)
longest_number text h =
    let w = whole_of text in
    let f = fraction_of text in
    let u = unit_of text in
    let front = take (unit_length u) u in
    let good : are_parts w f front ≡ true = both_true (some_digits w) (list_all is_ascii_digit f && is_unit front) (some_whole text h) (both_true (list_all is_ascii_digit f) (is_unit front) (behind_digits (behind_whole text)) (unit_front u)) in
    let count = ap length (text_is text) in
    record {
      within = omega (arith, length-append w (pointed f ++ u), length-append (pointed f) u, unit_within u);
      number = ap is_number (number_front text h) ∙ (numeral_is w f front good).0;
      longest = λ more p q. omega (arith, no_longer (take more text) (drop more text) q, length-take-le more text p, ap number_length (take-append-drop more text));
    }

-- how long the number at the front is, by its parts
pub count_is : (text whole behind fraction unit : List ℕ) (m n : ℕ) → whole ≡ whole_of text → behind ≡ behind_whole text → fraction ≡ behind_point behind → m ≡ length (pointed fraction) → unit ≡ drop m behind → n ≡ unit_length unit
    → number_length text ≡ length whole + m + n
count_is text whole behind fraction unit m n w b f e u k =
    let fraction_same : fraction ≡ fraction_of text = f ∙ ap behind_point b in
    let point_same : length (pointed fraction) ≡ length (pointed (fraction_of text)) = ap (λ ds. length (pointed ds)) fraction_same in
    let unit_same : unit ≡ unit_of text = u ∙ ap (λ j. drop j behind) (e ∙ point_same) ∙ ap (drop (length (pointed (fraction_of text)))) b in
    let whole_same = ap length w in
    let count_same = ap unit_length unit_same in
    omega arith

blank_after : (p : ℕ → Bool) (u s : List ℕ) → p 32 ≡ false → Fails p u → Fails p (u ++ 32 ∷ s)
blank_after p [] s b h = b
blank_after p (x ∷ u) s b h = h

letters_ended : (b : ℕ) (u s : List ℕ) → list_all is_ascii_alphabetic (b ∷ u) ≡ true → unit_length ((b ∷ u) ++ 32 ∷ s) ≡ length (b ∷ u)
letters_ended b u s h =
    let not_percent : eqb b 37 ≡ false = letter_no_percent b (both (is_ascii_alphabetic b) (list_all is_ascii_alphabetic u) h).0 in
    let letters : unit_length ((b ∷ u) ++ 32 ∷ s) ≡ prefix_len is_ascii_alphabetic ((b ∷ u) ++ 32 ∷ s) = rw not_percent refl in
    letters ∙ prefix_len-whole is_ascii_alphabetic (b ∷ u) (32 ∷ s) h refl

letters_end : (u s : List ℕ) → list_all is_ascii_alphabetic u ≡ true → unit_length (u ++ 32 ∷ s) ≡ length u
letters_end [] s h = refl
letters_end (b ∷ u) s h = letters_ended b u s h

unit_ended : (u s : List ℕ) → is_unit u ≡ true → unit_length (u ++ 32 ∷ s) ≡ length u
unit_ended u s h = elim (unit_kinds u h) [
  | inl same ↦ let Ended : List ℕ → Type 0 = λ x. unit_length (x ++ 32 ∷ s) ≡ length x in let one : unit_length (37 ∷ 32 ∷ s) ≡ 1 = refl in subst Ended (sym same) one
  | inr letters ↦ letters_end u s letters
]

-- a number's text before what no number goes on with is the longest there
pub ended_length : (w f u s : List ℕ) → are_parts w f u ≡ true → number_length (numeral w f u ++ 32 ∷ s) ≡ length (numeral w f u)
ended_length w f u s h =
    let p = parts_of w f u h in
    let at = parts_before w f (u ++ 32 ∷ s) p.digits p.behind (blank_after digit u s refl p.no_digit) (blank_after is_point u s refl p.no_point) in
    let whole = ap length at.whole in
    let fraction = ap (λ x. length (pointed x)) at.fraction in
    let unit = ap unit_length at.unit in
    let text = ap number_length (numeral-append w f u (32 ∷ s)) in
    omega (arith, unit_ended u s p.unit, length-append w (pointed f ++ u), length-append (pointed f) u)
