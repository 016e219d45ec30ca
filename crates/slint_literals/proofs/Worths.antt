-- What numbers are worth: sizes, and the parts of a number's text.
use Rattle.std.proofs.Common.{◌≡◌, ℕ, zero, suc, ◌+◌, ◌*◌, ◌^◌, ◌-◌, ◌<◌, ◌≤◌, Bool, true, false, cond, eqb, ltb, ◌&&◌, Option, Some, None, List, [], ◌∷◌, ◌++◌, length, take, drop, get_or, refl, sym, ap, ◌∙◌, subst, arith, lit<, add-one}
use Rattle.std.specs.Prelude.{codes}
use Rattle.std.specs.Char.{is_ascii_digit, digit_value}
use Rattle.std.specs.List.{list_all, take_while}
use Rattle.std.specs.Str.{bytes_eq}
use Rattle.std.specs.Str.Parse.{digits_value, digits_value_after}
use Rattle.std.proofs.Math.Nat.{pow-le-pow_right, pow-suc, mul-le-mul_left, one-le-pow}
use Rattle.std.proofs.lemmas.Bool.{le-ltb}
use Rattle.std.proofs.lemmas.Bool.Decides.{nat_tests}
use Rattle.std.proofs.lemmas.List.{take_more, take_all}
use Rattle.std.proofs.lemmas.List.Folds.{length-prefix_len}
use Rattle.std.proofs.lemmas.List.Sums.{prefix_len-le-length}
use Rattle.std.proofs.lemmas.Nat.{mul-le, pow-add}
use Rattle.slint_literals.specs.declared.numbers.Number.{Number}
use Rattle.slint_literals.specs.declared.measures.Measure.{Measure}
use Rattle.slint_literals.specs.declared.measures.Quantity.{Quantity}
use Rattle.slint_literals.specs.declared.measures.Quantity.TheVariants.{Float, Percent, Length, Duration, Angle}
use Rattle.slint_literals.specs.Numbers.{pointed, behind_point, behind_whole, whole_of, fraction_of, unit_of, some_digits, is_unit, are_parts, measure, measure_of, digits_worth, worth, number_value}
use Rattle.slint_literals.proofs.Choices.{both, both_true}
use Rattle.slint_literals.proofs.Hex.{all_front}

-- digits behind digits
pub after-append : (n : ℕ) (xs ys : List ℕ) → digits_value_after 10 n (xs ++ ys) ≡ digits_value_after 10 (digits_value_after 10 n xs) ys
after-append n [] ys = refl
after-append n (x ∷ xs) ys = after-append (n * 10 + digit_value x) xs ys

-- one digit more of those that are read
pub after_more : (n : ℕ) (ds : List ℕ) (i : ℕ) → i < length ds → digits_value_after 10 n (take (i + 1) ds) ≡ digits_value_after 10 n (take i ds) * 10 + digit_value (get_or ds i 0)
after_more n ds i h = ap (digits_value_after 10 n) (take_more ds i 0 h) ∙ after-append n (take i ds) (get_or ds i 0 ∷ [])

digit_at : (ds : List ℕ) (i : ℕ) → list_all is_ascii_digit ds ≡ true → i < length ds → is_ascii_digit (get_or ds i 0) ≡ true
digit_at [] i h p = absurd (omega arith)
digit_at (d ∷ ds) zero h p = (both (is_ascii_digit d) (list_all is_ascii_digit ds) h).0
digit_at (d ∷ ds) (suc i) h p = digit_at ds i (both (is_ascii_digit d) (list_all is_ascii_digit ds) h).1 (omega arith)

digit_is : (d : ℕ) → is_ascii_digit d ≡ true → (48 ≤ d) × (d ≤ 57) × (digit_value d ≡ d - 48)
digit_is d h = (grind (arith, nat_tests), grind (arith, nat_tests), grind (arith, nat_tests))

-- digits read so far: what they write, and that it fits
pub record Wrote (before : ℕ) (ds : List ℕ) (i value : ℕ) : Type 0 where
  pub is : value ≡ digits_value_after 10 before (take i ds)
  pub below : value + 1 ≤ (before + 1) * 10 ^ i

pub wrote_none : (before : ℕ) (ds : List ℕ) → Wrote before ds 0 before
wrote_none before ds = record { is = refl; below = omega arith }

-- the digit at a place, as a byte between those of 0 and 9
pub digit_bounds : (ds : List ℕ) (i d : ℕ) → list_all is_ascii_digit ds ≡ true → i < length ds → d ≡ get_or ds i 0 → (48 ≤ d) × (d ≤ 57)
digit_bounds ds i d h p e = let at = digit_is (get_or ds i 0) (digit_at ds i h p) in (omega arith, omega arith)

room_for : (before i n : ℕ) → i < n → (before + 1) * 10 ^ (i + 1) ≤ (before + 1) * 10 ^ n
room_for before i n p = let more : 10 ^ (i + 1) ≤ 10 ^ n = pow-le-pow_right (lit< tt) (omega arith) in mul-le-mul_left (before + 1) more

power_more : (before i : ℕ) → (before + 1) * 10 ^ (i + 1) ≡ (before + 1) * 10 ^ i * 10
power_more before i =
    let power : 10 ^ (i + 1) ≡ 10 ^ i * 10 = ap (λ k. 10 ^ k) (add-one i) ∙ pow-suc 10 i in
    ap (λ x. (before + 1) * x) power ∙ omega arith

pub wrote_more : (before : ℕ) (ds : List ℕ) (i value d next : ℕ) → list_all is_ascii_digit ds ≡ true → i < length ds → d ≡ get_or ds i 0 → Wrote before ds i value → next ≡ value * 10 + (d - 48) → Wrote before ds (i + 1) next
wrote_more before ds i value d next h p e w n =
    let at = digit_is (get_or ds i 0) (digit_at ds i h p) in
    let more = after_more before ds i p in
    let power = power_more before i in
    record { is = omega arith; below = omega arith }

-- what a digit more comes to fits
pub wrote_fits : (before : ℕ) (ds : List ℕ) (i value : ℕ) → i < length ds → (before + 1) * 10 ^ length ds ≤ 10 ^ 30 → Wrote before ds i value → value * 10 + 10 ≤ 10 ^ 30
wrote_fits before ds i value p room w =
    let power = power_more before i in
    let more = room_for before i (length ds) p in
    omega arith

-- all digits are read
pub wrote_all : (before : ℕ) (ds : List ℕ) (value : ℕ) → Wrote before ds (length ds) value → (value ≡ digits_value_after 10 before ds) × (value < (before + 1) * 10 ^ length ds)
wrote_all before ds value w = (w.is ∙ ap (digits_value_after 10 before) (take_all (length ds) ds (omega arith)), omega arith)

-- no unit has a factor or a divisor that is too great, or no divisor
pub record IsModest (m : Measure) : Type 0 where
  pub factor : m.factor ≤ 9600000
  pub some : 0 < m.divisor
  pub divisor : m.divisor ≤ 254

abbrev AreModest : Option Measure → Type 0
AreModest None = Unit {0}
AreModest (Some m) = IsModest m

either_modest : (t : Bool) (x y : Option Measure) → AreModest x → AreModest y → AreModest (cond t x y)
either_modest true x y p q = p
either_modest false x y p q = q

modest : (q : Quantity) (f d : ℕ) → f ≤ 9600000 → 0 < d → d ≤ 254 → AreModest (measure q f d)
modest q f d a b c = record { factor = a; some = b; divisor = c }

all_modest : (unit : List ℕ) → AreModest (measure_of unit)
all_modest unit =
    either_modest (bytes_eq unit (codes "")) _ _ (modest Float 1000000 1 (omega arith) (omega arith) (omega arith))
    (either_modest (bytes_eq unit (codes "%")) _ _ (modest Percent 1000000 1 (omega arith) (omega arith) (omega arith))
    (either_modest (bytes_eq unit (codes "px")) _ _ (modest Length 1000 1 (omega arith) (omega arith) (omega arith))
    (either_modest (bytes_eq unit (codes "phx")) _ _ (modest Length 1000 1 (omega arith) (omega arith) (omega arith))
    (either_modest (bytes_eq unit (codes "in")) _ _ (modest Length 96000 1 (omega arith) (omega arith) (omega arith))
    (either_modest (bytes_eq unit (codes "pt")) _ _ (modest Length 96000 72 (omega arith) (omega arith) (omega arith))
    (either_modest (bytes_eq unit (codes "cm")) _ _ (modest Length 9600000 254 (omega arith) (omega arith) (omega arith))
    (either_modest (bytes_eq unit (codes "mm")) _ _ (modest Length 960000 254 (omega arith) (omega arith) (omega arith))
    (either_modest (bytes_eq unit (codes "ms")) _ _ (modest Duration 1 1 (omega arith) (omega arith) (omega arith))
    (either_modest (bytes_eq unit (codes "s")) _ _ (modest Duration 1000 1 (omega arith) (omega arith) (omega arith))
    (either_modest (bytes_eq unit (codes "deg")) _ _ (modest Angle 1000 1 (omega arith) (omega arith) (omega arith))
    (either_modest (bytes_eq unit (codes "grad")) _ _ (modest Angle 900 1 (omega arith) (omega arith) (omega arith))
    (either_modest (bytes_eq unit (codes "turn")) _ None (modest Angle 360000 1 (omega arith) (omega arith) (omega arith)) tt))))))))))))

pub is_modest : (unit : List ℕ) (m : Measure) → measure_of unit ≡ Some m → IsModest m
is_modest unit m h = subst (λ x. AreModest x) h (all_modest unit)

-- sizes that fit
pub power_fits : (places : ℕ) → places ≤ 30 → 10 ^ places ≤ 10 ^ 30
power_fits places h = pow-le-pow_right (lit< tt) h

pub divisor_fits : (divisor power places : ℕ) → power ≡ 10 ^ places → divisor ≤ 254 → places ≤ 30 → divisor * power ≤ 254 * 10 ^ 30
divisor_fits divisor power places e h k = mul-le divisor power 254 (10 ^ 30) h (omega (arith, power_fits places k))

pub factor_fits : (digits factor : ℕ) → digits < 10 ^ 30 → factor ≤ 9600000 → digits * factor ≤ 10 ^ 30 * 9600000
factor_fits digits factor h k = mul-le digits factor (10 ^ 30) 9600000 (omega arith) k

pub divisor_some : (divisor power places : ℕ) → power ≡ 10 ^ places → 0 < divisor → 1 ≤ divisor * power
divisor_some divisor power places e h = let some : 1 ≤ 10 ^ places = one-le-pow places 10 (lit< tt) in mul-le 1 1 divisor power h (omega arith)

-- both runs of digits fit
pub front_room : (n : ℕ) → n ≤ 30 → (0 + 1) * 10 ^ n ≤ 10 ^ 30
front_room n h = omega (arith, power_fits n h)

pub back_room : (before m n : ℕ) → before < (0 + 1) * 10 ^ m → m + n ≤ 30 → (before + 1) * 10 ^ n ≤ 10 ^ 30
back_room before m n h few =
    let scaled : (before + 1) * 10 ^ n ≤ 10 ^ m * 10 ^ n = mul-le (before + 1) (10 ^ n) (10 ^ m) (10 ^ n) (omega arith) (omega arith) in
    omega (arith, pow-add 10 m n, power_fits (m + n) few)

-- a point and digits lie within what they are read from
digits_within : (c : ℕ) (cs ds : List ℕ) → length ds ≤ length cs → length (pointed ds) ≤ length (c ∷ cs)
digits_within c cs [] h = omega arith
digits_within c cs (d ∷ ds) h = omega arith

within_by : (t : Bool) (c : ℕ) (cs : List ℕ) → length (pointed (cond t (take_while is_ascii_digit cs) [])) ≤ length (c ∷ cs)
within_by true c cs = digits_within c cs (take_while is_ascii_digit cs) (omega (arith, length-prefix_len is_ascii_digit cs, prefix_len-le-length is_ascii_digit cs))
within_by false c cs = omega arith

pub pointed_within : (s : List ℕ) → length (pointed (behind_point s)) ≤ length s
pointed_within [] = omega arith
pointed_within (c ∷ cs) = within_by (eqb c 46) c cs

-- the parts of a text
behind_by : (t : Bool) (cs : List ℕ) → list_all is_ascii_digit (cond t (take_while is_ascii_digit cs) []) ≡ true
behind_by true cs = all_front is_ascii_digit cs
behind_by false cs = refl

pub behind_digits : (s : List ℕ) → list_all is_ascii_digit (behind_point s) ≡ true
behind_digits [] = refl
behind_digits (c ∷ cs) = behind_by (eqb c 46) cs

-- what parts are worth, by what their digits write
pub worth_is : (whole fraction unit : List ℕ) (first all_of : ℕ) → first ≡ digits_value_after 10 0 whole → all_of ≡ digits_value_after 10 first fraction → length whole + length fraction ≤ 30
    → digits_worth all_of (length fraction) unit ≡ worth whole fraction unit
worth_is whole fraction unit first all_of e f few =
    let written : digits_value 10 (whole ++ fraction) ≡ all_of = after-append 0 whole fraction ∙ ap (λ n. digits_value_after 10 n fraction) (sym e) ∙ sym f in
    let small : ltb 30 (length whole + length fraction) ≡ false = le-ltb 30 (length whole + length fraction) few in
    ap (λ n. digits_worth n (length fraction) unit) (sym written)
    ∙ sym (ap (λ t. cond t None (digits_worth (digits_value 10 (whole ++ fraction)) (length fraction) unit)) small)

some_by : (whole : List ℕ) → eqb (length whole) 0 ≡ false → list_all is_ascii_digit whole ≡ true → some_digits whole ≡ true
some_by [] h k = let e : true ≡ false = h in cc
some_by (d ∷ ds) h k = k

-- what a text is worth, by its parts
pub number_is : (text whole behind fraction unit : List ℕ) (n : ℕ) (value : Option Number) → whole ≡ whole_of text → behind ≡ behind_whole text → fraction ≡ behind_point behind → n ≡ length (pointed fraction)
    → unit ≡ drop n behind → eqb (length whole) 0 ≡ false → is_unit unit ≡ true → value ≡ worth whole fraction unit → value ≡ number_value text
number_is text whole behind fraction unit n value w b f count u some good v =
    let fraction_same : fraction ≡ fraction_of text = f ∙ ap behind_point b in
    let unit_same : unit ≡ unit_of text = u ∙ ap (λ k. drop k behind) (count ∙ ap (λ ds. length (pointed ds)) fraction_same) ∙ ap (drop (length (pointed (fraction_of text)))) b in
    let digits : some_digits (whole_of text) ≡ true = some_by (whole_of text) (ap (λ ds. eqb (length ds) 0) (sym w) ∙ some) (all_front is_ascii_digit text) in
    let good_unit : is_unit (unit_of text) ≡ true = ap is_unit (sym unit_same) ∙ good in
    let parts : are_parts (whole_of text) (fraction_of text) (unit_of text) ≡ true =
    both_true (some_digits (whole_of text)) (list_all is_ascii_digit (fraction_of text) && is_unit (unit_of text)) digits
    (both_true (list_all is_ascii_digit (fraction_of text)) (is_unit (unit_of text)) (behind_digits (behind_whole text)) good_unit) in
    v ∙ ap (λ x. worth x fraction unit) w ∙ ap (λ x. worth (whole_of text) x unit) fraction_same ∙ ap (λ x. worth (whole_of text) (fraction_of text) x) unit_same
    ∙ sym (ap (λ t. cond t (worth (whole_of text) (fraction_of text) (unit_of text)) None) parts)
