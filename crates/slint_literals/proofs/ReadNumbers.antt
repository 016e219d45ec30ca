-- What reading a number gives.
use Rattle.std.proofs.Common.{◌≡◌, ℕ, zero, suc, ◌≤◌, Bool, true, false, cond, eqb, leb, ltb, ◌&&◌, Option, Some, None, List, length, ◌++◌, pos, refl, sym, ap, subst, arith}
use Rattle.std.specs.Option.{option_and_then}
use Rattle.std.specs.Str.Parse.{digits_value}
use Rattle.std.proofs.lemmas.Bool.{leb-true, ne_eqb}
use Rattle.slint_base.specs.Numbers.{greatest_int, most_units, near_size}
use Rattle.slint_literals.specs.declared.measures.Measure.{Measure}
use Rattle.slint_literals.specs.declared.measures.Quantity.{Quantity}
use Rattle.slint_literals.specs.declared.measures.Quantity.TheVariants.{Float, Percent, Length, Duration, Angle}
use Rattle.slint_literals.specs.declared.numbers.Number.{Number}
use Rattle.slint_literals.specs.declared.numbers.Number.TheVariants as numbers
use Rattle.slint_literals.specs.Numbers.{number_in, measured, measure_of, plain_number, digits_worth, is_number, whole_of, fraction_of, unit_of, number_value}
use Rattle.slint_literals.specs.Spelled.{ReadyNumber}

quantity_ready : (q : Quantity) (n : ℕ) → n ≤ most_units → ReadyNumber (number_in q (pos n))
quantity_ready Float n h = (n, refl, h)
quantity_ready Percent n h = (n, refl, h)
quantity_ready Length n h = (n, refl, h)
quantity_ready Duration n h = (n, refl, h)
quantity_ready Angle n h = (n, refl, h)

within_ready : (t : Bool) (q : Quantity) (n : ℕ) (v : Number) → leb n most_units ≡ t → cond t (Some (number_in q (pos n))) None ≡ Some v → ReadyNumber v
within_ready true q n v e h = let same : number_in q (pos n) ≡ v = cc in subst (λ x. ReadyNumber x) same (quantity_ready q n (leb-true n most_units e))
within_ready false q n v e h = cc

measured_ready : (n places : ℕ) (m : Option Measure) (v : Number) → option_and_then (measured n places) m ≡ Some v → ReadyNumber v
measured_ready n places None v h = cc
measured_ready n places (Some m) v h = within_ready (leb (near_size _ _) most_units) m.quantity (near_size _ _) v refl h

plain_ready : (n : ℕ) → n ≤ greatest_int → ReadyNumber (plain_number n)
plain_ready zero h = tt
plain_ready (suc n) h = subst (λ x. ReadyNumber x) (sym (ap (λ t. cond t numbers.Zero (numbers.Int (pos (suc n)))) (ne_eqb (suc n) 0 (λ e. omega arith)))) (n, refl, h)

digits_ready : (plain small : Bool) (n places : ℕ) (m : Option Measure) (v : Number) → leb n greatest_int ≡ small → cond (plain && small) (Some (plain_number n)) (option_and_then (measured n places) m) ≡ Some v → ReadyNumber v
digits_ready true true n places m v e h = let same : plain_number n ≡ v = cc in subst (λ x. ReadyNumber x) same (plain_ready n (leb-true n greatest_int e))
digits_ready true false n places m v e h = measured_ready n places m v h
digits_ready false small n places m v e h = measured_ready n places m v h

worth_ready : (long : Bool) (n places : ℕ) (unit : List ℕ) (v : Number) → cond long None (digits_worth n places unit) ≡ Some v → ReadyNumber v
worth_ready true n places unit v h = cc
worth_ready false n places unit v h = digits_ready (eqb places 0 && eqb (length unit) 0) (leb n greatest_int) n places (measure_of unit) v refl h

value_by : (t long : Bool) (n places : ℕ) (unit : List ℕ) (v : Number) → cond t (cond long None (digits_worth n places unit)) None ≡ Some v → ReadyNumber v
value_by true long n places unit v h = worth_ready long n places unit v h
value_by false long n places unit v h = cc

-- what a number's text is worth can be written again
pub value_ready : (text : List ℕ) (v : Number) → number_value text ≡ Some v → ReadyNumber v
value_ready text v h = value_by (is_number text) (ltb 30 _) (digits_value 10 (whole_of text ++ fraction_of text)) (length (fraction_of text)) (unit_of text) v h
