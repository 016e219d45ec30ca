-- Tests of order: one by numbers that may be there, and one by two tests one after the other.
use Rattle.std.proofs.Common.{◌≡◌, ℕ, ◌⊎◌, inl, inr, Bool, true, false, Option, None, Some, refl, arith}
use Rattle.std.specs.Prelude.{◌||◌, ◌&&◌, nat_lt, not}
use Rattle.std.proofs.lemmas.Bool.Decides.{nat_tests}
use Rattle.alias_merge.specs.declared.rows.InstanceKey.{InstanceKey}
use Rattle.alias_merge.specs.Rows.{is_before, is_less, is_less_within}

-- a test by which things come one behind the other; those of which neither comes before the other stand at one place
pub record IsOrder {A : Type 0} (before : A → A → Bool) : Type 0 where
  pub itself : (a : A) → before a a ≡ false
  pub one_way : (a b : A) → before a b ≡ true → before b a ≡ false
  pub goes_on : (a b c : A) → before a b ≡ false → before b c ≡ false → before a c ≡ false

-- what isn't before a thing isn't before one that comes sooner
pub not_sooner : {A : Type 0} {before : A → A → Bool} → IsOrder before → (x s y : A) → before x s ≡ true → before y s ≡ false → before y x ≡ false
not_sooner order x s y a b = order.goes_on y s x b (order.one_way x s a)

-- ---- numbers

nat_itself : (a : ℕ) → nat_lt a a ≡ false
nat_itself a = grind (arith, nat_tests)

nat_one_way : (a b : ℕ) → nat_lt a b ≡ true → nat_lt b a ≡ false
nat_one_way a b e = grind (arith, nat_tests)

nat_goes_on : (a b c : ℕ) → nat_lt a b ≡ false → nat_lt b c ≡ false → nat_lt a c ≡ false
nat_goes_on a b c e f = grind (arith, nat_tests)

nat_order : IsOrder nat_lt
nat_order = record { itself = nat_itself; one_way = nat_one_way; goes_on = nat_goes_on }

-- ---- numbers that may be there

less_itself : (a : Option ℕ) → is_less a a ≡ false
less_itself None = refl
less_itself (Some a) = nat_itself a

less_one_way : (a b : Option ℕ) → is_less a b ≡ true → is_less b a ≡ false
less_one_way None None e = refl
less_one_way None (Some b) e = refl
less_one_way (Some a) None e = absurd (cc)
less_one_way (Some a) (Some b) e = nat_one_way a b e

less_goes_on : (a b c : Option ℕ) → is_less a b ≡ false → is_less b c ≡ false → is_less a c ≡ false
less_goes_on None None c e f = f
less_goes_on None (Some b) c e f = absurd (cc)
less_goes_on (Some a) None None e f = refl
less_goes_on (Some a) None (Some c) e f = absurd (cc)
less_goes_on (Some a) (Some b) None e f = refl
less_goes_on (Some a) (Some b) (Some c) e f = nat_goes_on a b c e f

less_order : IsOrder is_less
less_order = record { itself = less_itself; one_way = less_one_way; goes_on = less_goes_on }

-- ---- one test, and where it tells nothing another one

abbrev both : Bool → Bool → Bool → Bool
both there back then = there || (not back && then)

both_false : (there back then : Bool) → both there back then ≡ false → (there ≡ false) × ((back ≡ true) ⊎ (then ≡ false))
both_false true back then e = absurd (cc)
both_false false true then e = (refl, inl refl)
both_false false false then e = (refl, inr e)

from_back : (there back then : Bool) → there ≡ false → back ≡ true → both there back then ≡ false
from_back true back then e f = absurd (cc)
from_back false true then e f = refl
from_back false false then e f = absurd (cc)

from_then : (there back then : Bool) → there ≡ false → then ≡ false → both there back then ≡ false
from_then true back then e f = absurd (cc)
from_then false true then e f = refl
from_then false false then e f = f

back_itself : (there then : Bool) → there ≡ false → then ≡ false → both there there then ≡ false
back_itself there then e f = from_then there there then e f

turned_back : (there back then again : Bool) → (there ≡ true → back ≡ false) → (then ≡ true → again ≡ false) → both there back then ≡ true → both back there again ≡ false
turned_back true back then again p q e = from_back back true again (p refl) refl
turned_back false true then again p q e = absurd (cc)
turned_back false false then again p q e = q e

back_or_not : (b : Bool) → (b ≡ true) ⊎ (b ≡ false)
back_or_not true = inl refl
back_or_not false = inr refl

true_false : (b : Bool) → b ≡ true → b ≡ false → ⊥
true_false b e f = cc

-- each thing has two keys
module _ {A K L : Type 0} (first : K → K → Bool) (second : L → L → Bool) (key : A → K) (rest : A → L) (p : IsOrder first) (q : IsOrder second) where
  abbrev by_both : A → A → Bool
  by_both a b = both (first (key a) (key b)) (first (key b) (key a)) (second (rest a) (rest b))

  first_back : (a b c : A) → first (key a) (key b) ≡ false → first (key b) (key c) ≡ false → (first (key b) (key a) ≡ true) ⊎ (first (key c) (key b) ≡ true) → (first (key c) (key a) ≡ true) ⊎ (first (key c) (key a) ≡ false)
      → first (key c) (key a) ≡ true
  first_back a b c e f t (inl u) = u
  first_back a b c e f (inl t) (inr u) = absurd (true_false (first (key b) (key a)) t (p.goes_on (key b) (key c) (key a) f u))
  first_back a b c e f (inr t) (inr u) = absurd (true_false (first (key c) (key b)) t (p.goes_on (key c) (key a) (key b) u e))

  step : (a b c : A) → first (key a) (key b) ≡ false → first (key b) (key c) ≡ false → (first (key b) (key a) ≡ true) ⊎ (second (rest a) (rest b) ≡ false)
      → (first (key c) (key b) ≡ true) ⊎ (second (rest b) (rest c) ≡ false) → by_both a c ≡ false
  step a b c e f (inr s) (inr t) =
      from_then (first (key a) (key c)) (first (key c) (key a)) (second (rest a) (rest c)) (p.goes_on (key a) (key b) (key c) e f) (q.goes_on (rest a) (rest b) (rest c) s t)
  step a b c e f (inl s) t =
      from_back (first (key a) (key c)) (first (key c) (key a)) (second (rest a) (rest c)) (p.goes_on (key a) (key b) (key c) e f) (first_back a b c e f (inl s) (back_or_not (first (key c) (key a))))
  step a b c e f (inr s) (inl t) =
      from_back (first (key a) (key c)) (first (key c) (key a)) (second (rest a) (rest c)) (p.goes_on (key a) (key b) (key c) e f) (first_back a b c e f (inr t) (back_or_not (first (key c) (key a))))

  both_goes_on : (a b c : A) → by_both a b ≡ false → by_both b c ≡ false → by_both a c ≡ false
  both_goes_on a b c e f =
      let s = both_false (first (key a) (key b)) (first (key b) (key a)) (second (rest a) (rest b)) e in
      let t = both_false (first (key b) (key c)) (first (key c) (key b)) (second (rest b) (rest c)) f in
      step a b c s.0 t.0 s.1 t.1

  both_order : IsOrder by_both
  both_order = record {
    itself = λ a. back_itself (first (key a) (key a)) (second (rest a) (rest a)) (p.itself (key a)) (q.itself (rest a));
    one_way = λ a b e. turned_back (first (key a) (key b)) (first (key b) (key a)) (second (rest a) (rest b)) (second (rest b) (rest a)) (p.one_way (key a) (key b)) (q.one_way (rest a) (rest b)) e;
    goes_on = both_goes_on;
  }

-- ---- instance order

within_order : IsOrder is_less_within
within_order = both_order is_less nat_lt (λ (k : InstanceKey). k.layer) (λ (k : InstanceKey). k.number) less_order nat_order

pub instance_order : IsOrder is_before
instance_order = both_order is_less is_less_within (λ (k : InstanceKey). k.element) (λ (k : InstanceKey). k) less_order within_order
