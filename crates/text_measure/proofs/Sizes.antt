-- The code's sizes are those of the definition.
use Rattle.std.proofs.Common.{◌≡◌, ℕ, ◌*◌, ◌-◌, ◌^◌, ◌≤◌, min, ℤ, pos, ap, ◌∙◌, ⊎_elim, refl, to_z, of_z, w64, arith}
use Rattle.std.proofs.lemmas.Nat.{mul-le}
use Rattle.std.proofs.lemmas.Bool.{cases_lt}
use Rattle.std.proofs.lemmas.Int.{ints}
use Rattle.slint_base.specs.Numbers.{sat, most_units}
use Rattle.text_measure.specs.declared.measuring.Size.{Size}
use Rattle.text_measure.proofs.Pens.{cap}

-- a number that 64 bits have, brought into the limits
pub capped-sat : (n exact : ℕ) → cap n ≡ cap exact → sat (pos n) ≡ sat (pos exact)
capped-sat n exact e = let same : min n most_units ≡ min exact most_units = omega (arith, e) in ap (λ k. pos k) same

-- products that are past the limits
past-limits : (a b x y : ℕ) → 2 ^ 64 - 1 ≤ a * b → 2 ^ 64 - 1 ≤ x * y → min (a * b) most_units ≡ min (x * y) most_units
past-limits a b x y p q = omega arith

at-least : (m a b : ℕ) → 1 ≤ a → m ≤ b → m ≤ a * b
at-least m a b p q = let l = mul-le 1 m a b p q in omega (arith, l)

-- a product of numbers that 64 bits have
pub times-capped : (a b x y : ℕ) → cap a ≡ cap x → b ≡ cap y → min (a * b) most_units ≡ min (x * y) most_units
times-capped a b x y e f =
    ⊎_elim
    (λ few.
    let same : a ≡ x = omega (arith, e, few) in
    ⊎_elim
    (λ low. let alike : b ≡ y = omega (arith, f, low) in rw same (rw alike refl))
    (λ high.
    let most : 2 ^ 64 - 1 ≤ b = omega (arith, f, high) in
    ⊎_elim
    (λ some. past-limits a b x y (at-least _ a b (omega (arith, same, some)) most) (at-least _ x y (omega (arith, some)) high))
    (λ none. let zero : x ≡ 0 = omega (arith, none) in rw same (rw zero (omega arith)))
    (cases_lt 0 x))
    (cases_lt y (2 ^ 64 - 1)))
    (λ many.
    let most : 2 ^ 64 - 1 ≤ a = omega (arith, e, many) in
    ⊎_elim
    (λ some.
    let p = at-least _ b a (omega (arith, f, some)) most in
    let q = at-least _ y x (omega (arith, some)) many in
    past-limits a b x y (omega (arith, p)) (omega (arith, q)))
    (λ none. let zero : y ≡ 0 = omega (arith, none) in let nothing : b ≡ 0 = omega (arith, f, none) in rw zero (rw nothing (omega arith)))
    (cases_lt 0 y))
    (cases_lt x (2 ^ 64 - 1))

-- a number brought into the limits, as 64 bits keep it
kept-sat : (n : ℕ) (z : ℤ) → z ≡ sat (pos n) → to_z w64 (of_z w64 z) ≡ sat (pos n)
kept-sat n z e = omega (arith, ints, e)

same_size : (a b x y : ℤ) → a ≡ x → b ≡ y → ◌≡◌ {A = Size} (record { width = a; height = b }) (record { width = x; height = y })
same_size a b x y p q = rw p (rw q refl)

-- the code's size
pub size-is : (widest rows line : ℕ) (width height : ℤ) (text_width text_rows high : ℕ) → cap widest ≡ cap text_width → cap rows ≡ cap text_rows → line ≡ cap high
    → width ≡ sat (pos widest) → height ≡ sat (pos (rows * line))
    → ◌≡◌ {A = Size} (record { width = to_z w64 (of_z w64 width); height = to_z w64 (of_z w64 height) }) (record { width = sat (pos text_width); height = sat (pos (text_rows * high)) })
size-is widest rows line width height text_width text_rows high e f g p q =
    same_size _ _ _ _
    (kept-sat widest width p ∙ capped-sat widest text_width e)
    (kept-sat (rows * line) height q ∙ ap (λ k. pos k) (times-capped rows line text_rows high f g))
