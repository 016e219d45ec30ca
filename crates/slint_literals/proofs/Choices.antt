-- Which way a choice went.
use Rattle.std.proofs.Common.{◌≡◌, Bool, true, false, cond, ◌&&◌, ◌||◌, ◌⊎◌, inl, inr, refl}

-- both parts of a conjunction hold
pub both : (a b : Bool) → (a && b) ≡ true → (a ≡ true) × (b ≡ true)
both true b h = (refl, h)
both false b h = cc

-- and the other way round
pub both_true : (a b : Bool) → a ≡ true → b ≡ true → (a && b) ≡ true
both_true a b h k = rw h k

-- no part of a disjunction holds
pub neither : (a b : Bool) → (a || b) ≡ false → (a ≡ false) × (b ≡ false)
neither true b h = cc
neither false b h = (refl, h)

-- a choice gave one or the other
pub chosen : {X : Type 0} (t : Bool) (x y z : X) → cond t x y ≡ z → ((t ≡ true) × (x ≡ z)) ⊎ ((t ≡ false) × (y ≡ z))
chosen true x y z h = inl (refl, h)
chosen false x y z h = inr (refl, h)

-- a test holds or doesn't
pub tested : (t : Bool) → (t ≡ true) ⊎ (t ≡ false)
tested true = inl refl
tested false = inr refl
