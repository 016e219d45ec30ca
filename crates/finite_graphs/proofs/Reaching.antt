-- Walks joined, and carried to another relation.
use Rattle.std.proofs.Common.{◌≡◌, ℕ, suc, ◌+◌, arith}
use Rattle.finite_graphs.specs.Walks.{IsRank, OnCircle, Reaches, Walk, go, rest, stay, step}

pub joined : {A : Type 0} {E : A → A → Type 0} {a b c : A} → Reaches E a b → Reaches E b c → Reaches E a c
joined stay k = k
joined (go e h) k = go e (joined h k)

pub one_step : {A : Type 0} {E : A → A → Type 0} {a b : A} → E a b → Reaches E a b
one_step e = go e stay

pub carried : {A : Type 0} {E F : A → A → Type 0} {a b : A} → ((x y : A) → E x y → F x y) → Reaches E a b → Reaches F a b
carried f stay = stay
carried f (go e h) = go (f _ _ e) (carried f h)

-- ---- round a circle

-- a walk of some length that is a way
pub record Length {A : Type 0} (E : A → A → Type 0) (a b : A) : Type 0 where
  pub steps : ℕ
  pub walk : Walk E steps a b

one_longer : {A : Type 0} {E : A → A → Type 0} {a b c : A} → E a b → Length E b c → Length E a c
one_longer e l = record { steps = suc l.steps; walk = step e l.walk }

pub way_length : {A : Type 0} {E : A → A → Type 0} {a b : A} → Reaches E a b → Length E a b
way_length stay = record { steps = 0; walk = rest }
way_length (go e on) = one_longer e (way_length on)

-- a walk of n steps
pub record Steps {A : Type 0} (E : A → A → Type 0) (a b : A) (n : ℕ) : Type 0 where
  pub steps : ℕ
  pub walk : Walk E steps a b
  pub is : steps ≡ n

one_more : {A : Type 0} {E : A → A → Type 0} {a b c : A} (n m : ℕ) → E a b → Steps E b c (n + m) → Steps E a c (suc n + m)
one_more n m e l = record { steps = suc l.steps; walk = step e l.walk; is = let i = l.is in omega (arith, i) }

walks_joined : {A : Type 0} {E : A → A → Type 0} {n : ℕ} {a b : A} → Walk E n a b → (m : ℕ) (c : A) → Walk E m b c → Steps E a c (n + m)
walks_joined rest m c w = record { steps = m; walk = w; is = omega arith }
walks_joined (step {n = n} e v) m c w = one_more n m e (walks_joined v m c w)

-- once more round is longer
pub no_rank : {A : Type 0} {E : A → A → Type 0} {a : A} {n : ℕ} → OnCircle E a → IsRank E a n → ⊥
no_rank {n = n} o r =
    let back = way_length o.back in
    let round = walks_joined back.walk n r.end r.walk in
    let sum = round.is in
    let most = r.longest (suc round.steps) r.end (step o.leads round.walk) in
    omega (arith, sum, most)

pub circle_whole : {A : Type 0} {E : A → A → Type 0} {a b : A} → E a b → Reaches E b a → OnCircle E b
circle_whole {a = a} e stay = record { next = a; leads = e; back = stay }
circle_whole e (go {b = next} f on) = record { next = next; leads = f; back = joined on (one_step e) }
