-- Walks along a relation: what is reached from where, what lies on a circle, and the longest walk. Nothing here knows graphs.
use Rattle.std.specs.Prelude.{ℕ, suc, ◌≤◌, List, ◌∷◌}

-- x is one of the list
pub data In {A : Type 0} : A → List A → Type 0 where
  here : {x : A} {xs : List A} → In x (x ∷ xs)
  there : {x y : A} {xs : List A} → In x xs → In x (y ∷ xs)

-- x stands at a place of the list, counted from 0
pub data At {A : Type 0} : A → List A → ℕ → Type 0 where
  first : {x : A} {xs : List A} → At x (x ∷ xs) 0
  next : {x y : A} {xs : List A} {i : ℕ} → At x xs i → At x (y ∷ xs) (suc i)

-- a walk of any length leads from a to b
pub data Reaches {A : Type 0} (E : A → A → Type 0) : A → A → Type 0 where
  stay : {a : A} → Reaches E a a
  go : {a b c : A} → E a b → Reaches E b c → Reaches E a c

-- a walk of at least one step leads from a back to a
pub record OnCircle {A : Type 0} (E : A → A → Type 0) (a : A) : Type 0 where
  pub next : A
  pub leads : E a next
  pub back : Reaches E next a

-- a walk of n steps leads from a to b
pub data Walk {A : Type 0} (E : A → A → Type 0) : ℕ → A → A → Type 0 where
  rest : {a : A} → Walk E 0 a a
  step : {n : ℕ} {a b c : A} → E a b → Walk E n b c → Walk E (suc n) a c

-- the longest walk from a has n steps
pub record IsRank {A : Type 0} (E : A → A → Type 0) (a : A) (n : ℕ) : Type 0 where
  pub end : A
  pub walk : Walk E n a end
  pub longest : (m : ℕ) (b : A) → Walk E m a b → m ≤ n
