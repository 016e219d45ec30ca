-- What stands where in lists.
use Rattle.std.proofs.Common.{◌≡◌, ◌≢◌, ℕ, suc, zero, ◌+◌, ◌<◌, ◌≤◌, ◌⊎◌, inl, inr, List, [], ◌∷◌, ◌++◌, Some, length, get_or, refl, sym, ap, subst, arith}
use Rattle.std.specs.Prelude.{slice_get, slice_set, replicate, map}
use Rattle.std.proofs.lemmas.Bool.{cases_lt}
use Rattle.finite_graphs.specs.Walks.{In, At, here, there, first, next}

-- equal, or not
pub same_or_not : (m n : ℕ) → (m ≡ n) ⊎ (m ≢ n)
same_or_not m n = by (cases_lt m n) (cases_lt n m)
  where
    by : (m < n) ⊎ (n ≤ m) → (n < m) ⊎ (m ≤ n) → (m ≡ n) ⊎ (m ≢ n)
    by (inl l) _ = inr (λ e. absurd (omega arith))
    by (inr l) (inl k) = inr (λ e. absurd (omega arith))
    by (inr l) (inr k) = inl (omega arith)

-- ---- in a list

pub in_left : {A : Type 0} {x : A} {xs : List A} (ys : List A) → In x xs → In x (xs ++ ys)
in_left ys here = here
in_left ys (there h) = there (in_left ys h)

pub in_right : {A : Type 0} {x : A} (xs : List A) {ys : List A} → In x ys → In x (xs ++ ys)
in_right [] h = h
in_right (y ∷ xs) h = there (in_right xs h)

later : {A : Type 0} {x y : A} {xs : List A} {P : Type 0} → In x xs ⊎ P → In x (y ∷ xs) ⊎ P
later (inl h) = inl (there h)
later (inr p) = inr p

pub in_split : {A : Type 0} {x : A} (xs ys : List A) → In x (xs ++ ys) → In x xs ⊎ In x ys
in_split [] ys h = inr h
in_split (y ∷ xs) ys here = inl here
in_split (y ∷ xs) ys (there h) = later (in_split xs ys h)

pub in_one : {A : Type 0} {x y : A} → In x (y ∷ []) → x ≡ y
in_one here = refl
in_one (there h) = elim h [ ]

pub in_none : {A : Type 0} {x : A} → In x [] → ⊥
in_none h = elim h [ ]

-- ---- at a place

pub at_in : {A : Type 0} {x : A} {xs : List A} {i : ℕ} → At x xs i → In x xs
at_in first = here
at_in (next h) = there (at_in h)

pub at_none : {A : Type 0} {x : A} {i : ℕ} → At x [] i → ⊥
at_none h = elim h [ ]

pub at_within : {A : Type 0} {x : A} {xs : List A} {i : ℕ} → At x xs i → i < length xs
at_within (first {xs = xs}) = omega arith
at_within (next h) = let l = at_within h in omega (arith, l)

pub at_same : {A : Type 0} {x y : A} {xs : List A} {i : ℕ} → At x xs i → At y xs i → x ≡ y
at_same first first = refl
at_same (next h) (next k) = at_same h k

pub at_left : {A : Type 0} {x : A} {xs : List A} {i : ℕ} (ys : List A) → At x xs i → At x (xs ++ ys) i
at_left ys first = first
at_left ys (next h) = next (at_left ys h)

pub at_last : {A : Type 0} {x : A} (xs : List A) → At x (xs ++ x ∷ []) (length xs)
at_last [] = first
at_last (y ∷ xs) = next (at_last xs)

-- a place of two lists is one of the first, or behind it
pub record Behind {A : Type 0} (x : A) (xs ys : List A) (i : ℕ) : Type 0 where
  pub place : ℕ
  pub stands : At x ys place
  pub is : i ≡ length xs + place

behind_first : {A : Type 0} {x : A} (ys : List A) {i : ℕ} → At x ys i → Behind x [] ys i
behind_first ys {i} h = record { place = i; stands = h; is = omega arith }

behind_later : {A : Type 0} {x y : A} {xs ys : List A} {i : ℕ} → At x xs i ⊎ Behind x xs ys i → At x (y ∷ xs) (suc i) ⊎ Behind x (y ∷ xs) ys (suc i)
behind_later (inl h) = inl (next h)
behind_later (inr b) = inr (record { place = b.place; stands = b.stands; is = let e = b.is in omega (arith, e) })

pub at_split : {A : Type 0} {x : A} (xs ys : List A) {i : ℕ} → At x (xs ++ ys) i → At x xs i ⊎ Behind x xs ys i
at_split [] ys h = inr (behind_first ys h)
at_split (y ∷ xs) ys first = inl first
at_split (y ∷ xs) ys (next h) = behind_later (at_split xs ys h)

one_place : {A : Type 0} {x y : A} {i : ℕ} → At x (y ∷ []) i → (x ≡ y) × (i ≡ 0)
one_place first = (refl, refl)
one_place (next h) = absurd (at_none h)

pub at_end : {A : Type 0} {x : A} (xs : List A) (y : A) {i : ℕ} → At x (xs ++ y ∷ []) i → At x xs i ⊎ ((x ≡ y) × (i ≡ length xs))
at_end {x = x} xs y {i} h = by (at_split xs (y ∷ []) h)
  where
    by : At x xs i ⊎ Behind x xs (y ∷ []) i → At x xs i ⊎ ((x ≡ y) × (i ≡ length xs))
    by (inl k) = inl k
    by (inr b) = let one = one_place b.stands in let e = b.is in inr (one.0, omega (arith, one.1, e))

pub at_behind : {A : Type 0} {x : A} (xs : List A) {ys : List A} {i : ℕ} → At x ys i → At x (xs ++ ys) (length xs + i)
at_behind [] {ys} {i} h = subst (At _ ys) (omega arith) h
at_behind (y ∷ xs) {ys} {i} h = subst (At _ (y ∷ (xs ++ ys))) (omega arith) (next (at_behind xs h))

pub at_front : {A : Type 0} {x : A} (xs ys : List A) {i : ℕ} → At x (xs ++ ys) i → i < length xs → At x xs i
at_front {x = x} xs ys {i} h l = by (at_split xs ys h)
  where
    by : At x xs i ⊎ Behind x xs ys i → At x xs i
    by (inl k) = k
    by (inr b) = let e = b.is in absurd (omega (arith, e, l))

-- the place of what is in a list
pub record Placed {A : Type 0} (x : A) (xs : List A) : Type 0 where
  pub place : ℕ
  pub stands : At x xs place

placed_later : {A : Type 0} {x y : A} {xs : List A} → Placed x xs → Placed x (y ∷ xs)
placed_later p = record { place = suc p.place; stands = next p.stands }

pub in_at : {A : Type 0} {x : A} {xs : List A} → In x xs → Placed x xs
in_at here = record { place = 0; stands = first }
in_at (there h) = placed_later (in_at h)

-- what stands at a place within
pub record Standing {A : Type 0} (xs : List A) (i : ℕ) : Type 0 where
  pub item : A
  pub stands : At item xs i

standing_later : {A : Type 0} {y : A} {xs : List A} {i : ℕ} → Standing xs i → Standing (y ∷ xs) (suc i)
standing_later s = record { item = s.item; stands = next s.stands }

pub at_some : {A : Type 0} (xs : List A) (i : ℕ) → i < length xs → Standing xs i
at_some [] i l = absurd (omega arith)
at_some (x ∷ xs) zero l = record { item = x; stands = first }
at_some (x ∷ xs) (suc i) l = standing_later (at_some xs i (omega (arith, l)))

pub at_read : {A : Type 0} (xs : List A) (i : ℕ) (x : A) → i < length xs → x ≡ get_or xs i x → At x xs i
at_read [] i x l e = absurd (omega arith)
at_read (y ∷ xs) zero x l e = subst (λ z. At z (y ∷ xs) 0) (sym e) first
at_read (y ∷ xs) (suc i) x l e = next (at_read xs i x (omega (arith, l)) e)

pub at_get : {A : Type 0} {x : A} {xs : List A} {i : ℕ} (d : A) → At x xs i → get_or xs i d ≡ x
at_get d first = refl
at_get d (next h) = at_get d h

-- ---- a place is written

pub at_set : {A : Type 0} {x y : A} {xs : List A} {i : ℕ} → At y xs i → At x (slice_set xs i x) i
at_set first = first
at_set (next h) = next (at_set h)

pub at_other : {A : Type 0} (x : A) {y : A} {xs : List A} {j : ℕ} (i : ℕ) → At y xs j → j ≢ i → At y (slice_set xs i x) j
at_other x zero first n = absurd (n refl)
at_other x (suc i) first n = first
at_other x zero (next h) n = next h
at_other x (suc i) (next h) n = next (at_other x i h (λ e. n (ap suc e)))

pub at_was : {A : Type 0} (x : A) {y : A} (xs : List A) {j : ℕ} (i : ℕ) → At y (slice_set xs i x) j → j ≢ i → At y xs j
at_was x [] i h n = h
at_was x (z ∷ xs) zero first n = absurd (n refl)
at_was x (z ∷ xs) (suc i) first n = first
at_was x (z ∷ xs) zero (next h) n = next h
at_was x (z ∷ xs) (suc i) (next h) n = next (at_was x xs i h (λ e. n (ap suc e)))

pub at_written : {A : Type 0} {x y z : A} {xs : List A} {i : ℕ} → At z xs i → At y (slice_set xs i x) i → y ≡ x
at_written was now = at_same now (at_set was)

-- ---- lists that were made

pub at_replicate : {A : Type 0} {x : A} (n : ℕ) (y : A) {i : ℕ} → At x (replicate n y) i → x ≡ y
at_replicate zero y h = absurd (at_none h)
at_replicate (suc n) y first = refl
at_replicate (suc n) y (next h) = at_replicate n y h

-- the element of which that at a place of a mapped list was made
pub record Mapped {A B : Type 0} (f : A → B) (xs : List A) (b : B) (i : ℕ) : Type 0 where
  pub item : A
  pub stands : At item xs i
  pub is : b ≡ f item

mapped_later : {A B : Type 0} {f : A → B} {y : A} {xs : List A} {b : B} {i : ℕ} → Mapped f xs b i → Mapped f (y ∷ xs) b (suc i)
mapped_later m = record { item = m.item; stands = next m.stands; is = m.is }

pub at_map : {A B : Type 0} {b : B} (f : A → B) (xs : List A) {i : ℕ} → At b (map f xs) i → Mapped f xs b i
at_map f [] h = absurd (at_none h)
at_map f (x ∷ xs) first = record { item = x; stands = first; is = refl }
at_map f (x ∷ xs) (next h) = mapped_later (at_map f xs h)

pub map_at : {A B : Type 0} {x : A} (f : A → B) {xs : List A} {i : ℕ} → At x xs i → At (f x) (map f xs) i
map_at f first = first
map_at f (next h) = next (map_at f h)

-- the last element of a list, as it is read
pub last_read : {A : Type 0} (xs : List A) (i : ℕ) (x : A) → slice_get xs i ≡ Some x → At x xs i
last_read [] i x e = absurd (cc)
last_read (y ∷ xs) zero x e = subst (λ z. At z (y ∷ xs) 0) (cc) first
last_read (y ∷ xs) (suc i) x e = next (last_read xs i x e)

pub at_here : {A : Type 0} (xs : List A) (i : ℕ) (d : A) → i < length xs → At (get_or xs i d) xs i
at_here [] i d l = absurd (omega arith)
at_here (y ∷ xs) zero d l = first
at_here (y ∷ xs) (suc i) d l = next (at_here xs i d (omega (arith, l)))
