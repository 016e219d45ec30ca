-- What a test keeps of a list.
use Rattle.std.proofs.Common.{◌≡◌, Bool, true, false, cond, List, [], ◌∷◌, refl, sym, ap, ◌∙◌, subst}
use Rattle.std.specs.Prelude.{filter}
use Rattle.finite_graphs.specs.Walks.{In, here, there}

cond_swap : {A : Type 0} (p q : A → Bool) (x : A) (xs : List A) (a b : Bool) → p x ≡ a → q x ≡ b → filter p (filter q xs) ≡ filter q (filter p xs) → filter p (cond b (x ∷ filter q xs) (filter q xs)) ≡ filter q (cond a (x ∷ filter p xs) (filter p xs))
cond_swap p q x xs true true e f rest = ap (λ b. cond b (x ∷ filter p (filter q xs)) (filter p (filter q xs))) e ∙ (ap (λ ys. x ∷ ys) rest ∙ sym (ap (λ b. cond b (x ∷ filter q (filter p xs)) (filter q (filter p xs))) f))
cond_swap p q x xs true false e f rest = rest ∙ sym (ap (λ b. cond b (x ∷ filter q (filter p xs)) (filter q (filter p xs))) f)
cond_swap p q x xs false true e f rest = ap (λ b. cond b (x ∷ filter p (filter q xs)) (filter p (filter q xs))) e ∙ rest
cond_swap p q x xs false false e f rest = rest

pub filter_swap : {A : Type 0} (p q : A → Bool) (xs : List A) → filter p (filter q xs) ≡ filter q (filter p xs)
filter_swap p q [] = refl
filter_swap p q (x ∷ xs) = cond_swap p q x xs (p x) (q x) refl refl (filter_swap p q xs)

-- of what passes one test, two others keep the same
cond_same : {A : Type 0} (r p q : A → Bool) (x : A) (xs : List A) (b : Bool) → (b ≡ true → p x ≡ q x) → filter p (filter r xs) ≡ filter q (filter r xs) → filter p (cond b (x ∷ filter r xs) (filter r xs)) ≡ filter q (cond b (x ∷ filter r xs) (filter r xs))
cond_same r p q x xs true same rest = ap (λ b. cond b (x ∷ filter p (filter r xs)) (filter p (filter r xs))) (same refl) ∙ ap (λ ys. cond (q x) (x ∷ ys) ys) rest
cond_same r p q x xs false same rest = rest

pub filter_same : {A : Type 0} (r p q : A → Bool) (xs : List A) → ((x : A) → r x ≡ true → p x ≡ q x) → filter p (filter r xs) ≡ filter q (filter r xs)
filter_same r p q [] same = refl
filter_same r p q (x ∷ xs) same = cond_same r p q x xs (r x) (same x) (filter_same r p q xs same)

-- ---- what stands in it

-- x stands in a list and passes a test
pub record Passes {A : Type 0} (p : A → Bool) (xs : List A) (x : A) : Type 0 where
  pub among : In x xs
  pub passes : p x ≡ true

passes_later : {A : Type 0} {p : A → Bool} {xs : List A} {x : A} (y : A) → Passes p xs x → Passes p (y ∷ xs) x
passes_later y h = record { among = there h.among; passes = h.passes }

kept_more : {A : Type 0} {p : A → Bool} {x y : A} {xs ys : List A} → p y ≡ true → (In x ys → Passes p xs x) → In x (y ∷ ys) → Passes p (y ∷ xs) x
kept_more t rest here = record { among = here; passes = t }
kept_more {y = y} t rest (there h) = passes_later y (rest h)

in_kept : {A : Type 0} (p : A → Bool) {x : A} (y : A) (xs : List A) (b : Bool) → p y ≡ b → (In x (filter p xs) → Passes p xs x) → In x (cond b (y ∷ filter p xs) (filter p xs)) → Passes p (y ∷ xs) x
in_kept p y xs true t rest h = kept_more t rest h
in_kept p y xs false t rest h = passes_later y (rest h)

pub in_filter : {A : Type 0} (p : A → Bool) {x : A} (xs : List A) → In x (filter p xs) → Passes p xs x
in_filter p [] h = elim h [ ]
in_filter p (y ∷ xs) h = in_kept p y xs (p y) refl (λ k. in_filter p xs k) h

in_cond : {A : Type 0} {x : A} {xs : List A} (y : A) (b : Bool) → In x xs → In x (cond b (y ∷ xs) xs)
in_cond y true h = there h
in_cond y false h = h

pub filter_in : {A : Type 0} (p : A → Bool) {x : A} {xs : List A} → In x xs → p x ≡ true → In x (filter p xs)
filter_in p {x} (here {xs = xs}) t = subst (λ b. In x (cond b (x ∷ filter p xs) (filter p xs))) (sym t) here
filter_in p (there {y = y} h) t = in_cond y (p y) (filter_in p h t)
