-- Lists of which one element, or each one, has a property, by recursion on the list.
use Rattle.std.proofs.Common.{List, [], ◌∷◌, ◌++◌, map, ◌⊎◌, inl, inr}

-- P holds of one element
abbrev pub OneOf : {A : Type 0} → (A → Type 0) → List A → Type 0
OneOf P [] = ⊥
OneOf P (x ∷ xs) = P x ⊎ OneOf P xs

-- P holds of each element
abbrev pub EachOf : {A : Type 0} → (A → Type 0) → List A → Type 0
EachOf P [] = Unit {0}
EachOf P (x ∷ xs) = P x × EachOf P xs

module _ {A : Type 0} (P : A → Type 0) where
  pub one_left : (xs ys : List A) → OneOf P xs → OneOf P (xs ++ ys)
  one_left [] ys e = absurd e
  one_left (x ∷ xs) ys (inl e) = inl e
  one_left (x ∷ xs) ys (inr e) = inr (one_left xs ys e)

  pub one_right : (xs ys : List A) → OneOf P ys → OneOf P (xs ++ ys)
  one_right [] ys e = e
  one_right (x ∷ xs) ys e = inr (one_right xs ys e)

  pub one_parts : (xs ys : List A) → OneOf P (xs ++ ys) → OneOf P xs ⊎ OneOf P ys
  one_parts [] ys e = inr e
  one_parts (x ∷ xs) ys (inl e) = inl (inl e)
  one_parts (x ∷ xs) ys (inr e) = shifted (one_parts xs ys e)
    where
      shifted : OneOf P xs ⊎ OneOf P ys → OneOf P (x ∷ xs) ⊎ OneOf P ys
      shifted (inl f) = inl (inr f)
      shifted (inr f) = inr f

  pub each_append : (xs ys : List A) → EachOf P xs → EachOf P ys → EachOf P (xs ++ ys)
  each_append [] ys e f = f
  each_append (x ∷ xs) ys e f = (e.0, each_append xs ys e.1 f)

  pub at_one : (Q : A → Type 0) → (xs : List A) → EachOf P xs → OneOf Q xs → (x : A) × P x × Q x
  at_one Q [] e f = absurd f
  at_one Q (x ∷ xs) e (inl f) = (x, e.0, f)
  at_one Q (x ∷ xs) e (inr f) = at_one Q xs e.1 f

  pub one_weaker : (Q : A → Type 0) → ((x : A) → P x → Q x) → (xs : List A) → OneOf P xs → OneOf Q xs
  one_weaker Q f [] e = absurd e
  one_weaker Q f (x ∷ xs) (inl e) = inl (f x e)
  one_weaker Q f (x ∷ xs) (inr e) = inr (one_weaker Q f xs e)

module _ {A B : Type 0} (f : A → B) (P : B → Type 0) where
  pub one_mapped : (xs : List A) → OneOf (λ x. P (f x)) xs → OneOf P (map f xs)
  one_mapped [] e = absurd e
  one_mapped (x ∷ xs) (inl e) = inl e
  one_mapped (x ∷ xs) (inr e) = inr (one_mapped xs e)

  pub one_from_mapped : (xs : List A) → OneOf P (map f xs) → OneOf (λ x. P (f x)) xs
  one_from_mapped [] e = absurd e
  one_from_mapped (x ∷ xs) (inl e) = inl e
  one_from_mapped (x ∷ xs) (inr e) = inr (one_from_mapped xs e)

  pub each_mapped : (xs : List A) → EachOf (λ x. P (f x)) xs → EachOf P (map f xs)
  each_mapped [] e = tt
  each_mapped (x ∷ xs) e = (e.0, each_mapped xs e.1)

-- a witness that the property speaks of comes out of the list
pub one_with : {A B : Type 0} (P : B → A → Type 0) (Q : B → Type 0) (xs : List A) → OneOf (λ x. (y : B) × P y x × Q y) xs → (y : B) × OneOf (P y) xs × Q y
one_with P Q [] e = absurd e
one_with P Q (x ∷ xs) (inl e) = (e.0, inl e.1, e.2)
one_with {A} {B} P Q (x ∷ xs) (inr e) = further (one_with P Q xs e)
  where
    further : (y : B) × OneOf (P y) xs × Q y → (y : B) × OneOf (P y) (x ∷ xs) × Q y
    further w = (w.0, inr w.1, w.2)
