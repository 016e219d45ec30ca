-- Loops that add what comes of each thing of a list.
use Rattle.std.proofs.Common.{◌≡◌, ℕ, zero, suc, ◌+◌, ◌<◌, ◌≤◌, List, [], ◌∷◌, ◌++◌, length, get_or, take, refl, sym, ap, ◌∙◌, append_assoc, arith}
use Rattle.std.specs.List.{flat_map}
use Rattle.std.proofs.lemmas.List.{take_all, take_more, length-take-le}
use Rattle.alias_merge.specs.Candidates.{numbered_all}

append_none : {A : Type 0} (xs : List A) → xs ++ [] ≡ xs
append_none [] = refl
append_none (x ∷ xs) = ap (λ ys. x ∷ ys) (append_none xs)

flat_push : {A B : Type 0} (f : A → List B) (xs : List A) (x : A) → flat_map f (xs ++ x ∷ []) ≡ flat_map f xs ++ f x
flat_push f [] x = append_none (f x)
flat_push f (y ∷ ys) x = ap (λ z. f y ++ z) (flat_push f ys x) ∙ sym (append_assoc (f y) (flat_map f ys) (f x))

pub flat_turn : {A B : Type 0} (f : A → List B) (xs : List A) (i : ℕ) (d : A) (a now new : List B) → i < length xs → now ≡ a ++ flat_map f (take i xs) → new ≡ now ++ f (get_or xs i d)
    → new ≡ a ++ flat_map f (take (i + 1) xs)
flat_turn f xs i d a now new h p q =
    let x = get_or xs i d in
    q ∙ (ap (λ z. z ++ f x) p ∙ (append_assoc a (flat_map f (take i xs)) (f x) ∙ ap (λ z. a ++ z) (sym (ap (flat_map f) (take_more xs i d h) ∙ flat_push f (take i xs) x))))

pub flat_end : {A B : Type 0} (f : A → List B) (xs : List A) (i : ℕ) (a now : List B) → length xs ≤ i → now ≡ a ++ flat_map f (take i xs) → now ≡ a ++ flat_map f xs
flat_end f xs i a now h p = p ∙ ap (λ ys. a ++ flat_map f ys) (take_all i xs h)

number_push : {A B : Type 0} (f : ℕ → A → List B) (n : ℕ) (xs : List A) (x : A) → numbered_all f n (xs ++ x ∷ []) ≡ numbered_all f n xs ++ f (n + length xs) x
number_push f n [] x = append_none (f n x) ∙ ap (λ (m : ℕ). f m x) (omega arith)
number_push f n (y ∷ ys) x =
    ap (λ z. f n y ++ z) (number_push f (suc n) ys x) ∙ (sym (append_assoc (f n y) (numbered_all f (suc n) ys) (f (suc n + length ys) x))
    ∙ ap (λ (m : ℕ). (f n y ++ numbered_all f (suc n) ys) ++ f m x) (omega arith))

pub number_turn : {A B : Type 0} (f : ℕ → A → List B) (xs : List A) (i : ℕ) (x : A) (a now new : List B) → i < length xs → x ≡ get_or xs i x → now ≡ a ++ numbered_all f 0 (take i xs)
    → new ≡ now ++ f i x → new ≡ a ++ numbered_all f 0 (take (i + 1) xs)
number_turn f xs i x a now new h e p q =
    let long : length (take i xs) ≡ i = length-take-le i xs (omega (arith, h)) in
    let more : numbered_all f 0 (take (i + 1) xs) ≡ numbered_all f 0 (take i xs) ++ f i x =
    ap (numbered_all f 0) (take_more xs i x h ∙ ap (λ y. take i xs ++ y ∷ []) (sym e)) ∙ (number_push f 0 (take i xs) x
    ∙ ap (λ (m : ℕ). numbered_all f 0 (take i xs) ++ f m x) (omega (arith, long))) in
    q ∙ (ap (λ z. z ++ f i x) p ∙ (append_assoc a (numbered_all f 0 (take i xs)) (f i x) ∙ ap (λ z. a ++ z) (sym more)))

pub number_end : {A B : Type 0} (f : ℕ → A → List B) (xs : List A) (i : ℕ) (a now : List B) → length xs ≤ i → now ≡ a ++ numbered_all f 0 (take i xs) → now ≡ a ++ numbered_all f 0 xs
number_end f xs i a now h p = p ∙ ap (λ ys. a ++ numbered_all f 0 ys) (take_all i xs h)

-- the same of things that are copied
same_default : {A : Type 0} (xs : List A) (i : ℕ) (d e : A) → i < length xs → get_or xs i d ≡ get_or xs i e
same_default [] i d e l = absurd (omega arith)
same_default (x ∷ xs) zero d e l = refl
same_default (x ∷ xs) (suc i) d e l = same_default xs i d e (omega (arith, l))

pub copied_turn : {A B : Type 0} (f : ℕ → A → List B) (xs : List A) (i : ℕ) (d : A) (a now new : List B) → i < length xs → now ≡ a ++ numbered_all f 0 (take i xs) → new ≡ now ++ f i (get_or xs i d)
    → new ≡ a ++ numbered_all f 0 (take (i + 1) xs)
copied_turn f xs i d a now new h p q = number_turn f xs i (get_or xs i d) a now new h (same_default xs i d (get_or xs i d) h) p q
