-- Passes over a list: what is done, and what is left to do.
use Rattle.std.proofs.Common.{◌≡◌, ℕ, ◌+◌, ◌<◌, ◌≤◌, Bool, true, false, cond, List, [], ◌∷◌, ◌++◌, length, get_or, drop, refl, sym, ap, ◌∙◌, append_assoc}
use Rattle.std.specs.Prelude.{filter, fold, map}
use Rattle.std.proofs.lemmas.List.{drop_all, drop_more}

pub fold_turn : {A B : Type 0} (f : B → A → B) (now new whole : B) (xs : List A) (i : ℕ) (d : A) → i < length xs → fold f now (drop i xs) ≡ whole → new ≡ f now (get_or xs i d) → fold f new (drop (i + 1) xs) ≡ whole
fold_turn f now new whole xs i d l e n = ap (λ b. fold f b (drop (i + 1) xs)) n ∙ (sym (ap (λ ys. fold f now ys) (drop_more xs i d l)) ∙ e)

pub fold_end : {A B : Type 0} (f : B → A → B) (now whole : B) (xs : List A) (i : ℕ) → length xs ≤ i → fold f now (drop i xs) ≡ whole → now ≡ whole
fold_end f now whole xs i l e = sym (ap (λ ys. fold f now ys) (drop_all i xs l)) ∙ e

-- ---- items that pass a test are kept

pub kept_turn : {A : Type 0} (p : A → Bool) (now new whole : List A) (xs : List A) (i : ℕ) (d : A) → i < length xs → now ++ filter p (drop i xs) ≡ whole → p (get_or xs i d) ≡ true
    → new ≡ now ++ get_or xs i d ∷ [] → new ++ filter p (drop (i + 1) xs) ≡ whole
kept_turn p now new whole xs i d l e t n =
    let x = get_or xs i d in
    let rest = filter p (drop (i + 1) xs) in
    ap (λ ys. ys ++ rest) n ∙ (append_assoc now (x ∷ []) rest ∙ (sym (ap (λ ys. now ++ ys) (ap (filter p) (drop_more xs i d l) ∙ ap (λ b. cond b (x ∷ rest) rest) t)) ∙ e))

pub passed_turn : {A : Type 0} (p : A → Bool) (now new whole : List A) (xs : List A) (i : ℕ) (d : A) → i < length xs → now ++ filter p (drop i xs) ≡ whole → p (get_or xs i d) ≡ false
    → new ≡ now → new ++ filter p (drop (i + 1) xs) ≡ whole
passed_turn p now new whole xs i d l e t n =
    let x = get_or xs i d in
    let rest = filter p (drop (i + 1) xs) in
    ap (λ ys. ys ++ rest) n ∙ (sym (ap (λ ys. now ++ ys) (ap (filter p) (drop_more xs i d l) ∙ ap (λ b. cond b (x ∷ rest) rest) t)) ∙ e)

append_none : {A : Type 0} (xs : List A) → xs ++ [] ≡ xs
append_none [] = refl
append_none (x ∷ xs) = ap (λ ys. x ∷ ys) (append_none xs)

-- what a list that is left comes to is put behind what is there
pub behind_end : {A B : Type 0} (f : List A → List B) (now whole : List B) (xs : List A) (i : ℕ) → f [] ≡ [] → length xs ≤ i → now ++ f (drop i xs) ≡ whole → now ≡ whole
behind_end f now whole xs i none l e = sym (append_none now) ∙ (sym (ap (λ ys. now ++ ys) (ap f (drop_all i xs l) ∙ none)) ∙ e)

pub mapped_turn : {A B : Type 0} (f : A → B) (now new whole : List B) (xs : List A) (i : ℕ) (d : A) → i < length xs → now ++ map f (drop i xs) ≡ whole → new ≡ now ++ f (get_or xs i d) ∷ [] → new ++ map f (drop (i + 1) xs) ≡ whole
mapped_turn f now new whole xs i d l e n =
    let x = get_or xs i d in
    let rest = map f (drop (i + 1) xs) in
    ap (λ ys. ys ++ rest) n ∙ (append_assoc now (f x ∷ []) rest ∙ (sym (ap (λ ys. now ++ ys) (ap (map f) (drop_more xs i d l))) ∙ e))
