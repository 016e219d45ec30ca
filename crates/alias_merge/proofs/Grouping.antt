-- A table that is filled by class: what stands at a class is what the things of that class come to.
use Rattle.std.proofs.Common.{◌≡◌, ◌≢◌, ℕ, zero, suc, ◌+◌, ◌<◌, ◌⊎◌, inl, inr, Bool, true, false, cond, List, [], ◌∷◌, length, get_or, drop, Option, Some, None, refl, sym, ap, ◌∙◌}
use Rattle.std.specs.Prelude.{◌==◌, filter, fold, slice_get, slice_set}
use Rattle.std.specs.Option.{option_map}
use Rattle.std.proofs.lemmas.Bool.Decides.{eqb_tells}
use Rattle.std.proofs.lemmas.List.{length-set}
use Rattle.alias_merge.specs.Choosing.{number_is}
use Rattle.alias_merge.specs.ChoosingSteps.{grouped, put, put_at}
use Rattle.alias_merge.proofs.Passes.{fold_turn}

pub set_same : {A : Type 0} (xs : List A) (k : ℕ) (v a : A) → slice_get xs k ≡ Some a → slice_get (slice_set xs k v) k ≡ Some v
set_same [] k v a e = cc
set_same (x ∷ xs) zero v a e = refl
set_same (x ∷ xs) (suc k) v a e = set_same xs k v a e

pub set_other : {A : Type 0} (xs : List A) (k l : ℕ) (v : A) → k ≢ l → slice_get (slice_set xs k v) l ≡ slice_get xs l
set_other [] k l v n = refl
set_other (x ∷ xs) zero zero v n = absurd (n refl)
set_other (x ∷ xs) zero (suc l) v n = refl
set_other (x ∷ xs) (suc k) zero v n = refl
set_other (x ∷ xs) (suc k) (suc l) v n = set_other xs k l v (λ e. n (ap suc e))

map_same : {A : Type 0} (o : Option A) → option_map (λ a. a) o ≡ o
map_same None = refl
map_same (Some a) = refl

map_both : {A : Type 0} (g w h : A → A) (o : Option A) → ((a : A) → g (w a) ≡ h a) → option_map g (option_map w o) ≡ option_map h o
map_both g w h None e = refl
map_both g w h (Some a) e = ap Some (e a)

-- what a thing of some class makes of what stands at class l
abbrev taken : {A X : Type 0} → (A → X → A) → Bool → X → A → A
taken f b x a = cond b (f a x) a

put_some : {A X : Type 0} (f : A → X → A) (k : ℕ) (x : X) (table : List A) (l : ℕ) (o : Option A) → slice_get table k ≡ o → (((k == l) ≡ true) × (k ≡ l)) ⊎ (((k == l) ≡ false) × (k ≢ l))
    → slice_get (put_at f k x table o) l ≡ option_map (taken f (k == l) x) (slice_get table l)
put_some f k x table l None e (inl t) = let n : slice_get table l ≡ None = sym (ap (slice_get table) t.1) ∙ e in n ∙ sym (ap (option_map (taken f (k == l) x)) n)
put_some f k x table l (Some a) e (inl t) =
    let s : slice_get table l ≡ Some a = sym (ap (slice_get table) t.1) ∙ e in
    sym (ap (slice_get (slice_set table k (f a x))) t.1) ∙ (set_same table k (f a x) a e ∙ (sym (ap (λ b. Some (taken f b x a)) t.0) ∙ sym (ap (option_map (taken f (k == l) x)) s)))
put_some f k x table l None e (inr n) = sym (map_same (slice_get table l)) ∙ sym (ap (λ b. option_map (taken f b x) (slice_get table l)) n.0)
put_some f k x table l (Some a) e (inr n) = set_other table k l (f a x) n.1 ∙ (sym (map_same (slice_get table l)) ∙ sym (ap (λ b. option_map (taken f b x) (slice_get table l)) n.0))

put_get : {A X : Type 0} (f : A → X → A) (o : Option ℕ) (x : X) (table : List A) (l : ℕ) → slice_get (put f o x table) l ≡ option_map (taken f (number_is l o) x) (slice_get table l)
put_get f None x table l = sym (map_same (slice_get table l))
put_get f (Some k) x table l = put_some f k x table l (slice_get table k) refl (eqb_tells k l)

fold_taken : {A X : Type 0} (f : A → X → A) (b : Bool) (x : X) (xs : List X) (a : A) → fold f (taken f b x a) xs ≡ fold f a (cond b (x ∷ xs) xs)
fold_taken f true x xs a = refl
fold_taken f false x xs a = refl

-- the things of a class
abbrev pub of_number : {X : Type 0} → (X → Option ℕ) → ℕ → List X → List X
of_number class l xs = filter (λ x. number_is l (class x)) xs

pub grouped_get : {A X : Type 0} (f : A → X → A) (class : X → Option ℕ) (table : List A) (xs : List X) (l : ℕ)
    → slice_get (grouped f class table xs) l ≡ option_map (λ a. fold f a (of_number class l xs)) (slice_get table l)
grouped_get f class table [] l = sym (map_same (slice_get table l))
grouped_get f class table (x ∷ xs) l =
    let all = of_number class l (x ∷ xs) in
    grouped_get f class (put f (class x) x table) xs l
    ∙ (ap (option_map (λ a. fold f a (of_number class l xs))) (put_get f (class x) x table l)
    ∙ map_both (λ a. fold f a (of_number class l xs)) (taken f (number_is l (class x)) x) (λ a. fold f a all) (slice_get table l) (λ a. fold_taken f (number_is l (class x)) x (of_number class l xs) a))

put_at_sized : {A X : Type 0} (f : A → X → A) (k : ℕ) (x : X) (table : List A) (o : Option A) → length (put_at f k x table o) ≡ length table
put_at_sized f k x table None = refl
put_at_sized f k x table (Some a) = length-set table k (f a x)

put_sized : {A X : Type 0} (f : A → X → A) (o : Option ℕ) (x : X) (table : List A) → length (put f o x table) ≡ length table
put_sized f None x table = refl
put_sized f (Some k) x table = put_at_sized f k x table (slice_get table k)

pub grouped_sized : {A X : Type 0} (f : A → X → A) (class : X → Option ℕ) (table : List A) (xs : List X) → length (grouped f class table xs) ≡ length table
grouped_sized f class table [] = refl
grouped_sized f class table (x ∷ xs) = grouped_sized f class (put f (class x) x table) xs ∙ put_sized f (class x) x table

-- one more thing of a pass over a table, whose class is told apart
pub grouped_turn : {A X : Type 0} (f : A → X → A) (class : X → Option ℕ) (now new whole : List A) (xs : List X) (i : ℕ) (d : X) (o : Option ℕ) → i < length xs → grouped f class now (drop i xs) ≡ whole
    → o ≡ class (get_or xs i d) → new ≡ put f o (get_or xs i d) now → grouped f class new (drop (i + 1) xs) ≡ whole
grouped_turn f class now new whole xs i d o l e told n =
    fold_turn (λ rows x. put f (class x) x rows) now new whole xs i d l e (n ∙ ap (λ o. put f o (get_or xs i d) now) told)
