-- The first of faults that are told one after the other, in two lists or of the things in a list.
use Rattle.std.proofs.Common.{◌≡◌, ℕ, zero, suc, ◌+◌, ◌<◌, ◌≤◌, List, [], ◌∷◌, ◌++◌, length, drop, get_or, Option, None, Some, Result, Ok, Err, refl, sym, ap, ◌∙◌, append_assoc, add-one}
use Rattle.std.proofs.lemmas.List.{drop_all}
use Rattle.std.proofs.Math.Seq.{drop-cons}
use Rattle.std.specs.Prelude.{IfOk}
use Rattle.std.specs.List.{flat_map}
use Rattle.slint_base.specs.declared.endings.Memory.{Memory}
use Rattle.slint_base.specs.declared.faults.Fault.{Fault}
use Rattle.fault_order.specs.Order.{earlier_of, first_of, numbered}
use Rattle.fault_order.proofs.First.{earlier_of-None, first_of-append}

abbrev alone : Option Fault → List Fault
alone None = []
alone (Some f) = f ∷ []

first_alone : (a : Option Fault) → first_of (alone a) ≡ a
first_alone None = refl
first_alone (Some f) = refl

-- the earliest of three is found from either side
pub earlier_of-assoc : (a b c : Option Fault) → earlier_of (earlier_of a b) c ≡ earlier_of a (earlier_of b c)
earlier_of-assoc a b c =
    let left : first_of ((alone a ++ alone b) ++ alone c) ≡ earlier_of (earlier_of a b) c =
    first_of-append (alone a ++ alone b) (alone c) ∙ ap (λ x. earlier_of x (first_of (alone c))) (first_of-append (alone a) (alone b))
    ∙ ap (λ x. earlier_of (earlier_of x (first_of (alone b))) (first_of (alone c))) (first_alone a)
    ∙ ap (λ x. earlier_of (earlier_of a x) (first_of (alone c))) (first_alone b) ∙ ap (λ x. earlier_of (earlier_of a b) x) (first_alone c) in
    let right : first_of (alone a ++ (alone b ++ alone c)) ≡ earlier_of a (earlier_of b c) =
    first_of-append (alone a) (alone b ++ alone c) ∙ ap (λ x. earlier_of (first_of (alone a)) x) (first_of-append (alone b) (alone c))
    ∙ ap (λ x. earlier_of x (earlier_of (first_of (alone b)) (first_of (alone c)))) (first_alone a)
    ∙ ap (λ x. earlier_of a (earlier_of x (first_of (alone c)))) (first_alone b) ∙ ap (λ x. earlier_of a (earlier_of b x)) (first_alone c) in
    sym left ∙ ap first_of (append_assoc (alone a) (alone b) (alone c)) ∙ right

-- of two lists the earlier one of their first faults
pub both_told : (xs ys : List Fault) {a b told : Option Fault} → told ≡ earlier_of a b → a ≡ first_of xs → b ≡ first_of ys → told ≡ first_of (xs ++ ys)
both_told xs ys {a} {b} is p q = is ∙ ap (λ x. earlier_of x b) p ∙ ap (λ y. earlier_of (first_of xs) y) q ∙ sym (first_of-append xs ys)

-- the same of three
pub three_told : (xs ys zs : List Fault) {a b d : Option Fault} → a ≡ first_of xs → b ≡ first_of ys → d ≡ first_of zs → earlier_of a (earlier_of b d) ≡ first_of (xs ++ (ys ++ zs))
three_told xs ys zs p q r = both_told xs (ys ++ zs) refl p (both_told ys zs refl q r)

-- what is computed, told otherwise
pub as_told : {A : Type 0} (r : Result A Memory) (a b : A) → a ≡ b → IfOk r (λ x. x ≡ a) → IfOk r (λ x. x ≡ b)
as_told (Ok x) a b same told = told ∙ same
as_told (Err e) a b same told = told

-- ---- things in lists

pub from_item : {A : Type 0} (xs : List A) (i : ℕ) (x : A) → x ≡ get_or xs i x → i < length xs → drop i xs ≡ x ∷ drop (i + 1) xs
from_item xs i x e h = drop-cons xs i x h ∙ ap (λ y. y ∷ drop (suc i) xs) (sym e) ∙ ap (λ n. x ∷ drop n xs) (sym (add-one i))

-- a fault that is told, and what the rest comes to
pub one_told : (one rest : List Fault) (so_far next : Option Fault) {told : Option Fault} → told ≡ first_of one → next ≡ earlier_of so_far told
    → earlier_of next (first_of rest) ≡ earlier_of so_far (first_of (one ++ rest))
one_told one rest so_far next told_of next_is =
    ap (λ a. earlier_of a (first_of rest)) (next_is ∙ ap (earlier_of so_far) told_of)
    ∙ earlier_of-assoc so_far (first_of one) (first_of rest)
    ∙ ap (earlier_of so_far) (sym (first_of-append one rest))

-- what is told so far, and what the rest comes to, stay the same
pub told_turn : {A : Type 0} (f : A → List Fault) (xs : List A) (i : ℕ) (x : A) (so_far next : Option Fault) {one all : Option Fault}
    → x ≡ get_or xs i x → i < length xs → one ≡ first_of (f x) → next ≡ earlier_of so_far one
    → earlier_of so_far (first_of (flat_map f (drop i xs))) ≡ all
    → earlier_of next (first_of (flat_map f (drop (i + 1) xs))) ≡ all
told_turn f xs i x so_far next is within told_of next_is told =
    one_told (f x) (flat_map f (drop (i + 1) xs)) so_far next told_of next_is
    ∙ ap (λ ys. earlier_of so_far (first_of (flat_map f ys))) (sym (from_item xs i x is within))
    ∙ told

pub told_end : {A : Type 0} (f : A → List Fault) (xs : List A) (i : ℕ) (so_far : Option Fault) {all : Option Fault} → length xs ≤ i
    → earlier_of so_far (first_of (flat_map f (drop i xs))) ≡ all → so_far ≡ all
told_end f xs i so_far past told = sym (earlier_of-None so_far) ∙ ap (λ ys. earlier_of so_far (first_of (flat_map f ys))) (sym (drop_all i xs past)) ∙ told

-- the same where they are numbered
pub numbered_turn : {A : Type 0} (f : ℕ → A → List Fault) (xs : List A) (i : ℕ) (x : A) (so_far next : Option Fault) {one all : Option Fault}
    → x ≡ get_or xs i x → i < length xs → one ≡ first_of (f i x) → next ≡ earlier_of so_far one
    → earlier_of so_far (first_of (numbered f i (drop i xs))) ≡ all
    → earlier_of next (first_of (numbered f (i + 1) (drop (i + 1) xs))) ≡ all
numbered_turn f xs i x so_far next is within told_of next_is told =
    one_told (f i x) (numbered f (i + 1) (drop (i + 1) xs)) so_far next told_of next_is
    ∙ ap (λ n. earlier_of so_far (first_of (f i x ++ numbered f n (drop (i + 1) xs)))) (add-one i)
    ∙ ap (λ ys. earlier_of so_far (first_of (numbered f i ys))) (sym (from_item xs i x is within))
    ∙ told

pub numbered_end : {A : Type 0} (f : ℕ → A → List Fault) (xs : List A) (i : ℕ) (so_far : Option Fault) {all : Option Fault} → length xs ≤ i
    → earlier_of so_far (first_of (numbered f i (drop i xs))) ≡ all → so_far ≡ all
numbered_end f xs i so_far past told = sym (earlier_of-None so_far) ∙ ap (λ ys. earlier_of so_far (first_of (numbered f i ys))) (sym (drop_all i xs past)) ∙ told
