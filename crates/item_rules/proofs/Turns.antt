-- Loops over names that have to differ, and over things with faults, a turn at a time.
use Rattle.std.proofs.Common.{◌≡◌, ℕ, ◌+◌, ◌<◌, ◌≤◌, List, [], ◌∷◌, ◌++◌, length, drop, get_or, map, Option, Some, Result, Ok, Err, refl, sym, ap, ◌∙◌, add-one}
use Rattle.std.proofs.lemmas.List.{drop_all}
use Rattle.std.specs.Prelude.{IfOk, OnOk}
use Rattle.std.specs.List.{cons_option, filter_map}
use Rattle.slint_base.specs.declared.faults.Fault.{Fault}
use Rattle.slint_base.specs.declared.endings.Memory.{Memory}
use Rattle.syntax_tree.specs.declared.words.Ident.{Ident}
use Rattle.fault_order.specs.Order.{earlier_of, first_of, numbered}
use Rattle.fault_order.proofs.First.{earlier_of-None, first_of-append}
use Rattle.item_rules.specs.Twice.{is_there, twice_behind, twice_if}
use Rattle.fault_order.proofs.Told.{earlier_of-assoc, from_item}

-- ---- names that have to differ

abbrev pub own_name : Ident → Option Ident
own_name name = Some name

-- a name is put behind those that are there
pub noted : (r : Result (Option Fault) Memory) (seen longer : List (List ℕ)) (so_far : Option Fault) (x : Ident) {name : Option Ident} → name ≡ Some x
    → IfOk r (λ fault. fault ≡ earlier_of so_far (first_of (twice_if (is_there seen x.name) x.span))) → OnOk r (longer ≡ seen ++ x.name ∷ [])
    → IfOk r (λ fault. (rest : List Ident) → earlier_of fault (first_of (twice_behind longer rest)) ≡ earlier_of so_far (first_of (twice_behind seen (cons_option name rest))))
noted (Ok fault) seen longer so_far x {name} is told grown = λ rest.
    ap (λ a. earlier_of a (first_of (twice_behind longer rest))) told
    ∙ ap (λ ys. earlier_of (earlier_of so_far (first_of (twice_if (is_there seen x.name) x.span))) (first_of (twice_behind ys rest))) grown
    ∙ earlier_of-assoc so_far (first_of (twice_if (is_there seen x.name) x.span)) (first_of (twice_behind (seen ++ x.name ∷ []) rest))
    ∙ ap (earlier_of so_far) (sym (first_of-append (twice_if (is_there seen x.name) x.span) (twice_behind (seen ++ x.name ∷ []) rest)))
    ∙ ap (λ n. earlier_of so_far (first_of (twice_behind seen (cons_option n rest)))) (sym is)
noted (Err e) seen longer so_far x is told grown = tt

-- the names from a place on
pub named_from : {A : Type 0} (f : A → Option Ident) (xs : List A) (i : ℕ) (x : A) {name : Option Ident} → x ≡ get_or xs i x → i < length xs → name ≡ f x
    → cons_option name (filter_map f (drop (i + 1) xs)) ≡ filter_map f (drop i xs)
named_from f xs i x is within named = ap (λ n. cons_option n (filter_map f (drop (i + 1) xs))) named ∙ ap (filter_map f) (sym (from_item xs i x is within))

-- what is told so far, and what the rest comes to, stay the same
pub named_turn : {A : Type 0} (f : A → Option Ident) (xs : List A) (i : ℕ) (x : A) {name : Option Ident} (seen longer : List (List ℕ)) (so_far next : Option Fault) {all : Option Fault}
    → x ≡ get_or xs i x → i < length xs → name ≡ f x
    → ((rest : List Ident) → earlier_of next (first_of (twice_behind longer rest)) ≡ earlier_of so_far (first_of (twice_behind seen (cons_option name rest))))
    → earlier_of so_far (first_of (twice_behind seen (filter_map f (drop i xs)))) ≡ all
    → earlier_of next (first_of (twice_behind longer (filter_map f (drop (i + 1) xs)))) ≡ all
named_turn f xs i x seen longer so_far next is within named noted told =
    noted (filter_map f (drop (i + 1) xs)) ∙ ap (λ names. earlier_of so_far (first_of (twice_behind seen names))) (named_from f xs i x is within named) ∙ told

pub named_end : {A : Type 0} (f : A → Option Ident) (xs : List A) (i : ℕ) (seen : List (List ℕ)) (so_far : Option Fault) {all : Option Fault} → length xs ≤ i
    → earlier_of so_far (first_of (twice_behind seen (filter_map f (drop i xs)))) ≡ all → so_far ≡ all
named_end f xs i seen so_far past told = sym (earlier_of-None so_far) ∙ ap (λ ys. earlier_of so_far (first_of (twice_behind seen (filter_map f ys)))) (sym (drop_all i xs past)) ∙ told

-- ---- things with faults, that are shown otherwise

pub shown_turn : {A B : Type 0} (shown : A → B) (f : ℕ → B → List Fault) (xs : List A) (i : ℕ) (x : A) (so_far next : Option Fault) {one all : Option Fault}
    → x ≡ get_or xs i x → i < length xs → one ≡ first_of (f i (shown x)) → next ≡ earlier_of so_far one
    → earlier_of so_far (first_of (numbered f i (map shown (drop i xs)))) ≡ all
    → earlier_of next (first_of (numbered f (i + 1) (map shown (drop (i + 1) xs)))) ≡ all
shown_turn shown f xs i x so_far next is within told_of next_is told =
    ap (λ a. earlier_of a (first_of (numbered f (i + 1) (map shown (drop (i + 1) xs))))) (next_is ∙ ap (earlier_of so_far) told_of)
    ∙ earlier_of-assoc so_far (first_of (f i (shown x))) (first_of (numbered f (i + 1) (map shown (drop (i + 1) xs))))
    ∙ ap (earlier_of so_far) (sym (first_of-append (f i (shown x)) (numbered f (i + 1) (map shown (drop (i + 1) xs)))) ∙ ap (λ n. first_of (f i (shown x) ++ numbered f n (map shown (drop (i + 1) xs)))) (add-one i) ∙ ap (λ ys. first_of (numbered f i (map shown ys))) (sym (from_item xs i x is within)))
    ∙ told

pub shown_end : {A B : Type 0} (shown : A → B) (f : ℕ → B → List Fault) (xs : List A) (i : ℕ) (so_far : Option Fault) {all : Option Fault} → length xs ≤ i
    → earlier_of so_far (first_of (numbered f i (map shown (drop i xs)))) ≡ all → so_far ≡ all
shown_end shown f xs i so_far past told = sym (earlier_of-None so_far) ∙ ap (λ ys. earlier_of so_far (first_of (numbered f i (map shown ys)))) (sym (drop_all i xs past)) ∙ told

-- ---- names that all things of a list have

pub all_named : (names : List Ident) → filter_map own_name names ≡ names
all_named [] = refl
all_named (x ∷ xs) = ap (λ ys. x ∷ ys) (all_named xs)
