-- The first fault of a list that is seen through a function, a turn at a time.
use Rattle.std.proofs.Common.{◌≡◌, ℕ, zero, suc, ◌+◌, ◌<◌, ◌≤◌, List, [], ◌∷◌, length, drop, get_or, Option, ap, map, arith}
use Rattle.std.proofs.lemmas.List.{length-map}
use Rattle.slint_base.specs.declared.faults.Fault.{Fault}
use Rattle.fault_order.specs.Order.{earlier_of, first_of, numbered}
use Rattle.fault_order.proofs.Told.{numbered_end, numbered_turn}

mapped_item : {A B : Type 0} (g : A → B) (xs : List A) (i : ℕ) (x : A) → x ≡ get_or xs i x → i < length xs → g x ≡ get_or (map g xs) i (g x)
mapped_item g [] i x is within = absurd (omega arith)
mapped_item g (y ∷ ys) zero x is within = ap g is
mapped_item g (y ∷ ys) (suc i) x is within = mapped_item g ys i x is (omega arith)

pub mapped_turn : {A B : Type 0} (g : A → B) (f : ℕ → B → List Fault) (xs : List A) (i : ℕ) (x : A) (so_far next : Option Fault) {one all : Option Fault}
    → x ≡ get_or xs i x → i < length xs → one ≡ first_of (f i (g x)) → next ≡ earlier_of so_far one
    → earlier_of so_far (first_of (numbered f i (drop i (map g xs)))) ≡ all
    → earlier_of next (first_of (numbered f (i + 1) (drop (i + 1) (map g xs)))) ≡ all
mapped_turn g f xs i x so_far next is within told_of next_is told =
    let many : length (map g xs) ≡ length xs = length-map xs g in
    numbered_turn f (map g xs) i (g x) so_far next (mapped_item g xs i x is within) (omega arith) told_of next_is told

pub mapped_end : {A B : Type 0} (g : A → B) (f : ℕ → B → List Fault) (xs : List A) (i : ℕ) (so_far : Option Fault) {all : Option Fault} → length xs ≤ i
    → earlier_of so_far (first_of (numbered f i (drop i (map g xs)))) ≡ all → so_far ≡ all
mapped_end g f xs i so_far past told =
    let many : length (map g xs) ≡ length xs = length-map xs g in
    numbered_end f (map g xs) i so_far (omega arith) told
