-- Statements of a block, one more.
use Rattle.std.proofs.Common.{◌≡◌, ℕ, suc, zero, ◌+◌, ◌<◌, ◌≤◌, Bool, true, false, ◌&&◌, is_none, List, [], ◌∷◌, ◌++◌, length, take, get_or, slice_get, Option, refl, sym, ap, ◌∙◌, add-one, arith}
use Rattle.std.proofs.lemmas.List.{take_all}
use Rattle.syntax_tree.specs.declared.statements.Stmt.{Stmt}
use Rattle.value_types.specs.declared.types.Ty.{Ty}
use Rattle.typed_tree.specs.Scopes.{ScopeValue}
use Rattle.expr_types.specs.Nodes.{Statement, statement_nodes}
use Rattle.expr_types.specs.Verdicts.{Verdicts, Seen}
use Rattle.expr_types.proofs.Telling.{seen_of}

and_true : (b : Bool) → b ≡ (b && true)
and_true true = refl
and_true false = refl

and_false : (b : Bool) → false ≡ (b && false)
and_false true = refl
and_false false = refl

-- the nodes of statements, one more; the block ends with the last one
more_nodes : (t : Ty) (ends : Bool) (xs : List Stmt) (i : ℕ) (d : Stmt) → i < length xs → take (suc i) (statement_nodes t ends xs) ≡ take i (statement_nodes t ends xs) ++ Statement t (ends && is_none (slice_get xs (suc i))) (get_or xs i d) ∷ []
more_nodes t ends [] i d h = absurd (omega arith)
more_nodes t ends (x ∷ []) zero d h = ap (λ b. Statement t b x ∷ []) (and_true ends)
more_nodes t ends (x ∷ []) (suc i) d h = absurd (omega arith)
more_nodes t ends (x ∷ y ∷ ys) zero d h = ap (λ b. Statement t b x ∷ []) (and_false ends)
more_nodes t ends (x ∷ y ∷ ys) (suc i) d h = ap (λ z. Statement t false x ∷ z) (more_nodes t ends (y ∷ ys) i d (omega arith))

length_nodes : (t : Ty) (ends : Bool) (xs : List Stmt) → length (statement_nodes t ends xs) ≡ length xs
length_nodes t ends [] = refl
length_nodes t ends (x ∷ []) = refl
length_nodes t ends (x ∷ y ∷ ys) = ap suc (length_nodes t ends (y ∷ ys))

next_nodes : (t : Ty) (ends : Bool) (xs : List Stmt) (i : ℕ) (x : Stmt) (b : Bool) (after : Option Stmt) → x ≡ get_or xs i x → i < length xs → b ≡ (ends && is_none after) → after ≡ slice_get xs (i + 1)
    → take i (statement_nodes t ends xs) ++ Statement t b x ∷ [] ≡ take (i + 1) (statement_nodes t ends xs)
next_nodes t ends xs i x b after k h e f = ap (λ z. take i (statement_nodes t ends xs) ++ Statement t z x ∷ []) (e ∙ ap (λ z. ends && is_none z) (f ∙ ap (slice_get xs) (add-one i)))
    ∙ ap (λ z. take i (statement_nodes t ends xs) ++ Statement t (ends && is_none (slice_get xs (suc i))) z ∷ []) k
    ∙ sym (more_nodes t ends xs i x h) ∙ ap (λ n. take n (statement_nodes t ends xs)) (sym (add-one i))

pub statement_turn : {s : ScopeValue} (t : Ty) (ends : Bool) (xs : List Stmt) (i : ℕ) (x : Stmt) (b : Bool) (after : Option Stmt) {seen : Verdicts} → x ≡ get_or xs i x → i < length xs → b ≡ (ends && is_none after) → after ≡ slice_get xs (i + 1)
    → Seen s (take i (statement_nodes t ends xs) ++ Statement t b x ∷ []) seen → Seen s (take (i + 1) (statement_nodes t ends xs)) seen
statement_turn t ends xs i x b after k h e f p = seen_of (next_nodes t ends xs i x b after k h e f) p

pub statements_end : {s : ScopeValue} (t : Ty) (ends : Bool) (xs : List Stmt) (i : ℕ) {seen : Verdicts} → length xs ≤ i → Seen s (take i (statement_nodes t ends xs)) seen → Seen s (statement_nodes t ends xs) seen
statements_end t ends xs i h p = seen_of (take_all i (statement_nodes t ends xs) (let e = length_nodes t ends xs in omega arith)) p
