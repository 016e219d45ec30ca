-- The ends of all rows, when those of one are set; and small facts on lists of pairs.
use Rattle.std.proofs.Common.{◌≡◌, ◌≢◌, ℕ, suc, ◌<◌, ◌≤◌, Bool, true, false, cond, ◌==◌, List, [], ◌∷◌, ◌++◌, length, get_or, refl, sym, ap, ◌∙◌, subst, T, eqb→eq, get_or-set_same, get_or-set_other, arith}
use Rattle.std.proofs.Math.ListN.{set, length-set}
use denote.RawPtr.{Ptr}
use Rattle.dep_list.specs.declared.node.Ends.{Ends}
use Rattle.dep_list.specs.Cells.{without, same_ptr}
use Rattle.dep_list.specs.declared.node.Node.{Node}
use Rattle.dep_list.specs.declared.node.Side.{Side}
use Rattle.dep_list.specs.declared.node.Side.TheVariants.{Reader, Point}
use Rattle.dep_list.specs.Lists.{IsRow, no_ends, AllWithin, State, key_of, ends_of}
use Rattle.dep_list.proofs.Rows.{Step}

true_of : (b : Bool) → b ≡ true → T b
true_of true e = tt
true_of false e = cc

pub decided : (k j : ℕ) {P : Type 0} → (k ≡ j → P) → (k ≢ j → P) → P
decided k j {P} f g = (elim (k == j) as (λ b. (k == j) ≡ b → P) [
  | true ↦ λ e. f (eqb→eq k j (true_of (k == j) e))
  | false ↦ λ e. g (λ same. let no : false ≡ true = sym (subst (λ i. (k == i) ≡ false) (sym same) e) ∙ eqb_same k in cc)
]) refl
  where
    true_bool : (b : Bool) → T b → b ≡ true
    true_bool true t = refl
    true_bool false t = absurd t

    eqb_same : (n : ℕ) → (n == n) ≡ true
    eqb_same n = true_bool (n == n) (lib.Dec.eqb_refl n)

-- the rows that the lists of ends are about, when the ends of one row are set
pub rows_set : (es : List Ends) (k0 : ℕ) (e : Ends) (R R' : ℕ → List (Ptr × Step)) → k0 < length es
    → ((k : ℕ) → k < length es → IsRow (get_or es k no_ends) (R k)) → IsRow e (R' k0) → ((k : ℕ) → k ≢ k0 → R' k ≡ R k)
    → (k : ℕ) → k < length (set es k0 e) → IsRow (get_or (set es k0 e) k no_ends) (R' k)
rows_set es k0 e R R' inside rows own others k h =
    let h' : k < length es = subst (λ n. k < n) (length-set es k0 e) h in
    decided k k0
    (λ same. subst (λ j. IsRow (get_or (set es k0 e) j no_ends) (R' j)) (sym same)
    (subst (λ f. IsRow f (R' k0)) (sym (get_or-set_same es k0 e no_ends inside)) own))
    (λ differ. subst (λ f. IsRow f (R' k)) (sym (get_or-set_other es k0 k e no_ends differ))
    (subst (λ r. IsRow (get_or es k no_ends) r) (sym (others k differ)) (rows k h')))

pub AllWithin-without : (r q : ℕ) (p : Ptr) (es : List (Ptr × (ℕ × ℕ))) → AllWithin r q es → AllWithin r q (without p es)
AllWithin-without r q p [] a = tt
AllWithin-without r q p (e ∷ es) a = step (same_ptr e.0 p) (AllWithin-without r q p es a.2)
  where
    step : (b : Bool) → AllWithin r q (without p es) → AllWithin r q (cond b (without p es) (e ∷ without p es))
    step true h = h
    step false h = (a.0, a.1, h)

pub AllWithin-push : (r q : ℕ) (es : List (Ptr × (ℕ × ℕ))) (e : Ptr × (ℕ × ℕ)) → AllWithin r q es → e.1.0 < r → e.1.1 < q → AllWithin r q (es ++ e ∷ [])
AllWithin-push r q [] e a h k = (h, k, tt)
AllWithin-push r q (x ∷ es) e a h k = (a.0, a.1, AllWithin-push r q es e a.2 h k)

pub AllWithin-more : (r q r' q' : ℕ) (es : List (Ptr × (ℕ × ℕ))) → r ≤ r' → q ≤ q' → AllWithin r q es → AllWithin r' q' es
AllWithin-more r q r' q' [] h k a = tt
AllWithin-more r q r' q' (e ∷ es) h k a = let first : e.1.0 < r' = omega (arith, a.0) in let second : e.1.1 < q' = omega (arith, a.1) in (first, second, AllWithin-more r q r' q' es h k a.2)

pub length-push : {A : Type 0} (xs : List A) (x : A) → length (xs ++ x ∷ []) ≡ suc (length xs)
length-push [] x = refl
length-push (y ∷ xs) x = ap suc (length-push xs x)

pub length-middle : {A : Type 0} (xs : List A) (x : A) (ys : List A) → length (xs ++ x ∷ ys) ≡ suc (length (xs ++ ys))
length-middle [] x ys = refl
length-middle (y ∷ xs) x ys = ap suc (length-middle xs x ys)

-- both ends of a node are admitted
pub both_inside : (s : State) (n : Node) → n.reader < length s.readers → n.point < length s.points → (side : Side) → key_of side n < length (ends_of side s)
both_inside s n a b Reader = a
both_inside s n a b Point = b
