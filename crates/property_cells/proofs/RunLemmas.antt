-- A cell begins to run, or the innermost ends.
use Rattle.std.proofs.Common.{◌≡◌, ℕ, zero, suc, ◌+◌, ◌<◌, ◌≤◌, List, [], ◌∷◌, ◌++◌, length, get_or, take, Option, Some, None, inl, inr, refl, sym, ap, ◌∙◌, subst, arith, get_or-set_same, get_or-set_other}
use Rattle.std.proofs.Math.ListN.{set, length-set}
use Rattle.dep_list.specs.Pairs.{In}
use Rattle.property_cells.specs.Runs.{run_list, RunsThrough, IsRun}

-- a thread is found again by its length
run_list-through : (below : List (Option ℕ)) (top : Option ℕ) (cs : List ℕ) → RunsThrough below top cs → run_list (length cs) top below ≡ cs
run_list-through below top [] t = refl
run_list-through below top (c ∷ cs) t = ap (λ (o : Option ℕ). run_list (suc (length cs)) o below) t.0 ∙ ap (λ l. c ∷ l) (run_list-through below (get_or below c None) cs t.3)

pub RunsThrough-set : (below : List (Option ℕ)) (top : Option ℕ) (cs : List ℕ) (c : ℕ) (x : Option ℕ) → (In c cs → ⊥) → RunsThrough below top cs → RunsThrough (set below c x) top cs
RunsThrough-set below top [] c x n t = t
RunsThrough-set below top (d ∷ cs) c x n t = (
  t.0,
  subst (λ l. d < l) (sym (length-set below c x)) t.1,
  t.2,
  subst (λ (o : Option ℕ). RunsThrough (set below c x) o cs) (sym (get_or-set_other below c d x None (λ same. n (inl (sym same))))) (RunsThrough-set below (get_or below d None) cs c x (λ i. n (inr i)) t.3),
)

is_run : (below : List (Option ℕ)) (top : Option ℕ) (cs : List ℕ) (count : ℕ) → count ≡ length cs → RunsThrough below top cs → IsRun below top count
is_run below top cs count e t =
    let same : run_list count top below ≡ cs = ap (λ n. run_list n top below) e ∙ run_list-through below top cs t in
    record { through = subst (RunsThrough below top) (sym same) t; counted = ap length same ∙ sym e }

module _ (below : List (Option ℕ)) (top : Option ℕ) (count : ℕ) (K : IsRun below top count) (c : ℕ) (inside : c < length below) (free : In c (run_list count top below) → ⊥) where
  abbrev cs : List ℕ
  cs = run_list count top below

  abbrev more : List (Option ℕ)
  more = set below c top

  begun_through : RunsThrough more (Some c) (c ∷ cs)
  begun_through = (
    refl,
    subst (λ l. c < l) (sym (length-set below c top)) inside,
    free,
    subst (λ (o : Option ℕ). RunsThrough more o cs) (sym (get_or-set_same below c top None inside)) (RunsThrough-set below top cs c top free K.through),
  )

  pub begun_run : IsRun more (Some c) (count + 1)
  begun_run = is_run more (Some c) (c ∷ cs) (count + 1) (let k = K.counted in omega arith) begun_through

  pub begun_list : run_list (count + 1) (Some c) more ≡ c ∷ cs
  begun_list = ap (λ n. run_list n (Some c) more) (let one : count + 1 ≡ suc (length cs) = (let k = K.counted in omega arith) in one) ∙ run_list-through more (Some c) (c ∷ cs) begun_through

-- ---- more cells

get_or-left : (xs ys : List (Option ℕ)) (k : ℕ) → k < length xs → get_or (xs ++ ys) k None ≡ get_or xs k None
get_or-left [] ys k h = absurd (omega arith)
get_or-left (x ∷ xs) ys zero h = refl
get_or-left (x ∷ xs) ys (suc k) h = get_or-left xs ys k (omega arith)

length-more : (xs ys : List (Option ℕ)) → length xs ≤ length (xs ++ ys)
length-more [] ys = omega arith
length-more (x ∷ xs) ys = let h = length-more xs ys in omega arith

pub RunsThrough-more : (below ys : List (Option ℕ)) (top : Option ℕ) (cs : List ℕ) → RunsThrough below top cs → RunsThrough (below ++ ys) top cs
RunsThrough-more below ys top [] t = t
RunsThrough-more below ys top (c ∷ cs) t = (
  t.0,
  (let h = length-more below ys in let k = t.1 in omega arith),
  t.2,
  subst (λ (o : Option ℕ). RunsThrough (below ++ ys) o cs) (sym (get_or-left below ys c t.1)) (RunsThrough-more below ys (get_or below c None) cs t.3),
)

take_past : (xs : List (Option ℕ)) (n : ℕ) → length xs ≤ n → take n xs ≡ xs
take_past [] zero h = refl
take_past [] (suc n) h = refl
take_past (x ∷ xs) zero h = absurd (omega arith)
take_past (x ∷ xs) (suc n) h = ap (λ l. x ∷ l) (take_past xs n (omega arith))

module _ (below : List (Option ℕ)) (top : Option ℕ) (count : ℕ) (K : IsRun below top count) (n : ℕ) (ys new : List (Option ℕ)) (h : length below ≤ n) (e : new ≡ take n below ++ ys) where
  new_is : new ≡ below ++ ys
  new_is = e ∙ ap (λ l. l ++ ys) (take_past below n h)

  through : RunsThrough new top (run_list count top below)
  through = subst (λ l. RunsThrough l top (run_list count top below)) (sym new_is) (RunsThrough-more below ys top (run_list count top below) K.through)

  pub admitted_run : IsRun new top count
  admitted_run = is_run new top (run_list count top below) count (sym K.counted) through

  pub admitted_list : run_list count top new ≡ run_list count top below
  admitted_list = ap (λ m. run_list m top new) (sym K.counted) ∙ run_list-through new top (run_list count top below) through
