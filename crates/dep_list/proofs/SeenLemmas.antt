-- The counts that a contract sees, and the lists cleared and freed.
use Rattle.std.proofs.Common.{◌≡◌, ◌≢◌, ℕ, suc, ◌+◌, ◌≤◌, Bool, true, false, cond, ◌==◌, List, [], ◌∷◌, ◌++◌, length, Option, Some, None, refl, sym, ap, ◌∙◌, subst, append-nil, arith, T}
use Rattle.std.specs.Prelude.{IsSome, not}
use denote.RawPtr.{Ptr}
use Rattle.dep_list.specs.declared.node.Place.{Place}
use Rattle.dep_list.specs.declared.node.Node.{Node}
use Rattle.dep_list.specs.declared.node.Side.TheVariants.{Reader}
use Rattle.dep_list.specs.Cells.{same_ptr, find, take_out, places, values, without, add, Apart}
use Rattle.dep_list.specs.Lists.{place, pair_if, below_if, entries, frees, last_or, Stack, State, Held, AllWithin, AllFrom, drop_key, pairs_of, SameRoom, IsSpare}
use Rattle.dep_list.proofs.Places.{take_out-without, Apart-without, pick-without, Apart-pick, without-cut}
use Rattle.dep_list.proofs.Rows.{Stack-cut}
use Rattle.dep_list.proofs.LinkKeeps.{top_from, top_again}
use Rattle.dep_list.proofs.EndsLemmas.{length-push}

length-values : {A : Type 0} (xs : List (Ptr × A)) → length (values xs) ≡ length xs
length-values [] = refl
length-values (x ∷ xs) = ap suc (length-values xs)

pub count_is : (s : State) → Held s → s.count ≡ length (pairs_of s)
count_is s K = K.count ∙ sym (length-values (entries s.cells))

pub total_is : (s t : State) → Held s → Held t → SameRoom s t → t.spare + length (pairs_of t) ≡ s.spare + length (pairs_of s)
total_is s t K L r = let a = count_is s K in let b = count_is t L in let total = r.total in omega arith

pub spare_less : (s t : State) (x : ℕ × ℕ) → Held s → Held t → SameRoom s t → pairs_of t ≡ pairs_of s ++ x ∷ [] → t.spare + 1 ≡ s.spare
spare_less s t x K L r e = let a = total_is s t K L r in let b = ap length e ∙ length-push (pairs_of s) x in omega arith

-- ---- clearing

-- what the loop over all readers keeps
pub record ClearsSoFar (k : ℕ) (initial now : State) : Type 0 where
  pub held : Held now
  pub readers : length now.readers ≡ length initial.readers
  pub from : AllFrom k (pairs_of now)

AllFrom-zero : (ps : List (ℕ × ℕ)) → AllFrom 0 ps
AllFrom-zero [] = tt
AllFrom-zero (p ∷ ps) = (omega arith, AllFrom-zero ps)

pub ClearsSoFar-none : (s : State) → Held s → ClearsSoFar 0 s s
ClearsSoFar-none s K = record { held = K; readers = refl; from = AllFrom-zero (pairs_of s) }

false_differs : (k j : ℕ) → (k == j) ≡ false → k ≢ j
false_differs k j e same = let yes : T (j == j) = lib.Dec.eqb_refl j in subst T (subst (λ i. (i == j) ≡ false) same e) yes

from_step : (k : ℕ) (p : ℕ × ℕ) (b : Bool) (ps : List (ℕ × ℕ)) → (p.0 == k) ≡ b → k ≤ p.0 → AllFrom (k + 1) ps → AllFrom (k + 1) (cond (not b) (p ∷ ps) ps)
from_step k p true ps e h a = a
from_step k p false ps e h a = let differ = false_differs p.0 k e in (omega (arith, differ), a)

AllFrom-drop : (k : ℕ) (ps : List (ℕ × ℕ)) → AllFrom k ps → AllFrom (k + 1) (drop_key Reader k ps)
AllFrom-drop k [] a = tt
AllFrom-drop k (p ∷ ps) a = from_step k p (p.0 == k) (drop_key Reader k ps) refl a.0 (AllFrom-drop k ps a.1)

pub ClearsSoFar-more : (k : ℕ) (initial s t : State) → ClearsSoFar k initial s → Held t → pairs_of t ≡ drop_key Reader k (pairs_of s) → SameRoom s t → ClearsSoFar (k + 1) initial t
ClearsSoFar-more k initial s t C K e r = record {
  held = K;
  readers = r.readers ∙ C.readers;
  from = subst (AllFrom (k + 1)) (sym e) (AllFrom-drop k (pairs_of s) C.from);
}

none_left : (n m k : ℕ) (es : List (Ptr × (ℕ × ℕ))) → AllWithin n m es → AllFrom k (values es) → n ≤ k → values es ≡ []
none_left n m k [] w a h = refl
none_left n m k (e ∷ es) w a h = let x = w.0 in let y = a.0 in absurd (omega arith)

pub ClearsSoFar-all : (k : ℕ) (initial s : State) → ClearsSoFar k initial s → length initial.readers ≤ k → pairs_of s ≡ []
ClearsSoFar-all k initial s C h = none_left (length s.readers) (length s.points) k (entries s.cells) C.held.within C.from (let e = C.readers in omega arith)

-- ---- freeing

no_entries : (es : List (Ptr × (ℕ × ℕ))) → values es ≡ [] → es ≡ []
no_entries [] e = refl
no_entries (x ∷ es) e = cc

pub spare_of : (s : State) → Held s → pairs_of s ≡ [] → IsSpare s
spare_of s K e = record { apart = K.apart; none = no_entries (entries s.cells) e; stack = K.stack; top = K.top }

pub spare_top_found : (s : State) → IsSpare s → (q : Place) → s.top ≡ Some q → IsSome (find s.cells q.ptr)
spare_top_found s S q e = let t = top_from s S.apart S.top q e in subst (λ (o : Option Node). IsSome o) (sym t.1.found) refl

-- the top is freed
pub IsSpare-pop : (s t : State) → IsSpare s → (q : Place) → s.top ≡ Some q → (n : Node) → find s.cells q.ptr ≡ Some n → t.cells ≡ take_out s.cells q.ptr → t.top ≡ n.by_reader.next → IsSpare t
IsSpare-pop s t S q e n f w u =
    let first = top_from s S.apart S.top q e in let T' = top_again s q.ptr first.0 n first.1 f in
    let cells : t.cells ≡ without q.ptr s.cells = w ∙ take_out-without q.ptr s.cells S.apart in
    let apart = subst (λ (fs : List (Ptr × Option Place)). Apart (places fs)) T'.whole (Apart-pick below_if s.cells S.apart) in
    let left : frees t.cells ≡ T'.below = ap frees cells ∙ pick-without below_if q.ptr s.cells ∙ ap (without q.ptr) T'.whole ∙ without-cut q.ptr T'.below n.by_reader.next [] apart ∙ append-nil T'.below in
    let st = Stack-cut None T'.below q.ptr n.by_reader.next [] (subst (Stack None) T'.whole S.stack) in
    record {
      apart = subst (λ (cs : List (Ptr × Node)). Apart (places cs)) (sym cells) (Apart-without q.ptr s.cells S.apart);
      none = ap entries cells ∙ pick-without pair_if q.ptr s.cells ∙ ap (without q.ptr) S.none;
      stack = subst (Stack None) (sym left) st.0;
      top = u ∙ st.1 ∙ sym (ap (last_or None) left);
    }

pub length-take_out : {A : Type 0} (p : Ptr) (xs : List (Ptr × A)) → IsSome (find xs p) → suc (length (take_out xs p)) ≡ length xs
length-take_out p [] h = cc
length-take_out p (x ∷ xs) h = step (same_ptr x.0 p) h (length-take_out p xs)
  where
    step : (b : Bool) → IsSome (cond b (Some x.1) (find xs p)) → (IsSome (find xs p) → suc (length (take_out xs p)) ≡ length xs) → suc (length (cond b xs (x ∷ take_out xs p))) ≡ suc (length xs)
    step true h rec = refl
    step false h rec = ap suc (rec h)

some_last : (q : Place) (fs : List (Ptr × Option Place)) → last_or (Some q) fs ≡ None → ⊥
some_last q [] e = cc
some_last q (f ∷ fs) e = some_last (place f.0) fs e

none_last : (fs : List (Ptr × Option Place)) → last_or None fs ≡ None → fs ≡ []
none_last [] e = refl
none_last (f ∷ fs) e = absurd (some_last (place f.0) fs e)

none_shown : (c : Ptr × Node) (b : Bool) (es : List (Ptr × (ℕ × ℕ))) (fs : List (Ptr × Option Place)) → add c.0 (cond b (Some (c.1.reader, c.1.point)) None) es ≡ [] → add c.0 (cond b None (Some c.1.by_reader.next)) fs ≡ [] → ⊥
none_shown c true es fs e f = cc
none_shown c false es fs e f = cc

no_cells : (cs : List (Ptr × Node)) → entries cs ≡ [] → frees cs ≡ [] → cs ≡ []
no_cells [] e f = refl
no_cells (c ∷ cs) e f = absurd (none_shown c c.1.linked (entries cs) (frees cs) e f)

pub IsSpare-none : (s : State) → IsSpare s → s.top ≡ None → s.cells ≡ []
IsSpare-none s S e = no_cells s.cells S.none (none_last (frees s.cells) (sym S.top ∙ e))
