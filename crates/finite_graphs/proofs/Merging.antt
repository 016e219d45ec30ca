-- Groups that are taken away from the end of a list.
use Rattle.std.proofs.Common.{◌≡◌, ℕ, ◌+◌, ◌<◌, ◌≤◌, ◌⊎◌, inl, inr, List, [], ◌∷◌, ◌++◌, length, sym, ap, ◌∙◌, subst, arith, length-append}
use Rattle.finite_graphs.specs.declared.search.Group.{Group}
use Rattle.finite_graphs.specs.Walks.{In, At}
use Rattle.finite_graphs.specs.Searching.{IsTop, Merged, Rises}
use Rattle.finite_graphs.proofs.Lists.{at_in, at_last, at_left, at_same, at_within, in_at, in_none, in_one, in_split, Placed}

-- of the groups no one is gone that begins at q or before
pub record Merging (old now : List Group) (q : ℕ) : Type 0 where
  pub kept : (g : Group) → In g old → g.path_start ≤ q → In g now
  pub fewer : length now ≤ length old
  pub front : (g : Group) (i : ℕ) → At g now i → At g old i

pub merging_init : (old : List Group) (q : ℕ) → Merging old old q
merging_init old q = record { kept = λ g m l. m; fewer = omega arith; front = λ g i h. h }

module _ {old now : List Group} {q : ℕ} (m : Merging old now q) where
  pub merging_next : (next : List Group) (x g : Group) → IsTop now g → q < g.path_start → now ≡ next ++ x ∷ [] → Merging old next q
  merging_next next x g top behind popped = record {
    kept = λ h among l. by h l (in_split next (x ∷ []) (subst (λ (xs : List Group). In h xs) popped (m.kept h among l)));
    fewer = let f = m.fewer in omega (arith, f, shorter);
    front = λ h i k. m.front h i (subst (λ (xs : List Group). At h xs i) (sym popped) (at_left (x ∷ []) k));
  }
    where
      shorter : length now ≡ length next + 1
      shorter = ap length popped ∙ length-append next (x ∷ [])

      place : top.at ≡ length next
      place = let c = top.counted in omega (arith, c, shorter)

      same : x ≡ g
      same = at_same (subst (λ (n : ℕ). At x now n) (sym place) (subst (λ (xs : List Group). At x xs (length next)) (sym popped) (at_last next))) top.stands

      by : (h : Group) → h.path_start ≤ q → In h next ⊎ In h (x ∷ []) → In h next
      by h l (inl k) = k
      by h l (inr k) = let e = ap (λ (f : Group). f.path_start) (in_one k ∙ same) in absurd (omega (arith, e, l, behind))

  pub merging_top : (g : Group) → IsTop now g → g.path_start ≤ q → Rises old → Merged old now q
  merging_top g top le r = record { kept = m.kept; only = λ h k. one h (in_at k); fewer = m.fewer; front = m.front }
    where
      one : (h : Group) → Placed h now → In h old × (h.path_start ≤ q)
      one h p = let before = m.front h p.place p.stands in let l = at_within p.stands in
          let up = r.rises h g p.place top.at before (m.front g top.at top.stands) (omega (arith, l, top.counted)) in (at_in before, omega (arith, up, le))

  pub merging_none : now ≡ [] → Merged old now q
  merging_none none = record { kept = m.kept; only = λ h k. absurd (in_none (subst (λ (xs : List Group). In h xs) none k)); fewer = m.fewer; front = m.front }
