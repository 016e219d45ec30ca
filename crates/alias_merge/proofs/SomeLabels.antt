-- Each member has a label: whether it is joined to another one is decided, one after the other.
use Rattle.std.proofs.Common.{◌≡◌, ℕ, zero, suc, ◌<◌, ◌≤◌, ◌⊎◌, inl, inr, List, [], ◌∷◌, length, refl, sym, ap, subst, ◌∙◌, arith}
use Rattle.std.proofs.lemmas.Bool.{cases_lt}
use Rattle.std.proofs.lemmas.List.{length-append}
use Rattle.finite_graphs.specs.declared.edge.Edge.{Edge}
use Rattle.finite_graphs.specs.Graphs.{Leads}
use Rattle.finite_graphs.specs.Walks.{At, Reaches, stay}
use Rattle.finite_graphs.proofs.Deciding.{Decided, reaches_decided}
use Rattle.finite_graphs.proofs.Lists.{at_end, at_none}
use Rattle.expanded_tree.specs.Components.{each_below}
use Rattle.alias_merge.specs.declared.circle_faults.Spanned.{Spanned}
use Rattle.alias_merge.specs.Labels.{AreLabels, joined}

-- ---- lists of which each place is known

pub each_sized : {B : Type 0} (f : ℕ → B) (n : ℕ) → length (each_below f n) ≡ n
each_sized f zero = refl
each_sized f (suc n) = let k = each_sized f n in length-append (each_below f n) (f n ∷ []) ∙ omega (arith, k)

pub each_at : {B : Type 0} (f : ℕ → B) (n : ℕ) {x : B} {i : ℕ} → At x (each_below f n) i → x ≡ f i
each_at f zero h = absurd (at_none h)
each_at f (suc n) {x} {i} h = by (λ k. each_at f n k) (at_end (each_below f n) (f n) h)
  where
    by : (At x (each_below f n) i → x ≡ f i) → At x (each_below f n) i ⊎ ((x ≡ f n) × (i ≡ length (each_below f n))) → x ≡ f i
    by before (inl k) = before k
    by before (inr k) = k.0 ∙ ap f (sym (k.1 ∙ each_sized f n))

-- ---- the least member that is reached

module _ (edges : List Edge) (a : ℕ) where
  pub record IsLeast (k l : ℕ) : Type 0 where
    pub below : l < k
    pub reached : Reaches (Leads edges) a l
    pub least : (b : ℕ) → b < k → Reaches (Leads edges) a b → l ≤ b

  pub record Least (k : ℕ) : Type 0 where
    pub label : ℕ
    pub is : IsLeast k label

  abbrev NoneBelow : ℕ → Type 0
  NoneBelow k = (b : ℕ) → b < k → Reaches (Leads edges) a b → ⊥

  kept : (k : ℕ) → Least k → Least (suc k)
  kept k h = record { label = h.label; is = record { below = let l = h.is.below in omega (arith, l); reached = h.is.reached; least = λ b l r. by b r (cases_lt b k) } }
    where
      by : (b : ℕ) → Reaches (Leads edges) a b → (b < k) ⊎ (k ≤ b) → h.label ≤ b
      by b r (inl l) = h.is.least b l r
      by b r (inr l) = let m = h.is.below in omega (arith, l, m)

  found : (k : ℕ) → NoneBelow k → Reaches (Leads edges) a k → Least (suc k)
  found k none way = record { label = k; is = record { below = omega arith; reached = way; least = λ b l r. by b r (cases_lt b k) } }
    where
      by : (b : ℕ) → Reaches (Leads edges) a b → (b < k) ⊎ (k ≤ b) → k ≤ b
      by b r (inl l) = absurd (none b l r)
      by b r (inr l) = l

  none_yet : (k : ℕ) → NoneBelow k → (Reaches (Leads edges) a k → ⊥) → NoneBelow (suc k)
  none_yet k none never = λ b l r. by b l r (cases_lt b k)
    where
      by : (b : ℕ) → b < suc k → Reaches (Leads edges) a b → (b < k) ⊎ (k ≤ b) → ⊥
      by b l r (inl m) = none b m r
      by b l r (inr m) = let e : b ≡ k = omega (arith, l, m) in never (subst (λ n. Reaches (Leads edges) a n) e r)

  with_next : (k : ℕ) → Least k ⊎ NoneBelow k → Decided (Reaches (Leads edges) a k) → Least (suc k) ⊎ NoneBelow (suc k)
  with_next k (inl h) d = inl (kept k h)
  with_next k (inr none) (inl way) = inl (found k none way)
  with_next k (inr none) (inr never) = inr (none_yet k none never)

  least_or_none : (k : ℕ) → Least k ⊎ NoneBelow k
  least_or_none zero = inr (λ b l r. absurd (omega (arith, l)))
  least_or_none (suc k) = with_next k (least_or_none k) (reaches_decided edges a k)

  least_of : Least (suc a) ⊎ NoneBelow (suc a) → Least (suc a)
  least_of (inl h) = h
  least_of (inr none) = absurd (none a (omega arith) stay)

  pub least : Least (suc a)
  least = least_of (least_or_none (suc a))

  least_of_all : (b : ℕ) → Reaches (Leads edges) a b → least.label ≤ b
  least_of_all b r = by (cases_lt b (suc a))
    where
      by : (b < suc a) ⊎ (suc a ≤ b) → least.label ≤ b
      by (inl l) = least.is.least b l r
      by (inr l) = let m = least.is.below in omega (arith, l, m)

abbrev pub label_by : List Edge → ℕ → ℕ
label_by edges a = (least edges a).label

pub some_labels : (links : List Spanned) (n : ℕ) → AreLabels links n (each_below (label_by (joined links)) n)
some_labels links n = record {
  sized = each_sized (label_by (joined links)) n;
  joined_to = λ a l h. subst (λ m. Reaches (Leads (joined links)) a m) (sym (each_at (label_by (joined links)) n h)) (least (joined links) a).is.reached;
  least = λ a b l h r. let e = each_at (label_by (joined links)) n h in let k = least_of_all (joined links) a b r in omega (arith, e, k);
}
