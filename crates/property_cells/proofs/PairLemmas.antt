-- Pairs over points, and pairs over what the points name.
use Rattle.std.proofs.Common.{◌≡◌, ℕ, ◌<◌, ◌≤◌, Bool, cond, not, ◌==◌, List, [], ◌∷◌, ◌++◌, length, inl, inr, refl, sym, ap, ◌∙◌, subst, arith}
use Rattle.std.specs.Prelude.{filter}
use Rattle.dep_list.specs.Pairs.{In, drop_reader}
use Rattle.value_types.specs.declared.facets.Facet.{Facet}
use Rattle.property_cells.specs.declared.points.Entry.{Entry}
use Rattle.property_cells.specs.Points.{name_at}
use Rattle.property_cells.specs.Marks.{EachInside}
use Rattle.property_cells.specs.Hits.{named}
use Rattle.property_cells.specs.Net.{without}
use Rattle.property_cells.specs.Store.{NamedOnce}
use Rattle.property_cells.proofs.Lists.{by_bool, in_filter, Distinct-filter, other_differs}
use Rattle.property_cells.proofs.Naming.{of_named}
use Rattle.property_cells.proofs.Network.{IsLess, IsNoReader}

module _ (es : List Entry) (f : ℕ × (ℕ × Facet) → Bool) where
  abbrev g : ℕ × ℕ → Bool
  g y = f (y.0, name_at es y.1)

  -- a filter by what is named
  pub named-filter : (ds : List (ℕ × ℕ)) → named es (filter g ds) ≡ filter f (named es ds)
  named-filter [] = refl
  named-filter (y ∷ ds) = by_bool (g y)
      (λ e. (λ i. named es (cond (e i) (y ∷ filter g ds) (filter g ds))) ∙ ap (λ l. (y.0, name_at es y.1) ∷ l) (named-filter ds) ∙ sym (λ i. cond (e i) ((y.0, name_at es y.1) ∷ filter f (named es ds)) (filter f (named es ds))))
      (λ e. (λ i. named es (cond (e i) (y ∷ filter g ds) (filter g ds))) ∙ named-filter ds ∙ sym (λ i. cond (e i) ((y.0, name_at es y.1) ∷ filter f (named es ds)) (filter f (named es ds))))

-- the pairs of all other readers
pub named-drop_reader : (es : List Entry) (c : ℕ) (ds : List (ℕ × ℕ)) → named es (drop_reader c ds) ≡ without c (named es ds)
named-drop_reader es c ds = named-filter es (λ x. not (x.0 == c)) ds

pub named-push : (es : List Entry) (ds : List (ℕ × ℕ)) (y : ℕ × ℕ) → named es (ds ++ y ∷ []) ≡ named es ds ++ (y.0, name_at es y.1) ∷ []
named-push es [] y = refl
named-push es (z ∷ ds) y = ap (λ l. (z.0, name_at es z.1) ∷ l) (named-push es ds y)

-- points that are there keep their names
pub named-points : (es es' : List Entry) (n : ℕ) (ds : List (ℕ × ℕ)) → EachInside n (length es) ds → ((p : ℕ) → p < length es → name_at es' p ≡ name_at es p) → named es' ds ≡ named es ds
named-points es es' n [] i h = refl
named-points es es' n (y ∷ ds) i h = (λ j. (y.0, h y.1 i.1 j) ∷ named es' ds) ∙ ap (λ l. (y.0, name_at es y.1) ∷ l) (named-points es es' n ds i.2 h)

pub EachInside-more : (n m k j : ℕ) (ds : List (ℕ × ℕ)) → n ≤ m → k ≤ j → EachInside n k ds → EachInside m j ds
EachInside-more n m k j [] a b i = tt
EachInside-more n m k j (y ∷ ds) a b i = ((let h = i.0 in omega arith), (let h = i.1 in omega arith), EachInside-more n m k j ds a b i.2)

pub EachInside-filter : (n k : ℕ) (f : ℕ × ℕ → Bool) (ds : List (ℕ × ℕ)) → EachInside n k ds → EachInside n k (filter f ds)
EachInside-filter n k f [] i = tt
EachInside-filter n k f (y ∷ ds) i = by_bool (f y)
    (λ e. subst (λ b. EachInside n k (cond b (y ∷ filter f ds) (filter f ds))) (sym e) (i.0, i.1, EachInside-filter n k f ds i.2))
    (λ e. subst (λ b. EachInside n k (cond b (y ∷ filter f ds) (filter f ds))) (sym e) (EachInside-filter n k f ds i.2))

pub EachInside-push : (n k : ℕ) (ds : List (ℕ × ℕ)) (y : ℕ × ℕ) → EachInside n k ds → y.0 < n → y.1 < k → EachInside n k (ds ++ y ∷ [])
EachInside-push n k [] y i a b = (a, b, tt)
EachInside-push n k (z ∷ ds) y i a b = (i.0, i.1, EachInside-push n k ds y i.2 a b)

pub each_inside : (n k : ℕ) (ds : List (ℕ × ℕ)) (y : ℕ × ℕ) → EachInside n k ds → In y ds → (y.0 < n) × (y.1 < k)
each_inside n k [] y i h = absurd h
each_inside n k (z ∷ ds) y i (inl same) = subst (λ (w : ℕ × ℕ). (w.0 < n) × (w.1 < k)) (sym same) (i.0, i.1)
each_inside n k (z ∷ ds) y i (inr h) = each_inside n k ds y i.2 h

-- ---- some of the pairs

pub IsLess-filter : (f : ℕ × (ℕ × Facet) → Bool) (pairs : List (ℕ × (ℕ × Facet))) → IsLess (filter f pairs) pairs
IsLess-filter f pairs = record { within = λ r x i. (in_filter f (r, x) pairs i).0; once = λ d. Distinct-filter f pairs d }

pub IsLess-without : (c : ℕ) (pairs : List (ℕ × (ℕ × Facet))) → IsLess (without c pairs) pairs
IsLess-without c pairs = IsLess-filter (λ x. not (x.0 == c)) pairs

pub IsNoReader-without : (c : ℕ) (pairs : List (ℕ × (ℕ × Facet))) → IsNoReader c (without c pairs)
IsNoReader-without c pairs r x i = other_differs r c (in_filter (λ y. not (y.0 == c)) (r, x) pairs i).1

-- a pair that is seen is that of the one point of that name
pub of_point : (es : List Entry) (n : ℕ) (ds : List (ℕ × ℕ)) (r p : ℕ) → NamedOnce es → EachInside n (length es) ds → p < length es → In (r, name_at es p) (named es ds) → In (r, p) ds
of_point es n ds r p once i h k =
    let q = of_named es r (name_at es p) ds k in let l = each_inside n (length es) ds (r, q.point) i q.there in
    subst (λ j. In (r, j) ds) (sym (once p q.point h l.1 q.name)) q.there
