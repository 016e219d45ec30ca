-- What is reached over pairs of a cell and a point is what is reached over pairs of a cell and what it read.
use Rattle.std.proofs.Common.{◌≡◌, ℕ, List, [], ◌∷◌, ◌⊎◌, inl, inr, ap, subst}
use Rattle.dep_list.specs.Pairs.{In}
use Rattle.value_types.specs.declared.facets.Facet.{Facet}
use Rattle.property_cells.specs.declared.marks.State.{State}
use Rattle.property_cells.specs.declared.marks.State.TheVariants.{Invalid, Valid}
use Rattle.property_cells.specs.declared.points.Entry.{Entry}
use Rattle.property_cells.specs.Reach.{Reached, direct, through, Unmakes, IsNet}
use Rattle.property_cells.specs.Points.{entry_at, name_at}
use Rattle.property_cells.specs.Hits.{Hit, named, Touches}

module _ (es : List Entry) where
  pub in_named : (r p : ℕ) (pairs : List (ℕ × ℕ)) → In (r, p) pairs → In (r, name_at es p) (named es pairs)
  in_named r p [] h = h
  in_named r p (x ∷ pairs) (inl same) = inl (ap (λ (y : ℕ × ℕ). (y.0, name_at es y.1)) same)
  in_named r p (x ∷ pairs) (inr h) = inr (in_named r p pairs h)

  -- the point of a pair that is seen by its name
  pub record PointOf (pairs : List (ℕ × ℕ)) (r : ℕ) (x : ℕ × Facet) : Type 0 where
    pub point : ℕ
    pub there : In (r, point) pairs
    pub name : x ≡ name_at es point

  pub of_named : (r : ℕ) (x : ℕ × Facet) (pairs : List (ℕ × ℕ)) → In (r, x) (named es pairs) → PointOf pairs r x
  of_named r x [] h = absurd h
  of_named r x (y ∷ pairs) (inl same) = record { point = y.1; there = inl (λ i. ((ap (λ (z : ℕ × (ℕ × Facet)). z.0) same) i, y.1)); name = ap (λ (z : ℕ × (ℕ × Facet)). z.1) same }
  of_named r x (y ∷ pairs) (inr h) = let p = of_named r x pairs h in record { point = p.point; there = inr p.there; name = p.name }

  module _ (pairs : List (ℕ × ℕ)) (cell : ℕ) (differs : Facet → Type 0) where
    abbrev cell_of : ℕ → ℕ
    cell_of p = (entry_at es p).cell

    abbrev first_of : ℕ × Facet → ℕ
    first_of x = x.0

    abbrev H : ℕ → Type 0
    H = Hit es cell differs

    abbrev T' : ℕ × Facet → Type 0
    T' = Touches cell differs

    reached_named : (r : ℕ) → Reached pairs cell_of H r → Reached (named es pairs) first_of T' r
    reached_named s (direct r p i h) = direct r (name_at es p) (in_named r p pairs i) h
    reached_named s (through r p i d) = through r (name_at es p) (in_named r p pairs i) (reached_named (cell_of p) d)

    reached_numbered : (r : ℕ) → Reached (named es pairs) first_of T' r → Reached pairs cell_of H r
    reached_numbered s (direct r x i h) = let p = of_named r x pairs i in direct r p.point p.there (subst T' p.name h)
    reached_numbered s (through r x i d) =
        let p = of_named r x pairs i in through r p.point p.there (subst (Reached pairs cell_of H) (ap first_of p.name) (reached_numbered (first_of x) d))

    pub IsNet-named : (states : ℕ → State) → IsNet (named es pairs) first_of T' states → IsNet pairs cell_of H states
    IsNet-named states n = record { stands = λ r p i v. n.stands r (name_at es p) (in_named r p pairs i) v; bare = λ c p i a. n.bare c (name_at es p) (in_named c p pairs i) a }

    pub Unmakes-named : (before after : ℕ → State) → Unmakes pairs cell_of H before after → Unmakes (named es pairs) first_of T' before after
    Unmakes-named before after u = record { kept = u.kept; fate = λ c v. out c (u.fate c v) }
      where
        out : (c : ℕ) → ((after c ≡ Valid) × (Reached pairs cell_of H c → ⊥)) ⊎ ((after c ≡ Invalid) × Reached pairs cell_of H c)
            → ((after c ≡ Valid) × (Reached (named es pairs) first_of T' c → ⊥)) ⊎ ((after c ≡ Invalid) × Reached (named es pairs) first_of T' c)
        out c (inl x) = inl (x.0, λ r. x.1 (reached_numbered c r))
        out c (inr x) = inr (x.0, reached_named c x.1)
