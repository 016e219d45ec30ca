-- What holds of the numbers of things holds of the things: walks, circles and ranks.
use Rattle.std.proofs.Common.{ℕ, suc, List, subst}
use Rattle.std.specs.Prelude.{◌↔◌}
use Rattle.finite_graphs.specs.declared.edge.Edge.{Edge}
use Rattle.finite_graphs.specs.Graphs.{Leads}
use Rattle.finite_graphs.specs.Numbering.{Numbered}
use Rattle.finite_graphs.specs.Walks.{At, IsRank, OnCircle, Reaches, Walk, go, rest, stay, step}
use Rattle.finite_graphs.proofs.Lists.{at_same, at_some, in_at}

-- a walk of m steps from a thing
pub record WalkFrom {A : Type 0} (R : A → A → Type 0) (m : ℕ) (a : A) : Type 0 where
  pub end : A
  pub walk : Walk R m a end

walk_further : {A : Type 0} {R : A → A → Type 0} {m : ℕ} {a b : A} → R a b → WalkFrom R m b → WalkFrom R (suc m) a
walk_further e w = record { end = w.end; walk = step e w.walk }

module _ {A : Type 0} {R : A → A → Type 0} {things : List A} {edges : List Edge} (n : Numbered R things edges) where
  way_of_things : {i j : ℕ} → Reaches (Leads edges) i j → (a b : A) → At a things i → At b things j → Reaches R a b
  way_of_things stay a b h k = subst (λ x. Reaches R a x) (at_same h k) stay
  way_of_things (go {a = i} {b = m} e on) a b h k =
      let next = at_some things m (n.within i m e) in
      go (n.back a next.item i m h next.stands e) (way_of_things on next.item b next.stands k)

  way_of_numbers : {a b : A} → Reaches R a b → (i j : ℕ) → At a things i → At b things j → Reaches (Leads edges) i j
  way_of_numbers (stay {a = a}) i j h k = subst (λ x. Reaches (Leads edges) i x) (n.once a i j h k) stay
  way_of_numbers (go {a = a} {b = m} e on) i j h k =
      let next = in_at (n.listed a m e) in
      go (n.forth a m i next.place h next.stands e) (way_of_numbers on next.place j next.stands k)

  -- a thing reaches another exactly where its number reaches the other's
  pub same_reach : (a b : A) (i j : ℕ) → At a things i → At b things j → Reaches R a b ↔ Reaches (Leads edges) i j
  same_reach a b i j h k = (λ r. way_of_numbers r i j h k, λ r. way_of_things r a b h k)

  -- a thing lies on a circle exactly where its number does
  pub same_circles : (a : A) (i : ℕ) → At a things i → OnCircle R a ↔ OnCircle (Leads edges) i
  same_circles a i h = (
    λ c. let next = in_at (n.listed a c.next c.leads) in
        record { next = next.place; leads = n.forth a c.next i next.place h next.stands c.leads; back = way_of_numbers c.back next.place i next.stands h },
    λ c. let next = at_some things c.next (n.within i c.next c.leads) in
        record { next = next.item; leads = n.back a next.item i c.next h next.stands c.leads; back = way_of_things c.back next.item a next.stands h },
  )

  walk_of_things : {m i j : ℕ} → Walk (Leads edges) m i j → (a : A) → At a things i → WalkFrom R m a
  walk_of_things rest a h = record { end = a; walk = rest }
  walk_of_things (step {a = i} {b = k} e w) a h =
      let next = at_some things k (n.within i k e) in
      walk_further (n.back a next.item i k h next.stands e) (walk_of_things w next.item next.stands)

  walk_of_numbers : {m : ℕ} {a b : A} → Walk R m a b → (i : ℕ) → At a things i → WalkFrom (Leads edges) m i
  walk_of_numbers rest i h = record { end = i; walk = rest }
  walk_of_numbers (step {a = a} {b = b} e w) i h =
      let next = in_at (n.listed a b e) in
      walk_further (n.forth a b i next.place h next.stands e) (walk_of_numbers w next.place next.stands)

  -- the rank of a number is that of its thing
  pub rank_of_thing : (a : A) (i r : ℕ) → At a things i → IsRank (Leads edges) i r → IsRank R a r
  rank_of_thing a i r h k =
      let w = walk_of_things k.walk a h in
      record { end = w.end; walk = w.walk; longest = λ m b way. let x = walk_of_numbers way i h in k.longest m x.end x.walk }
