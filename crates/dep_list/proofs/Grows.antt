-- What the loop that makes room keeps.
use Rattle.std.proofs.Common.{◌≡◌, ℕ, ◌+◌, ◌^◌, ◌<◌, ◌≤◌, ◌∙◌, arith}
use Rattle.dep_list.specs.Lists.{State, Held, SamePairs}

pub record Grows (pairs : ℕ) (initial now : State) : Type 0 where
  pub held : Held now
  pub same : SamePairs initial now
  pub count : now.count ≡ initial.count
  pub grown : initial.spare ≤ now.spare
  pub fits : initial.count + pairs < 2 ^ 64

pub Grows-more : (pairs : ℕ) (initial s t : State) → Grows pairs initial s → Held t → SamePairs s t → t.count ≡ s.count → s.spare ≤ t.spare → Grows pairs initial t
Grows-more pairs initial s t g K e c h = record {
  held = K;
  same = record { pairs = e.pairs ∙ g.same.pairs; readers = e.readers ∙ g.same.readers; points = e.points ∙ g.same.points };
  count = c ∙ g.count;
  grown = let before = g.grown in omega arith;
  fits = g.fits;
}
