-- At most one list of sizes shares a room.
use Rattle.std.proofs.Common.{◌≡◌, ℕ, ℤ, ◌≤ℤ◌, ◌<ℤ◌, ◌≤◌, Bool, true, false, List, sym, ap, ◌∙◌, arith, rules}
use Rattle.std.proofs.lemmas.Int.{by_lt_z}
use Rattle.layout_solve.specs.declared.items.Item.{Item}
use Rattle.layout_solve.specs.declared.sizings.Sizing.{Sizing}
use Rattle.layout_solve.specs.declared.sizings.Sizing.TheVariants.{Grown, Shrunk}
use Rattle.layout_solve.specs.Sizes.{are_weightless, preferred_sum, least_sum, IsGreatest, IsLeast, IsSizing, FitsGrown, FitsShrunk, SharesOneWay, divided}

-- there is one greatest number, and one least
one_greatest : (P : ℕ → Type 0) (j k : ℕ) → IsGreatest P j → IsGreatest P k → j ≡ k
one_greatest P j k a b = let x : j ≤ k = b.bound j a.has in let y : k ≤ j = a.bound k b.has in omega arith

one_least : (P : ℕ → Type 0) (j k : ℕ) → IsLeast P j → IsLeast P k → j ≡ k
one_least P j k a b = let x : k ≤ j = b.bound j a.has in let y : j ≤ k = a.bound k b.has in omega arith

-- where the preferred sizes fit
roomy : (items : List Item) (room : ℤ) (grow : Bool) (s t : Sizing) → preferred_sum items ≤ℤ room → IsSizing items room grow s → IsSizing items room grow t → s ≡ t
roomy items room true s t fits a b =
    let x = a.stretched fits (search rules) in
    let y = b.stretched fits (search rules) in
    x.2 ∙ ap (Grown (are_weightless items)) (one_greatest (FitsGrown items room) x.0 y.0 x.1 y.1) ∙ sym y.2
roomy items room false s t fits a b = a.kept fits (search rules) ∙ sym (b.kept fits (search rules))

-- where they don't
tight : (items : List Item) (room : ℤ) (grow : Bool) (s t : Sizing) → room <ℤ preferred_sum items → IsSizing items room grow s → IsSizing items room grow t → s ≡ t
tight items room grow s t over a b =
    by_lt_z room (least_sum items)
    (λ below. a.least over below ∙ sym (b.least over below))
    (λ fits.
    let x = a.shrunk over fits in
    let y = b.shrunk over fits in
    x.2 ∙ ap Shrunk (one_least (FitsShrunk items room) x.0 y.0 x.1 y.1) ∙ sym y.2)

one_sizing : (items : List Item) (room : ℤ) (grow : Bool) (s t : Sizing) → IsSizing items room grow s → IsSizing items room grow t → s ≡ t
one_sizing items room grow s t a b =
    by_lt_z room (preferred_sum items) (λ over. tight items room grow s t over a b) (λ fits. roomy items room grow s t fits a b)

pub one_way : SharesOneWay
one_way items room grow xs ys a b =
    a.2 ∙ ap (λ s. divided s room items) (one_sizing items room grow a.0 b.0 a.1 b.1) ∙ sym b.2
