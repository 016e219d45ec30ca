-- Tracks that spanning cells widen.
use Rattle.std.proofs.Common.{◌≡◌, ℕ, ◌+◌, ◌-◌, ◌^◌, ◌<◌, ◌≤◌, ℤ, pos, negsuc, neg_ℤ, ◌+ℤ◌, ◌-ℤ◌, ◌*ℤ◌, ◌≤ℤ◌, List, map, length, get_or, set, take, All, sym, ap, ◌∙◌, cond, slice_range, take_all, to_z, of_z, w64, FitsSigned, arith}
use Rattle.std.specs.Int.{w128, int_max}
use Rattle.std.specs.List.{fold}
use Rattle.std.proofs.lemmas.Int.{ints, clamps, to_z-of_z}
use Rattle.std.proofs.lemmas.Bool.{lt-ltb, le-ltb}
use Rattle.std.proofs.lemmas.Nat.{mul-le}
use Rattle.std.proofs.lemmas.List.Sums.{fold_more}
use Rattle.slint_base.specs.Numbers.{most_units}
use Rattle.layout_solve.specs.declared.items.Item.{Item}
use Rattle.layout_solve.specs.declared.items.Cell.{Cell}
use Rattle.layout_solve.specs.Items.{IsItem, IsWithinLimits}
use Rattle.layout_solve.specs.Tracks.{empty_track, lacking, raised_track, with_last_raised, widened}
use Rattle.layout_solve.proofs.Wide.{IsHeld, kept, kept-is, kept_within, within-is, within_fits, both, near_fits}

-- the tracks are those of the first i cells, and items
pub record IsWidening (cells : List Cell) (spacing : ℤ) (old now : List Item) (i : ℕ) : Type 0 where
  pub long : length now ≡ length old
  pub widened : now ≡ fold (widened spacing) old (take i cells)
  pub items : All IsItem now

-- the spacings between fewer than 2 ^ 32 tracks
pub record IsGap (z : ℤ) : Type 0 where
  pub low : neg_ℤ (pos (2 ^ 86)) ≤ℤ z
  pub high : z ≤ℤ pos (2 ^ 86)

pub gap : (k : ℕ) (z : ℤ) → k < 2 ^ 32 → IsWithinLimits z → IsGap (pos k *ℤ z)
gap k (pos n) few is =
    let light : n ≤ most_units = omega (arith, ints, is.high) in
    let product = mul-le k n (2 ^ 32) most_units (omega arith) light in
    record { low = omega (arith, ints); high = omega (arith, ints, product) }
gap k (negsuc n) few is =
    let light : n + 1 ≤ most_units = omega (arith, ints, is.low) in
    let product = mul-le k (n + 1) (2 ^ 32) most_units (omega arith) light in
    record { low = omega (arith, ints, product); high = omega (arith, ints) }

pub spacings-is : (k : ℕ) (z a b : ℤ) → k < 2 ^ 32 → IsWithinLimits z → a ≡ pos k → b ≡ to_z w64 (of_z w64 z) → kept a *ℤ kept b ≡ pos k *ℤ z
spacings-is k z a b few is e f =
    both (λ x y. x *ℤ y) (kept a) (kept b) (pos k) z
    (kept-is a (pos k) e (record { low = omega (arith, ints); high = omega (arith, ints) }))
    (kept_within b z (within-is b z is f) is)

-- what the code has of a size that lacks something
lack-left : (wanted spacings a b : ℤ) → IsWithinLimits wanted → IsGap spacings → IsHeld b → a ≡ to_z w64 (of_z w64 wanted) → kept (kept a -ℤ kept (kept b +ℤ kept spacings)) ≡ wanted -ℤ (b +ℤ spacings)
lack-left wanted spacings a b w g h e =
    omega (arith, ints, e, w.low, w.high, g.low, g.high, h.low, h.high)

pub lacking_small : (wanted spacings a b m : ℤ) → IsWithinLimits wanted → IsGap spacings → IsHeld b → a ≡ to_z w64 (of_z w64 wanted)
    → m ≡ int_max (kept (kept a -ℤ kept (kept b +ℤ kept spacings))) (pos 0) → kept m ≤ℤ pos (2 ^ 119)
lacking_small wanted spacings a b m w g h e f =
    let l = lack-left wanted spacings a b w g h e in
    omega (arith, ints, clamps, f ∙ ap (λ z. int_max z (pos 0)) l, w.low, w.high, g.low, g.high, h.low, h.high)

pub lacking-is : (wanted spacings a b m sum : ℤ) → IsWithinLimits wanted → IsGap spacings → IsHeld b → a ≡ to_z w64 (of_z w64 wanted) → b ≡ sum
    → m ≡ int_max (kept (kept a -ℤ kept (kept b +ℤ kept spacings))) (pos 0) → kept m ≡ int_max (wanted -ℤ (sum +ℤ spacings)) (pos 0)
lacking-is wanted spacings a b m sum w g h e s f =
    let l = lack-left wanted spacings a b w g h e in
    let value : m ≡ int_max (wanted -ℤ (b +ℤ spacings)) (pos 0) = f ∙ ap (λ z. int_max z (pos 0)) l in
    let small : FitsSigned w128 m = near_fits m (omega (arith, ints, clamps, value)) (omega (arith, ints, clamps, value, w.high, g.low, h.low)) in
    to_z-of_z w128 m small ∙ value ∙ ap (λ z. int_max (wanted -ℤ (z +ℤ spacings)) (pos 0)) s

-- what a cell lacks, as the code has it
pub record IsLack (cell : Cell) (spacing : ℤ) (sizes : List ℤ) (wanted gaps more : ℤ) : Type 0 where
  pub within : IsWithinLimits wanted
  pub gap : IsGap gaps
  pub gap_is : gaps ≡ pos (cell.span - 1) *ℤ spacing
  pub some : pos 0 ≤ℤ more
  pub small : more ≤ℤ pos (2 ^ 119)
  pub is : more ≡ lacking (to_z w64 (of_z w64 wanted)) sizes (kept gaps)

lack-is : (cell : Cell) (spacing : ℤ) (sizes : List ℤ) (wanted gaps more : ℤ) → IsLack cell spacing sizes wanted gaps more → kept more ≡ lacking wanted sizes (pos (cell.span - 1) *ℤ spacing)
lack-is cell spacing sizes wanted gaps more l =
    let g : kept gaps ≡ pos (cell.span - 1) *ℤ spacing = to_z-of_z w128 gaps (near_fits gaps (omega (arith, ints, l.gap.low)) (omega (arith, ints, l.gap.high))) ∙ l.gap_is in
    to_z-of_z w128 more (near_fits more (omega (arith, ints, l.some)) (omega (arith, ints, l.small)))
    ∙ l.is
    ∙ ap (λ z. lacking z sizes (kept gaps)) (to_z-of_z w64 wanted (within_fits wanted l.within))
    ∙ ap (lacking wanted sizes) g

pub widened-by : (spacing : ℤ) (tracks : List Item) (cell : Cell) (gaps more_min more_pref : ℤ) (new : Item) → 1 < cell.span
    → IsLack cell spacing (map (λ track. track.min) (slice_range tracks cell.first (cell.first + cell.span))) cell.item.min gaps more_min
    → IsLack cell spacing (map (λ track. track.pref) (slice_range tracks cell.first (cell.first + cell.span))) cell.item.pref gaps more_pref
    → new ≡ raised_track (kept more_min) (kept more_pref) (get_or tracks (cell.first + cell.span - 1) empty_track)
    → set tracks (cell.first + cell.span - 1) new ≡ widened spacing tracks cell
widened-by spacing tracks cell gaps more_min more_pref new several p q e =
    let own = slice_range tracks cell.first (cell.first + cell.span) in
    let last = cell.first + cell.span - 1 in
    let track = get_or tracks last empty_track in
    let spacings = pos (cell.span - 1) *ℤ spacing in
    let least = lack-is cell spacing (map (λ track. track.min) own) cell.item.min gaps more_min p in
    let pref = lack-is cell spacing (map (λ track. track.pref) own) cell.item.pref gaps more_pref q in
    ap (set tracks last)
    (e
    ∙ ap (λ z. raised_track z (kept more_pref) track) least
    ∙ ap (λ z. raised_track (lacking cell.item.min (map (λ track. track.min) own) spacings) z track) pref)
    ∙ ap (λ b. cond b (with_last_raised spacing tracks cell) tracks) (sym (lt-ltb 1 cell.span several))

-- one more cell
pub widening-more : (cells : List Cell) (spacing : ℤ) (old now new : List Item) (i : ℕ) (d : Cell) → IsWidening cells spacing old now i → i < length cells
    → new ≡ widened spacing now (get_or cells i d) → length new ≡ length now → All IsItem new → IsWidening cells spacing old new (i + 1)
widening-more cells spacing old now new i d h within e long items = record {
  long = long ∙ h.long;
  widened = e ∙ ap (λ a. widened spacing a (get_or cells i d)) h.widened ∙ sym (fold_more (widened spacing) old cells i d within);
  items = items;
}

pub widened-no : (spacing : ℤ) (tracks : List Item) (cell : Cell) → cell.span ≤ 1 → tracks ≡ widened spacing tracks cell
widened-no spacing tracks cell one = ap (λ b. cond b (with_last_raised spacing tracks cell) tracks) (sym (le-ltb 1 cell.span one))

-- all cells
pub widening_all : (cells : List Cell) (spacing spacing' : ℤ) (old now : List Item) (i : ℕ) → IsWidening cells spacing' old now i → length cells ≤ i → spacing' ≡ spacing → now ≡ fold (widened spacing) old cells
widening_all cells spacing spacing' old now i h past e =
    h.widened ∙ ap (fold (widened spacing') old) (take_all i cells past) ∙ ap (λ z. fold (widened z) old cells) e
