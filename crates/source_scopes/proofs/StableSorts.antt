-- A stable sort is the definition's: lists in order in which those that tie stand alike are one list.
use Rattle.std.proofs.Common.{◌≡◌, ℕ, suc, ◌<◌, ◌≤◌, Bool, true, false, not, List, [], ◌∷◌, length, get_or, sym, ◌∙◌, ap, refl, arith}
use Rattle.std.specs.Prelude.{◌&&◌, if◌then◌else◌, filter}
use Rattle.std.specs.Cmp.{IsStrictWeakOrder, IsTotalOrder}
use Rattle.std.specs.List.Sorted.{IsSortedBy, IsStableBy, ties}
use Rattle.std.specs.Ordering.{is_gt, is_lt, ordering_reverse}
use Rattle.std.specs.declared.cmp.Ordering.{Ordering}
use Rattle.std.specs.declared.cmp.Ordering.TheVariants.{Less, Equal, Greater}
use Rattle.std.proofs.lemmas.List.Sorted.{ranks_by, sorted_far}
use Rattle.element_tables.specs.Rows.{insert_row, sorted}

-- what one order says, and the other way round
gt_not_lt : (r : Ordering) → is_gt r ≡ true → is_lt r ≡ false
gt_not_lt Less h = cc
gt_not_lt Equal h = cc
gt_not_lt Greater h = refl

not_gt_back : (r s : Ordering) → s ≡ ordering_reverse r → is_gt r ≡ false → is_lt s ≡ false
not_gt_back Less s e h = ap is_lt e
not_gt_back Equal s e h = ap is_lt e
not_gt_back Greater s e h = cc

gt_back : (r s : Ordering) → s ≡ ordering_reverse r → is_gt r ≡ true → is_lt s ≡ true
gt_back Less s e h = cc
gt_back Equal s e h = cc
gt_back Greater s e h = ap is_lt e

-- tests joined
not_true : (b : Bool) → not b ≡ true → b ≡ false
not_true true h = cc
not_true false h = refl

and_first : (a b : Bool) → (a && b) ≡ true → a ≡ true
and_first true b h = refl
and_first false b h = cc

and_second : (a b : Bool) → (a && b) ≡ true → b ≡ true
and_second true b h = h
and_second false b h = cc

-- no element of a list is below x
abbrev NoneBelow : {X : Type 0} → (X → X → Bool) → X → List X → Type 0
NoneBelow lt x [] = Unit {0}
NoneBelow lt x (w ∷ ws) = (lt w x ≡ false) × NoneBelow lt x ws

-- no element is below one before it
abbrev Rises : {X : Type 0} → (X → X → Bool) → List X → Type 0
Rises lt [] = Unit {0}
Rises lt (x ∷ xs) = NoneBelow lt x xs × Rises lt xs

none_below_from : {X : Type 0} (lt : X → X → Bool) (x : X) (xs : List X) → ((j : ℕ) (d : X) → j < length xs → lt (get_or xs j d) x ≡ false) → NoneBelow lt x xs
none_below_from lt x [] far = tt
none_below_from lt x (w ∷ ws) far = (far 0 w (omega arith), none_below_from lt x ws (λ j d h. far (suc j) d (omega arith)))

rises_from : {X : Type 0} (lt : X → X → Bool) (xs : List X) → ((i j : ℕ) (d : X) → i ≤ j → j < length xs → lt (get_or xs j d) (get_or xs i d) ≡ false) → Rises lt xs
rises_from lt [] far = tt
rises_from lt (x ∷ xs) far =
    (none_below_from lt x xs (λ j d h. far 0 (suc j) d (omega arith) (omega arith)), rises_from lt xs (λ i j d g h. far (suc i) (suc j) d (omega arith) (omega arith)))

module _ {X : Type 0} (lt : X → X → Bool) (o : IsStrictWeakOrder lt) where
  itself : (x : X) → lt x x ≡ false
  itself x = by (lt x x) (o.one_way x x)
    where
      by : (b : Bool) → (b ≡ true → b ≡ false) → b ≡ false
      by true h = h refl
      by false h = refl

  ties_itself : (x : X) → ties lt x x ≡ true
  ties_itself x = ap (λ b. not b && not b) (itself x)

  -- what is below an element is below those above it
  below_all : (z y w : X) → lt z y ≡ true → lt w y ≡ false → lt z w ≡ true
  below_all z y w below above = by (lt z w) refl
    where
      by : (b : Bool) → lt z w ≡ b → b ≡ true
      by true h = refl
      by false h = let e : lt z y ≡ false = o.chain z w y h above in cc

  no_ties : (z y : X) (ws : List X) → lt z y ≡ true → NoneBelow lt y ws → filter (ties lt z) ws ≡ []
  no_ties z y [] below h = refl
  no_ties z y (w ∷ ws) below h = ap (λ b. if (not b && not (lt w z)) then w ∷ filter (ties lt z) ws else filter (ties lt z) ws) (below_all z y w below h.0) ∙ no_ties z y ws below h.1

  first_kept : (x : X) (xs : List X) → filter (ties lt x) (x ∷ xs) ≡ x ∷ filter (ties lt x) xs
  first_kept x xs = ap (λ b. if b then x ∷ filter (ties lt x) xs else filter (ties lt x) xs) (ties_itself x)

  -- the first of a list is not below that of another one with the same ties
  not_below : (y z : X) (ys zs : List X) → NoneBelow lt y ys → filter (ties lt z) (y ∷ ys) ≡ filter (ties lt z) (z ∷ zs) → lt z y ≡ false
  not_below y z ys zs h e = by (lt z y) refl
    where
      by : (b : Bool) → lt z y ≡ b → b ≡ false
      by false below = refl
      by true below = let gone : [] ≡ z ∷ filter (ties lt z) zs = sym (no_ties z y (y ∷ ys) below (itself y, h)) ∙ e ∙ first_kept z zs in cc

  tail_alike : (b : Bool) (y : X) (us vs : List X) → (if b then y ∷ us else us) ≡ (if b then y ∷ vs else vs) → us ≡ vs
  tail_alike true y us vs e = cc
  tail_alike false y us vs e = e

  -- lists in order that have the same ties are one list
  pub alike : (ys zs : List X) → Rises lt ys → Rises lt zs → ((x : X) → filter (ties lt x) ys ≡ filter (ties lt x) zs) → ys ≡ zs
  alike [] [] u v e = refl
  alike [] (z ∷ zs) u v e = let gone : [] ≡ z ∷ filter (ties lt z) zs = e z ∙ first_kept z zs in cc
  alike (y ∷ ys) [] u v e = let gone : y ∷ filter (ties lt y) ys ≡ [] = sym (first_kept y ys) ∙ e y in cc
  alike (y ∷ ys) (z ∷ zs) u v e =
      let up : lt z y ≡ false = not_below y z ys zs u.0 (e z) in
      let down : lt y z ≡ false = not_below z y zs ys v.0 (sym (e y)) in
      let tied : ties lt y z ≡ true = ap (λ b. not b && not (lt z y)) down ∙ ap not up in
      let heads : y ∷ filter (ties lt y) ys ≡ z ∷ filter (ties lt y) zs = sym (first_kept y ys) ∙ e y ∙ ap (λ b. if b then z ∷ filter (ties lt y) zs else filter (ties lt y) zs) tied in
      let same_head : y ≡ z = cc in
      ap (λ (x : X). x ∷ ys) same_head ∙ ap (λ (xs : List X). z ∷ xs) (alike ys zs u.1 v.1 (λ x. tail_alike (ties lt x y) y (filter (ties lt x) ys) (filter (ties lt x) zs)
      (e x ∙ ap (λ w. if (ties lt x w) then w ∷ filter (ties lt x) zs else filter (ties lt x) zs) (sym same_head))))

-- rows in the order of their keys, by insertion
module _ {K T : Type 0} {R : K → K → Ordering} (o : IsTotalOrder R) where
  abbrev lower : K × T → K × T → Bool
  lower a b = is_lt (R a.0 b.0)

  pub weak : IsStrictWeakOrder (λ (a b : K × T). is_lt (R a.0 b.0))
  weak = ranks_by o (λ (row : K × T). row.0)

  none_below-insert_row : (x row : K × T) (rows : List (K × T)) → NoneBelow lower x rows → lower row x ≡ false → NoneBelow lower x (insert_row R row rows)
  none_below-insert_row x row [] h n = (n, tt)
  none_below-insert_row x row (r ∷ rs) h n = by (is_gt (R row.0 r.0)) (none_below-insert_row x row rs h.1 n)
    where
      by : (b : Bool) → NoneBelow lower x (insert_row R row rs) → NoneBelow lower x (if b then r ∷ insert_row R row rs else row ∷ r ∷ rs)
      by true rest = (h.0, rest)
      by false rest = (n, h)

  none_below-more : (x y : K × T) (rows : List (K × T)) → NoneBelow lower x rows → lower x y ≡ false → NoneBelow lower y rows
  none_below-more x y [] h n = tt
  none_below-more x y (r ∷ rs) h n = (weak.chain r x y h.0 n, none_below-more x y rs h.1 n)

  rises-insert_row : (row : K × T) (rows : List (K × T)) → Rises lower rows → Rises lower (insert_row R row rows)
  rises-insert_row row [] h = (tt, tt)
  rises-insert_row row (r ∷ rs) h = by (is_gt (R row.0 r.0)) refl (rises-insert_row row rs h.1)
    where
      by : (b : Bool) → is_gt (R row.0 r.0) ≡ b → Rises lower (insert_row R row rs) → Rises lower (if b then r ∷ insert_row R row rs else row ∷ r ∷ rs)
      by true gt rest = (none_below-insert_row r row rs h.0 (gt_not_lt (R row.0 r.0) gt), rest)
      by false gt rest =
          let low : lower r row ≡ false = not_gt_back (R row.0 r.0) (R r.0 row.0) (o.antisymm r.0 row.0) gt in
          ((low, none_below-more r row rs h.0 low), h)

  rises-sorted : (rows : List (K × T)) → Rises lower (sorted R rows)
  rises-sorted [] = tt
  rises-sorted (row ∷ rows) = rises-insert_row row (sorted R rows) (rises-sorted rows)

  -- of two elements that don't both tie with x, those that do stand alike in either order
  either_order : (a b : Bool) (r row : K × T) (rest : List (K × T)) → (a ≡ true → b ≡ true → ⊥)
      → (if a then r ∷ (if b then row ∷ rest else rest) else (if b then row ∷ rest else rest)) ≡ (if b then row ∷ (if a then r ∷ rest else rest) else (if a then r ∷ rest else rest))
  either_order true true r row rest apart = absurd (apart refl refl)
  either_order true false r row rest apart = refl
  either_order false true r row rest apart = refl
  either_order false false r row rest apart = refl

  not_both : (x r row : K × T) → is_gt (R row.0 r.0) ≡ true → ties lower x r ≡ true → ties lower x row ≡ true → ⊥
  not_both x r row gt a b =
      let up : lower r x ≡ false = not_true (lower r x) (and_second (not (lower x r)) (not (lower r x)) a) in
      let down : lower x row ≡ false = not_true (lower x row) (and_first (not (lower x row)) (not (lower row x)) b) in
      let no : lower r row ≡ false = weak.chain r x row up down in
      let yes : lower r row ≡ true = gt_back (R row.0 r.0) (R r.0 row.0) (o.antisymm r.0 row.0) gt in cc

  ties-insert_row : (x row : K × T) (rows : List (K × T)) → filter (ties lower x) (insert_row R row rows) ≡ filter (ties lower x) (row ∷ rows)
  ties-insert_row x row [] = refl
  ties-insert_row x row (r ∷ rs) = by (is_gt (R row.0 r.0)) refl (ties-insert_row x row rs)
    where
      by : (b : Bool) → is_gt (R row.0 r.0) ≡ b → filter (ties lower x) (insert_row R row rs) ≡ filter (ties lower x) (row ∷ rs) → filter (ties lower x) (if b then r ∷ insert_row R row rs else row ∷ r ∷ rs) ≡ filter (ties lower x) (row ∷ r ∷ rs)
      by true gt rest = ap (λ (zs : List (K × T)). if (ties lower x r) then r ∷ zs else zs) rest
          ∙ either_order (ties lower x r) (ties lower x row) r row (filter (ties lower x) rs) (not_both x r row gt)
      by false gt rest = refl

  ties-sorted : (x : K × T) (rows : List (K × T)) → filter (ties lower x) (sorted R rows) ≡ filter (ties lower x) rows
  ties-sorted x [] = refl
  ties-sorted x (row ∷ rows) = ties-insert_row x row (sorted R rows) ∙ ap (λ (zs : List (K × T)). if (ties lower x row) then row ∷ zs else zs) (ties-sorted x rows)

  -- what a stable sort makes of rows
  pub stable_sort : (rows made : List (K × T)) → IsSortedBy (λ (a b : K × T). is_lt (R a.0 b.0)) made → IsStableBy (λ (a b : K × T). is_lt (R a.0 b.0)) rows made → made ≡ sorted R rows
  stable_sort rows made up stable =
      alike lower weak made (sorted R rows) (rises_from lower made (sorted_far lower weak made up)) (rises-sorted rows) (λ x. stable x ∙ sym (ties-sorted x rows))
