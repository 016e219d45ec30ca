-- What the loops of the marking keep.
use Rattle.std.proofs.Common.{◌≡◌, ℕ, zero, suc, ◌+◌, ◌<◌, ◌≤◌, Bool, true, false, cond, ◌==◌, List, [], ◌∷◌, length, Option, Some, None, refl, sym, ap, ◌∙◌, subst, T, eqb→eq, arith}
use Rattle.std.specs.Prelude.{map, filter}
use Rattle.dep_list.specs.Pairs.{readers_of}
use Rattle.property_cells.specs.declared.points.Entry.{Entry}
use Rattle.property_cells.specs.Points.{entry_at, last_below, points_below, points_of}
use Rattle.property_cells.specs.Marks.{Pending, marked, all_marked, AllBelow, points_marked, EachInside}
use Rattle.property_cells.proofs.Threads.{length-marked, length-all_marked}

-- ---- the readers of one point

-- what the loop over a point's readers keeps
pub record MarksReaders (readers : List ℕ) (m : Pending) (left : List ℕ) (now : Pending) : Type 0 where
  pub same : all_marked left now ≡ all_marked readers m
  pub below : AllBelow (length now.cells) left

pub MarksReaders-more : (readers : List ℕ) (m : Pending) (left : List ℕ) (now : Pending) (c : ℕ) (rest : List ℕ) (after : Pending) → MarksReaders readers m left now → left ≡ c ∷ rest → after ≡ marked c now → MarksReaders readers m rest after
MarksReaders-more readers m left now c rest after k e f = record {
  same = ap (all_marked rest) f ∙ ap (λ l. all_marked l now) (sym e) ∙ k.same;
  below = subst (λ n. AllBelow n rest) (sym (ap (λ (q : Pending). length q.cells) f ∙ length-marked c now)) (subst (AllBelow (length now.cells)) e k.below).1;
}

-- ---- the points of one cell

readers_step : (n k p : ℕ) (x : ℕ × ℕ) (b : Bool) (xs : List (ℕ × ℕ)) → x.0 < n → AllBelow n (readers_of p xs) → AllBelow n (map (λ y. y.0) (cond b (x ∷ filter (λ y. y.1 == p) xs) (filter (λ y. y.1 == p) xs)))
readers_step n k p x true xs h a = (h, a)
readers_step n k p x false xs h a = a

pub AllBelow-readers : (n k p : ℕ) (xs : List (ℕ × ℕ)) → EachInside n k xs → AllBelow n (readers_of p xs)
AllBelow-readers n k p [] e = tt
AllBelow-readers n k p (x ∷ xs) e = readers_step n k p x (x.1 == p) xs e.0 (AllBelow-readers n k p xs e.2)

-- the points of a cell from one on
abbrev pub ahead : List Entry → ℕ → Option ℕ → List ℕ
ahead es c None = []
ahead es c (Some p) = p ∷ points_below es c p

-- a point of a cell that is there
abbrev pub PointOf : List Entry → ℕ → Option ℕ → Type 0
PointOf es c None = Unit {0}
PointOf es c (Some p) = (p < length es) × ((entry_at es p).cell ≡ c)

true_of : (b : Bool) → b ≡ true → T b
true_of true e = tt
true_of false e = cc

pub ahead_last : (es : List Entry) (c n : ℕ) → n ≤ length es → (ahead es c (last_below es c n) ≡ points_below es c n) × PointOf es c (last_below es c n)
ahead_last es c zero h = (refl, tt)
ahead_last es c (suc n) h =
    (elim ((entry_at es n).cell == c) as (λ b. ((entry_at es n).cell == c) ≡ b → (ahead es c (cond b (Some n) (last_below es c n)) ≡ cond b (n ∷ points_below es c n) (points_below es c n)) × PointOf es c (cond b (Some n) (last_below es c n))) [
      | true ↦ λ e. (refl, (omega arith, eqb→eq (entry_at es n).cell c (true_of ((entry_at es n).cell == c) e)))
      | false ↦ λ e. ahead_last es c n (omega arith)
    ]) refl

-- what the loop over a cell's points keeps
pub record MarksPoints (pairs : List (ℕ × ℕ)) (es : List Entry) (c : ℕ) (m : Pending) (at : Option ℕ) (now : Pending) : Type 0 where
  pub same : points_marked pairs (ahead es c at) now ≡ points_marked pairs (points_of es c) m
  pub there : PointOf es c at
  pub inside : EachInside (length now.cells) (length es) pairs

pub MarksPoints-none : (pairs : List (ℕ × ℕ)) (es : List Entry) (c : ℕ) (m : Pending) (at : Option ℕ) → at ≡ last_below es c (length es) → EachInside (length m.cells) (length es) pairs → MarksPoints pairs es c m at m
MarksPoints-none pairs es c m at e i =
    let a = ahead_last es c (length es) (omega arith) in
    record {
      same = ap (λ ps. points_marked pairs ps m) (ap (ahead es c) e ∙ a.0);
      there = subst (PointOf es c) (sym e) a.1;
      inside = i;
    }

pub MarksPoints-more : (pairs : List (ℕ × ℕ)) (es : List Entry) (c : ℕ) (m : Pending) (at : Option ℕ) (now : Pending) (p : ℕ) (after : Pending) (next : Option ℕ) → MarksPoints pairs es c m at now → at ≡ Some p
    → after ≡ all_marked (readers_of p pairs) now → next ≡ last_below es (entry_at es p).cell p → MarksPoints pairs es c m next after
MarksPoints-more pairs es c m at now p after next k e f g =
    let here = subst (PointOf es c) e k.there in
    let a = ahead_last es c p (omega (arith, here.0)) in
    let next_is : next ≡ last_below es c p = g ∙ ap (λ d. last_below es d p) here.1 in
    record {
      same = (λ i. points_marked pairs ((ap (ahead es c) next_is ∙ a.0) i) (f i)) ∙ ap (λ o. points_marked pairs (ahead es c o) now) (sym e) ∙ k.same;
      there = subst (PointOf es c) (sym next_is) a.1;
      inside = subst (λ n. EachInside n (length es) pairs) (sym (ap (λ (q : Pending). length q.cells) f ∙ length-all_marked (readers_of p pairs) now)) k.inside;
    }

pub point_there : (es : List Entry) (c : ℕ) (at : Option ℕ) (p : ℕ) → PointOf es c at → at ≡ Some p → p < length es
point_there es c at p h e = (subst (PointOf es c) e h).0

-- the measure of that loop
abbrev pub points_left : Option ℕ → ℕ
points_left None = 0
points_left (Some p) = p + 1

last_smaller : (es : List Entry) (c n : ℕ) → points_left (last_below es c n) ≤ n
last_smaller es c zero = omega arith
last_smaller es c (suc n) =
    elim ((entry_at es n).cell == c) as (λ b. points_left (cond b (Some n) (last_below es c n)) ≤ suc n) [ true ↦ omega arith | false ↦ let h = last_smaller es c n in omega arith ]

pub points_fall : (es : List Entry) (c p : ℕ) (at next : Option ℕ) → at ≡ Some p → next ≡ last_below es c p → points_left next < points_left at
points_fall es c p at next e f =
    subst (λ o. points_left next < points_left o) (sym e) (subst (λ o. points_left o < p + 1) (sym f) (let h = last_smaller es c p in omega arith))

pub next_is : (es : List Entry) (c : ℕ) (at : Option ℕ) (p : ℕ) (next : Option ℕ) → PointOf es c at → at ≡ Some p → next ≡ last_below es (entry_at es p).cell p → next ≡ last_below es c p
next_is es c at p next h e f = f ∙ ap (λ d. last_below es d p) (subst (PointOf es c) e h).1
