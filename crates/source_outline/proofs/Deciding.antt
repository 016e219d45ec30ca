-- Some endless link is the first one, or there is none.
use Rattle.std.proofs.Common.{◌≡◌, ℕ, zero, suc, ◌+◌, ◌<◌, ◌⊎◌, inl, inr, Bool, true, false, List, [], ◌∷◌, length, Option, Some, None, refl, sym, ◌∙◌, ap, subst, arith}
use Rattle.std.specs.Prelude.{slice_get}
use Rattle.slint_base.specs.declared.faults.Fault.{Fault}
use Rattle.fault_order.specs.Order.{FirstIfAny, first_of}
use Rattle.finite_graphs.specs.declared.edge.Edge.{Edge}
use Rattle.finite_graphs.specs.Graphs.{Leads}
use Rattle.finite_graphs.specs.Walks.{OnCircle}
use Rattle.import_resolver.specs.Loaded.{FileRow}
use Rattle.source_outline.specs.declared.followers.Follower.{Follower}
use Rattle.source_outline.specs.Ends.{link_edges}
use Rattle.source_outline.specs.Following.{EndlessIn, followers_in, nexts_of}
use Rattle.source_outline.specs.Laws.{SomeFirst}
use Rattle.source_outline.specs.Marked.{marked_from}
use Rattle.source_outline.specs.Outlines.{rough_outline}
use Rattle.source_outline.proofs.Endless.{first_by_marks}

abbrev pub DecidesCircles : Type 0
DecidesCircles = (edges : List Edge) (a : ℕ) → OnCircle (Leads edges) a ⊎ (OnCircle (Leads edges) a → ⊥)

abbrev is_left : {A B : Type 0} → A ⊎ B → Bool
is_left (inl a) = true
is_left (inr b) = false

left_true : {A : Type 0} (d : A ⊎ (A → ⊥)) → is_left d ≡ true → A
left_true (inl a) e = a
left_true (inr n) e = cc

true_left : {A : Type 0} (d : A ⊎ (A → ⊥)) → A → is_left d ≡ true
true_left (inl a) x = refl
true_left (inr n) x = absurd (n x)

-- of n nodes from the i-th on, whether they lie on circles
abbrev marks_of : DecidesCircles → List Edge → ℕ → ℕ → List Bool
marks_of decide edges i zero = []
marks_of decide edges i (suc n) = is_left (decide edges i) ∷ marks_of decide edges (suc i) n

first_marked : (decide : DecidesCircles) (edges : List Edge) (i : ℕ) → Some (is_left (decide edges i)) ≡ Some true → OnCircle (Leads edges) i
first_marked decide edges i m = left_true (decide edges i) (cc)

marked_true : (decide : DecidesCircles) (edges : List Edge) (i n j : ℕ) → slice_get (marks_of decide edges i n) j ≡ Some true → OnCircle (Leads edges) (i + j)
marked_true decide edges i zero j m = cc
marked_true decide edges i (suc n) zero m = let z : i ≡ i + 0 = omega arith in subst (λ k. OnCircle (Leads edges) k) z (first_marked decide edges i m)
marked_true decide edges i (suc n) (suc j) m = let z : suc i + j ≡ i + suc j = omega arith in subst (λ k. OnCircle (Leads edges) k) z (marked_true decide edges (suc i) n j m)

all_marked : (decide : DecidesCircles) (edges : List Edge) (i n j : ℕ) → j < n → OnCircle (Leads edges) (i + j) → slice_get (marks_of decide edges i n) j ≡ Some true
all_marked decide edges i zero j h c = absurd (omega arith)
all_marked decide edges i (suc n) zero h c = let z : i + 0 ≡ i = omega arith in ap (λ b. Some b) (true_left (decide edges i) (subst (λ k. OnCircle (Leads edges) k) z c))
all_marked decide edges i (suc n) (suc j) h c = let z : i + suc j ≡ suc i + j = omega arith in all_marked decide edges (suc i) n j (omega arith) (subst (λ k. OnCircle (Leads edges) k) z c)

first_decided : (decide : DecidesCircles) (xs : List Follower) (nexts : List (Option ℕ))
    → FirstIfAny (EndlessIn xs nexts) (first_of (marked_from (marks_of decide (link_edges nexts) 0 (length nexts)) 0 xs))
first_decided decide xs nexts = first_by_marks xs nexts (marks_of decide (link_edges nexts) 0 (length nexts)) marked marks_it
  where
    marked : (i : ℕ) → slice_get (marks_of decide (link_edges nexts) 0 (length nexts)) i ≡ Some true → OnCircle (Leads (link_edges nexts)) i
    marked i m = let z : 0 + i ≡ i = omega arith in subst (λ k. OnCircle (Leads (link_edges nexts)) k) z (marked_true decide (link_edges nexts) 0 (length nexts) i m)

    marks_it : (i : ℕ) → i < length nexts → OnCircle (Leads (link_edges nexts)) i → slice_get (marks_of decide (link_edges nexts) 0 (length nexts)) i ≡ Some true
    marks_it i l c = let z : i ≡ 0 + i = omega arith in all_marked decide (link_edges nexts) 0 (length nexts) i l (subst (λ k. OnCircle (Leads (link_edges nexts)) k) z c)

-- what is told where each circle is decided
abbrev told_by : DecidesCircles → List Follower → List (Option ℕ) → Option Fault
told_by decide xs nexts = first_of (marked_from (marks_of decide (link_edges nexts) 0 (length nexts)) 0 xs)

pub some-first : DecidesCircles → (rows : List FileRow) → SomeFirst rows
some-first decide rows = record {
  fault = told_by decide (followers_in (rough_outline rows) rows) (nexts_of (rough_outline rows) (followers_in (rough_outline rows) rows));
  first = first_decided decide (followers_in (rough_outline rows) rows) (nexts_of (rough_outline rows) (followers_in (rough_outline rows) rows));
}
