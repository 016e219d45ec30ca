-- The pairs of one row go, one after the other.
use Rattle.std.proofs.Common.{◌≡◌, ℕ, ◌<◌, Bool, true, false, cond, ◌&&◌, ◌==◌, List, [], ◌∷◌, length, Option, Some, None, refl, sym, ap, ◌∙◌, subst, T}
use Rattle.std.specs.Prelude.{IsSome, not, map, filter}
use lib.Dec.{eqb_refl}
use denote.RawPtr.{Ptr}
use Rattle.dep_list.specs.declared.node.Place.{Place}
use Rattle.dep_list.specs.declared.node.Node.{Node}
use Rattle.dep_list.specs.declared.node.Side.{Side}
use Rattle.dep_list.specs.declared.node.Side.TheVariants.{Reader, Point}
use Rattle.dep_list.specs.Cells.{same_ptr, find, places, values, without, add, Absent, Apart}
use Rattle.dep_list.specs.Lists.{key_of, other_of, link_of, pair_if, step_if, entries, row, first_or, State, Held, ends_of, ends_at, key_end, other_end, drop_key, others_of, others, pairs_of, SameRoom, FoundIf}
use Rattle.dep_list.proofs.Cells.{same_ptr_eq}
use Rattle.dep_list.proofs.Places.{without-absent, Apart-pick, pick-found, picked}
use Rattle.dep_list.proofs.Rows.{Step}
use Rattle.dep_list.proofs.Selections.{first_found, step_linked, key_is}

-- what the loop keeps
pub record DropsSoFar (side : Side) (key : ℕ) (initial now : State) : Type 0 where
  pub held : Held now
  pub inside : key < length (ends_of side now)
  pub same : drop_key side key (pairs_of now) ≡ drop_key side key (pairs_of initial)
  pub room : SameRoom initial now

-- taking out a pair that a test refuses anyway
filter-without : (t : ℕ × ℕ → Bool) (p : Ptr) (es : List (Ptr × (ℕ × ℕ))) (x : ℕ × ℕ) → Apart (places es) → find es p ≡ Some x → t x ≡ false → filter t (values (without p es)) ≡ filter t (values es)
filter-without t p [] x a f n = cc
filter-without t p (e ∷ es) x a f n =
    (elim (same_ptr e.0 p) as (λ b. same_ptr e.0 p ≡ b → cond b (Some e.1) (find es p) ≡ Some x → filter t (values (cond b (without p es) (e ∷ without p es))) ≡ filter t (values (e ∷ es))) [
      | true ↦ λ d g. let same : e.1 ≡ x = cc in
          ap (λ l. filter t (values l)) (without-absent p es (subst (λ q. Absent q (places es)) (same_ptr_eq e.0 p d) a.0))
          ∙ (λ i. cond (sym (ap t same ∙ n) i) (e.1 ∷ filter t (values es)) (filter t (values es)))
      | false ↦ λ d g. ap (λ l. cond (t e.1) (e.1 ∷ l) l) (filter-without t p es x a.1 g n)
    ]) refl f

key_end_is : (side : Side) (n : Node) → key_end side (n.reader, n.point) ≡ key_of side n
key_end_is Reader n = refl
key_end_is Point n = refl

other_end_is : (side : Side) (n : Node) → other_end side (n.reader, n.point) ≡ other_of side n
other_end_is Reader n = refl
other_end_is Point n = refl

-- a row's other ends are those of its pairs
module _ (side : Side) (k : ℕ) where
  kept : (n : Node) (c : Bool) (rest : List (ℕ × ℕ)) → (key_of side n == k) ≡ c → filter (λ x. key_end side x == k) ((n.reader, n.point) ∷ rest) ≡ cond c ((n.reader, n.point) ∷ filter (λ x. key_end side x == k) rest) (filter (λ x. key_end side x == k) rest)
  kept n c rest e = λ i. cond ((ap (λ j. j == k) (key_end_is side n) ∙ e) i) ((n.reader, n.point) ∷ filter (λ x. key_end side x == k) rest) (filter (λ x. key_end side x == k) rest)

  values_step : (n : Node) (p : Ptr) (b c : Bool) (r : List (Ptr × Step)) (es : List (Ptr × (ℕ × ℕ))) → (key_of side n == k) ≡ c → others r ≡ others_of side k (values es)
      → others (add p (cond (b && c) (Some (other_of side n, link_of side n)) None) r) ≡ others_of side k (values (add p (cond b (Some (n.reader, n.point)) None) es))
  values_step n p true true r es e h = (λ i. sym (other_end_is side n) i ∷ h i) ∙ sym (ap (map (other_end side)) (kept n true (values es) e))
  values_step n p true false r es e h = h ∙ sym (ap (map (other_end side)) (kept n false (values es) e))
  values_step n p false c r es e h = h

  pub others-row : (cs : List (Ptr × Node)) → others (row side k cs) ≡ others_of side k (values (entries cs))
  others-row [] = refl
  others-row (c ∷ cs) = values_step c.1 c.0 c.1.linked (key_of side c.1 == k) (row side k cs) (entries cs) refl (others-row cs)

  dropped : (n : Node) (rest : List (ℕ × ℕ)) → (key_of side n == k) ≡ false → drop_key side k rest ≡ rest → drop_key side k ((n.reader, n.point) ∷ rest) ≡ (n.reader, n.point) ∷ rest
  dropped n rest e h = (λ i. cond (not ((ap (λ j. j == k) (key_end_is side n) ∙ e) i)) ((n.reader, n.point) ∷ drop_key side k rest) (drop_key side k rest)) ∙ ap (λ l. (n.reader, n.point) ∷ l) h

  empty_step : (n : Node) (p : Ptr) (b c : Bool) (r : List (Ptr × Step)) (es : List (Ptr × (ℕ × ℕ))) → (key_of side n == k) ≡ c → (r ≡ [] → drop_key side k (values es) ≡ values es)
      → add p (cond (b && c) (Some (other_of side n, link_of side n)) None) r ≡ [] → drop_key side k (values (add p (cond b (Some (n.reader, n.point)) None) es)) ≡ values (add p (cond b (Some (n.reader, n.point)) None) es)
  empty_step n p true true r es e h z = cc
  empty_step n p true false r es e h z = dropped n (values es) e (h z)
  empty_step n p false c r es e h z = h z

  -- where a row is empty nothing is dropped
  pub drop_key-empty : (cs : List (Ptr × Node)) → row side k cs ≡ [] → drop_key side k (values (entries cs)) ≡ values (entries cs)
  drop_key-empty [] z = refl
  drop_key-empty (c ∷ cs) z = empty_step c.1 c.0 c.1.linked (key_of side c.1 == k) (row side k cs) (entries cs) refl (drop_key-empty cs) z

some_of : {A : Type 0} (o : Option A) → IsSome o → (x : A) × (o ≡ Some x)
some_of None h = cc
some_of (Some x) h = (x, refl)

-- the node at the head of a row
pub record IsFirst (side : Side) (key : ℕ) (s : State) (q : Place) (n : Node) : Type 0 where
  pub found : find s.cells q.ptr ≡ Some n
  pub entry : find (entries s.cells) q.ptr ≡ Some (n.reader, n.point)
  pub key_is : key_of side n ≡ key

pub first_is : (side : Side) (key : ℕ) (s : State) → Held s → key < length (ends_of side s) → (q : Place) → (ends_at side key s).first ≡ Some q → (n : Node) × IsFirst side key s q n
first_is side key s K h q e =
    let f : first_or None (row side key s.cells) ≡ Some q = sym (K.rows side key h).first ∙ e in
    let there : IsSome (find (row side key s.cells) q.ptr) = subst (λ (o : Option Place). FoundIf o (row side key s.cells)) f (first_found [] (row side key s.cells)) in
    let x = some_of (find (row side key s.cells) q.ptr) there in
    let p = picked (step_if side key) q.ptr s.cells x.0 K.apart x.1 in
    let l = (step_linked side key p.value x.0 p.shows).0 in (
      p.value,
      record {
        found = p.found;
        entry = pick-found pair_if q.ptr s.cells p.value (p.value.reader, p.value.point) p.found (ap (λ (b : Bool). cond b (Some (p.value.reader, p.value.point)) None) l);
        key_is = key_is side key p.value x.0 p.shows;
      },
    )

pub first_there : (side : Side) (key : ℕ) (s : State) → Held s → key < length (ends_of side s) → (q : Place) → (ends_at side key s).first ≡ Some q → IsSome (find (entries s.cells) q.ptr)
first_there side key s K h q e = let f = first_is side key s K h q e in subst (λ (o : Option (ℕ × ℕ)). IsSome o) (sym f.1.entry) refl

true_of : (b : Bool) → T b → b ≡ true
true_of true t = refl
true_of false t = absurd t

refused : (side : Side) (key : ℕ) (n : Node) → key_of side n ≡ key → not (key_end side (n.reader, n.point) == key) ≡ false
refused side key n e = ap not (ap (λ j. j == key) (key_end_is side n ∙ e) ∙ true_of (key == key) (eqb_refl key))

-- one more pair of the row is gone
pub DropsSoFar-more : (side : Side) (key : ℕ) (initial s t : State) → DropsSoFar side key initial s → (q : Place) → (ends_at side key s).first ≡ Some q
    → Held t → entries t.cells ≡ without q.ptr (entries s.cells) → SameRoom s t → DropsSoFar side key initial t
DropsSoFar-more side key initial s t D q e K w r =
    let f = first_is side key s D.held D.inside q e in let n = f.0 in
    record {
      held = K;
      inside = subst (λ m. key < m) (sym (lengths side)) D.inside;
      same = ap (λ es. drop_key side key (values es)) w
          ∙ filter-without (λ x. not (key_end side x == key)) q.ptr (entries s.cells) (n.reader, n.point) (Apart-pick pair_if s.cells D.held.apart) f.1.entry (refused side key n f.1.key_is)
          ∙ D.same;
      room = record { readers = r.readers ∙ D.room.readers; points = r.points ∙ D.room.points; total = r.total ∙ D.room.total };
    }
  where
    lengths : (side : Side) → length (ends_of side t) ≡ length (ends_of side s)
    lengths Reader = r.readers
    lengths Point = r.points

first_none : (r : List (Ptr × Step)) → first_or None r ≡ None → r ≡ []
first_none [] e = refl
first_none (x ∷ r) e = cc

-- the row is empty: all of its pairs are gone
pub DropsSoFar-all : (side : Side) (key : ℕ) (initial s : State) → DropsSoFar side key initial s → (ends_at side key s).first ≡ None → pairs_of s ≡ drop_key side key (pairs_of initial)
DropsSoFar-all side key initial s D e =
    sym (drop_key-empty side key s.cells (first_none (row side key s.cells) (sym (D.held.rows side key D.inside).first ∙ e))) ∙ D.same
