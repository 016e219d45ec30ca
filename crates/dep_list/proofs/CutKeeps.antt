-- A pair is taken out: its node becomes the top of the spare ones, and its neighbours in both lists lead to each other.
use Rattle.std.proofs.Common.{◌≡◌, ◌≢◌, ℕ, suc, ◌+◌, ◌-◌, ◌<◌, Bool, true, false, cond, List, [], ◌∷◌, ◌++◌, length, get_or, Option, Some, None, refl, sym, ap, ◌∙◌, subst, append-nil, arith}
use Rattle.std.specs.Prelude.{IsSome}
use Rattle.std.proofs.Math.ListN.{set, length-set}
use denote.RawPtr.{Ptr}
use Rattle.dep_list.specs.declared.node.Place.{Place}
use Rattle.dep_list.specs.declared.node.Link.{Link}
use Rattle.dep_list.specs.declared.node.Node.{Node}
use Rattle.dep_list.specs.declared.node.Ends.{Ends}
use Rattle.dep_list.specs.declared.node.Side.{Side}
use Rattle.dep_list.specs.declared.node.Side.TheVariants.{Reader, Point}
use Rattle.dep_list.specs.Cells.{same_ptr, find, take_out, places, without, Absent, Apart}
use Rattle.dep_list.specs.Lists.{place, key_of, other_of, link_of, with_link, next_to, prev_to, spare_node, pair_if, step_if, below_if, entries, row, frees, first_or, last_or, IsRow, Stack, State, FoundIf, ends_of, ends_at, no_ends, Held, AllWithin, SameRoom, alter_if, cut_ends, cut}
use Rattle.dep_list.proofs.Places.{Apart-push, places-append, take_out-without, Absent-without_own, Apart-without, without-absent, pick-append, pick-without, Apart-pick, pick-hidden, pick-found, picked, Cut, cut_at, without-cut}
use Rattle.dep_list.proofs.Rows.{Step, on_link, AbsentIf, Disjoint, places-alter_if, alter_if-absent, cut_row, last_disjoint, first_disjoint, Disjoint-left, Disjoint-right, link_in_row, IsRow-cut, Stack-push, last_or-append}
use Rattle.dep_list.proofs.Selections.{opposite, row-alter_if, row-alter_other, entries-alter_if, frees-next, frees-prev, step_none, step_some, rows_disjoint, row_frees_disjoint, last_found, first_found, found_in_row, found_alter_if}
use Rattle.dep_list.proofs.EndsLemmas.{rows_set, AllWithin-without, length-push, length-middle, both_inside}

-- the neighbours of a node lead to each other
abbrev pub cut_cells : Side → Link → List (Ptr × Node) → List (Ptr × Node)
cut_cells side l cs = alter_if (with_link side (prev_to l.prev)) l.next (alter_if (with_link side (next_to l.next)) l.prev cs)

row-cut_cells : (side : Side) (k : ℕ) (l : Link) (cs : List (Ptr × Node)) → row side k (cut_cells side l cs) ≡ cut_row l (row side k cs)
row-cut_cells side k l cs = row-alter_if side k (prev_to l.prev) l.next (alter_if (with_link side (next_to l.next)) l.prev cs)
    ∙ ap (alter_if (on_link (prev_to l.prev)) l.next) (row-alter_if side k (next_to l.next) l.prev cs)

row-cut_other : (side : Side) (k : ℕ) (l : Link) (cs : List (Ptr × Node)) → row side k (cut_cells (opposite side) l cs) ≡ row side k cs
row-cut_other side k l cs = row-alter_other side k (prev_to l.prev) l.next (alter_if (with_link (opposite side) (next_to l.next)) l.prev cs) ∙ row-alter_other side k (next_to l.next) l.prev cs

entries-cut_cells : (side : Side) (l : Link) (cs : List (Ptr × Node)) → entries (cut_cells side l cs) ≡ entries cs
entries-cut_cells side l cs = entries-alter_if side (prev_to l.prev) l.next (alter_if (with_link side (next_to l.next)) l.prev cs) ∙ entries-alter_if side (next_to l.next) l.prev cs

pub places-cut_cells : (side : Side) (l : Link) (cs : List (Ptr × Node)) → places (cut_cells side l cs) ≡ places cs
places-cut_cells side l cs = places-alter_if (with_link side (prev_to l.prev)) l.next (alter_if (with_link side (next_to l.next)) l.prev cs) ∙ places-alter_if (with_link side (next_to l.next)) l.prev cs

frees-cut_cells : (side : Side) (l : Link) (cs : List (Ptr × Node)) → AbsentIf l.prev (places (frees cs)) → AbsentIf l.next (places (frees cs)) → frees (cut_cells side l cs) ≡ frees cs
frees-cut_cells side l cs a b =
    let first = frees-next side l.next l.prev cs a in
    frees-prev side l.prev l.next (alter_if (with_link side (next_to l.next)) l.prev cs) (subst (λ (fs : List (Ptr × Option Place)). AbsentIf l.next (places fs)) (sym first) b) ∙ first

cut_row-absent : (l : Link) (r : List (Ptr × Step)) → AbsentIf l.prev (places r) → AbsentIf l.next (places r) → cut_row l r ≡ r
cut_row-absent l r a b =
    ap (alter_if (on_link (prev_to l.prev)) l.next) (alter_if-absent (on_link (next_to l.next)) l.prev r a) ∙ alter_if-absent (on_link (prev_to l.prev)) l.next r b

pub Found_cut : (side : Side) (l : Link) (cs : List (Ptr × Node)) (o : Option Place) → FoundIf o cs → FoundIf o (cut_cells side l cs)
Found_cut side l cs o h = found_alter_if (with_link side (prev_to l.prev)) l.next (alter_if (with_link side (next_to l.next)) l.prev cs) o (found_alter_if (with_link side (next_to l.next)) l.prev cs o h)

module _ (s : State) (K : Held s) (p : Ptr) (n : Node) (found : find s.cells p ≡ Some n) (linked : n.linked ≡ true) where
  -- the node is the last, and spare
  abbrev pub c1 : List (Ptr × Node)
  c1 = take_out s.cells p ++ (p, spare_node s.top) ∷ []

  abbrev pub s1 : State
  s1 = record s { cells = c1; top = Some (place p); spare = s.spare + 1; count = s.count - 1 }

  abbrev pub s2 : State
  s2 = cut Reader n.reader n.by_reader s1

  abbrev pub s3 : State
  s3 = cut Point n.point n.by_point s2

  abbrev c3 : List (Ptr × Node)
  c3 = cut_cells Point n.by_point (cut_cells Reader n.by_reader c1)

  c1_is : c1 ≡ without p s.cells ++ (p, spare_node s.top) ∷ []
  c1_is = ap (λ (cs : List (Ptr × Node)). cs ++ (p, spare_node s.top) ∷ []) (take_out-without p s.cells K.apart)

  pub apart1 : Apart (places c1)
  apart1 = subst (λ (cs : List (Ptr × Node)). Apart (places cs)) (sym c1_is) (subst Apart (sym (places-append (without p s.cells) ((p, spare_node s.top) ∷ [])))
      (Apart-push (places (without p s.cells)) p (Apart-without p s.cells K.apart) (Absent-without_own p s.cells)))

  row1 : (side : Side) (k : ℕ) → row side k c1 ≡ without p (row side k s.cells)
  row1 side k = ap (row side k) c1_is ∙ pick-append (step_if side k) (without p s.cells) ((p, spare_node s.top) ∷ []) ∙ append-nil (row side k (without p s.cells)) ∙ pick-without (step_if side k) p s.cells

  entries1 : entries c1 ≡ without p (entries s.cells)
  entries1 = ap entries c1_is ∙ pick-append pair_if (without p s.cells) ((p, spare_node s.top) ∷ []) ∙ append-nil (entries (without p s.cells)) ∙ pick-without pair_if p s.cells

  hidden : Absent p (places (frees s.cells))
  hidden = pick-hidden below_if p s.cells n K.apart found (ap (λ (b : Bool). cond b None (Some n.by_reader.next)) linked)

  frees1 : frees c1 ≡ frees s.cells ++ (p, s.top) ∷ []
  frees1 = ap frees c1_is ∙ pick-append below_if (without p s.cells) ((p, spare_node s.top) ∷ [])
      ∙ ap (λ (fs : List (Ptr × Option Place)). fs ++ (p, s.top) ∷ []) (pick-without below_if p s.cells ∙ without-absent p (frees s.cells) hidden)

  -- the node's own row on a side, cut at it
  module _ (side : Side) where
    abbrev k0 : ℕ
    k0 = key_of side n

    abbrev x : Step
    x = (other_of side n, link_of side n)

    own : Cut (row side k0 s.cells) p x
    own = cut_at p (row side k0 s.cells) x (pick-found (step_if side k0) p s.cells n x found (step_some side n linked))

    apart_own : Apart (places (own.before ++ (p, x) ∷ own.behind))
    apart_own = subst (λ (r : List (Ptr × Step)). Apart (places r)) own.whole (Apart-pick (step_if side k0) s.cells K.apart)

    row1_own : row side k0 c1 ≡ own.before ++ own.behind
    row1_own = row1 side k0 ∙ ap (without p) own.whole ∙ without-cut p own.before x own.behind apart_own

    apart_rest : Apart (places (own.before ++ own.behind))
    apart_rest = subst (λ (r : List (Ptr × Step)). Apart (places r)) row1_own (Apart-pick (step_if side k0) c1 apart1)

    module _ (inside : k0 < length (ends_of side s)) where
      own_row : IsRow (ends_at side k0 s) (own.before ++ (p, x) ∷ own.behind)
      own_row = subst (IsRow (ends_at side k0 s)) own.whole (K.rows side k0 inside)

      link_is : link_of side n ≡ record { prev = last_or None own.before; next = first_or None own.behind }
      link_is = link_in_row (ends_at side k0 s) own.before p x own.behind own_row

      -- the neighbours are in none of the places from which the row is apart
      prev_absent : (ps : List Ptr) → Disjoint (places (row side k0 c1)) ps → AbsentIf (link_of side n).prev ps
      prev_absent ps d =
          let d' = subst (λ (qs : List Ptr). Disjoint qs ps) (ap places row1_own ∙ places-append own.before own.behind) d in
          subst (λ (l : Link). AbsentIf l.prev ps) (sym link_is) (last_disjoint None own.before ps (Disjoint-left (places own.before) (places own.behind) ps d') tt)

      next_absent : (ps : List Ptr) → Disjoint (places (row side k0 c1)) ps → AbsentIf (link_of side n).next ps
      next_absent ps d =
          let d' = subst (λ (qs : List Ptr). Disjoint qs ps) (ap places row1_own ∙ places-append own.before own.behind) d in
          subst (λ (l : Link). AbsentIf l.next ps) (sym link_is) (first_disjoint None own.behind ps (Disjoint-right (places own.before) (places own.behind) ps d') tt)

      pub prev_found : FoundIf (link_of side n).prev c1
      prev_found = found_in_row side k0 c1 apart1 (link_of side n).prev
          (subst (λ (r : List (Ptr × Step)). FoundIf (link_of side n).prev r) (sym row1_own) (subst (λ (l : Link). FoundIf l.prev (own.before ++ own.behind)) (sym link_is) (last_found own.before own.behind)))

      pub next_found : FoundIf (link_of side n).next c1
      next_found = found_in_row side k0 c1 apart1 (link_of side n).next
          (subst (λ (r : List (Ptr × Step)). FoundIf (link_of side n).next r) (sym row1_own) (subst (λ (l : Link). FoundIf l.next (own.before ++ own.behind)) (sym link_is) (first_found own.before own.behind)))

      row_own : IsRow (cut_ends (link_of side n) (ends_at side k0 s)) (cut_row (link_of side n) (row side k0 c1))
      row_own = subst (λ (r : List (Ptr × Step)). IsRow (cut_ends (link_of side n) (ends_at side k0 s)) (cut_row (link_of side n) r)) (sym row1_own)
          (IsRow-cut (ends_at side k0 s) own.before p x own.behind own_row apart_rest)

      row_other : (k : ℕ) → k ≢ k0 → cut_row (link_of side n) (row side k c1) ≡ row side k s.cells
      row_other k differ =
          let d = rows_disjoint side k0 k (λ same. differ (sym same)) c1 apart1 in
          let hides : step_if side k n ≡ None = step_none side k n (λ same. differ (sym same)) in
          cut_row-absent (link_of side n) (row side k c1) (prev_absent (places (row side k c1)) d) (next_absent (places (row side k c1)) d)
          ∙ row1 side k ∙ without-absent p (row side k s.cells) (pick-hidden (step_if side k) p s.cells n K.apart found hides)

  row3 : (side : Side) (k : ℕ) → row side k c3 ≡ cut_row (link_of side n) (row side k c1)
  row3 Reader k = row-cut_other Reader k n.by_point (cut_cells Reader n.by_reader c1) ∙ row-cut_cells Reader k n.by_reader c1
  row3 Point k = row-cut_cells Point k n.by_point (cut_cells Reader n.by_reader c1) ∙ ap (cut_row n.by_point) (row-cut_other Point k n.by_reader c1)

  ends3 : (side : Side) → ends_of side s3 ≡ set (ends_of side s) (key_of side n) (cut_ends (link_of side n) (ends_at side (key_of side n) s))
  ends3 Reader = refl
  ends3 Point = refl

  module _ (inside : (side : Side) → key_of side n < length (ends_of side s)) where
    rows3 : (side : Side) (k : ℕ) → k < length (ends_of side s3) → IsRow (ends_at side k s3) (row side k c3)
    rows3 side k h =
        let es = set (ends_of side s) (key_of side n) (cut_ends (link_of side n) (ends_at side (key_of side n) s)) in
        let h' : k < length es = subst (λ (l : List Ends). k < length l) (ends3 side) h in
        subst (λ (l : List Ends). IsRow (get_or l k no_ends) (row side k c3)) (sym (ends3 side))
        (subst (IsRow (get_or es k no_ends)) (sym (row3 side k))
        (rows_set (ends_of side s) (key_of side n) (cut_ends (link_of side n) (ends_at side (key_of side n) s)) (λ j. row side j s.cells) (λ j. cut_row (link_of side n) (row side j c1)) (inside side)
        (K.rows side) (row_own side (inside side)) (row_other side (inside side)) k h'))

    frees3 : frees c3 ≡ frees s.cells ++ (p, s.top) ∷ []
    frees3 =
        let d1 = row_frees_disjoint Reader n.reader c1 apart1 in let d2 = row_frees_disjoint Point n.point c1 apart1 in
        let first = frees-cut_cells Reader n.by_reader c1 (prev_absent Reader (inside Reader) (places (frees c1)) d1) (next_absent Reader (inside Reader) (places (frees c1)) d1) in
        let stays = λ (o : Option Place) (a : AbsentIf o (places (frees c1))). subst (λ (fs : List (Ptr × Option Place)). AbsentIf o (places fs)) (sym first) a in
        frees-cut_cells Point n.by_point (cut_cells Reader n.by_reader c1) (stays n.by_point.prev (prev_absent Point (inside Point) (places (frees c1)) d2)) (stays n.by_point.next (next_absent Point (inside Point) (places (frees c1)) d2))
        ∙ first ∙ frees1

    pub entries3 : entries c3 ≡ without p (entries s.cells)
    entries3 = entries-cut_cells Point n.by_point (cut_cells Reader n.by_reader c1) ∙ entries-cut_cells Reader n.by_reader c1 ∙ entries1

    pub one_less : suc (length (without p (entries s.cells))) ≡ length (entries s.cells)
    one_less =
        let c = cut_at p (entries s.cells) (n.reader, n.point) (pick-found pair_if p s.cells n (n.reader, n.point) found (ap (λ (b : Bool). cond b (Some (n.reader, n.point)) None) linked)) in
        let a = subst (λ (es : List (Ptr × (ℕ × ℕ))). Apart (places es)) c.whole (Apart-pick pair_if s.cells K.apart) in
        ap (λ (es : List (Ptr × (ℕ × ℕ))). suc (length (without p es))) c.whole
        ∙ ap (λ (es : List (Ptr × (ℕ × ℕ))). suc (length es)) (without-cut p c.before (n.reader, n.point) c.behind a)
        ∙ sym (length-middle c.before (p, (n.reader, n.point)) c.behind) ∙ ap length (sym c.whole)

    length3 : (side : Side) → length (ends_of side s3) ≡ length (ends_of side s)
    length3 side = ap length (ends3 side) ∙ length-set (ends_of side s) (key_of side n) (cut_ends (link_of side n) (ends_at side (key_of side n) s))

    pub same_room : SameRoom s s3
    same_room = let one = one_less in let k2 = K.count in record { readers = length3 Reader; points = length3 Point; total = omega arith }

    pub cut_kept : Held s3
    cut_kept =
        let one = one_less in let k1 = K.spare in let k2 = K.count in let k3 = K.small in
        let more = length-push (frees s.cells) (p, s.top) in
        record {
          apart = subst Apart (sym (places-cut_cells Point n.by_point (cut_cells Reader n.by_reader c1) ∙ places-cut_cells Reader n.by_reader c1)) apart1;
          rows = rows3;
          within = subst (λ (es : List (Ptr × (ℕ × ℕ))). AllWithin (length s3.readers) (length s3.points) es) (sym entries3)
              (subst (λ (m : ℕ). AllWithin m (length s3.points) (without p (entries s.cells))) (sym (length3 Reader))
              (subst (λ (m : ℕ). AllWithin (length s.readers) m (without p (entries s.cells))) (sym (length3 Point))
              (AllWithin-without (length s.readers) (length s.points) p (entries s.cells) K.within)));
          stack = subst (Stack None) (sym frees3) (subst (λ (t : Option Place). Stack None (frees s.cells ++ (p, t) ∷ [])) (sym K.top) (Stack-push None (frees s.cells) p K.stack));
          top = sym (ap (last_or None) frees3 ∙ last_or-append None (frees s.cells) ((p, s.top) ∷ []));
          spare = let e : s.spare + 1 ≡ length (frees s.cells ++ (p, s.top) ∷ []) = omega arith in e ∙ sym (ap length frees3);
          count = let e : s.count - 1 ≡ length (without p (entries s.cells)) = omega arith in e ∙ sym (ap length entries3);
          small = omega arith;
        }

-- ---- the pair's node

linked_shows : (b : Bool) (x y : ℕ × ℕ) → cond b (Some x) None ≡ Some y → (b ≡ true) × (x ≡ y)
linked_shows true x y e = (refl, let same : x ≡ y = cc in same)
linked_shows false x y e = cc

some_of : {A : Type 0} (o : Option A) → IsSome o → (x : A) × (o ≡ Some x)
some_of None h = cc
some_of (Some x) h = (x, refl)

-- the node at which a pair stands, with the pair
pub record IsPairAt (s : State) (p : Ptr) (n : Node) : Type 0 where
  pub found : find s.cells p ≡ Some n
  pub linked : n.linked ≡ true
  pub entry : find (entries s.cells) p ≡ Some (n.reader, n.point)

pub pair_at : (s : State) → Held s → (p : Ptr) → IsSome (find (entries s.cells) p) → (n : Node) × IsPairAt s p n
pair_at s K p h =
    let e = some_of (find (entries s.cells) p) h in let f = picked pair_if p s.cells e.0 K.apart e.1 in let l = linked_shows f.value.linked (f.value.reader, f.value.point) e.0 f.shows in
    (f.value, record { found = f.found; linked = l.0; entry = e.1 ∙ ap Some (sym l.1) })

pub pair_of : (s : State) → Held s → (p : Ptr) → IsSome (find (entries s.cells) p) → (n : Node) → find s.cells p ≡ Some n → IsPairAt s p n
pair_of s K p h n f = let t = pair_at s K p h in let same : t.0 ≡ n = let e : Some t.0 ≡ Some n = sym t.1.found ∙ f in cc in subst (IsPairAt s p) same t.1

AllWithin-found : (r q : ℕ) (p : Ptr) (es : List (Ptr × (ℕ × ℕ))) (x : ℕ × ℕ) → AllWithin r q es → find es p ≡ Some x → (x.0 < r) × (x.1 < q)
AllWithin-found r q p [] x a f = cc
AllWithin-found r q p (e ∷ es) x a f =
    (elim (same_ptr e.0 p) as (λ b. same_ptr e.0 p ≡ b → cond b (Some e.1) (find es p) ≡ Some x → (x.0 < r) × (x.1 < q)) [
      | true ↦ λ d g. let same : e.1 ≡ x = cc in subst (λ (y : ℕ × ℕ). (y.0 < r) × (y.1 < q)) same (a.0, a.1)
      | false ↦ λ d g. AllWithin-found r q p es x a.2 g
    ]) refl f

pub inside_of : (s : State) → Held s → (p : Ptr) (n : Node) → IsPairAt s p n → (side : Side) → key_of side n < length (ends_of side s)
inside_of s K p n t side = let w = AllWithin-found (length s.readers) (length s.points) p (entries s.cells) (n.reader, n.point) K.within t.entry in both_inside s n w.0 w.1 side
