-- A pair is linked: the top of the spare nodes comes behind the last of both lists.
use Rattle.std.proofs.Common.{◌≡◌, ◌≢◌, ℕ, suc, ◌+◌, ◌-◌, ◌<◌, Bool, true, false, cond, ◌==◌, List, [], ◌∷◌, ◌++◌, length, get_or, Option, Some, None, refl, sym, ap, ◌∙◌, subst, append-nil, arith}
use Rattle.std.specs.Prelude.{IsSome}
use Rattle.std.proofs.Math.ListN.{set, length-set}
use denote.RawPtr.{Ptr}
use Rattle.dep_list.specs.declared.node.Place.{Place}
use Rattle.dep_list.specs.declared.node.Link.{Link}
use Rattle.dep_list.specs.declared.node.Node.{Node}
use Rattle.dep_list.specs.declared.node.Ends.{Ends}
use Rattle.dep_list.specs.declared.node.Side.{Side}
use Rattle.dep_list.specs.declared.node.Side.TheVariants.{Reader, Point}
use Rattle.dep_list.specs.Cells.{same_ptr, find, take_out, places, values, without, pick, Absent, Apart}
use Rattle.dep_list.specs.Lists.{place, key_of, other_of, link_of, with_link, next_to, pair_if, step_if, below_if, entries, row, frees, last_or, IsRow, Stack, State, FoundIf, ends_of, ends_at, no_ends, Held, AllWithin, alter_if, pushed_ends, pushed}
use Rattle.dep_list.proofs.Places.{Apart-push, Apart-before, Absent-left, places-append, take_out-without, Absent-without_own, Apart-without, without-absent, pick-append, pick-without, Apart-pick, pick-hidden, picked, find-cut, without-cut}
use Rattle.dep_list.proofs.Rows.{Step, on_link, AbsentIf, places-alter_if, alter_if-absent, last_disjoint, pushed_row, IsRow-pushed, Stack-cut, LastCut, last_cut_at}
use Rattle.dep_list.proofs.Selections.{row-alter_if, row-alter_other, entries-alter_if, frees-next, step_none, step_some, rows_disjoint, row_frees_disjoint, last_found, found_in_row}
use Rattle.dep_list.proofs.EndsLemmas.{rows_set, AllWithin-push, length-push}

-- the top of the spare nodes
pub record IsTop (s : State) (p : Ptr) (n : Node) : Type 0 where
  pub found : find s.cells p ≡ Some n
  pub spare : n.linked ≡ false
  pub below : List (Ptr × Option Place)
  pub whole : frees s.cells ≡ below ++ (p, n.by_reader.next) ∷ []

below_shows : (b : Bool) (x y : Option Place) → cond b None (Some x) ≡ Some y → (b ≡ false) × (x ≡ y)
below_shows true x y e = cc
below_shows false x y e = (refl, let same : x ≡ y = cc in same)

pub top_from : (s : State) → Apart (places s.cells) → s.top ≡ last_or None (frees s.cells) → (q : Place) → s.top ≡ Some q → (n : Node) × IsTop s q.ptr n
top_from s apart top q e =
    let c = last_cut_at (frees s.cells) q (sym top ∙ e) in
    let a = subst (λ (fs : List (Ptr × Option Place)). Apart (places fs)) c.whole (Apart-pick below_if s.cells apart) in
    let at : find (frees s.cells) q.ptr ≡ Some c.value = ap (λ (fs : List (Ptr × Option Place)). find fs q.ptr) c.whole
    ∙ find-cut q.ptr c.before c.value [] (Apart-before (places c.before) q.ptr [] (subst Apart (places-append c.before ((q.ptr, c.value) ∷ [])) a)) in
    let f = picked below_if q.ptr s.cells c.value apart at in
    let shows = below_shows f.value.linked f.value.by_reader.next c.value f.shows in (
      f.value,
      record {
        found = f.found;
        spare = shows.0;
        below = c.before;
        whole = c.whole ∙ ap (λ (x : Option Place). c.before ++ (q.ptr, x) ∷ []) (sym shows.1);
      },
    )

pub top_is : (s : State) → Held s → (q : Place) → s.top ≡ Some q → (n : Node) × IsTop s q.ptr n
top_is s K = top_from s K.apart K.top

-- a top is there where nodes are spare
pub spare_top : (s : State) → Held s → 0 < s.spare → s.top ≡ None → ⊥
spare_top s K h e = no (frees s.cells) (sym K.top ∙ e) (let k = K.spare in omega arith)
  where
    some_last : (q : Place) (fs : List (Ptr × Option Place)) → last_or (Some q) fs ≡ None → ⊥
    some_last q [] e = cc
    some_last q (f ∷ fs) e = some_last (place f.0) fs e

    no : (fs : List (Ptr × Option Place)) → last_or None fs ≡ None → 0 < length fs → ⊥
    no [] e h = absurd (omega arith)
    no (f ∷ fs) e h = some_last (place f.0) fs e

pub top_again : (s : State) (p : Ptr) (m n : Node) → IsTop s p m → find s.cells p ≡ Some n → IsTop s p n
top_again s p m n t f = let same : m ≡ n = let e : Some m ≡ Some n = sym t.found ∙ f in cc in subst (IsTop s p) same t

pub top_of : (s : State) → Held s → (q : Place) → s.top ≡ Some q → (n : Node) → find s.cells q.ptr ≡ Some n → IsTop s q.ptr n
top_of s K q e n f = let t = top_is s K q e in top_again s q.ptr t.0 n t.1 f

module _ (s : State) (K : Held s) (p : Ptr) (n : Node) (t : IsTop s p n) (reader point : ℕ) where
  -- the node, linked behind the last of both lists
  abbrev pub node : Node
  node = record {
    linked = true;
    reader = reader;
    point = point;
    by_reader = record { prev = (ends_at Reader reader s).last; next = None };
    by_point = record { prev = (ends_at Point point s).last; next = None };
  }

  abbrev pub c1 : List (Ptr × Node)
  c1 = take_out s.cells p ++ (p, node) ∷ []

  abbrev pub s1 : State
  s1 = record s { cells = c1; top = n.by_reader.next; spare = s.spare - 1; count = s.count + 1 }

  abbrev pub s2 : State
  s2 = pushed Reader reader p s1

  abbrev pub s3 : State
  s3 = pushed Point point p s2

  abbrev last_at : Side → Option Place
  last_at side = (ends_at side (key_of side node) s).last

  abbrev lead_on : Side → List (Ptr × Node) → List (Ptr × Node)
  lead_on side cs = alter_if (with_link side (next_to (Some (place p)))) (last_at side) cs

  abbrev c3 : List (Ptr × Node)
  c3 = lead_on Point (lead_on Reader c1)

  c1_is : c1 ≡ without p s.cells ++ (p, node) ∷ []
  c1_is = ap (λ (cs : List (Ptr × Node)). cs ++ (p, node) ∷ []) (take_out-without p s.cells K.apart)

  pub apart1 : Apart (places c1)
  apart1 = subst (λ (cs : List (Ptr × Node)). Apart (places cs)) (sym c1_is) (subst Apart (sym (places-append (without p s.cells) ((p, node) ∷ [])))
      (Apart-push (places (without p s.cells)) p (Apart-without p s.cells K.apart) (Absent-without_own p s.cells)))

  hidden : (side : Side) (k : ℕ) → Absent p (places (row side k s.cells))
  hidden side k = pick-hidden (step_if side k) p s.cells n K.apart t.found (ap (λ (b : Bool). cond (Rattle.std.specs.Prelude.◌&&◌ b (key_of side n == k)) (Some (other_of side n, link_of side n)) None) t.spare)

  row1 : (side : Side) (k : ℕ) → row side k c1 ≡ row side k s.cells ++ row side k ((p, node) ∷ [])
  row1 side k = ap (row side k) c1_is ∙ pick-append (step_if side k) (without p s.cells) ((p, node) ∷ [])
      ∙ ap (λ (r : List (Ptr × Step)). r ++ row side k ((p, node) ∷ [])) (pick-without (step_if side k) p s.cells ∙ without-absent p (row side k s.cells) (hidden side k))

  entries1 : entries c1 ≡ entries s.cells ++ (p, (reader, point)) ∷ []
  entries1 = ap entries c1_is ∙ pick-append pair_if (without p s.cells) ((p, node) ∷ [])
      ∙ ap (λ (es : List (Ptr × (ℕ × ℕ))). es ++ (p, (reader, point)) ∷ []) (pick-without pair_if p s.cells
      ∙ without-absent p (entries s.cells) (pick-hidden pair_if p s.cells n K.apart t.found (ap (λ (b : Bool). cond b (Some (n.reader, n.point)) None) t.spare)))

  frees1 : frees c1 ≡ t.below
  frees1 =
      let a = subst (λ (fs : List (Ptr × Option Place)). Apart (places fs)) t.whole (Apart-pick below_if s.cells K.apart) in
      ap frees c1_is ∙ pick-append below_if (without p s.cells) ((p, node) ∷ []) ∙ append-nil (frees (without p s.cells)) ∙ pick-without below_if p s.cells
      ∙ ap (without p) t.whole ∙ without-cut p t.below n.by_reader.next [] a ∙ append-nil t.below

  module _ (inside : (side : Side) → key_of side node < length (ends_of side s)) where
    last_is : (side : Side) → last_at side ≡ last_or None (row side (key_of side node) s.cells)
    last_is side = (K.rows side (key_of side node) (inside side)).last

    -- the last of both lists is there
    pub last_there : (side : Side) → FoundIf (last_at side) c1
    last_there side = found_in_row side (key_of side node) c1 apart1 (last_at side)
        (subst (λ (r : List (Ptr × Step)). FoundIf (last_at side) r) (sym (row1 side (key_of side node)))
        (subst (λ (o : Option Place). FoundIf o (row side (key_of side node) s.cells ++ row side (key_of side node) ((p, node) ∷ []))) (sym (last_is side))
        (last_found (row side (key_of side node) s.cells) (row side (key_of side node) ((p, node) ∷ [])))))

    last_absent : (side : Side) (ps : List Ptr) → Rattle.dep_list.proofs.Rows.Disjoint (places (row side (key_of side node) s.cells)) ps → AbsentIf (last_at side) ps
    last_absent side ps d = subst (λ (o : Option Place). AbsentIf o ps) (sym (last_is side)) (last_disjoint None (row side (key_of side node) s.cells) ps d tt)

    row_own : (side : Side) → IsRow (pushed_ends p (ends_at side (key_of side node) s)) (alter_if (on_link (next_to (Some (place p)))) (last_at side) (row side (key_of side node) c1))
    row_own side =
        let r = row side (key_of side node) s.cells in
        let own : row side (key_of side node) ((p, node) ∷ []) ≡ (p, (other_of side node, record { prev = last_at side; next = None })) ∷ [] =
        ap (λ (o : Option Step). Rattle.dep_list.specs.Cells.add p o []) (step_some side node refl ∙ ap (λ (l : Link). Some (other_of side node, l)) (link_is side)) in
        subst (λ (q : List (Ptr × Step)). IsRow (pushed_ends p (ends_at side (key_of side node) s)) (alter_if (on_link (next_to (Some (place p)))) (last_at side) q))
        (sym (row1 side (key_of side node) ∙ ap (λ (q : List (Ptr × Step)). r ++ q) own))
        (IsRow-pushed (ends_at side (key_of side node) s) r p (other_of side node) (K.rows side (key_of side node) (inside side)) (Apart-pick (step_if side (key_of side node)) s.cells K.apart) (hidden side (key_of side node)))
      where
        link_is : (side : Side) → link_of side node ≡ record { prev = last_at side; next = None }
        link_is Reader = refl
        link_is Point = refl

    row_other : (side : Side) (k : ℕ) → k ≢ key_of side node → alter_if (on_link (next_to (Some (place p)))) (last_at side) (row side k c1) ≡ row side k s.cells
    row_other side k differ =
        let none : row side k ((p, node) ∷ []) ≡ [] = ap (λ (o : Option Step). Rattle.dep_list.specs.Cells.add p o []) (step_none side k node (λ same. differ (sym same))) in
        ap (alter_if (on_link (next_to (Some (place p)))) (last_at side)) (row1 side k ∙ ap (λ (q : List (Ptr × Step)). row side k s.cells ++ q) none ∙ append-nil (row side k s.cells))
        ∙ alter_if-absent (on_link (next_to (Some (place p)))) (last_at side) (row side k s.cells)
        (last_absent side (places (row side k s.cells)) (rows_disjoint side (key_of side node) k (λ same. differ (sym same)) s.cells K.apart))

    row3 : (side : Side) (k : ℕ) → row side k c3 ≡ alter_if (on_link (next_to (Some (place p)))) (last_at side) (row side k c1)
    row3 Reader k = row-alter_other Reader k (next_to (Some (place p))) (last_at Point) (lead_on Reader c1) ∙ row-alter_if Reader k (next_to (Some (place p))) (last_at Reader) c1
    row3 Point k = row-alter_if Point k (next_to (Some (place p))) (last_at Point) (lead_on Reader c1)
        ∙ ap (alter_if (on_link (next_to (Some (place p)))) (last_at Point)) (row-alter_other Point k (next_to (Some (place p))) (last_at Reader) c1)

    ends3 : (side : Side) → ends_of side s3 ≡ set (ends_of side s) (key_of side node) (pushed_ends p (ends_at side (key_of side node) s))
    ends3 Reader = refl
    ends3 Point = refl

    rows3 : (side : Side) (k : ℕ) → k < length (ends_of side s3) → IsRow (ends_at side k s3) (row side k c3)
    rows3 side k h =
        let e = pushed_ends p (ends_at side (key_of side node) s) in let es = set (ends_of side s) (key_of side node) e in
        let h' : k < length es = subst (λ (l : List Ends). k < length l) (ends3 side) h in
        subst (λ (l : List Ends). IsRow (get_or l k no_ends) (row side k c3)) (sym (ends3 side))
        (subst (IsRow (get_or es k no_ends)) (sym (row3 side k))
        (rows_set (ends_of side s) (key_of side node) e (λ j. row side j s.cells) (λ j. alter_if (on_link (next_to (Some (place p)))) (last_at side) (row side j c1)) (inside side)
        (K.rows side) (row_own side) (row_other side) k h'))

    frees3 : frees c3 ≡ t.below
    frees3 =
        let away : (side : Side) → AbsentIf (last_at side) (places (frees c1)) = λ side. subst (λ (fs : List (Ptr × Option Place)). AbsentIf (last_at side) (places fs)) (sym frees1)
        (part (last_at side) (subst (AbsentIf (last_at side)) (ap places t.whole ∙ places-append t.below ((p, n.by_reader.next) ∷ []))
        (last_absent side (places (frees s.cells)) (row_frees_disjoint side (key_of side node) s.cells K.apart)))) in
        let first = frees-next Reader (Some (place p)) (last_at Reader) c1 (away Reader) in
        frees-next Point (Some (place p)) (last_at Point) (lead_on Reader c1) (subst (λ (fs : List (Ptr × Option Place)). AbsentIf (last_at Point) (places fs)) (sym first) (away Point))
        ∙ first ∙ frees1
      where
        part : (o : Option Place) → AbsentIf o (places t.below ++ p ∷ []) → AbsentIf o (places t.below)
        part None a = tt
        part (Some q) a = Absent-left q.ptr (places t.below) (p ∷ []) a

    pub entries3 : entries c3 ≡ entries s.cells ++ (p, (reader, point)) ∷ []
    entries3 = entries-alter_if Point (next_to (Some (place p))) (last_at Point) (lead_on Reader c1) ∙ entries-alter_if Reader (next_to (Some (place p))) (last_at Reader) c1 ∙ entries1

    length3 : (side : Side) → length (ends_of side s3) ≡ length (ends_of side s)
    length3 side = ap length (ends3 side) ∙ length-set (ends_of side s) (key_of side node) (pushed_ends p (ends_at side (key_of side node) s))

    pub link_kept : Held s3
    link_kept =
        let k1 = K.spare in let k2 = K.count in let k3 = K.small in
        let some : length (frees s.cells) ≡ suc (length t.below) = ap length t.whole ∙ length-push t.below (p, n.by_reader.next) in
        let more = length-push (entries s.cells) (p, (reader, point)) in
        let st = Stack-cut None t.below p n.by_reader.next [] (subst (Stack None) t.whole K.stack) in
        record {
          apart = subst Apart (sym (places-alter_if (with_link Point (next_to (Some (place p)))) (last_at Point) (lead_on Reader c1) ∙ places-alter_if (with_link Reader (next_to (Some (place p)))) (last_at Reader) c1)) apart1;
          rows = rows3;
          within = subst (AllWithin (length s3.readers) (length s3.points)) (sym entries3)
              (subst (λ (m : ℕ). AllWithin m (length s3.points) (entries s.cells ++ (p, (reader, point)) ∷ [])) (sym (length3 Reader))
              (subst (λ (m : ℕ). AllWithin (length s.readers) m (entries s.cells ++ (p, (reader, point)) ∷ [])) (sym (length3 Point))
              (AllWithin-push (length s.readers) (length s.points) (entries s.cells) (p, (reader, point)) K.within (inside Reader) (inside Point))));
          stack = subst (Stack None) (sym frees3) st.0;
          top = st.1 ∙ sym (ap (last_or None) frees3);
          spare = let e : s.spare - 1 ≡ length t.below = omega arith in e ∙ sym (ap length frees3);
          count = let e : s.count + 1 ≡ length (entries s.cells ++ (p, (reader, point)) ∷ []) = omega arith in e ∙ sym (ap length entries3);
          small = omega arith;
        }

-- the node as the code writes it
pub written : (s : State) (K : Held s) (p : Ptr) (n : Node) (t : IsTop s p n) (reader point : ℕ) (e f : Ends) (cs : List (Ptr × Node)) → e ≡ ends_at Reader reader s → f ≡ ends_at Point point s
    → cs ≡ take_out s.cells p ++ (p, record { linked = true; reader = reader; point = point; by_reader = record { prev = e.last; next = None }; by_point = record { prev = f.last; next = None } }) ∷ []
    → cs ≡ c1 s K p n t reader point
written s K p n t reader point e f cs d d' w = w ∙ (λ i. take_out s.cells p ++ (
  p,
  record {
    linked = true;
    reader = reader;
    point = point;
    by_reader = record { prev = (d i).last; next = None };
    by_point = record { prev = (d' i).last; next = None };
  },
) ∷ [])
