-- What the change of one node's neighbours does to the rows, the pairs and the spare nodes.
use Rattle.std.proofs.Common.{◌≡◌, ◌≢◌, ℕ, Bool, true, false, cond, ◌&&◌, ◌==◌, List, [], ◌∷◌, ◌++◌, Option, Some, None, option_map, refl, sym, ap, ◌∙◌, subst, T, eqb→eq}
use Rattle.std.specs.Prelude.{IsSome}
use lib.Dec.{eqb_refl}
use denote.RawPtr.{Ptr}
use Rattle.dep_list.specs.declared.node.Place.{Place}
use Rattle.dep_list.specs.declared.node.Link.{Link}
use Rattle.dep_list.specs.declared.node.Node.{Node}
use Rattle.dep_list.specs.declared.node.Side.{Side}
use Rattle.dep_list.specs.declared.node.Side.TheVariants.{Reader, Point}
use Rattle.dep_list.specs.Cells.{find, places, add, pick, Absent, Apart}
use Rattle.dep_list.specs.Lists.{place, key_of, other_of, link_of, with_link, next_to, prev_to, pair_if, step_if, below_if, entries, row, frees, first_or, last_or, alter_if, FoundIf}
use Rattle.dep_list.proofs.Places.{alter-id, pick-alter, Absent-pick, picked, found-append_right, found-alter, found_first}
use Rattle.dep_list.proofs.Rows.{Step, on_link, AbsentIf, Disjoint, Disjoint-push, alter_if-absent}

abbrev pub opposite : Side → Side
opposite Reader = Point
opposite Point = Reader

-- ---- what a node shows, when its neighbours on a side change

shown_if : {B : Type 0} (h : B → B) (b : Bool) (x : B) → cond b (Some (h x)) None ≡ option_map h (cond b (Some x) None)
shown_if h true x = refl
shown_if h false x = refl

step_same : (side : Side) (k : ℕ) (g : Link → Link) (n : Node) → step_if side k (with_link side g n) ≡ option_map (on_link g) (step_if side k n)
step_same Reader k g n = shown_if (on_link g) (n.linked && (n.reader == k)) (n.point, n.by_reader)
step_same Point k g n = shown_if (on_link g) (n.linked && (n.point == k)) (n.reader, n.by_point)

step_other : (side : Side) (k : ℕ) (g : Link → Link) (n : Node) → step_if side k (with_link (opposite side) g n) ≡ option_map (λ x. x) (step_if side k n)
step_other Reader k g n = shown_if (λ x. x) (n.linked && (n.reader == k)) (n.point, n.by_reader)
step_other Point k g n = shown_if (λ x. x) (n.linked && (n.point == k)) (n.reader, n.by_point)

pair_same : (side : Side) (g : Link → Link) (n : Node) → pair_if (with_link side g n) ≡ option_map (λ x. x) (pair_if n)
pair_same Reader g n = shown_if (λ x. x) n.linked (n.reader, n.point)
pair_same Point g n = shown_if (λ x. x) n.linked (n.reader, n.point)

below_shown : (h : Option Place → Option Place) (b : Bool) (x : Option Place) → cond b None (Some (h x)) ≡ option_map h (cond b None (Some x))
below_shown h true x = refl
below_shown h false x = refl

abbrev below_change : Side → (Option Place → Option Place) → Option Place → Option Place
below_change Reader h x = h x
below_change Point h x = x

below_change_shown : (side : Side) (g : Link → Link) (h : Option Place → Option Place) → ((l : Link) → (g l).next ≡ h l.next) → (n : Node) → below_if (with_link side g n) ≡ option_map (below_change side h) (below_if n)
below_change_shown Reader g h s n = ap (λ (x : Option Place). cond n.linked None (Some x)) (s n.by_reader) ∙ below_shown h n.linked n.by_reader.next
below_change_shown Point g h s n = below_shown (λ x. x) n.linked n.by_reader.next

-- ---- what lists show

pub row-alter_if : (side : Side) (k : ℕ) (g : Link → Link) (o : Option Place) (cs : List (Ptr × Node)) → row side k (alter_if (with_link side g) o cs) ≡ alter_if (on_link g) o (row side k cs)
row-alter_if side k g None cs = refl
row-alter_if side k g (Some q) cs = pick-alter (step_if side k) (with_link side g) (on_link g) (step_same side k g) q.ptr cs

pub row-alter_other : (side : Side) (k : ℕ) (g : Link → Link) (o : Option Place) (cs : List (Ptr × Node)) → row side k (alter_if (with_link (opposite side) g) o cs) ≡ row side k cs
row-alter_other side k g None cs = refl
row-alter_other side k g (Some q) cs = pick-alter (step_if side k) (with_link (opposite side) g) (λ x. x) (step_other side k g) q.ptr cs ∙ alter-id q.ptr (row side k cs)

pub entries-alter_if : (side : Side) (g : Link → Link) (o : Option Place) (cs : List (Ptr × Node)) → entries (alter_if (with_link side g) o cs) ≡ entries cs
entries-alter_if side g None cs = refl
entries-alter_if side g (Some q) cs = pick-alter pair_if (with_link side g) (λ x. x) (pair_same side g) q.ptr cs ∙ alter-id q.ptr (entries cs)

frees_alter_if : (side : Side) (g : Link → Link) (h : Option Place → Option Place) → ((l : Link) → (g l).next ≡ h l.next) → (o : Option Place) (cs : List (Ptr × Node)) → AbsentIf o (places (frees cs)) → frees (alter_if (with_link side g) o cs) ≡ frees cs
frees_alter_if side g h s None cs a = refl
frees_alter_if side g h s (Some q) cs a = pick-alter below_if (with_link side g) (below_change side h) (below_change_shown side g h s) q.ptr cs ∙ alter_if-absent (below_change side h) (Some q) (frees cs) a

pub frees-next : (side : Side) (to : Option Place) (o : Option Place) (cs : List (Ptr × Node)) → AbsentIf o (places (frees cs)) → frees (alter_if (with_link side (next_to to)) o cs) ≡ frees cs
frees-next side to o cs a = frees_alter_if side (next_to to) (λ _. to) (λ l. refl) o cs a

pub frees-prev : (side : Side) (to : Option Place) (o : Option Place) (cs : List (Ptr × Node)) → AbsentIf o (places (frees cs)) → frees (alter_if (with_link side (prev_to to)) o cs) ≡ frees cs
frees-prev side to o cs a = frees_alter_if side (prev_to to) (λ x. x) (λ l. refl) o cs a

-- ---- two selections of which no value shows both

module _ {A B C : Type 0} (f : A → Option B) (g : A → Option C) (apart : (x : A) (y : B) → f x ≡ Some y → g x ≡ None) where
  disjoint_step : (x : Ptr × A) (o : Option B) (o' : Option C) (ys : List (Ptr × B)) (zs : List (Ptr × C)) → f x.1 ≡ o → g x.1 ≡ o'
      → Absent x.0 (places ys) → Absent x.0 (places zs) → Disjoint (places ys) (places zs) → Disjoint (places (add x.0 o ys)) (places (add x.0 o' zs))
  disjoint_step x None None ys zs e e' a b d = d
  disjoint_step x None (Some z) ys zs e e' a b d = Disjoint-push (places ys) x.0 (places zs) a d
  disjoint_step x (Some y) None ys zs e e' a b d = (b, d)
  disjoint_step x (Some y) (Some z) ys zs e e' a b d = let no : None ≡ Some z = sym (apart x.1 y e) ∙ e' in cc

  pub pick-disjoint : (xs : List (Ptr × A)) → Apart (places xs) → Disjoint (places (pick f xs)) (places (pick g xs))
  pick-disjoint [] a = tt
  pick-disjoint (x ∷ xs) a = disjoint_step x (f x.1) (g x.1) (pick f xs) (pick g xs) refl refl (Absent-pick f x.0 xs a.0) (Absent-pick g x.0 xs a.0) (pick-disjoint xs a.1)

both_true : (b c : Bool) (y : Step) (z : Step) → cond (b && c) (Some y) None ≡ Some z → (b ≡ true) × (c ≡ true)
both_true true true y z e = (refl, refl)
both_true true false y z e = cc
both_true false c y z e = cc

pub step_linked : (side : Side) (k : ℕ) (n : Node) (y : Step) → step_if side k n ≡ Some y → (n.linked ≡ true) × ((key_of side n == k) ≡ true)
step_linked side k n y e = both_true n.linked (key_of side n == k) (other_of side n, link_of side n) y e

true_of : (b : Bool) → b ≡ true → T b
true_of true e = tt
true_of false e = cc

pub key_is : (side : Side) (k : ℕ) (n : Node) (y : Step) → step_if side k n ≡ Some y → key_of side n ≡ k
key_is side k n y e = eqb→eq (key_of side n) k (true_of (key_of side n == k) (step_linked side k n y e).1)

false_of : (k j : ℕ) → k ≢ j → (k == j) ≡ false
false_of k j n = (elim (k == j) as (λ b. (k == j) ≡ b → (k == j) ≡ false) [
  | true ↦ λ e. absurd (n (eqb→eq k j (true_of (k == j) e)))
  | false ↦ λ e. e
]) refl

not_both : (b c : Bool) (y : Step) → c ≡ false → cond (b && c) (Some y) None ≡ None
not_both true c y e = λ i. cond (e i) (Some y) None
not_both false c y e = refl

pub step_none : (side : Side) (k : ℕ) (n : Node) → key_of side n ≢ k → step_if side k n ≡ None
step_none side k n e = not_both n.linked (key_of side n == k) (other_of side n, link_of side n) (false_of (key_of side n) k e)

true_bool : (b : Bool) → T b → b ≡ true
true_bool true t = refl
true_bool false t = absurd t

pub step_some : (side : Side) (n : Node) → n.linked ≡ true → step_if side (key_of side n) n ≡ Some (other_of side n, link_of side n)
step_some side n e = λ i. cond (e i && true_bool (key_of side n == key_of side n) (eqb_refl (key_of side n)) i) (Some (other_of side n, link_of side n)) None

pub rows_disjoint : (side : Side) (k j : ℕ) → k ≢ j → (cs : List (Ptr × Node)) → Apart (places cs) → Disjoint (places (row side k cs)) (places (row side j cs))
rows_disjoint side k j differ cs a = pick-disjoint (step_if side k) (step_if side j) (λ n y e. step_none side j n (λ same. differ (sym (key_is side k n y e) ∙ same))) cs a

pub row_frees_disjoint : (side : Side) (k : ℕ) (cs : List (Ptr × Node)) → Apart (places cs) → Disjoint (places (row side k cs)) (places (frees cs))
row_frees_disjoint side k cs a = pick-disjoint (step_if side k) below_if (λ n y e. ap (λ (b : Bool). cond b None (Some n.by_reader.next)) (step_linked side k n y e).0) cs a

-- ---- what a node out of a row leads to is there

last_found_at : {A : Type 0} (x : Ptr × A) (xs ys : List (Ptr × A)) → FoundIf (last_or (Some (place x.0)) xs) ((x ∷ xs) ++ ys)
last_found_at x [] ys = found_first x ys
last_found_at {A} x (w ∷ ws) ys = found_if (last_or (Some (place w.0)) ws) (last_found_at w ws ys)
  where
    found_if : (o : Option Place) → FoundIf o ((w ∷ ws) ++ ys) → FoundIf o (x ∷ ((w ∷ ws) ++ ys))
    found_if None h = tt
    found_if (Some q) h = found-append_right (x ∷ []) ((w ∷ ws) ++ ys) q.ptr h

pub last_found : {A : Type 0} (us vs : List (Ptr × A)) → FoundIf (last_or None us) (us ++ vs)
last_found [] vs = tt
last_found (u ∷ us) vs = last_found_at u us vs

pub first_found : {A : Type 0} (us vs : List (Ptr × A)) → FoundIf (first_or None vs) (us ++ vs)
first_found us [] = tt
first_found us (v ∷ vs) = found-append_right us (v ∷ vs) v.0 (found_first v vs)

some_of : {A : Type 0} (o : Option A) → IsSome o → (x : A) × (o ≡ Some x)
some_of None h = cc
some_of (Some x) h = (x, refl)

pub found_in_row : (side : Side) (k : ℕ) (cs : List (Ptr × Node)) → Apart (places cs) → (o : Option Place) → FoundIf o (row side k cs) → FoundIf o cs
found_in_row side k cs a None h = tt
found_in_row side k cs a (Some q) h =
    let s = some_of (find (row side k cs) q.ptr) h in
    let f = (picked (step_if side k) q.ptr cs s.0 a s.1).found in subst (λ (o : Option Node). IsSome o) (sym f) refl

pub found_alter_if : {A : Type 0} (g : A → A) (o' : Option Place) (cs : List (Ptr × A)) (o : Option Place) → FoundIf o cs → FoundIf o (alter_if g o' cs)
found_alter_if g None cs o h = h
found_alter_if g (Some p) cs None h = tt
found_alter_if g (Some p) cs (Some q) h = found-alter g p.ptr cs q.ptr h
