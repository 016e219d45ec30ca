-- Members on circles of links, and their faults.
use Rattle.std.proofs.Common.{◌≡◌, ℕ, zero, suc, Bool, true, false, List, [], ◌∷◌, ◌++◌, ◌+◌, ◌<◌, ◌≤◌, length, map, Option, Some, None, Contains, inl, inr, refl, sym, ◌∙◌, ap, subst, arith}
use Rattle.std.specs.Prelude.{slice_get, if◌then◌else◌, nat_lt, ◌⊎◌, ◌↔◌}
use Rattle.std.proofs.lemmas.List.Elements.{Contains-append_cases, Contains-append_left, Contains-append_right, Contains-push_cases}
use Rattle.slint_base.specs.declared.faults.Fault.{Fault}
use Rattle.finite_graphs.specs.declared.edge.Edge.{Edge}
use Rattle.finite_graphs.specs.Circles.{AreCircles}
use Rattle.finite_graphs.specs.Graphs.{Drawn, Leads, edge}
use Rattle.finite_graphs.specs.Walks.{At, In, OnCircle, first, next, here, there}
use Rattle.fault_order.specs.Order.{FirstIfAny, first_of}
use Rattle.fault_order.proofs.First.{FirstIfAny-first_of, FirstIfAny-map}
use Rattle.import_resolver.specs.Loaded.{FileRow}
use Rattle.typed_tree.specs.declared.outlines.Outline.{Outline}
use Rattle.source_outline.specs.declared.followers.Follower.{Follower}
use Rattle.source_outline.specs.Ends.{edge_to, edges_from, link_edges}
use Rattle.source_outline.specs.Following.{EndlessIn, EndlessLink, endless, filled, followers_in, kinds_of, nexts_of, outline, refilled}
use Rattle.source_outline.specs.Marked.{marked_from, told_if}
use Rattle.source_outline.specs.Members.{in_front}
use Rattle.source_outline.specs.Outlines.{rough_outline}

-- ---- lists

none_in : {A : Type 0} (f : A) → Contains [] f → ⊥
none_in f c = omega (arith, c.1)

only_here : {A : Type 0} (f g : A) → Contains (f ∷ []) g → g ≡ f
only_here f g c = by (Contains-push_cases [] f g c)
  where
    by : Contains [] g ⊎ (f ≡ g) → g ≡ f
    by (inl a) = absurd (none_in g a)
    by (inr e) = sym e

apart : {A : Type 0} (f : A) (fs : List A) (x : A) → Contains (f ∷ fs) x → (x ≡ f) ⊎ Contains fs x
apart f fs x c = by (Contains-append_cases (f ∷ []) fs x c)
  where
    by : Contains (f ∷ []) x ⊎ Contains fs x → (x ≡ f) ⊎ Contains fs x
    by (inl a) = inl (only_here f x a)
    by (inr a) = inr a

at_read : {A : Type 0} (xs : List A) (i : ℕ) (x : A) → slice_get xs i ≡ Some x → At x xs i
at_read [] i x e = cc
at_read {A} (y ∷ xs) zero x e = let same : y ≡ x = cc in let P : A → Type 0 = λ z. At z (y ∷ xs) 0 in subst P same first
at_read (y ∷ xs) (suc i) x e = next (at_read xs i x e)

there_is : {A : Type 0} (xs : List A) (i : ℕ) → i < length xs → (x : A) × (slice_get xs i ≡ Some x)
there_is [] i h = absurd (omega arith)
there_is (x ∷ xs) zero h = (x, refl)
there_is (x ∷ xs) (suc i) h = there_is xs i (omega arith)

-- ---- marks and faults

pub record MarkedAt (marks : List Bool) (i : ℕ) (xs : List Follower) (f : Fault) : Type 0 where
  pub place : ℕ
  pub mark : slice_get marks (i + place) ≡ Some true
  pub told : slice_get (map endless xs) place ≡ Some f

marked_here : (marks : List Bool) (i : ℕ) (x : Follower) (xs : List Follower) (f : Fault) → slice_get marks i ≡ Some true → f ≡ endless x → MarkedAt marks i (x ∷ xs) f
marked_here marks i x xs f m e = let z : i + 0 ≡ i = omega arith in record { place = 0; mark = ap (slice_get marks) z ∙ m; told = ap (λ g. Some g) (sym e) }

marked_there : (marks : List Bool) (i : ℕ) (x : Follower) (xs : List Follower) (f : Fault) → MarkedAt marks (suc i) xs f → MarkedAt marks i (x ∷ xs) f
marked_there marks i x xs f m = let z : i + suc m.place ≡ suc i + m.place = omega arith in record { place = suc m.place; mark = ap (slice_get marks) z ∙ m.mark; told = m.told }

sound_by : (marks : List Bool) (i : ℕ) (x : Follower) (xs : List Follower) (f : Fault) (m : Option Bool) → slice_get marks i ≡ m → (Contains (marked_from marks (suc i) xs) f → MarkedAt marks (suc i) xs f)
    → Contains (in_front (told_if m x) (marked_from marks (suc i) xs)) f → MarkedAt marks i (x ∷ xs) f
sound_by marks i x xs f None e more c = marked_there marks i x xs f (more c)
sound_by marks i x xs f (Some false) e more c = marked_there marks i x xs f (more c)
sound_by marks i x xs f (Some true) e more c = by (apart (endless x) (marked_from marks (suc i) xs) f c)
  where
    by : (f ≡ endless x) ⊎ Contains (marked_from marks (suc i) xs) f → MarkedAt marks i (x ∷ xs) f
    by (inl is) = marked_here marks i x xs f e is
    by (inr d) = marked_there marks i x xs f (more d)

sound : (marks : List Bool) (i : ℕ) (xs : List Follower) (f : Fault) → Contains (marked_from marks i xs) f → MarkedAt marks i xs f
sound marks i [] f c = absurd (none_in f c)
sound marks i (x ∷ xs) f c = sound_by marks i x xs f (slice_get marks i) refl (sound marks (suc i) xs f) c

pass : (t : Option Fault) (fs : List Fault) (f : Fault) → Contains fs f → Contains (in_front t fs) f
pass None fs f c = c
pass (Some g) fs f c = Contains-append_right (g ∷ []) fs f c

complete : (marks : List Bool) (i : ℕ) (xs : List Follower) (f : Fault) (j : ℕ) → slice_get marks (i + j) ≡ Some true → slice_get (map endless xs) j ≡ Some f → Contains (marked_from marks i xs) f
complete marks i [] f j m t = cc
complete marks i (x ∷ xs) f zero m t =
    let z : i ≡ i + 0 = omega arith in
    let P : Option Bool → Type 0 = λ o. Contains (in_front (told_if o x) (marked_from marks (suc i) xs)) f in
    subst P (sym (ap (slice_get marks) z ∙ m)) (Contains-append_left (endless x ∷ []) (marked_from marks (suc i) xs) f (0, omega arith, (let e : endless x ≡ f = cc in e)))
complete marks i (x ∷ xs) f (suc j) m t =
    let z : suc i + j ≡ i + suc j = omega arith in
    pass (told_if (slice_get marks i) x) (marked_from marks (suc i) xs) f (complete marks (suc i) xs f j (ap (slice_get marks) z ∙ m) t)

-- ---- edges lie between members

in_none : {A : Type 0} {x : A} → In x [] → ⊥
in_none h = elim h [ ]

in_more : {A : Type 0} {x y : A} {xs : List A} → In x (y ∷ xs) → (x ≡ y) ⊎ In x xs
in_more here = inl refl
in_more (there h) = inr h

edge_from : (n i : ℕ) (o : Option ℕ) (es : List Edge) (e : Edge) → In e (edge_to n i o ++ es) → (e.from ≡ i) ⊎ In e es
edge_from n i None es e h = inr h
edge_from n i (Some j) es e h = by (nat_lt j n) h
  where
    apart_from : (e ≡ edge i j) ⊎ In e es → (e.from ≡ i) ⊎ In e es
    apart_from (inl same) = inl (ap (λ (x : Edge). x.from) same)
    apart_from (inr k) = inr k

    by : (b : Bool) → In e ((if b then edge i j ∷ [] else []) ++ es) → (e.from ≡ i) ⊎ In e es
    by false k = inr k
    by true k = apart_from (in_more k)

within_by : (n i : ℕ) (o : Option ℕ) (nexts : List (Option ℕ)) (e : Edge) → (In e (edges_from n (suc i) nexts) → e.from < suc i + length nexts)
    → (e.from ≡ i) ⊎ In e (edges_from n (suc i) nexts) → e.from < i + suc (length nexts)
within_by n i o nexts e later (inl is) = omega arith
within_by n i o nexts e later (inr k) = let l : e.from < suc i + length nexts = later k in omega arith

from_within : (n i : ℕ) (nexts : List (Option ℕ)) (e : Edge) → In e (edges_from n i nexts) → e.from < i + length nexts
from_within n i [] e h = absurd (in_none h)
from_within n i (o ∷ nexts) e h = within_by n i o nexts e (from_within n (suc i) nexts e) (edge_from n i o (edges_from n (suc i) nexts) e h)

on_circle_within : (nexts : List (Option ℕ)) (a : ℕ) → OnCircle (Leads (link_edges nexts)) a → a < length nexts
on_circle_within nexts a c = let l : a < 0 + length nexts = from_within (length nexts) 0 nexts (edge a c.next) c.leads.drawn in omega arith

-- ---- the first of them

-- where just the members on circles are marked
pub first_by_marks : (xs : List Follower) (nexts : List (Option ℕ)) (marks : List Bool)
    → ((i : ℕ) → slice_get marks i ≡ Some true → OnCircle (Leads (link_edges nexts)) i)
    → ((i : ℕ) → i < length nexts → OnCircle (Leads (link_edges nexts)) i → slice_get marks i ≡ Some true)
    → FirstIfAny (EndlessIn xs nexts) (first_of (marked_from marks 0 xs))
first_by_marks xs nexts marks marked marks_it =
    FirstIfAny-map (λ f. Contains (marked_from marks 0 xs) f) (EndlessIn xs nexts) (first_of (marked_from marks 0 xs)) to from (FirstIfAny-first_of (marked_from marks 0 xs))
  where
    to : (f : Fault) → Contains (marked_from marks 0 xs) f → EndlessIn xs nexts f
    to f c = let m = sound marks 0 xs f c in let z : m.place ≡ 0 + m.place = omega arith in
        record { member = m.place; circle = marked m.place (ap (slice_get marks) z ∙ m.mark); told = m.told }

    from : (f : Fault) → EndlessIn xs nexts f → Contains (marked_from marks 0 xs) f
    from f e =
        let z : 0 + e.member ≡ e.member = omega arith in
        complete marks 0 xs f e.member (ap (slice_get marks) z ∙ marks_it e.member (on_circle_within nexts e.member e.circle) e.circle) e.told

pub first_endless : (xs : List Follower) (nexts : List (Option ℕ)) (graph : Drawn) (marks edges : List Bool) (o : Option Fault)
    → graph ≡ record { nodes = length nexts; edges = link_edges nexts } → AreCircles graph marks edges → o ≡ first_of (marked_from marks 0 xs) → FirstIfAny (EndlessIn xs nexts) o
first_endless xs nexts graph marks edges o drawn circles is =
    let P : Option Fault → Type 0 = λ x. FirstIfAny (EndlessIn xs nexts) x in
    subst P (sym is) (first_by_marks xs nexts marks marked marks_it)
  where
    whole : Drawn
    whole = record { nodes = length nexts; edges = link_edges nexts }

    right : AreCircles whole marks edges
    right = subst (λ g. AreCircles g marks edges) drawn circles

    marked : (i : ℕ) → slice_get marks i ≡ Some true → OnCircle (Leads (link_edges nexts)) i
    marked i m = (right.node_marked i true (at_read marks i true m)).0 refl

    marks_it : (i : ℕ) → i < length nexts → OnCircle (Leads (link_edges nexts)) i → slice_get marks i ≡ Some true
    marks_it i l c =
        let s : length marks ≡ length nexts = right.nodes_sized in
        let m = there_is marks i (omega arith) in
        m.1 ∙ ap (λ b. Some b) ((right.node_marked i m.0 (at_read marks i m.0 m.1)).1 c)

-- ---- of a source

pub of_source : (rows : List FileRow) (rough : Outline) (xs : List Follower) (nexts : List (Option ℕ)) (o : Option Fault)
    → rough ≡ rough_outline rows → xs ≡ followers_in rough rows → nexts ≡ nexts_of rough xs → FirstIfAny (EndlessIn xs nexts) o → FirstIfAny (EndlessLink rows) o
of_source rows rough xs nexts o is xs_is nexts_is p =
    let xs_there : xs ≡ followers_in (rough_outline rows) rows = xs_is ∙ ap (λ r. followers_in r rows) is in
    let nexts_there : nexts ≡ nexts_of (rough_outline rows) (followers_in (rough_outline rows) rows) = nexts_is ∙ ap (λ r. nexts_of r xs) is ∙ ap (nexts_of (rough_outline rows)) xs_there in
    subst (λ ys. FirstIfAny (EndlessIn ys (nexts_of (rough_outline rows) (followers_in (rough_outline rows) rows))) o) xs_there (subst (λ ns. FirstIfAny (EndlessIn xs ns) o) nexts_there p)

-- what is filled in is the outline of the source
pub whole_is : (rows : List FileRow) (rough made : Outline) (xs : List Follower) (nexts : List (Option ℕ))
    → rough ≡ rough_outline rows → xs ≡ followers_in rough rows → nexts ≡ nexts_of rough xs → made ≡ refilled (kinds_of xs nexts) rough → made ≡ outline rows
whole_is rows rough made xs nexts is xs_is nexts_is made_is =
    made_is
    ∙ ap (λ ns. refilled (kinds_of xs ns) rough) nexts_is
    ∙ ap (λ ys. refilled (kinds_of ys (nexts_of rough ys)) rough) xs_is
    ∙ ap (λ r. filled rows r) is
