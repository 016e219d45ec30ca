-- Members from which a marked one is reached over at least one link.
use Rattle.std.proofs.Common.{◌≡◌, ℕ, suc, zero, ◌+◌, ◌<◌, ◌⊎◌, inl, inr, Bool, true, false, List, [], ◌∷◌, length, get_or, drop, Option, Some, None, refl, sym, ap, ◌∙◌, subst, arith}
use Rattle.std.specs.Prelude.{if◌then◌else◌, map, replicate, slice_get, slice_set, unwrap_or}
use Rattle.std.proofs.lemmas.List.{length-set}
use Rattle.finite_graphs.specs.declared.edge.Edge.{Edge}
use Rattle.finite_graphs.specs.Graphs.{EdgesWithin, Leads, edge}
use Rattle.finite_graphs.specs.Reached.{AreReached, ReachedFrom}
use Rattle.finite_graphs.specs.Walks.{At, In, OnCircle, Reaches, first, next, go, here, stay, there}
use Rattle.finite_graphs.proofs.Lists.{at_other, at_replicate, at_set, at_some, at_was, same_or_not}
use Rattle.finite_graphs.proofs.Reaching.{joined, one_step}
use Rattle.alias_merge.specs.declared.candidate.Candidate.{Candidate}
use Rattle.alias_merge.specs.Choosing.{Ahead}
use Rattle.alias_merge.specs.ChoosingSteps.{AreAhead, LeadsToMarked, is_marked, marks_of, member_of, start_of, starts_of, turn, with_mark, with_marks}
use Rattle.alias_merge.proofs.Passes.{fold_turn}

-- ---- marks that are read

pub at_get : {A : Type 0} {x : A} {xs : List A} {i : ℕ} → At x xs i → slice_get xs i ≡ Some x
at_get first = refl
at_get (next h) = at_get h

pub get_at : {A : Type 0} (xs : List A) (i : ℕ) (x : A) → slice_get xs i ≡ Some x → At x xs i
get_at [] i x e = cc
get_at (y ∷ xs) zero x e = subst (λ z. At z (y ∷ xs) 0) (cc) first
get_at (y ∷ xs) (suc i) x e = next (get_at xs i x e)

pub marked_at : (marks : List Bool) (a : ℕ) → is_marked marks a ≡ true → At true marks a
marked_at [] a t = cc
marked_at (b ∷ marks) zero t = subst (λ c. At c (b ∷ marks) 0) t first
marked_at (b ∷ marks) (suc a) t = next (marked_at marks a t)

pub at_marked : {marks : List Bool} {a : ℕ} {mark : Bool} → At mark marks a → is_marked marks a ≡ mark
at_marked h = ap (λ o. unwrap_or o false) (at_get h)

-- ---- marks that are set

-- one of the things has its mark at m
pub record SomeMark {X : Type 0} (mark : X → Option ℕ) (xs : List X) (m : ℕ) : Type 0 where
  pub thing : X
  pub among : In thing xs
  pub is : mark thing ≡ Some m

some_later : {X : Type 0} {mark : X → Option ℕ} {y : X} {xs : List X} {m : ℕ} → SomeMark mark xs m → SomeMark mark (y ∷ xs) m
some_later s = record { thing = s.thing; among = there s.among; is = s.is }

set_cases : (marks : List Bool) (o : Option ℕ) {m : ℕ} → At true (with_mark marks o) m → At true marks m ⊎ (o ≡ Some m)
set_cases marks None h = inl h
set_cases marks (Some n) {m} h = elim (same_or_not m n) [ inl e ↦ inr (ap Some (sym e)) | inr apart ↦ inl (at_was true marks n h apart) ]

pub only_marked : {X : Type 0} (mark : X → Option ℕ) (marks : List Bool) (xs : List X) {m : ℕ} → At true (with_marks mark marks xs) m → At true marks m ⊎ SomeMark mark xs m
only_marked mark marks [] h = inl h
only_marked mark marks (x ∷ xs) {m} h = by (only_marked mark (with_mark marks (mark x)) xs h)
  where
    from : At true marks m ⊎ (mark x ≡ Some m) → At true marks m ⊎ SomeMark mark (x ∷ xs) m
    from (inl k) = inl k
    from (inr e) = inr (record { thing = x; among = here; is = e })

    by : At true (with_mark marks (mark x)) m ⊎ SomeMark mark xs m → At true marks m ⊎ SomeMark mark (x ∷ xs) m
    by (inl k) = from (set_cases marks (mark x) k)
    by (inr s) = inr (some_later s)

set_keeps : (marks : List Bool) (o : Option ℕ) {m : ℕ} → At true marks m → At true (with_mark marks o) m
set_keeps marks None h = h
set_keeps marks (Some n) {m} h = elim (same_or_not m n) [
  | inl e ↦ subst (λ k. At true (slice_set marks k true) m) e (at_set h)
  | inr apart ↦ at_other true n h apart
]

pub still_marked : {X : Type 0} (mark : X → Option ℕ) (marks : List Bool) (xs : List X) {m : ℕ} → At true marks m → At true (with_marks mark marks xs) m
still_marked mark marks [] h = h
still_marked mark marks (x ∷ xs) h = still_marked mark (with_mark marks (mark x)) xs (set_keeps marks (mark x) h)

mark_sized : (marks : List Bool) (o : Option ℕ) → length (with_mark marks o) ≡ length marks
mark_sized marks None = refl
mark_sized marks (Some n) = length-set marks n true

pub marks_sized : {X : Type 0} (mark : X → Option ℕ) (marks : List Bool) (xs : List X) → length (with_marks mark marks xs) ≡ length marks
marks_sized mark marks [] = refl
marks_sized mark marks (x ∷ xs) = marks_sized mark (with_mark marks (mark x)) xs ∙ mark_sized marks (mark x)

mark_set : (marks : List Bool) {m : ℕ} → m < length marks → At true (slice_set marks m true) m
mark_set marks {m} l = at_set (at_some marks m l).stands

pub all_marked : {X : Type 0} (mark : X → Option ℕ) (marks : List Bool) {xs : List X} {x : X} {m : ℕ} → In x xs → mark x ≡ Some m → m < length marks → At true (with_marks mark marks xs) m
all_marked mark marks {x = x} {m} (here {xs = xs}) e l = still_marked mark (with_mark marks (mark x)) xs (subst (λ o. At true (with_mark marks o) m) (sym e) (mark_set marks l))
all_marked mark marks {m = m} (there {y = y} h) e l =
    let sized = mark_sized marks (mark y) in all_marked mark (with_mark marks (mark y)) h e (omega (arith, sized, l))

-- one more thing of a pass, whose mark is told apart
pub marks_turn : {X : Type 0} (mark : X → Option ℕ) (now new whole : List Bool) (xs : List X) (i : ℕ) (d : X) (o : Option ℕ) → i < length xs → with_marks mark now (drop i xs) ≡ whole → o ≡ mark (get_or xs i d)
    → new ≡ with_mark now o → with_marks mark new (drop (i + 1) xs) ≡ whole
marks_turn mark now new whole xs i d o l e told n = fold_turn (λ now x. with_mark now (mark x)) now new whole xs i d l e (n ∙ ap (with_mark now) told)

-- no mark is set at first
pub unmarked_first : (n : ℕ) {m : ℕ} → At true (replicate n false) m → ⊥
unmarked_first n h = let e : true ≡ false = at_replicate n false h in cc

-- ---- starts

start_if : (e : Edge) (b : Bool) {m : ℕ} → (if b then Some e.from else None) ≡ Some m → (b ≡ true) × (e.from ≡ m)
start_if e true s = (refl, cc)
start_if e false s = cc

start_marked : (marks : List Bool) (e : Edge) {m : ℕ} → start_of marks e ≡ Some m → (is_marked marks e.to ≡ true) × (e.from ≡ m)
start_marked marks e s = start_if e (is_marked marks e.to) s

-- ---- walks the other way round

in_turned : {e : Edge} {edges : List Edge} → In e edges → In (turn e) (map turn edges)
in_turned here = here
in_turned (there h) = there (in_turned h)

turned_step : {edges : List Edge} {a b : ℕ} → Leads edges a b → Leads (map turn edges) b a
turned_step l = record { drawn = in_turned l.drawn }

turned_way : {edges : List Edge} {a b : ℕ} → Reaches (Leads edges) a b → Reaches (Leads (map turn edges)) b a
turned_way stay = stay
turned_way (go e on) = joined (turned_way on) (one_step (turned_step e))

twice : (edges : List Edge) → map turn (map turn edges) ≡ edges
twice [] = refl
twice (e ∷ edges) = ap (λ es. e ∷ es) (twice edges)

back_way : (edges : List Edge) {a b : ℕ} → Reaches (Leads (map turn edges)) a b → Reaches (Leads edges) b a
back_way edges {a} {b} way = subst (λ es. Reaches (Leads es) b a) (twice edges) (turned_way way)

-- ---- a walk of at least one link

pub ahead_last : {edges : List Edge} {a s t : ℕ} → Reaches (Leads edges) a s → Leads edges s t → Ahead edges a t
ahead_last {t = t} stay l = record { next = t; leads = l; way = stay }
ahead_last (go {b = n} e on) l = record { next = n; leads = e; way = joined on (one_step l) }

-- its last link
pub record LastLink (edges : List Edge) (a t : ℕ) : Type 0 where
  pub start : ℕ
  pub way : Reaches (Leads edges) a start
  pub leads : Leads edges start t

one_link : {edges : List Edge} {a t : ℕ} → Leads edges a t → LastLink edges a t
one_link {a = a} l = record { start = a; way = stay; leads = l }

link_before : {edges : List Edge} {a b t : ℕ} → Leads edges a b → LastLink edges b t → LastLink edges a t
link_before l k = record { start = k.start; way = go l k.way; leads = k.leads }

last_link : {edges : List Edge} {a n t : ℕ} → Leads edges a n → Reaches (Leads edges) n t → LastLink edges a t
last_link l stay = one_link l
last_link l (go e on) = link_before l (last_link e on)

pub ahead_within : {nodes : ℕ} {edges : List Edge} {a t : ℕ} → EdgesWithin nodes edges → Ahead edges a t → (a < nodes) × (t < nodes)
ahead_within {a = a} {t} w h = let k = last_link h.leads h.way in (w.from (edge a h.next) h.leads.drawn, w.to (edge k.start t) k.leads.drawn)

pub ahead_circle : {edges : List Edge} {a : ℕ} → Ahead edges a a → OnCircle (Leads edges) a
ahead_circle h = record { next = h.next; leads = h.leads; back = h.way }

pub ahead_ahead : {edges : List Edge} {a b c : ℕ} → Ahead edges a b → Ahead edges b c → Ahead edges a c
ahead_ahead h k = record { next = h.next; leads = h.leads; way = joined h.way (go k.leads k.way) }

replicate_sized : (n : ℕ) → length (replicate n false) ≡ n
replicate_sized zero = refl
replicate_sized (suc n) = ap suc (replicate_sized n)

pub starts_sized : (n : ℕ) (marks : List Bool) (edges : List Edge) → length (starts_of n marks edges) ≡ n
starts_sized n marks edges = marks_sized (start_of marks) (replicate n false) edges ∙ replicate_sized n

pub members_sized : (n : ℕ) (cs : List Candidate) → length (marks_of n cs) ≡ n
members_sized n cs = marks_sized member_of (replicate n false) cs ∙ replicate_sized n

-- ---- what is reached against the links from the starts has a marked member ahead

module _ (nodes : ℕ) (edges : List Edge) (marks starts reached : List Bool) (w : EdgesWithin nodes edges) (same : length marks ≡ nodes) (made : starts ≡ starts_of nodes marks edges) where
  start_at : {s : ℕ} → At true starts s → SomeMark (start_of marks) edges s
  start_at {s} h = elim (only_marked (start_of marks) (replicate nodes false) edges (subst (λ xs. At true xs s) made h)) [ inl k ↦ absurd (unmarked_first nodes k) | inr m ↦ m ]

  from_start : {s b : ℕ} → SomeMark (start_of marks) edges s → Reaches (Leads edges) b s → LeadsToMarked edges marks b
  from_start {s} m way =
      let t = start_marked marks m.thing m.is in
      record { end = m.thing.to; marked = marked_at marks m.thing.to t.0; way = ahead_last way (record { drawn = subst (λ n. In (edge n m.thing.to) edges) t.1 m.among }) }

  leads_if : {b : ℕ} → ReachedFrom (Leads (map turn edges)) starts b → LeadsToMarked edges marks b
  leads_if r = from_start (start_at r.marked) (back_way edges r.way)

  at_start : {s t : ℕ} → Leads edges s t → At true marks t → At true starts s
  at_start {s} {t} l m =
      let within = w.from (edge s t) l.drawn in
      let sized = replicate_sized nodes in
      subst (λ xs. At true xs s) (sym made)
      (all_marked (start_of marks) (replicate nodes false) l.drawn (ap (λ b. if b then Some s else None) (at_marked m)) (omega (arith, within, sized)))

  if_leads : {b : ℕ} → LeadsToMarked edges marks b → ReachedFrom (Leads (map turn edges)) starts b
  if_leads h =
      let k = last_link h.way.leads h.way.way in
      record { start = k.start; marked = at_start k.leads h.marked; way = turned_way k.way }

  pub are_ahead : AreReached (record { nodes = nodes; edges = map turn edges }) starts reached → AreAhead edges marks reached
  are_ahead r = record {
    sized = r.sized ∙ sym same;
    each = λ a mark h. (λ t. leads_if ((r.each a mark h).0 t), λ k. (r.each a mark h).1 (if_leads k));
  }
