-- Uses on circles: those that are marked, and numbers that are above all.
use Rattle.std.proofs.Common.{◌≡◌, ℕ, zero, suc, ◌+◌, ◌<◌, ◌≤◌, ◌⊎◌, inl, inr, Bool, true, false, List, [], ◌∷◌, ◌++◌, Option, None, Some, length, get_or, map, take, refl, sym, ap, subst, ◌∙◌, arith}
use Rattle.std.specs.Prelude.{Contains, slice_get}
use Rattle.std.proofs.lemmas.List.{length-map, take_all}
use Rattle.std.proofs.lemmas.List.Elements.{Contains-append_cases, Contains-append_left, Contains-append_right, Contains-push, Contains-push_cases}
use Rattle.slint_base.specs.declared.faults.Fault.{Fault}
use Rattle.slint_base.specs.declared.faults.Span.{Span}
use Rattle.slint_base.specs.declared.rules.Rule.{Rule}
use Rattle.slint_base.specs.declared.rules.Rule.TheVariants as rules
use Rattle.fault_order.specs.Order.{FirstIfAny, first_of}
use Rattle.fault_order.proofs.First.{FirstIfAny-first_of, FirstIfAny-map}
use Rattle.finite_graphs.specs.declared.edge.Edge.{Edge}
use Rattle.finite_graphs.specs.Circles.{AreCircles}
use Rattle.finite_graphs.specs.Graphs.{Drawn, Leads}
use Rattle.finite_graphs.specs.Walks.{At, In, Reaches, first, next}
use Rattle.finite_graphs.proofs.Lists.{Placed, Standing, at_in, at_read, at_some, at_within, in_at, in_one, in_split, last_read, map_at}
use Rattle.declaration_rules.specs.declared.usages.Usage.{Usage}
use Rattle.declaration_rules.specs.Circles.{CircleFault, UsagesWithin, edge_of, is_set, marked_fault, marked_faults}
use Rattle.declaration_rules.specs.Repeats.{broken_if}
use Rattle.declaration_rules.specs.Turns.{in_turn}
use Rattle.declaration_rules.proofs.Gathering.{front-length, front-next}

-- ---- numbers that are above all

none_within : (count : ℕ) → UsagesWithin count []
none_within count = record { from = λ u h. elim h [ ]; to = λ u h. elim h [ ] }

-- ---- the fault of a use

abbrev pub circle_at : Usage → Fault
circle_at u = record { rule = rules.BaseLoop; span = u.span }

pub none_in : (f : Fault) → Contains [] f → ⊥
none_in f c = omega (arith, c.1)

or_absurd : (f : Fault) {A : Type 0} → Contains [] f ⊎ A → A
or_absurd f (inl c) = absurd (none_in f c)
or_absurd f (inr a) = a

pub only_one : (g f : Fault) → Contains (g ∷ []) f → g ≡ f
only_one g f c = or_absurd f (Contains-push_cases [] g f c)

broken_is : (b : Bool) (rule : Rule) (span : Span) (f : Fault) → Contains (broken_if b rule span) f → (b ≡ true) × (f ≡ record { rule = rule; span = span })
broken_is true rule span f c = (refl, sym (only_one (record { rule = rule; span = span }) f c))
broken_is false rule span f c = absurd (none_in f c)

broken_in : (b : Bool) (rule : Rule) (span : Span) → b ≡ true → Contains (broken_if b rule span) (record { rule = rule; span = span })
broken_in true rule span e = Contains-push [] (record { rule = rule; span = span })
broken_in false rule span e = absurd (cc)

-- ---- uses that are marked

-- a use, so many places behind some, whose mark is set
record Marked (marks : List Bool) (n : ℕ) (usages : List Usage) (f : Fault) : Type 0 where
  used : Usage
  place : ℕ
  stands : At used usages place
  set : is_set (slice_get marks (n + place)) ≡ true
  is : f ≡ circle_at used

marked_here : (marks : List Bool) (n m : ℕ) (u : Usage) (us : List Usage) (f : Fault) → m ≡ n + 0 → (is_set (slice_get marks m) ≡ true) × (f ≡ circle_at u) → Marked marks n (u ∷ us) f
marked_here marks n m u us f e h = record { used = u; place = 0; stands = first; set = subst (λ (k : ℕ). is_set (slice_get marks k) ≡ true) e h.0; is = h.1 }

marked_later : (marks : List Bool) (n m : ℕ) (u : Usage) (us : List Usage) (f : Fault) → m ≡ suc n → Marked marks m us f → Marked marks n (u ∷ us) f
marked_later marks n m u us f e h = record {
  used = h.used;
  place = suc h.place;
  stands = next h.stands;
  set = subst (λ (k : ℕ). is_set (slice_get marks k) ≡ true) (let p : m + h.place ≡ n + suc h.place = omega (arith, e) in p) h.set;
  is = h.is;
}

length-one : (before : List Usage) (u : Usage) → length (before ++ u ∷ []) ≡ suc (length before)
length-one [] u = refl
length-one (v ∷ before) u = ap suc (length-one before u)

marked_by : (marks : List Bool) (before : List Usage) (u : Usage) (us : List Usage) (f : Fault) → (Contains (in_turn (marked_fault marks) (before ++ u ∷ []) us) f → Marked marks (length (before ++ u ∷ [])) us f)
    → Contains (marked_fault marks before u) f ⊎ Contains (in_turn (marked_fault marks) (before ++ u ∷ []) us) f → Marked marks (length before) (u ∷ us) f
marked_by marks before u us f later (inl h) = marked_here marks (length before) (length before) u us f (omega arith) (broken_is (is_set (slice_get marks (length before))) rules.BaseLoop u.span f h)
marked_by marks before u us f later (inr h) = marked_later marks (length before) (length (before ++ u ∷ [])) u us f (length-one before u) (later h)

is_marked : (marks : List Bool) (before us : List Usage) (f : Fault) → Contains (in_turn (marked_fault marks) before us) f → Marked marks (length before) us f
is_marked marks before [] f c = absurd (none_in f c)
is_marked marks before (u ∷ us) f c =
    marked_by marks before u us f (is_marked marks (before ++ u ∷ []) us f) (Contains-append_cases (marked_fault marks before u) (in_turn (marked_fault marks) (before ++ u ∷ []) us) f c)

in_marked : (marks : List Bool) (before us : List Usage) (used : Usage) (place : ℕ) → At used us place → is_set (slice_get marks (length before + place)) ≡ true → Contains (in_turn (marked_fault marks) before us) (circle_at used)
in_marked marks before [] used place stands set = elim stands [ ]
in_marked marks before (u ∷ us) used place first set =
    Contains-append_left (marked_fault marks before u) (in_turn (marked_fault marks) (before ++ u ∷ []) us) (circle_at u)
    (broken_in (is_set (slice_get marks (length before))) rules.BaseLoop u.span (subst (λ (k : ℕ). is_set (slice_get marks k) ≡ true) (omega arith) set))
in_marked marks before (u ∷ us) used (suc place) (next h) set =
    Contains-append_right (marked_fault marks before u) (in_turn (marked_fault marks) (before ++ u ∷ []) us) (circle_at used)
    (in_marked marks (before ++ u ∷ []) us used place h
    (subst (λ (k : ℕ). is_set (slice_get marks k) ≡ true) (let e = length-one before u in let p : length before + suc place ≡ length (before ++ u ∷ []) + place = omega (arith, e) in p) set))

-- ---- marks of uses on circles

set_some : (o : Option Bool) → is_set o ≡ true → o ≡ Some true
set_some (Some mark) e = ap Some e
set_some None e = absurd (cc)

mark_at : (marks : List Bool) (place : ℕ) → is_set (slice_get marks place) ≡ true → At true marks place
mark_at marks place e = last_read marks place true (set_some (slice_get marks place) e)

get_at : {A : Type 0} {x : A} {xs : List A} {i : ℕ} → At x xs i → slice_get xs i ≡ Some x
get_at first = refl
get_at (next h) = get_at h

on_circle : (usages : List Usage) (graph : Drawn) (nodes edges : List Bool) → graph.edges ≡ map edge_of usages → AreCircles graph nodes edges → (f : Fault) → Marked edges 0 usages f → CircleFault usages f
on_circle usages graph nodes edges drawn circles f m =
    let leads : List Edge → Type 0 = λ es. Reaches (Leads es) m.used.to m.used.from in
    let set : is_set (slice_get edges m.place) ≡ true = subst (λ (k : ℕ). is_set (slice_get edges k) ≡ true) (omega arith) m.set in
    let there : At (edge_of m.used) graph.edges m.place = subst (λ (es : List Edge). At (edge_of m.used) es m.place) (sym drawn) (map_at edge_of m.stands) in
    record { used = m.used; among = at_in m.stands; back = subst leads drawn ((circles.edge_marked m.place true (edge_of m.used) (mark_at edges m.place set) there).0 refl); is = m.is }

to_mark : (usages : List Usage) (graph : Drawn) (nodes edges : List Bool) → graph.edges ≡ map edge_of usages → AreCircles graph nodes edges → (f : Fault) → (c : CircleFault usages f) → (p : Placed c.used usages) → Standing edges p.place → Contains (marked_faults edges usages) f
to_mark usages graph nodes edges drawn circles f c p s =
    let leads : List Edge → Type 0 = λ es. Reaches (Leads es) c.used.to c.used.from in
    let there : At (edge_of c.used) graph.edges p.place = subst (λ (es : List Edge). At (edge_of c.used) es p.place) (sym drawn) (map_at edge_of p.stands) in
    let is_true : s.item ≡ true = (circles.edge_marked p.place s.item (edge_of c.used) s.stands there).1 (subst leads (sym drawn) c.back) in
    let set : is_set (slice_get edges (0 + p.place)) ≡ true = subst (λ (k : ℕ). is_set (slice_get edges k) ≡ true) (omega arith) (ap is_set (get_at s.stands) ∙ is_true) in
    subst (λ (g : Fault). Contains (marked_faults edges usages) g) (sym c.is) (in_marked edges [] usages c.used p.place p.stands set)

from_circle : (usages : List Usage) (graph : Drawn) (nodes edges : List Bool) → graph.edges ≡ map edge_of usages → AreCircles graph nodes edges → (f : Fault) → CircleFault usages f → Contains (marked_faults edges usages) f
from_circle usages graph nodes edges drawn circles f c =
    let p = in_at c.among in
    let within = at_within p.stands in
    let sized : length edges ≡ length usages = circles.edges_sized ∙ (ap length drawn ∙ length-map usages edge_of) in
    to_mark usages graph nodes edges drawn circles f c p (at_some edges p.place (omega (arith, within, sized)))

-- the first use that is marked is the first that lies on a circle
pub first_circle : (usages : List Usage) (graph : Drawn) (nodes edges marks : List Bool) (fault : Option Fault) → graph.edges ≡ map edge_of usages → AreCircles graph nodes edges → marks ≡ edges
    → fault ≡ first_of (marked_faults marks usages) → FirstIfAny (CircleFault usages) fault
first_circle usages graph nodes edges marks fault drawn circles same told =
    subst (λ (o : Option Fault). FirstIfAny (CircleFault usages) o) (sym (told ∙ ap (λ ms. first_of (marked_faults ms usages)) same))
    (FirstIfAny-map (λ f. Contains (marked_faults edges usages) f) (CircleFault usages) (first_of (marked_faults edges usages))
    (λ f c. on_circle usages graph nodes edges drawn circles f (is_marked edges [] usages f c)) (from_circle usages graph nodes edges drawn circles)
    (FirstIfAny-first_of (marked_faults edges usages)))

-- ---- a count above all numbers

pub within-none : UsagesWithin 0 []
within-none = none_within 0

abbrev pub no_usage : Usage
no_usage = record { from = 0; to = 0; span = record { file = 0; start = 0; end = 0 } }

-- an item is read alike whatever stands for those past the end
get_or-same : {A : Type 0} (xs : List A) (i : ℕ) (d e : A) → i < length xs → get_or xs i d ≡ get_or xs i e
get_or-same [] i d e l = absurd (omega arith)
get_or-same (x ∷ xs) zero d e l = refl
get_or-same (x ∷ xs) (suc i) d e l = get_or-same xs i d e (omega (arith, l))

pub get_or-itself : {A : Type 0} (xs : List A) (i : ℕ) (d : A) → i < length xs → get_or xs i d ≡ get_or xs i (get_or xs i d)
get_or-itself xs i d l = get_or-same xs i d (get_or xs i d) l

pub within-next : (usages : List Usage) (i : ℕ) (d : Usage) (count more : ℕ) → i < length usages → UsagesWithin count (take i usages)
    → (count ≤ more) × ((get_or usages i d).from < more) × ((get_or usages i d).to < more) → UsagesWithin more (take (i + 1) usages)
within-next usages i d count more within held above =
    subst (λ (us : List Usage). UsagesWithin more us) (sym (front-next usages i (get_or usages i d) within (get_or-itself usages i d within))) (record {
      from = λ v h. by_from v (in_split (take i usages) (get_or usages i d ∷ []) h);
      to = λ v h. by_to v (in_split (take i usages) (get_or usages i d ∷ []) h);
    })
  where
    by_from : (v : Usage) → In v (take i usages) ⊎ In v (get_or usages i d ∷ []) → v.from < more
    by_from v (inl h) = let l = held.from v h in let p = above.0 in omega (arith, l, p)
    by_from v (inr h) = subst (λ (w : Usage). w.from < more) (sym (in_one h)) above.1

    by_to : (v : Usage) → In v (take i usages) ⊎ In v (get_or usages i d ∷ []) → v.to < more
    by_to v (inl h) = let l = held.to v h in let p = above.0 in omega (arith, l, p)
    by_to v (inr h) = subst (λ (w : Usage). w.to < more) (sym (in_one h)) above.2

pub within-all : (usages : List Usage) (i count : ℕ) → length usages ≤ i → UsagesWithin count (take i usages) → UsagesWithin count usages
within-all usages i count past held = subst (λ (us : List Usage). UsagesWithin count us) (take_all i usages past) held

abbrev below : ℕ → Usage → Type 0
below count u = (u.from < count) × (u.to < count)

below_at : (usages : List Usage) (i : ℕ) (u : Usage) (count nodes : ℕ) → i < length usages → u ≡ get_or usages i u → UsagesWithin count usages → nodes ≡ count → below nodes u
below_at usages i u count nodes within is held e =
    let h : In u usages = at_in (at_read usages i u within is) in
    let from : u.from < count = held.from u h in
    let to : u.to < count = held.to u h in
    (omega (arith, from, e), omega (arith, to, e))

-- the numbers of a use are nodes
pub below-from : (usages : List Usage) (i : ℕ) (d : Usage) (count nodes : ℕ) → i < length usages → UsagesWithin count usages → nodes ≡ count → (get_or usages i d).from < nodes
below-from usages i d count nodes within held e = (below_at usages i (get_or usages i d) count nodes within (get_or-itself usages i d within) held e).0

pub below-to : (usages : List Usage) (i : ℕ) (d : Usage) (count nodes : ℕ) → i < length usages → UsagesWithin count usages → nodes ≡ count → (get_or usages i d).to < nodes
below-to usages i d count nodes within held e = (below_at usages i (get_or usages i d) count nodes within (get_or-itself usages i d within) held e).1

-- the fault of a use by its mark
pub marked-is : (marks : List Bool) (usages : List Usage) (i : ℕ) (u : Usage) (set : Bool) (fault : Option Fault) → i < length usages → set ≡ is_set (slice_get marks i)
    → fault ≡ first_of (broken_if set rules.BaseLoop u.span) → fault ≡ first_of (marked_fault marks (take i usages) u)
marked-is marks usages i u set fault within s told =
    told ∙ (ap (λ b. first_of (broken_if b rules.BaseLoop u.span)) s ∙ ap (λ n. first_of (broken_if (is_set (slice_get marks n)) rules.BaseLoop u.span)) (sym (front-length usages i within)))
