-- Edges that are marked are those on circles.
use Rattle.std.proofs.Common.{◌≡◌, ℕ, zero, suc, ◌+◌, ◌<◌, ◌⊎◌, inl, inr, Bool, true, false, List, [], ◌∷◌, Option, None, Some, length, get_or, map, refl, sym, ap, subst, ◌∙◌, arith}
use Rattle.std.specs.Prelude.{Contains, slice_get}
use Rattle.std.proofs.lemmas.List.{length-map}
use Rattle.std.proofs.lemmas.List.Elements.{Contains-append_cases, Contains-append_left, Contains-append_right, Contains-push, Contains-push_cases}
use Rattle.slint_base.specs.declared.faults.Fault.{Fault}
use Rattle.slint_base.specs.declared.faults.Span.{Span}
use Rattle.slint_base.specs.declared.rules.Rule.{Rule}
use Rattle.fault_order.specs.Order.{FirstIfAny, first_of, numbered}
use Rattle.fault_order.proofs.First.{FirstIfAny-first_of, FirstIfAny-map}
use Rattle.finite_graphs.specs.declared.edge.Edge.{Edge}
use Rattle.finite_graphs.specs.Circles.{AreCircles}
use Rattle.finite_graphs.specs.Graphs.{Drawn, Leads}
use Rattle.finite_graphs.specs.Walks.{At, Reaches, first, next}
use Rattle.finite_graphs.proofs.Lists.{Placed, Standing, at_in, at_here, at_some, at_within, in_at, last_read, map_at}
use Rattle.alias_merge.specs.declared.circle_faults.Spanned.{Spanned}
use Rattle.alias_merge.specs.CircleFaults.{CircleFault, EndsWithin, edge_in, fault_if_set, is_set, marked_fault}

abbrev fault_at : Rule → Spanned → Fault
fault_at rule s = record { rule = rule; span = s.span }

pub none_in : (f : Fault) → Contains [] f → ⊥
none_in f c = omega (arith, c.1)

or_absurd : (f : Fault) {A : Type 0} → Contains [] f ⊎ A → A
or_absurd f (inl c) = absurd (none_in f c)
or_absurd f (inr a) = a

pub only_one : (g f : Fault) → Contains (g ∷ []) f → g ≡ f
only_one g f c = or_absurd f (Contains-push_cases [] g f c)

told_is : (b : Bool) (rule : Rule) (span : Span) (f : Fault) → Contains (fault_if_set rule b span) f → (b ≡ true) × (f ≡ record { rule = rule; span = span })
told_is true rule span f c = (refl, sym (only_one (record { rule = rule; span = span }) f c))
told_is false rule span f c = absurd (none_in f c)

told_in : (b : Bool) (rule : Rule) (span : Span) → b ≡ true → Contains (fault_if_set rule b span) (record { rule = rule; span = span })
told_in true rule span e = Contains-push [] (record { rule = rule; span = span })
told_in false rule span e = absurd (cc)

-- an edge, so many places behind some, whose mark is set
record Marked (rule : Rule) (marks : List Bool) (n : ℕ) (edges : List Spanned) (f : Fault) : Type 0 where
  edge : Spanned
  place : ℕ
  stands : At edge edges place
  set : is_set (slice_get marks (n + place)) ≡ true
  is : f ≡ fault_at rule edge

marked_here : (rule : Rule) (marks : List Bool) (n : ℕ) (s : Spanned) (ss : List Spanned) (f : Fault) → (is_set (slice_get marks n) ≡ true) × (f ≡ fault_at rule s) → Marked rule marks n (s ∷ ss) f
marked_here rule marks n s ss f h = record { edge = s; place = 0; stands = first; set = subst (λ (k : ℕ). is_set (slice_get marks k) ≡ true) (omega arith) h.0; is = h.1 }

marked_later : (rule : Rule) (marks : List Bool) (n : ℕ) (s : Spanned) (ss : List Spanned) (f : Fault) → Marked rule marks (suc n) ss f → Marked rule marks n (s ∷ ss) f
marked_later rule marks n s ss f h = record {
  edge = h.edge;
  place = suc h.place;
  stands = next h.stands;
  set = subst (λ (k : ℕ). is_set (slice_get marks k) ≡ true) (let p : suc n + h.place ≡ n + suc h.place = omega arith in p) h.set;
  is = h.is;
}

marked_by : (rule : Rule) (marks : List Bool) (n : ℕ) (s : Spanned) (ss : List Spanned) (f : Fault) → (Contains (numbered (marked_fault rule marks) (suc n) ss) f → Marked rule marks (suc n) ss f)
    → Contains (marked_fault rule marks n s) f ⊎ Contains (numbered (marked_fault rule marks) (suc n) ss) f → Marked rule marks n (s ∷ ss) f
marked_by rule marks n s ss f later (inl h) = marked_here rule marks n s ss f (told_is (is_set (slice_get marks n)) rule s.span f h)
marked_by rule marks n s ss f later (inr h) = marked_later rule marks n s ss f (later h)

is_marked : (rule : Rule) (marks : List Bool) (n : ℕ) (ss : List Spanned) (f : Fault) → Contains (numbered (marked_fault rule marks) n ss) f → Marked rule marks n ss f
is_marked rule marks n [] f c = absurd (none_in f c)
is_marked rule marks n (s ∷ ss) f c =
    marked_by rule marks n s ss f (is_marked rule marks (suc n) ss f) (Contains-append_cases (marked_fault rule marks n s) (numbered (marked_fault rule marks) (suc n) ss) f c)

in_marked : (rule : Rule) (marks : List Bool) (n : ℕ) (ss : List Spanned) (s : Spanned) (place : ℕ) → At s ss place → is_set (slice_get marks (n + place)) ≡ true → Contains (numbered (marked_fault rule marks) n ss) (fault_at rule s)
in_marked rule marks n [] s place stands set = elim stands [ ]
in_marked rule marks n (s ∷ ss) t place first set =
    Contains-append_left (marked_fault rule marks n s) (numbered (marked_fault rule marks) (suc n) ss) (fault_at rule s)
    (told_in (is_set (slice_get marks n)) rule s.span (subst (λ (k : ℕ). is_set (slice_get marks k) ≡ true) (omega arith) set))
in_marked rule marks n (s ∷ ss) t (suc place) (next h) set =
    Contains-append_right (marked_fault rule marks n s) (numbered (marked_fault rule marks) (suc n) ss) (fault_at rule t)
    (in_marked rule marks (suc n) ss t place h (subst (λ (k : ℕ). is_set (slice_get marks k) ≡ true) (let p : n + suc place ≡ suc n + place = omega arith in p) set))

-- ---- marks of edges on circles

set_some : (o : Option Bool) → is_set o ≡ true → o ≡ Some true
set_some (Some mark) e = ap Some e
set_some None e = absurd (cc)

mark_at : (marks : List Bool) (place : ℕ) → is_set (slice_get marks place) ≡ true → At true marks place
mark_at marks place e = last_read marks place true (set_some (slice_get marks place) e)

pub get_at : {A : Type 0} {x : A} {xs : List A} {i : ℕ} → At x xs i → slice_get xs i ≡ Some x
get_at first = refl
get_at (next h) = get_at h

on_circle : (rule : Rule) (ss : List Spanned) (graph : Drawn) (nodes edges : List Bool) → graph.edges ≡ map edge_in ss → AreCircles graph nodes edges → (f : Fault) → Marked rule edges 0 ss f → CircleFault rule ss f
on_circle rule ss graph nodes edges drawn circles f m =
    let leads : List Edge → Type 0 = λ es. Reaches (Leads es) m.edge.to m.edge.from in
    let set : is_set (slice_get edges m.place) ≡ true = subst (λ (k : ℕ). is_set (slice_get edges k) ≡ true) (omega arith) m.set in
    let there : At (edge_in m.edge) graph.edges m.place = subst (λ (es : List Edge). At (edge_in m.edge) es m.place) (sym drawn) (map_at edge_in m.stands) in
    record { edge = m.edge; among = at_in m.stands; back = subst leads drawn ((circles.edge_marked m.place true (edge_in m.edge) (mark_at edges m.place set) there).0 refl); is = m.is }

to_mark : (rule : Rule) (ss : List Spanned) (graph : Drawn) (nodes edges : List Bool) → graph.edges ≡ map edge_in ss → AreCircles graph nodes edges → (f : Fault) → (c : CircleFault rule ss f) → (p : Placed c.edge ss) → Standing edges p.place
    → Contains (numbered (marked_fault rule edges) 0 ss) f
to_mark rule ss graph nodes edges drawn circles f c p s =
    let leads : List Edge → Type 0 = λ es. Reaches (Leads es) c.edge.to c.edge.from in
    let there : At (edge_in c.edge) graph.edges p.place = subst (λ (es : List Edge). At (edge_in c.edge) es p.place) (sym drawn) (map_at edge_in p.stands) in
    let is_true : s.item ≡ true = (circles.edge_marked p.place s.item (edge_in c.edge) s.stands there).1 (subst leads (sym drawn) c.back) in
    let set : is_set (slice_get edges (0 + p.place)) ≡ true = subst (λ (k : ℕ). is_set (slice_get edges k) ≡ true) (omega arith) (ap is_set (get_at s.stands) ∙ is_true) in
    subst (λ (g : Fault). Contains (numbered (marked_fault rule edges) 0 ss) g) (sym c.is) (in_marked rule edges 0 ss c.edge p.place p.stands set)

from_circle : (rule : Rule) (ss : List Spanned) (graph : Drawn) (nodes edges : List Bool) → graph.edges ≡ map edge_in ss → AreCircles graph nodes edges → (f : Fault) → CircleFault rule ss f → Contains (numbered (marked_fault rule edges) 0 ss) f
from_circle rule ss graph nodes edges drawn circles f c =
    let p = in_at c.among in
    let within = at_within p.stands in
    let sized : length edges ≡ length ss = circles.edges_sized ∙ (ap length drawn ∙ length-map ss edge_in) in
    to_mark rule ss graph nodes edges drawn circles f c p (at_some edges p.place (omega (arith, within, sized)))

-- the first edge that is marked is the first that lies on a circle
pub first_circle : (rule : Rule) (ss : List Spanned) (graph : Drawn) (nodes edges marks : List Bool) (fault : Option Fault) → graph.edges ≡ map edge_in ss → AreCircles graph nodes edges → marks ≡ edges
    → fault ≡ first_of (numbered (marked_fault rule marks) 0 ss) → FirstIfAny (CircleFault rule ss) fault
first_circle rule ss graph nodes edges marks fault drawn circles same told =
    subst (λ (o : Option Fault). FirstIfAny (CircleFault rule ss) o) (sym (told ∙ ap (λ ms. first_of (numbered (marked_fault rule ms) 0 ss)) same))
    (FirstIfAny-map (λ f. Contains (numbered (marked_fault rule edges) 0 ss) f) (CircleFault rule ss) (first_of (numbered (marked_fault rule edges) 0 ss))
    (λ f c. on_circle rule ss graph nodes edges drawn circles f (is_marked rule edges 0 ss f c)) (from_circle rule ss graph nodes edges drawn circles)
    (FirstIfAny-first_of (numbered (marked_fault rule edges) 0 ss)))

-- ---- both ends are nodes

abbrev pub no_edge : Spanned
no_edge = record { from = 0; to = 0; span = record { file = 0; start = 0; end = 0 } }

pub within_from : (ss : List Spanned) (i : ℕ) (d : Spanned) (count nodes : ℕ) → i < length ss → EndsWithin count ss → nodes ≡ count → (get_or ss i d).from < nodes
within_from ss i d count nodes l w e = let k : (get_or ss i d).from < count = w.from (get_or ss i d) (at_in (at_here ss i d l)) in omega (arith, k, e)

pub within_to : (ss : List Spanned) (i : ℕ) (d : Spanned) (count nodes : ℕ) → i < length ss → EndsWithin count ss → nodes ≡ count → (get_or ss i d).to < nodes
within_to ss i d count nodes l w e = let k : (get_or ss i d).to < count = w.to (get_or ss i d) (at_in (at_here ss i d l)) in omega (arith, k, e)

-- an item is read alike whatever stands for those past the end
get_or-same : {A : Type 0} (xs : List A) (i : ℕ) (d e : A) → i < length xs → get_or xs i d ≡ get_or xs i e
get_or-same [] i d e l = absurd (omega arith)
get_or-same (x ∷ xs) zero d e l = refl
get_or-same (x ∷ xs) (suc i) d e l = get_or-same xs i d e (omega (arith, l))

pub read_itself : {A : Type 0} (xs : List A) (i : ℕ) (d : A) → i < length xs → get_or xs i d ≡ get_or xs i (get_or xs i d)
read_itself xs i d l = get_or-same xs i d (get_or xs i d) l
