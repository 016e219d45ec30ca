-- Whether a walk leads from one node to another is decided, edge by edge.
use Rattle.std.proofs.Common.{◌≡◌, ℕ, ◌⊎◌, inl, inr, List, [], ◌∷◌, refl, sym, ap, subst}
use Rattle.finite_graphs.specs.declared.edge.Edge.{Edge}
use Rattle.finite_graphs.specs.Graphs.{Leads, edge}
use Rattle.finite_graphs.specs.Walks.{In, OnCircle, Reaches, go, here, stay, there}
use Rattle.finite_graphs.proofs.Lists.{in_none, same_or_not}
use Rattle.finite_graphs.proofs.Reaching.{carried, joined, one_step}

-- a walk with one more edge: without it, or by way of it
pub data Ways (edges : List Edge) (e : Edge) (a b : ℕ) : Type 0 where
  without : Reaches (Leads edges) a b → Ways edges e a b
  by_way : Reaches (Leads edges) a e.from → Reaches (Leads edges) e.to b → Ways edges e a b

in_more : {A : Type 0} {x y : A} {xs : List A} → In x (y ∷ xs) → (x ≡ y) ⊎ In x xs
in_more here = inl refl
in_more (there h) = inr h

taken : {edges : List Edge} {e : Edge} {a b c : ℕ} → (edge a c ≡ e) ⊎ In (edge a c) edges → Ways edges e c b → Ways edges e a b
taken (inr h) (without on) = without (go (record { drawn = h }) on)
taken (inr h) (by_way to on) = by_way (go (record { drawn = h }) to) on
taken {edges} {e} {a} {b} {c} (inl same) (without on) =
    by_way (subst (λ n. Reaches (Leads edges) a n) (ap (λ (x : Edge). x.from) same) stay) (subst (λ n. Reaches (Leads edges) n b) (ap (λ (x : Edge). x.to) same) on)
taken {edges} {e} {a} {b} {c} (inl same) (by_way to on) = by_way (subst (λ n. Reaches (Leads edges) a n) (ap (λ (x : Edge). x.from) same) stay) on

ways_of : {edges : List Edge} {e : Edge} {a b : ℕ} → Reaches (Leads (e ∷ edges)) a b → Ways edges e a b
ways_of stay = without stay
ways_of (go f on) = taken (in_more f.drawn) (ways_of on)

more_edges : {edges : List Edge} (e : Edge) {a b : ℕ} → Reaches (Leads edges) a b → Reaches (Leads (e ∷ edges)) a b
more_edges e way = carried (λ x y l. record { drawn = there l.drawn }) way

by_edge : {edges : List Edge} (e : Edge) {a b : ℕ} → Reaches (Leads edges) a e.from → Reaches (Leads edges) e.to b → Reaches (Leads (e ∷ edges)) a b
by_edge e to on = joined (more_edges e to) (joined (one_step (record { drawn = here })) (more_edges e on))

abbrev pub Decided : Type 0 → Type 0
Decided P = P ⊎ (P → ⊥)

none_leads : {a b : ℕ} → (a ≡ b → ⊥) → Reaches (Leads []) a b → ⊥
none_leads apart stay = apart refl
none_leads apart (go f on) = in_none f.drawn

decide_none : {a b : ℕ} → (a ≡ b) ⊎ (a ≡ b → ⊥) → Decided (Reaches (Leads []) a b)
decide_none {a} {b} (inl same) = inl (subst (λ n. Reaches (Leads []) a n) same stay)
decide_none (inr apart) = inr (none_leads apart)

no_way : {edges : List Edge} {e : Edge} {a b : ℕ} → (Reaches (Leads edges) a b → ⊥) → (Reaches (Leads edges) a e.from → Reaches (Leads edges) e.to b → ⊥) → Ways edges e a b → ⊥
no_way never none (without way) = never way
no_way never none (by_way to on) = none to on

decide_more : {edges : List Edge} {e : Edge} {a b : ℕ} → Decided (Reaches (Leads edges) a b) → Decided (Reaches (Leads edges) a e.from) → Decided (Reaches (Leads edges) e.to b)
    → Decided (Reaches (Leads (e ∷ edges)) a b)
decide_more {e = e} (inl way) _ _ = inl (more_edges e way)
decide_more {e = e} (inr never) (inl to) (inl on) = inl (by_edge e to on)
decide_more (inr never) (inr none) _ = inr (λ way. no_way never (λ to on. none to) (ways_of way))
decide_more (inr never) (inl to) (inr none) = inr (λ way. no_way never (λ t on. none on) (ways_of way))

pub reaches_decided : (edges : List Edge) (a b : ℕ) → Decided (Reaches (Leads edges) a b)
reaches_decided [] a b = decide_none (same_or_not a b)
reaches_decided (e ∷ edges) a b = decide_more (reaches_decided edges a b) (reaches_decided edges a e.from) (reaches_decided edges e.to b)

-- ---- circles

-- one of the edges leads from a to where a walk leads back
record Back (all edges : List Edge) (a : ℕ) : Type 0 where
  edge : Edge
  among : In edge edges
  from : edge.from ≡ a
  back : Reaches (Leads all) edge.to a

back_later : {all edges : List Edge} {a : ℕ} {e : Edge} → Decided (Back all edges a) → ((e.from ≡ a) → Reaches (Leads all) e.to a → ⊥) → Decided (Back all (e ∷ edges) a)
back_later (inl b) none = inl (record { edge = b.edge; among = there b.among; from = b.from; back = b.back })
back_later {all} {edges} {a} {e} (inr never) none = inr (λ b. by b (in_more b.among))
  where
    by : (b : Back all (e ∷ edges) a) → (b.edge ≡ e) ⊎ In b.edge edges → ⊥
    by b (inl same) = none (subst (λ (x : Edge). x.from ≡ a) same b.from) (subst (λ (x : Edge). Reaches (Leads all) x.to a) same b.back)
    by b (inr h) = never (record { edge = b.edge; among = h; from = b.from; back = b.back })

back_decided : {all edges : List Edge} {a : ℕ} {e : Edge} → (e.from ≡ a) ⊎ (e.from ≡ a → ⊥) → Decided (Reaches (Leads all) e.to a) → Decided (Back all edges a) → Decided (Back all (e ∷ edges) a)
back_decided {e = e} (inl from) (inl way) _ = inl (record { edge = e; among = here; from = from; back = way })
back_decided (inl from) (inr none) rest = back_later rest (λ f way. none way)
back_decided (inr apart) _ rest = back_later rest (λ f way. apart f)

no_back : {all : List Edge} {a : ℕ} → Back all [] a → ⊥
no_back b = in_none b.among

decide_back : (all edges : List Edge) (a : ℕ) → Decided (Back all edges a)
decide_back all [] a = inr no_back
decide_back all (e ∷ edges) a = back_decided (same_or_not e.from a) (reaches_decided all e.to a) (decide_back all edges a)

circle_of : {edges : List Edge} {a : ℕ} → Back edges edges a → OnCircle (Leads edges) a
circle_of {edges} {a} b = record { next = b.edge.to; leads = record { drawn = subst (λ n. In (edge n b.edge.to) edges) b.from b.among }; back = b.back }

back_of : {edges : List Edge} {a : ℕ} → OnCircle (Leads edges) a → Back edges edges a
back_of {a = a} c = record { edge = edge a c.next; among = c.leads.drawn; from = refl; back = c.back }

circle_if : {edges : List Edge} {a : ℕ} → Decided (Back edges edges a) → Decided (OnCircle (Leads edges) a)
circle_if (inl b) = inl (circle_of b)
circle_if (inr none) = inr (λ c. none (back_of c))

pub circle_decided : (edges : List Edge) (a : ℕ) → Decided (OnCircle (Leads edges) a)
circle_decided edges a = circle_if (decide_back edges edges a)
