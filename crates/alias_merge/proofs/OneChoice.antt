-- There is one choice of candidates.
use Rattle.std.proofs.Common.{◌≡◌, ℕ, zero, suc, ◌⊎◌, inl, inr, Bool, true, false, List, [], ◌∷◌, length, Option, Some, None, refl, sym, ap, ◌∙◌, subst, arith}
use Rattle.std.specs.Prelude.{filter, fold}
use Rattle.finite_graphs.specs.declared.edge.Edge.{Edge}
use Rattle.finite_graphs.specs.Walks.{At, In, first, here, next, there}
use Rattle.finite_graphs.proofs.Deciding.{Decided, reaches_decided}
use Rattle.finite_graphs.proofs.Lists.{at_in, at_none, at_same, in_none}
use Rattle.alias_merge.specs.declared.candidate.Candidate.{Candidate}
use Rattle.alias_merge.specs.declared.homes.Home.{Home}
use Rattle.alias_merge.specs.Choosing.{Ahead, AreChoices, HasNoCircle, IsChoice, IsChosen, IsFree, shallowest}
use Rattle.alias_merge.specs.ChoosingSteps.{sooner}
use Rattle.alias_merge.proofs.Choices.{none_shallow, not_itself, some_free, walked, way_of}
use Rattle.alias_merge.proofs.Sooner.{FirstOf, IsFirstOf, first_of_all}

one_chosen : {edges : List Edge} {cs : List Candidate} (a b : Candidate) → IsChosen edges cs a → IsChosen edges cs b → a ≡ b
one_chosen {cs = cs} a b p q =
    let low = p.earliest b q.place q.stands q.free (q.soonest a (at_in p.stands) p.free) in
    let high = q.earliest a p.place p.stands p.free (p.soonest b (at_in q.stands) q.free) in
    let same : p.place ≡ q.place = omega (arith, low, high) in
    at_same (subst (λ i. At a cs i) same p.stands) q.stands

pub one_choice : (edges : List Edge) (cs : List Candidate) (a b : Option Candidate) → IsChoice edges cs a → IsChoice edges cs b → a ≡ b
one_choice edges cs None None p q = refl
one_choice edges cs None (Some b) p q = absurd (at_none (subst (λ ys. At b ys q.place) (ap shallowest p) q.stands))
one_choice edges cs (Some a) None p q = absurd (at_none (subst (λ ys. At a ys p.place) (ap shallowest q) p.stands))
one_choice edges cs (Some a) (Some b) p q = ap Some (one_chosen a b p q)

same_lists : {A : Type 0} (xs ys : List A) → length xs ≡ length ys → ((i : ℕ) (x y : A) → At x xs i → At y ys i → x ≡ y) → xs ≡ ys
same_lists [] [] e f = refl
same_lists [] (y ∷ ys) e f = absurd (omega (arith, e))
same_lists (x ∷ xs) [] e f = absurd (omega (arith, e))
same_lists (x ∷ xs) (y ∷ ys) e f = ap (λ z. z ∷ xs) (f zero x y first first) ∙ ap (λ zs. y ∷ zs) (same_lists xs ys (omega (arith, e)) (λ i a b h k. f (suc i) a b (next h) (next k)))

pub one_list : (edges : List Edge) (labels : List ℕ) (homes : List (Option Home)) (cs : List Candidate) (xs ys : List (Option Candidate)) → AreChoices edges labels homes cs xs → AreChoices edges labels homes cs ys → xs ≡ ys
one_list edges labels homes cs xs ys p q = same_lists xs ys (p.sized ∙ sym q.sized) (λ i a b h k. one_choice edges _ a b (p.each i a h) (q.each i b k))

-- ---- there is some

abbrev test : {P : Type 0} → Decided P → Bool
test (inl p) = true
test (inr n) = false

tested : {P : Type 0} (d : Decided P) → test d ≡ true → P
tested (inl p) t = p
tested (inr n) t = cc

holds : {P : Type 0} (d : Decided P) → P → test d ≡ true
holds (inl p) q = refl
holds (inr n) q = absurd (n q)

module _ (edges : List Edge) (acyclic : HasNoCircle edges) where
  ahead_if : (a b : ℕ) → (a ≡ b) ⊎ Ahead edges a b → Decided (Ahead edges a b)
  ahead_if a b (inl e) = inr (λ h. not_itself edges acyclic a b e h)
  ahead_if a b (inr h) = inl h

  ahead_decided : (a b : ℕ) → Decided (Ahead edges a b)
  ahead_decided a b = elim (reaches_decided edges a b) [ inl way ↦ ahead_if a b (walked edges acyclic way) | inr none ↦ inr (λ h. none (way_of edges acyclic h)) ]

  free_none : (c : Candidate) → IsFree edges [] c
  free_none c = record { none = λ d k h. in_none k }

  free_with : (x c : Candidate) (cs : List Candidate) → Decided (Ahead edges c.member x.member) → Decided (IsFree edges cs c) → Decided (IsFree edges (x ∷ cs) c)
  free_with x c cs (inl a) d = inr (λ f. f.none x here a)
  free_with x c cs (inr n) (inr g) = inr (λ f. g (record { none = λ d k h. f.none d (there k) h }))
  free_with x c cs (inr n) (inl f) = inl (record { none = λ d k h. by d k h })
    where
      by : (d : Candidate) → In d (x ∷ cs) → Ahead edges c.member d.member → ⊥
      by d here h = n h
      by d (there k) h = f.none d k h

  free_decided : (cs : List Candidate) (c : Candidate) → Decided (IsFree edges cs c)
  free_decided [] c = inl (free_none c)
  free_decided (x ∷ cs) c = free_with x c cs (ahead_decided c.member x.member) (free_decided cs c)

  abbrev is_free : List Candidate → Candidate → Bool
  is_free cs c = test (free_decided cs c)

  chosen_first : (cs : List Candidate) (c : Candidate) → IsFirstOf (is_free cs) cs c → IsChosen edges cs c
  chosen_first cs c h = record {
    place = h.place;
    stands = h.stands;
    free = tested (free_decided cs c) h.passes;
    soonest = λ d k f. h.soonest d k (holds (free_decided cs d) f);
    earliest = λ d i k f n. h.earliest d i k (holds (free_decided cs d) f) n;
  }

  none_free : (all cs : List Candidate) → ((d : Candidate) → In d cs → IsFree edges cs d → ⊥) → cs ≡ []
  none_free all [] none = refl
  none_free all (x ∷ cs) none = let s = some_free edges acyclic x cs in absurd (none s.candidate s.among s.free)

  choice_first : (cs : List Candidate) (o : Option Candidate) → FirstOf (is_free (shallowest cs)) (shallowest cs) o → IsChoice edges cs o
  choice_first cs None h =
      none_shallow cs (none_free cs (shallowest cs) (λ d k f. let t : true ≡ false = sym (holds (free_decided (shallowest cs) d) f) ∙ h d k in cc))
  choice_first cs (Some c) h = chosen_first (shallowest cs) c h

  pub some_choice : (cs : List Candidate) → (choice : Option Candidate) × IsChoice edges cs choice
  some_choice cs = (fold sooner None (filter (is_free (shallowest cs)) (shallowest cs)), choice_first cs _ (first_of_all (is_free (shallowest cs)) (shallowest cs)))
