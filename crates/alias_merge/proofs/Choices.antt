-- What is chosen for a class.
use Rattle.std.proofs.Common.{◌≡◌, ℕ, suc, zero, ◌<◌, ◌≤◌, ◌⊎◌, inl, inr, Bool, true, false, not, List, [], ◌∷◌, length, min, Option, Some, None, refl, sym, ap, ◌∙◌, subst, arith}
use Rattle.std.specs.Prelude.{if◌then◌else◌, filter, fold, replicate, slice_get, unwrap_or}
use Rattle.std.specs.Option.{option_map}
use Rattle.std.proofs.lemmas.Bool.{cases_lt, eq-eqb, eqb-true}
use Rattle.finite_graphs.specs.declared.edge.Edge.{Edge}
use Rattle.finite_graphs.specs.Graphs.{EdgesWithin, Leads}
use Rattle.finite_graphs.specs.Walks.{At, In, Reaches, go, here, stay, there}
use Rattle.finite_graphs.proofs.Deciding.{Decided, reaches_decided}
use Rattle.finite_graphs.proofs.Lists.{at_in, at_some, at_within, in_none}
use Rattle.alias_merge.specs.declared.candidate.Candidate.{Candidate}
use Rattle.alias_merge.specs.declared.homes.Home.{Home}
use Rattle.alias_merge.specs.Choosing.{Ahead, AreChoices, HasNoCircle, IsChoice, IsChosen, IsFree, KeepsLabels, class_of, has_depth, is_of_class, label_within, least_depth, lesser, number_is, of_class, shallowest, stands_within}
use Rattle.alias_merge.specs.ChoosingSteps.{AreAhead, LeadsToMarked, chosen_of, depth_at, depths_of, free_of, grouped, is_marked, is_shallow, is_unmarked, marks_of, member_of, shallow_of, sooner}
use Rattle.alias_merge.proofs.Aheads.{SomeMark, ahead_ahead, ahead_circle, ahead_within, all_marked, at_get, at_marked, marked_at, marks_sized, only_marked, unmarked_first}
use Rattle.alias_merge.proofs.Filters.{filter_in, filter_same, filter_swap, in_filter}
use Rattle.alias_merge.proofs.Grouping.{grouped_get, grouped_sized}
use Rattle.alias_merge.proofs.Sooner.{FirstOf, IsFirstOf, first_of_all}

-- ---- a finite list has a free candidate, where links lead in no circle

pub record SomeFree (edges : List Edge) (cs : List Candidate) : Type 0 where
  pub candidate : Candidate
  pub among : In candidate cs
  pub free : IsFree edges cs candidate

module _ (edges : List Edge) (acyclic : HasNoCircle edges) where
  pub not_itself : (a b : ℕ) → a ≡ b → Ahead edges a b → ⊥
  not_itself a b e h = acyclic.none a (ahead_circle (subst (λ n. Ahead edges a n) (sym e) h))

  -- of one more candidate
  none_more : (x c : Candidate) (cs : List Candidate) → (Ahead edges c.member x.member → ⊥) → IsFree edges cs c → IsFree edges (x ∷ cs) c
  none_more x c cs n f = record { none = λ d k h. by d k h }
    where
      by : (d : Candidate) → In d (x ∷ cs) → Ahead edges c.member d.member → ⊥
      by d here h = n h
      by d (there k) h = f.none d k h

  free_before : (x : Candidate) (cs : List Candidate) (s : SomeFree edges cs) → Ahead edges s.candidate.member x.member → SomeFree edges (x ∷ cs)
  free_before x cs s a = record {
    candidate = x;
    among = here;
    free = none_more x x cs (λ h. not_itself x.member x.member refl h) (record { none = λ d k h. s.free.none d k (ahead_ahead a h) });
  }

  still_free : (x : Candidate) (cs : List Candidate) (s : SomeFree edges cs) → (Ahead edges s.candidate.member x.member → ⊥) → SomeFree edges (x ∷ cs)
  still_free x cs s n = record { candidate = s.candidate; among = there s.among; free = none_more x s.candidate cs n s.free }

  -- a walk has no step, or at least one
  pub walked : {a b : ℕ} → Reaches (Leads edges) a b → (a ≡ b) ⊎ Ahead edges a b
  walked stay = inl refl
  walked (go {b = n} e on) = inr (record { next = n; leads = e; way = on })

  pub way_of : {a b : ℕ} → Ahead edges a b → Reaches (Leads edges) a b
  way_of h = go h.leads h.way

  free_by : (x : Candidate) (cs : List Candidate) (s : SomeFree edges cs) → Decided (Reaches (Leads edges) s.candidate.member x.member) → SomeFree edges (x ∷ cs)
  free_by x cs s (inr none) = still_free x cs s (λ h. none (way_of h))
  free_by x cs s (inl way) = elim (walked way) [
    | inl e ↦ still_free x cs s (λ h. not_itself s.candidate.member x.member e h)
    | inr a ↦ free_before x cs s a
  ]

  pub some_free : (x : Candidate) (cs : List Candidate) → SomeFree edges (x ∷ cs)
  some_free x [] = record { candidate = x; among = here; free = none_more x x [] (λ h. not_itself x.member x.member refl h) (record { none = λ d k h. in_none k }) }
  some_free x (y ∷ cs) =
      let s = some_free y cs in free_by x (y ∷ cs) s (reaches_decided edges s.candidate.member x.member)

-- ---- the least depth is that of some candidate

-- a depth is that of the beginning, or that of a candidate
least_is : (n : ℕ) (cs : List Candidate) → (fold lesser (Some n) cs ≡ Some n) ⊎ ((c : Candidate) × (In c cs × (fold lesser (Some n) cs ≡ Some c.depth)))
least_is n [] = inl refl
least_is n (x ∷ cs) = by (least_is (min n x.depth) cs) (cases_lt n x.depth)
  where
    by : (fold lesser (Some (min n x.depth)) cs ≡ Some (min n x.depth)) ⊎ ((c : Candidate) × (In c cs × (fold lesser (Some (min n x.depth)) cs ≡ Some c.depth)))
        → (n < x.depth) ⊎ (x.depth ≤ n)
        → (fold lesser (Some (min n x.depth)) cs ≡ Some n) ⊎ ((c : Candidate) × (In c (x ∷ cs) × (fold lesser (Some (min n x.depth)) cs ≡ Some c.depth)))
    by (inl e) (inl l) = inl (e ∙ ap Some (omega (arith, l)))
    by (inl e) (inr l) = inr (x, (here, e ∙ ap Some (omega (arith, l))))
    by (inr c) _ = inr (c.0, (there c.1.0, c.1.1))

pub record SomeShallow (cs : List Candidate) : Type 0 where
  pub candidate : Candidate
  pub among : In candidate (shallowest cs)

shallow_if : (cs : List Candidate) (c : Candidate) → In c cs → least_depth cs ≡ Some c.depth → SomeShallow cs
shallow_if cs c k e = record { candidate = c; among = filter_in (has_depth (least_depth cs)) k (ap (λ o. has_depth o c) e ∙ eq-eqb c.depth c.depth refl) }

pub some_shallow : (x : Candidate) (cs : List Candidate) → SomeShallow (x ∷ cs)
some_shallow x cs = elim (least_is x.depth cs) [
  | inl e ↦ shallow_if (x ∷ cs) x here e
  | inr c ↦ shallow_if (x ∷ cs) c.0 (there c.1.0) c.1.1
]

pub none_shallow : (cs : List Candidate) → shallowest cs ≡ [] → cs ≡ []
none_shallow [] e = refl
none_shallow (x ∷ cs) e = let s = some_shallow x cs in absurd (in_none (subst (λ ys. In s.candidate ys) e s.among))

-- ---- the class of a candidate

is_number : (l : ℕ) (o : Option ℕ) → number_is l o ≡ true → o ≡ Some l
is_number l None t = cc
is_number l (Some m) t = ap Some (eqb-true m l t)

label_if : (homes : List (Option Home)) (c : Candidate) (o : Option ℕ) (l : ℕ) → label_within homes c o ≡ Some l → o ≡ Some l
label_if homes c None l e = e
label_if homes c (Some k) l e = by (stands_within c (slice_get homes k)) e
  where
    by : (b : Bool) → (if b then Some k else None) ≡ Some l → Some k ≡ Some l
    by true f = f
    by false f = cc

pub label_of_class : (labels : List ℕ) (homes : List (Option Home)) (c : Candidate) (l : ℕ) → class_of labels homes c ≡ Some l → slice_get labels c.member ≡ Some l
label_of_class labels homes c l e = label_if homes c (slice_get labels c.member) l e

-- what a table holds for each class
pub replicated : {A : Type 0} (n : ℕ) (l : ℕ) (x : A) → l < n → slice_get (replicate n x) l ≡ Some x
replicated zero l x w = absurd (omega arith)
replicated (suc n) zero x w = refl
replicated (suc n) (suc l) x w = replicated n l x (omega (arith, w))

pub replicate_sized : {A : Type 0} (n : ℕ) (x : A) → length (replicate n x) ≡ n
replicate_sized zero x = refl
replicate_sized (suc n) x = ap suc (replicate_sized n x)

module _ (labels : List ℕ) (homes : List (Option Home)) (cs : List Candidate) (l : ℕ) (within : l < length labels) where
  filled : {A : Type 0} (f : Option A → Candidate → Option A) (xs : List Candidate)
      → slice_get (grouped f (class_of labels homes) (replicate (length labels) None) xs) l ≡ Some (fold f None (of_class labels homes l xs))
  filled {A} f xs =
      grouped_get f (class_of labels homes) (replicate (length labels) None) xs l
      ∙ ap (option_map (λ (a : Option A). fold f a (of_class labels homes l xs))) (replicated (length labels) l None within)

  -- candidates of least depth are looked for in each class by itself
  shallow_there : (c : Candidate) → is_of_class labels homes l c ≡ true
      → is_shallow labels homes (depths_of labels homes cs) c ≡ has_depth (least_depth (of_class labels homes l cs)) c
  shallow_there c t =
      ap (λ o. has_depth (depth_at (depths_of labels homes cs) o) c) (is_number l (class_of labels homes c) t)
      ∙ ap (λ o. has_depth (unwrap_or o None) c) (filled lesser cs)

  pub shallow_class : of_class labels homes l (shallow_of labels homes (depths_of labels homes cs) cs) ≡ shallowest (of_class labels homes l cs)
  shallow_class =
      filter_swap (is_of_class labels homes l) (is_shallow labels homes (depths_of labels homes cs)) cs
      ∙ filter_same (is_of_class labels homes l) (is_shallow labels homes (depths_of labels homes cs)) (has_depth (least_depth (of_class labels homes l cs))) cs shallow_there

-- what has a depth has a class
depth_told : (depths : List (Option ℕ)) (o : Option ℕ) (c : Candidate) → has_depth (depth_at depths o) c ≡ true → (k : ℕ) × (o ≡ Some k)
depth_told depths None c t = cc
depth_told depths (Some k) c t = (k, refl)

-- ---- the choice of a class

module _ (nodes : ℕ) (edges : List Edge) (labels : List ℕ) (homes : List (Option Home)) (cs all : List Candidate) (marks ahead : List Bool) (depths : List (Option ℕ))
    (w : EdgesWithin nodes edges) (keeps : KeepsLabels edges labels) (acyclic : HasNoCircle edges)
    (all_is : all ≡ shallow_of labels homes depths cs) (marks_is : marks ≡ marks_of nodes all) (are : AreAhead edges marks ahead) (l : ℕ) where
  abbrev here_all : List Candidate
  here_all = of_class labels homes l all

  replicated_sized : length (replicate nodes false) ≡ nodes
  replicated_sized = replicate_sized nodes false

  -- the label is the same at both ends of a walk
  same_label : {a b : ℕ} → Reaches (Leads edges) a b → slice_get labels a ≡ slice_get labels b
  same_label stay = refl
  same_label (go e on) = keeps.along _ _ e ∙ same_label on

  ahead_label : {a b : ℕ} → Ahead edges a b → slice_get labels a ≡ slice_get labels b
  ahead_label h = keeps.along _ _ h.leads ∙ same_label h.way

  label_here : (c : Candidate) → In c here_all → slice_get labels c.member ≡ Some l
  label_here c k = label_of_class labels homes c l (is_number l (class_of labels homes c) (in_filter (is_of_class labels homes l) all k).passes)

  class_there : (d : Candidate) → In d all → (k : ℕ) × (class_of labels homes d ≡ Some k)
  class_there d k =
      depth_told depths (class_of labels homes d) d (in_filter (is_shallow labels homes depths) cs (subst (λ ys. In d ys) all_is k)).passes

  -- what is ahead of a candidate of the class is of the class
  ahead_here : (c d : Candidate) → In c here_all → In d all → Ahead edges c.member d.member → In d here_all
  ahead_here c d k m h =
      let there = class_there d m in
      let same : Some there.0 ≡ Some l = sym (label_of_class labels homes d there.0 there.1) ∙ (sym (ahead_label h) ∙ label_here c k) in
      let class : class_of labels homes d ≡ Some l = there.1 ∙ same in
      filter_in (is_of_class labels homes l) m (ap (number_is l) class ∙ eq-eqb l l refl)

  mark_of : (d : Candidate) → In d all → d.member < nodes → At true marks d.member
  mark_of d m within =
      let sized = replicated_sized in
      subst (λ xs. At true xs d.member) (sym marks_is) (all_marked member_of (replicate nodes false) m refl (omega (arith, sized, within)))

  marked_is : {t : ℕ} → At true marks t → SomeMark member_of all t
  marked_is {t} h = elim (only_marked member_of (replicate nodes false) all (subst (λ xs. At true xs t) marks_is h)) [ inl k ↦ absurd (unmarked_first nodes k) | inr m ↦ m ]

  -- from an unmarked candidate of the class no other one of the class is reached
  not_ahead : (c d : Candidate) → is_unmarked ahead c ≡ true → In d here_all → Ahead edges c.member d.member → ⊥
  not_ahead c d t k h =
      let ends = ahead_within w h in
      let marked = mark_of d (in_filter (is_of_class labels homes l) all k).among ends.1 in
      let sized = marks_sized member_of (replicate nodes false) all in
      let made = ap (λ (xs : List Bool). length xs) marks_is in
      let nodes_are = replicated_sized in
      let both = are.sized in
      let from = ends.0 in
      let there = at_some ahead c.member (omega (arith, sized, made, nodes_are, both, from)) in
      let set : there.item ≡ true = (are.each c.member there.item there.stands).1 (record { end = d.member; marked = marked; way = h }) in
      let none : not true ≡ true = ap not (sym (at_marked there.stands ∙ set)) ∙ t in
      cc

  unmarked_free : (c : Candidate) → is_unmarked ahead c ≡ true → IsFree edges here_all c
  unmarked_free c t = record { none = λ d k h. not_ahead c d t k h }

  leads_ahead : (c : Candidate) → In c here_all → LeadsToMarked edges marks c.member → IsFree edges here_all c → ⊥
  leads_ahead c k m f =
      let s = marked_is m.marked in
      let is = s.is in
      let end : s.thing.member ≡ m.end = cc in
      let h : Ahead edges c.member s.thing.member = subst (λ n. Ahead edges c.member n) (sym end) m.way in
      f.none s.thing (ahead_here c s.thing k s.among h) h

  free_unmarked : (c : Candidate) → In c here_all → IsFree edges here_all c → is_unmarked ahead c ≡ true
  free_unmarked c k f = by (is_marked ahead c.member) refl
    where
      by : (b : Bool) → is_marked ahead c.member ≡ b → not (is_marked ahead c.member) ≡ true
      by false e = ap not e
      by true e = absurd (leads_ahead c k ((are.each c.member true (marked_at ahead c.member e)).0 refl) f)

  chosen_if : (c : Candidate) → IsFirstOf (is_unmarked ahead) here_all c → IsChosen edges here_all c
  chosen_if c h = record {
    place = h.place;
    stands = h.stands;
    free = unmarked_free c h.passes;
    soonest = λ d k f. h.soonest d k (free_unmarked d k f);
    earliest = λ d i k f n. h.earliest d i k (free_unmarked d (at_in k) f) n;
  }

  none_here : (ds : List Candidate) → ((d : Candidate) → In d ds → IsFree edges ds d → ⊥) → ds ≡ []
  none_here [] none = refl
  none_here (x ∷ ds) none = let s = some_free edges acyclic x ds in absurd (none s.candidate s.among s.free)

  choice_if : (o : Option Candidate) (ds : List Candidate) → here_all ≡ shallowest ds → FirstOf (is_unmarked ahead) here_all o → IsChoice edges ds o
  choice_if None ds e h = none_shallow ds (sym e ∙ none_here here_all (λ d k f. let t : true ≡ false = sym (free_unmarked d k f) ∙ h d k in cc))
  choice_if (Some c) ds e h = subst (λ ys. IsChosen edges ys c) e (chosen_if c h)

  pub class_choice : (ds : List Candidate) → here_all ≡ shallowest ds → IsChoice edges ds (fold sooner None (of_class labels homes l (free_of ahead all)))
  class_choice ds e =
      subst (λ ys. IsChoice edges ds (fold sooner None ys)) (filter_swap (is_unmarked ahead) (is_of_class labels homes l) all)
      (choice_if (fold sooner None (filter (is_unmarked ahead) here_all)) ds e (first_of_all (is_unmarked ahead) here_all))

-- ---- the choices of all classes

pub choices_made : (nodes : ℕ) (edges : List Edge) (labels : List ℕ) (homes : List (Option Home)) (cs all free : List Candidate) (marks ahead : List Bool) (depths : List (Option ℕ)) (chosen : List (Option Candidate))
    → EdgesWithin nodes edges → depths ≡ depths_of labels homes cs → all ≡ shallow_of labels homes depths cs → marks ≡ marks_of nodes all → AreAhead edges marks ahead
    → free ≡ free_of ahead all → chosen ≡ chosen_of labels homes free → KeepsLabels edges labels → HasNoCircle edges → AreChoices edges labels homes cs chosen
choices_made nodes edges labels homes cs all free marks ahead depths chosen w d a m are f g keeps acyclic = record {
  sized = ap length g ∙ (grouped_sized sooner (class_of labels homes) (replicate (length labels) None) free ∙ replicate_sized (length labels) None);
  each = λ l c h. each l c h;
}
  where
    sized : length chosen ≡ length labels
    sized = ap length g ∙ (grouped_sized sooner (class_of labels homes) (replicate (length labels) None) free ∙ replicate_sized (length labels) None)

    each : (l : ℕ) (c : Option Candidate) → At c chosen l → IsChoice edges (of_class labels homes l cs) c
    each l c h =
        let in_chosen = at_within h in
        let within : l < length labels = omega (arith, in_chosen, sized) in
        let all_same : all ≡ shallow_of labels homes (depths_of labels homes cs) cs = a ∙ ap (λ ds. shallow_of labels homes ds cs) d in
        let stands : Some c ≡ Some (fold sooner None (of_class labels homes l (free_of ahead all))) =
        sym (at_get h) ∙ (ap (λ xs. slice_get xs l) (g ∙ ap (chosen_of labels homes) f) ∙ filled labels homes cs l within sooner (free_of ahead all)) in
        let is : c ≡ fold sooner None (of_class labels homes l (free_of ahead all)) = cc in
        subst (λ o. IsChoice edges (of_class labels homes l cs) o) (sym is)
        (class_choice nodes edges labels homes cs all marks ahead depths w keeps acyclic a m are l (of_class labels homes l cs)
        (ap (of_class labels homes l) all_same ∙ shallow_class labels homes cs l within))
