-- What is told of nodes one by one is told of all of them, and what is told of a node's parts of the node.
use Rattle.std.proofs.Common.{◌≡◌, List, [], ◌∷◌, ◌++◌, Ok, Err, sym, ap, subst, ◌⊎◌, inl, inr}
use Rattle.slint_base.specs.declared.faults.Fault.{Fault}
use Rattle.typed_tree.specs.Scopes.{ScopeValue}
use Rattle.expr_rules.specs.declared.judged.Judged.{Judged}
use Rattle.fault_order.specs.Order.{IsFirst, NotBehind}
use Rattle.expr_types.specs.Judgement.{Rules, ComesTo, comes, AllCome, none, more, FaultIn, here, in_part, in_later, FaultAmong, first, behind}
use Rattle.expr_types.specs.Nodes.{Node, parts, later_parts}
use Rattle.expr_types.specs.Typing.{own, typing}
use Rattle.expr_types.specs.Verdicts.{Verdict, Verdicts, Tells, something, fault, Seen, all, some_fault, SeenLater}
use Rattle.expr_types.proofs.Order.{not_behind_itself, not_behind_along}
use Rattle.expr_types.proofs.Outcomes.{all_one, no_fault_among}

-- lists of nodes, put together

all_behind : {N X : Type 0} {r : Rules N X Fault} {ns ms : List N} {xs ys : List X} → AllCome N X Fault r ns xs → AllCome N X Fault r ms ys → AllCome N X Fault r (ns ++ ms) (xs ++ ys)
all_behind none b = b
all_behind (more a rest) b = more a (all_behind rest b)

among_left : {N X : Type 0} {r : Rules N X Fault} {ns : List N} {f : Fault} (ms : List N) → FaultAmong N X Fault r ns f → FaultAmong N X Fault r (ns ++ ms) f
among_left ms (first a) = first a
among_left ms (behind a) = behind (among_left ms a)

among_right : {N X : Type 0} {r : Rules N X Fault} {ms : List N} {f : Fault} (ns : List N) → FaultAmong N X Fault r ms f → FaultAmong N X Fault r (ns ++ ms) f
among_right [] a = a
among_right (n ∷ ns) a = behind (among_right ns a)

among_either : {N X : Type 0} {r : Rules N X Fault} (ns ms : List N) {f : Fault} → FaultAmong N X Fault r (ns ++ ms) f → FaultAmong N X Fault r ns f ⊎ FaultAmong N X Fault r ms f
among_either [] ms a = inr a
among_either (n ∷ ns) ms (first a) = inl (first a)
among_either (n ∷ ns) ms (behind a) = elim (among_either ns ms a) [ inl b ↦ inl (behind b) | inr b ↦ inr b ]

left_first : {N X : Type 0} {r : Rules N X Fault} (ns ms : List N) {ys : List X} {f : Fault} → IsFirst (FaultAmong N X Fault r ns) f → AllCome N X Fault r ms ys → IsFirst (FaultAmong N X Fault r (ns ++ ms)) f
left_first ns ms p b = record {
  has = among_left ms p.has;
  first = λ g a. elim (among_either ns ms a) [ inl c ↦ p.first g c | inr c ↦ absurd (no_fault_among c b) ];
}

right_first : {N X : Type 0} {r : Rules N X Fault} (ns ms : List N) {xs : List X} {f : Fault} → AllCome N X Fault r ns xs → IsFirst (FaultAmong N X Fault r ms) f → IsFirst (FaultAmong N X Fault r (ns ++ ms)) f
right_first ns ms b p = record {
  has = among_right ns p.has;
  first = λ g a. elim (among_either ns ms a) [ inl c ↦ absurd (no_fault_among c b) | inr c ↦ p.first g c ];
}

chosen_has : {N X : Type 0} {r : Rules N X Fault} (ns ms : List N) {f g h : Fault} → IsFirst (FaultAmong N X Fault r ns) f → IsFirst (FaultAmong N X Fault r ms) g → (h ≡ f) ⊎ (h ≡ g) → FaultAmong N X Fault r (ns ++ ms) h
chosen_has {N} {X} {r} ns ms p q (inl e) = let P : Fault → Type 0 = λ z. FaultAmong N X Fault r (ns ++ ms) z in subst P (sym e) (among_left ms p.has)
chosen_has {N} {X} {r} ns ms p q (inr e) = let P : Fault → Type 0 = λ z. FaultAmong N X Fault r (ns ++ ms) z in subst P (sym e) (among_right ns q.has)

pub chosen_first : {N X : Type 0} {r : Rules N X Fault} (ns ms : List N) {f g h : Fault} → IsFirst (FaultAmong N X Fault r ns) f → IsFirst (FaultAmong N X Fault r ms) g → NotBehind h f → NotBehind h g → (h ≡ f) ⊎ (h ≡ g) → IsFirst (FaultAmong N X Fault r (ns ++ ms)) h
chosen_first {N} {X} {r} ns ms {f} {g} {h} p q a b e = record {
  has = chosen_has ns ms p q e;
  first = λ k c. elim (among_either ns ms c) [ inl d ↦ not_behind_along h f k a (p.first k d) | inr d ↦ not_behind_along h g k b (q.first k d) ];
}

-- one node is a list of one

one_come : {N X : Type 0} {r : Rules N X Fault} {n : N} {x : X} → ComesTo N X Fault r n x → AllCome N X Fault r (n ∷ []) (x ∷ [])
one_come a = more a none

one_breaks : {N X : Type 0} {r : Rules N X Fault} {n : N} {f : Fault} → FaultAmong N X Fault r (n ∷ []) f → FaultIn N X Fault r n f
one_breaks (first a) = a
one_breaks (behind a) = elim a [ ]

one_first : {N X : Type 0} {r : Rules N X Fault} {n : N} {f : Fault} → IsFirst (FaultIn N X Fault r n) f → IsFirst (FaultAmong N X Fault r (n ∷ [])) f
one_first p = record { has = first p.has; first = λ g a. p.first g (one_breaks a) }

-- a list of one
abbrev pub of_one_node : Verdict → Verdicts
of_one_node (Ok x) = Ok (x ∷ [])
of_one_node (Err f) = Err f

pub one_seen : {s : ScopeValue} {n : Node} {v : Verdict} → Tells s n v → Seen s (n ∷ []) (of_one_node v)
one_seen (something a) = all (one_come a)
one_seen (fault p) = some_fault (one_first p)

pub none_seen : {s : ScopeValue} → Seen s [] (Ok [])
none_seen = all none

-- a list behind another one

pub all_all : {s : ScopeValue} (ns ms : List Node) {xs ys : List Judged} → Seen s ns (Ok xs) → Seen s ms (Ok ys) → Seen s (ns ++ ms) (Ok (xs ++ ys))
all_all ns ms (all a) (all b) = all (all_behind a b)

pub all_fault : {s : ScopeValue} (ns ms : List Node) {xs : List Judged} {g : Fault} → Seen s ns (Ok xs) → Seen s ms (Err g) → Seen s (ns ++ ms) (Err g)
all_fault ns ms (all a) (some_fault q) = some_fault (right_first ns ms a q)

pub fault_all : {s : ScopeValue} (ns ms : List Node) {f : Fault} {ys : List Judged} → Seen s ns (Err f) → Seen s ms (Ok ys) → Seen s (ns ++ ms) (Err f)
fault_all ns ms (some_fault p) (all b) = some_fault (left_first ns ms p b)

pub fault_fault : {s : ScopeValue} (ns ms : List Node) {f g h : Fault} → Seen s ns (Err f) → Seen s ms (Err g) → NotBehind h f → NotBehind h g → (h ≡ f) ⊎ (h ≡ g) → Seen s (ns ++ ms) (Err h)
fault_fault ns ms (some_fault p) (some_fault q) a b e = some_fault (chosen_first ns ms p q a b e)

-- a node by its parts

fault_of_parts : {N X : Type 0} {r : Rules N X Fault} (n : N) {f : Fault} → IsFirst (FaultAmong N X Fault r (r.parts n)) f → (g : Fault) → FaultIn N X Fault r n g → NotBehind f g
fault_of_parts n p g (here a b e) = absurd (no_fault_among p.has a)
fault_of_parts n p g (in_part k) = p.first g k
fault_of_parts n p g (in_later a k) = absurd (no_fault_among p.has a)

later_moved : {N X : Type 0} {r : Rules N X Fault} (n : N) {xs us : List X} {g : Fault} → AllCome N X Fault r (r.parts n) xs → AllCome N X Fault r (r.parts n) us → FaultAmong N X Fault r (r.later n us) g → FaultAmong N X Fault r (r.later n xs) g
later_moved {N} {X} {r} n {xs} {us} {g} a b k = let P : List X → Type 0 = λ z. FaultAmong N X Fault r (r.later n z) g in subst P (all_one b a) k

later_all_moved : {N X : Type 0} {r : Rules N X Fault} (n : N) {xs us ys : List X} → AllCome N X Fault r (r.parts n) xs → AllCome N X Fault r (r.parts n) us → AllCome N X Fault r (r.later n us) ys → AllCome N X Fault r (r.later n xs) ys
later_all_moved {N} {X} {r} n {xs} {us} {ys} a b k = let P : List X → Type 0 = λ z. AllCome N X Fault r (r.later n z) ys in subst P (all_one b a) k

fault_of_later : {N X : Type 0} {r : Rules N X Fault} (n : N) {xs : List X} {f : Fault} → AllCome N X Fault r (r.parts n) xs → IsFirst (FaultAmong N X Fault r (r.later n xs)) f → (g : Fault) → FaultIn N X Fault r n g → NotBehind f g
fault_of_later n a p g (here b c e) = absurd (no_fault_among p.has (later_all_moved n a b c))
fault_of_later n a p g (in_part k) = absurd (no_fault_among k a)
fault_of_later n a p g (in_later b k) = p.first g (later_moved n a b k)

same_fault : {N X : Type 0} (r : Rules N X Fault) (n : N) {xs us ys vs : List X} {f g : Fault} → xs ≡ us → ys ≡ vs → r.own n xs ys ≡ Err f → r.own n us vs ≡ Err g → NotBehind f g
same_fault {N} {X} r n {xs} {us} {ys} {vs} {f} {g} p q e h = let same : f ≡ g = cc in let P : Fault → Type 0 = λ z. NotBehind f z in subst P same (not_behind_itself f)

fault_of_own : {N X : Type 0} {r : Rules N X Fault} (n : N) {xs ys : List X} {f : Fault} → AllCome N X Fault r (r.parts n) xs → AllCome N X Fault r (r.later n xs) ys → r.own n xs ys ≡ Err f → (g : Fault) → FaultIn N X Fault r n g → NotBehind f g
fault_of_own {r = r} n a b e g (here c d h) = same_fault r n (all_one a c) (all_one b (later_all_moved n a c d)) e h
fault_of_own n a b e g (in_part k) = absurd (no_fault_among k a)
fault_of_own n a b e g (in_later c k) = absurd (no_fault_among (later_moved n a c k) b)

by_own : {s : ScopeValue} (n : Node) {xs ys : List Judged} (v : Verdict) → AllCome Node Judged Fault (typing s) (parts n) xs → AllCome Node Judged Fault (typing s) (later_parts s n xs) ys → own s n xs ys ≡ v → Tells s n v
by_own n (Ok x) a b e = something (comes a b e)
by_own n (Err f) a b e = fault (record { has = here a b e; first = fault_of_own n a b e })

-- what is told, of what is the same

pub told_at : {s : ScopeValue} {n : Node} {v w : Verdict} → v ≡ w → Tells s n v → Tells s n w
told_at {s} {n} e t = let P : Verdict → Type 0 = λ z. Tells s n z in subst P e t

pub seen_at : {s : ScopeValue} {ns : List Node} {v w : Verdicts} → v ≡ w → Seen s ns v → Seen s ns w
seen_at {s} {ns} e t = let P : Verdicts → Type 0 = λ z. Seen s ns z in subst P e t

pub seen_of : {s : ScopeValue} {ns ms : List Node} {v : Verdicts} → ns ≡ ms → Seen s ns v → Seen s ms v
seen_of {s} {ns} {ms} {v} e t = let P : List Node → Type 0 = λ z. Seen s z v in subst P e t

pub told_of : {s : ScopeValue} {n m : Node} {v : Verdict} → n ≡ m → Tells s n v → Tells s m v
told_of {s} {n} {m} {v} e t = let P : Node → Type 0 = λ z. Tells s z v in subst P e t

-- one node more

pub all_one_more : {s : ScopeValue} (n : Node) (ns : List Node) {xs ys : List Judged} {x : Judged} → ys ≡ xs ++ x ∷ [] → Tells s n (Ok x) → Seen s ns (Ok xs) → Seen s (ns ++ n ∷ []) (Ok ys)
all_one_more n ns e t p = seen_at (ap Ok (sym e)) (all_all ns (n ∷ []) p (one_seen t))

pub all_one_fault : {s : ScopeValue} (n : Node) (ns : List Node) {xs : List Judged} {f : Fault} → Tells s n (Err f) → Seen s ns (Ok xs) → Seen s (ns ++ n ∷ []) (Err f)
all_one_fault n ns t p = all_fault ns (n ∷ []) p (one_seen t)

pub fault_one_more : {s : ScopeValue} (n : Node) (ns : List Node) {f : Fault} {x : Judged} → Tells s n (Ok x) → Seen s ns (Err f) → Seen s (ns ++ n ∷ []) (Err f)
fault_one_more n ns t p = fault_all ns (n ∷ []) p (one_seen t)

pub fault_one_fault : {s : ScopeValue} (n : Node) (ns : List Node) {f g h : Fault} → NotBehind h f → NotBehind h g → (h ≡ f) ⊎ (h ≡ g) → Tells s n (Err g) → Seen s ns (Err f) → Seen s (ns ++ n ∷ []) (Err h)
fault_one_fault n ns a b e t p = fault_fault ns (n ∷ []) p (one_seen t) a b e

-- a node by what its parts are seen to be

pub fault_told : {s : ScopeValue} (n : Node) {f : Fault} → Seen s (parts n) (Err f) → Tells s n (Err f)
fault_told n (some_fault p) = fault (record { has = in_part p.has; first = fault_of_parts n p })

pub later_told : {s : ScopeValue} (n : Node) {xs : List Judged} {f : Fault} → Seen s (parts n) (Ok xs) → Seen s (later_parts s n xs) (Err f) → Tells s n (Err f)
later_told n (all a) (some_fault p) = fault (record { has = in_later a p.has; first = fault_of_later n a p })

pub own_told : {s : ScopeValue} (n : Node) {xs ys : List Judged} (v : Verdict) → Seen s (parts n) (Ok xs) → Seen s (later_parts s n xs) (Ok ys) → v ≡ own s n xs ys → Tells s n v
own_told n v (all a) (all b) e = by_own n v a b (sym e)

pub later_at : {s : ScopeValue} (n : Node) {seen later v : Verdicts} {xs : List Judged} → seen ≡ Ok xs → later ≡ v → SeenLater s n seen later → Seen s (later_parts s n xs) v
later_at {s} n {seen} {later} {v} {xs} e f q = let P : Verdicts → Type 0 = λ z. SeenLater s n z later in seen_at f (subst P e q)

pub empty_seen : {s : ScopeValue} {xs : List Judged} → xs ≡ [] → Seen s [] (Ok xs)
empty_seen e = seen_at (ap Ok (sym e)) none_seen

-- what is told of a node, as the relations say it

pub came_as : {s : ScopeValue} (n : Node) {x y : Judged} → x ≡ y → Tells s n (Ok x) → ComesTo Node Judged Fault (typing s) n y
came_as {s} n e (something k) = let P : Judged → Type 0 = λ z. ComesTo Node Judged Fault (typing s) n z in subst P e k

pub first_told : {s : ScopeValue} (n : Node) {f : Fault} → Tells s n (Err f) → IsFirst (FaultIn Node Judged Fault (typing s) n) f
first_told n (fault p) = p
