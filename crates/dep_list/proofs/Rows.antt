-- Chains: a node is put behind the last, or goes out of the middle.
use Rattle.std.proofs.Common.{◌≡◌, ℕ, Bool, cond, List, [], ◌∷◌, ◌++◌, Option, Some, None, refl, sym, ap, ◌∙◌, subst, append-nil}
use denote.RawPtr.{Ptr}
use Rattle.dep_list.specs.declared.node.Place.{Place}
use Rattle.dep_list.specs.declared.node.Link.{Link}
use Rattle.dep_list.specs.declared.node.Ends.{Ends}
use Rattle.dep_list.specs.Cells.{same_ptr, places, alter, Absent, Apart}
use Rattle.dep_list.specs.Lists.{place, next_to, prev_to, first_or, last_or, Chain, IsRow, Stack, alter_if, or_else, pushed_ends, if_none, cut_ends}
use Rattle.dep_list.proofs.Cells.{same_ptr_refl, same_ptr_symm}
use Rattle.dep_list.proofs.Places.{Absent-right, Apart-left, Apart-right, places-append, places-alter, alter-absent, alter-append}

abbrev pub Step : Type 0
Step = ℕ × Link

-- a change of the neighbours
abbrev pub on_link : (Link → Link) → Step → Step
on_link g x = (x.0, g x.1)

-- the place, if any, isn't one of these
abbrev pub AbsentIf : Option Place → List Ptr → Type 0
AbsentIf None ps = Unit {0}
AbsentIf (Some q) ps = Absent q.ptr ps

-- none of the first places is one of the second
abbrev pub Disjoint : List Ptr → List Ptr → Type 0
Disjoint [] ps = Unit {0}
Disjoint (q ∷ qs) ps = Absent q ps × Disjoint qs ps

module _ {A : Type 0} where
  pub last_or-append : (a : Option Place) (xs ys : List (Ptr × A)) → last_or a (xs ++ ys) ≡ last_or (last_or a xs) ys
  last_or-append a [] ys = refl
  last_or-append a (x ∷ xs) ys = last_or-append (Some (place x.0)) xs ys

  pub first_or-append : (z : Option Place) (xs ys : List (Ptr × A)) → first_or z (xs ++ ys) ≡ first_or (first_or z ys) xs
  first_or-append z [] ys = refl
  first_or-append z (x ∷ xs) ys = refl

  pub last_or-alter : (g : A → A) (p : Ptr) (a : Option Place) (xs : List (Ptr × A)) → last_or a (alter g p xs) ≡ last_or a xs
  last_or-alter g p a [] = refl
  last_or-alter g p a (x ∷ xs) = last_or-alter g p (Some (place x.0)) xs

  pub first_or-alter : (g : A → A) (p : Ptr) (z : Option Place) (xs : List (Ptr × A)) → first_or z (alter g p xs) ≡ first_or z xs
  first_or-alter g p z [] = refl
  first_or-alter g p z (x ∷ xs) = refl

  pub last_or-alter_if : (g : A → A) (o : Option Place) (a : Option Place) (xs : List (Ptr × A)) → last_or a (alter_if g o xs) ≡ last_or a xs
  last_or-alter_if g None a xs = refl
  last_or-alter_if g (Some q) a xs = last_or-alter g q.ptr a xs

  pub first_or-alter_if : (g : A → A) (o : Option Place) (z : Option Place) (xs : List (Ptr × A)) → first_or z (alter_if g o xs) ≡ first_or z xs
  first_or-alter_if g None z xs = refl
  first_or-alter_if g (Some q) z xs = first_or-alter g q.ptr z xs

  pub places-alter_if : (g : A → A) (o : Option Place) (xs : List (Ptr × A)) → places (alter_if g o xs) ≡ places xs
  places-alter_if g None xs = refl
  places-alter_if g (Some q) xs = places-alter g q.ptr xs

  pub alter_if-absent : (g : A → A) (o : Option Place) (xs : List (Ptr × A)) → AbsentIf o (places xs) → alter_if g o xs ≡ xs
  alter_if-absent g None xs a = refl
  alter_if-absent g (Some q) xs a = alter-absent g q.ptr xs a

  pub alter_if-append : (g : A → A) (o : Option Place) (xs ys : List (Ptr × A)) → alter_if g o (xs ++ ys) ≡ alter_if g o xs ++ alter_if g o ys
  alter_if-append g None xs ys = refl
  alter_if-append g (Some q) xs ys = alter-append g q.ptr xs ys

  abbrev at_if : (A → A) → Option Place → Ptr × A → A
  at_if g None c = c.1
  at_if g (Some q) c = cond (same_ptr c.0 q.ptr) (g c.1) c.1

  alter_if-cons : (g : A → A) (o : Option Place) (c : Ptr × A) (cs : List (Ptr × A)) → alter_if g o (c ∷ cs) ≡ (c.0, at_if g o c) ∷ alter_if g o cs
  alter_if-cons g None c cs = refl
  alter_if-cons g (Some q) c cs = refl

  at_if-missed : (g : A → A) (o : Option Place) (c : Ptr × A) → AbsentIf o (c.0 ∷ []) → at_if g o c ≡ c.1
  at_if-missed g None c a = refl
  at_if-missed g (Some q) c a = λ i. cond (a.0 i) (g c.1) c.1

  -- the last of a list isn't a place that the list hasn't
  last_other : (p : Ptr) (a : Option Place) (xs : List (Ptr × A)) → Absent p (places xs) → AbsentIf a (p ∷ []) → AbsentIf (last_or a xs) (p ∷ [])
  last_other p a [] b e = e
  last_other p a (x ∷ xs) b e = last_other p (Some (place x.0)) xs b.1 (same_ptr_symm p x.0 ∙ b.0, tt)

  pub last_disjoint : (a : Option Place) (xs : List (Ptr × A)) (ps : List Ptr) → Disjoint (places xs) ps → AbsentIf a ps → AbsentIf (last_or a xs) ps
  last_disjoint a [] ps d e = e
  last_disjoint a (x ∷ xs) ps d e = last_disjoint (Some (place x.0)) xs ps d.1 d.0

  pub first_disjoint : (z : Option Place) (xs : List (Ptr × A)) (ps : List Ptr) → Disjoint (places xs) ps → AbsentIf z ps → AbsentIf (first_or z xs) ps
  first_disjoint z [] ps d e = e
  first_disjoint z (x ∷ xs) ps d e = d.0

Disjoint-apart : (xs ys : List Ptr) → Apart (xs ++ ys) → Disjoint xs ys
Disjoint-apart [] ys a = tt
Disjoint-apart (x ∷ xs) ys a = (Absent-right x xs ys a.0, Disjoint-apart xs ys a.1)

Disjoint_none : (xs : List Ptr) → Disjoint xs []
Disjoint_none [] = tt
Disjoint_none (x ∷ xs) = (tt, Disjoint_none xs)

Disjoint_more : (xs : List Ptr) (y : Ptr) (ys : List Ptr) → Absent y xs → Disjoint xs ys → Disjoint xs (y ∷ ys)
Disjoint_more [] y ys a d = tt
Disjoint_more (x ∷ xs) y ys a d = ((same_ptr_symm y x ∙ a.0, d.0), Disjoint_more xs y ys a.1 d.1)

pub Disjoint-symm : (xs ys : List Ptr) → Disjoint xs ys → Disjoint ys xs
Disjoint-symm [] ys d = Disjoint_none ys
Disjoint-symm (x ∷ xs) ys d = Disjoint_more ys x xs d.0 (Disjoint-symm xs ys d.1)

pub Disjoint-push : (xs : List Ptr) (y : Ptr) (ys : List Ptr) → Absent y xs → Disjoint xs ys → Disjoint xs (y ∷ ys)
Disjoint-push = Disjoint_more

pub Disjoint-left : (xs ys ps : List Ptr) → Disjoint (xs ++ ys) ps → Disjoint xs ps
Disjoint-left [] ys ps d = tt
Disjoint-left (x ∷ xs) ys ps d = (d.0, Disjoint-left xs ys ps d.1)

pub Disjoint-right : (xs ys ps : List Ptr) → Disjoint (xs ++ ys) ps → Disjoint ys ps
Disjoint-right [] ys ps d = d
Disjoint-right (x ∷ xs) ys ps d = Disjoint-right xs ys ps d.1

-- ---- chains

pub Chain-cut : (a : Option Place) (us vs : List (Ptr × Step)) (z : Option Place) → Chain a (us ++ vs) z → Chain a us (first_or z vs) × Chain (last_or a us) vs z
Chain-cut a [] vs z c = (tt, c)
Chain-cut a (u ∷ us) vs z c =
    let rest = Chain-cut (Some (place u.0)) us vs z c.2 in
    ((c.0, c.1 ∙ first_or-append z us vs, rest.0), rest.1)

pub Chain-join : (a : Option Place) (us vs : List (Ptr × Step)) (z : Option Place) → Chain a us (first_or z vs) → Chain (last_or a us) vs z → Chain a (us ++ vs) z
Chain-join a [] vs z c d = d
Chain-join a (u ∷ us) vs z c d = (c.0, c.1 ∙ sym (first_or-append z us vs), Chain-join (Some (place u.0)) us vs z c.2 d)

-- the last leads on to z
pub Chain-renext : (a : Option Place) (us : List (Ptr × Step)) (y z : Option Place) → Chain a us y → Apart (places us) → Chain a (alter_if (on_link (next_to z)) (last_or None us) us) z
Chain-renext a [] y z c d = tt
Chain-renext a (u ∷ []) y z c d =
    let g = on_link (next_to z) in
    (ap (λ (b : Bool). (cond b (g u.1) u.1).1.prev) (same_ptr_refl u.0) ∙ c.0, ap (λ (b : Bool). (cond b (g u.1) u.1).1.next) (same_ptr_refl u.0), tt)
Chain-renext a (u ∷ w ∷ ws) y z c d =
    let g = on_link (next_to z) in let o = last_or (Some (place w.0)) ws in
    let missed : at_if g o u ≡ u.1 = at_if-missed g o u (last_other u.0 None (w ∷ ws) d.0 tt) in
    subst (λ (l : List (Ptr × Step)). Chain a l z) (sym (alter_if-cons g o u (w ∷ ws)))
    (ap (λ (x : Step). x.1.prev) missed ∙ c.0, ap (λ (x : Step). x.1.next) missed ∙ c.1 ∙ sym (first_or-alter_if g o z (w ∷ ws)), Chain-renext (Some (place u.0)) (w ∷ ws) y z c.2 d.1)

-- the first leads back to b
pub Chain-reprev : (a b : Option Place) (vs : List (Ptr × Step)) (z : Option Place) → Chain a vs z → Apart (places vs) → Chain b (alter_if (on_link (prev_to b)) (first_or None vs) vs) z
Chain-reprev a b [] z c d = tt
Chain-reprev a b (v ∷ vs) z c d =
    let g = on_link (prev_to b) in (
      ap (λ (t : Bool). (cond t (g v.1) v.1).1.prev) (same_ptr_refl v.0),
      ap (λ (t : Bool). (cond t (g v.1) v.1).1.next) (same_ptr_refl v.0) ∙ c.1 ∙ sym (first_or-alter g v.0 z vs),
      subst (λ (l : List (Ptr × Step)). Chain (Some (place v.0)) l z) (sym (alter-absent g v.0 vs d.0)) c.2,
    )

-- ---- a node comes behind the last

first_pushed : (r : List (Ptr × Step)) (c : Ptr × Step) → or_else (first_or None r) (Some (place c.0)) ≡ first_or None (r ++ c ∷ [])
first_pushed [] c = refl
first_pushed (x ∷ r) c = refl

-- a row with a node behind the last, to which the last leads
abbrev pub pushed_row : Option Place → Ptr → ℕ → List (Ptr × Step) → List (Ptr × Step)
pushed_row last p other r = alter_if (on_link (next_to (Some (place p)))) last (r ++ (p, (other, record { prev = last; next = None })) ∷ [])

row_pushed : (e : Ends) (r : List (Ptr × Step)) (p : Ptr) (other : ℕ) → IsRow e r → Apart (places r) → Absent p (places r) → IsRow (pushed_ends p e) (pushed_row (last_or None r) p other r)
row_pushed e r p other row d a =
    let l = last_or None r in let g = on_link (next_to (Some (place p))) in let c : Ptr × Step = (p, (other, record { prev = l; next = None })) in
    let split : alter_if g l (r ++ c ∷ []) ≡ alter_if g l r ++ c ∷ [] =
    alter_if-append g l r (c ∷ []) ∙ ap (λ (t : List (Ptr × Step)). alter_if g l r ++ t) (alter_if-absent g l (c ∷ []) (last_other p None r a tt)) in
    record {
      first = ap (λ (f : Option Place). or_else f (Some (place p))) row.first ∙ first_pushed r c ∙ sym (first_or-alter_if g l None (r ++ c ∷ []));
      last = sym (last_or-alter_if g l None (r ++ c ∷ []) ∙ last_or-append None r (c ∷ []));
      chain = subst (λ (t : List (Ptr × Step)). Chain None t None) (sym split)
          (Chain-join None (alter_if g l r) (c ∷ []) None (Chain-renext None r None (Some (place p)) row.chain d) (sym (last_or-alter_if g l None r), refl, tt));
    }

pub IsRow-pushed : (e : Ends) (r : List (Ptr × Step)) (p : Ptr) (other : ℕ) → IsRow e r → Apart (places r) → Absent p (places r) → IsRow (pushed_ends p e) (pushed_row e.last p other r)
IsRow-pushed e r p other row d a = subst (λ (l : Option Place). IsRow (pushed_ends p e) (pushed_row l p other r)) (sym row.last) (row_pushed e r p other row d a)

-- ---- a node goes out

some_last : {X : Type 0} (q : Place) (us : List (Ptr × Step)) (x y : X) → if_none (last_or (Some q) us) x y ≡ y
some_last q [] x y = refl
some_last q (u ∷ us) x y = some_last (place u.0) us x y

first_cut : (us : List (Ptr × Step)) (c : Ptr × Step) (vs : List (Ptr × Step)) → if_none (last_or None us) (first_or None vs) (first_or None (us ++ c ∷ vs)) ≡ first_or None (us ++ vs)
first_cut [] c vs = refl
first_cut (u ∷ us) c vs = some_last (place u.0) us (first_or None vs) (Some (place u.0))

last_cut : (us : List (Ptr × Step)) (c : Ptr × Step) (vs : List (Ptr × Step)) → if_none (first_or None vs) (last_or None us) (last_or None (us ++ c ∷ vs)) ≡ last_or None (us ++ vs)
last_cut us c [] = ap (last_or None) (sym (append-nil us))
last_cut us c (v ∷ vs) = last_or-append None us (c ∷ v ∷ vs) ∙ sym (last_or-append None us (v ∷ vs))

-- a row in which the neighbours of a node that went out lead to each other
abbrev pub cut_row : Link → List (Ptr × Step) → List (Ptr × Step)
cut_row l r = alter_if (on_link (prev_to l.prev)) l.next (alter_if (on_link (next_to l.next)) l.prev r)

module _ (us vs : List (Ptr × Step)) (d : Apart (places (us ++ vs))) where
  abbrev L : Option Place
  L = last_or None us

  abbrev F : Option Place
  F = first_or None vs

  abbrev gN : Step → Step
  gN = on_link (next_to F)

  abbrev gP : Step → Step
  gP = on_link (prev_to L)

  apart_both : Apart (places us ++ places vs)
  apart_both = subst Apart (places-append us vs) d

  cut_parts : cut_row (record { prev = L; next = F }) (us ++ vs) ≡ alter_if gN L us ++ alter_if gP F vs
  cut_parts =
      let across = Disjoint-apart (places us) (places vs) apart_both in
      ap (alter_if gP F) (alter_if-append gN L us vs ∙ ap (λ (t : List (Ptr × Step)). alter_if gN L us ++ t) (alter_if-absent gN L vs (last_disjoint None us (places vs) across tt)))
      ∙ alter_if-append gP F (alter_if gN L us) vs
      ∙ ap (λ (t : List (Ptr × Step)). t ++ alter_if gP F vs) (alter_if-absent gP F (alter_if gN L us)
      (subst (AbsentIf F) (sym (places-alter_if gN L us)) (first_disjoint None vs (places us) (Disjoint-symm (places us) (places vs) across) tt)))

  cut_chain : (y a : Option Place) → Chain None us y → Chain a vs None → Chain None (cut_row (record { prev = L; next = F }) (us ++ vs)) None
  cut_chain y a c e = subst (λ (t : List (Ptr × Step)). Chain None t None) (sym cut_parts)
      (Chain-join None (alter_if gN L us) (alter_if gP F vs) None
      (subst (Chain None (alter_if gN L us)) (sym (first_or-alter_if gP F None vs)) (Chain-renext None us y F c (Apart-left (places us) (places vs) apart_both)))
      (subst (λ (b : Option Place). Chain b (alter_if gP F vs) None) (sym (last_or-alter_if gN L None us)) (Chain-reprev a L vs None e (Apart-right (places us) (places vs) apart_both))))

  cut_ends_are : (e : Ends) (c : Ptr × Step) → e.first ≡ first_or None (us ++ c ∷ vs) → e.last ≡ last_or None (us ++ c ∷ vs)
      → (if_none L F e.first ≡ first_or None (cut_row (record { prev = L; next = F }) (us ++ vs))) × (if_none F L e.last ≡ last_or None (cut_row (record { prev = L; next = F }) (us ++ vs)))
  cut_ends_are e c f l = (
    ap (if_none L F) f ∙ first_cut us c vs ∙ sym (first_or-alter_if gP F None (alter_if gN L (us ++ vs)) ∙ first_or-alter_if gN L None (us ++ vs)),
    ap (if_none F L) l ∙ last_cut us c vs ∙ sym (last_or-alter_if gP F None (alter_if gN L (us ++ vs)) ∙ last_or-alter_if gN L None (us ++ vs)),
  )

  row_cut : (e : Ends) (p : Ptr) (x : Step) → IsRow e (us ++ (p, x) ∷ vs) → x.1 ≡ record { prev = L; next = F } → IsRow (cut_ends (record { prev = L; next = F }) e) (cut_row (record { prev = L; next = F }) (us ++ vs))
  row_cut e p x row same =
      let parts = Chain-cut None us ((p, x) ∷ vs) None row.chain in let ends = cut_ends_are e (p, x) row.first row.last in
      record { first = ends.0; last = ends.1; chain = cut_chain (Some (place p)) (Some (place p)) parts.0 parts.1.2 }

-- the neighbours of a node in a row
pub link_in_row : (e : Ends) (us : List (Ptr × Step)) (p : Ptr) (x : Step) (vs : List (Ptr × Step)) → IsRow e (us ++ (p, x) ∷ vs) → x.1 ≡ record { prev = last_or None us; next = first_or None vs }
link_in_row e us p x vs row = let parts = Chain-cut None us ((p, x) ∷ vs) None row.chain in λ i. record { prev = parts.1.0 i; next = parts.1.1 i }

pub IsRow-cut : (e : Ends) (us : List (Ptr × Step)) (p : Ptr) (x : Step) (vs : List (Ptr × Step)) → IsRow e (us ++ (p, x) ∷ vs) → Apart (places (us ++ vs)) → IsRow (cut_ends x.1 e) (cut_row x.1 (us ++ vs))
IsRow-cut e us p x vs row d = let same = link_in_row e us p x vs row in
    subst (λ (l : Link). IsRow (cut_ends l e) (cut_row l (us ++ vs))) (sym same) (row_cut us vs d e p x row same)

-- ---- the stack of spare nodes

pub Stack-cut : (a : Option Place) (us : List (Ptr × Option Place)) (p : Ptr) (b : Option Place) (vs : List (Ptr × Option Place)) → Stack a (us ++ (p, b) ∷ vs) → Stack a us × (b ≡ last_or a us)
Stack-cut a [] p b vs s = (tt, s.0)
Stack-cut a (u ∷ us) p b vs s = let rest = Stack-cut (Some (place u.0)) us p b vs s.1 in ((s.0, rest.0), rest.1)

pub Stack-push : (a : Option Place) (us : List (Ptr × Option Place)) (p : Ptr) → Stack a us → Stack a (us ++ (p, last_or a us) ∷ [])
Stack-push a [] p s = (refl, tt)
Stack-push a (u ∷ us) p s = (s.0, Stack-push (Some (place u.0)) us p s.1)

-- a list whose last is at a place, cut there
pub record LastCut {A : Type 0} (xs : List (Ptr × A)) (q : Place) : Type 0 where
  pub before : List (Ptr × A)
  pub value : A
  pub whole : xs ≡ before ++ (q.ptr, value) ∷ []

pub last_cut_at : {A : Type 0} (xs : List (Ptr × A)) (q : Place) → last_or None xs ≡ Some q → LastCut xs q
last_cut_at [] q e = cc
last_cut_at (x ∷ []) q e = let at : x.0 ≡ q.ptr = ap (λ (r : Place). r.ptr) (let f : place x.0 ≡ q = cc in f) in record { before = []; value = x.1; whole = λ i. (at i, x.1) ∷ [] }
last_cut_at (x ∷ y ∷ ys) q e = let c = last_cut_at (y ∷ ys) q e in record { before = x ∷ c.before; value = c.value; whole = ap (λ l. x ∷ l) c.whole }
