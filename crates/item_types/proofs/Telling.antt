-- What is told of parts is told of what is made of them; and each judging tells one thing, where its parts do.
use Rattle.std.proofs.Common.{◌≡◌, ◌⊎◌, inl, inr, Bool, true, false, List, [], ◌∷◌, ◌++◌, Option, Some, None, Result, Ok, Err, refl, sym, ap, subst, ◌∙◌}
use Rattle.std.specs.Ordering.{is_gt, nat_cmp}
use Rattle.std.specs.Cmp.Lexicographic.{slice_cmp}
use Rattle.std.specs.Prelude.{if◌then◌else◌, IfOk}
use Rattle.slint_base.specs.declared.faults.Fault.{Fault}
use Rattle.fault_order.specs.Order.{IsFirst, NotBehind, earlier_fault, rank}
use Rattle.fault_order.proofs.First.{NotBehind-refl, NotBehind-trans, NotBehind-total}
use Rattle.item_types.specs.Judging.{Judging, at_once, going_on, owned, made, both, AllCome, none, more, OneBreaks, first, behind, each, optional, or_else, or_as, Tells, something, fault, both_told, added, Told, told}

-- something comes to one result at most, and not where it breaks a rule
pub record Sound {X : Type 0} (judging : Judging X) : Type 0 where
  pub one : (x y : X) → judging.comes x → judging.comes y → x ≡ y
  pub apart : (x : X) (f : Fault) → judging.comes x → judging.breaks f → ⊥

not_behind_same : (f g : Fault) → f ≡ g → NotBehind f g
not_behind_same f g e = let P : Fault → Type 0 = λ z. NotBehind f z in subst P e (NotBehind-refl f)

-- ---- what is the same

pub told_at : {X : Type 0} (j : Judging X) {v w : Result X Fault} → v ≡ w → Tells j v → Tells j w
told_at {X} j e t = let P : Result X Fault → Type 0 = λ z. Tells j z in subst P e t

pub came : {X : Type 0} (j : Judging X) {x : X} → Tells j (Ok x) → j.comes x
came j (something a) = a

pub told_first : {X : Type 0} (j : Judging X) {f : Fault} → Tells j (Err f) → IsFirst j.breaks f
told_first j (fault p) = p

-- ---- at once

pub at_once_told : {X : Type 0} (r : Result X Fault) → Tells (at_once r) r
at_once_told (Ok x) = something refl
at_once_told (Err f) = fault (record { has = refl; first = λ g e. not_behind_same f g (sym e) })

pub at_once_sound : {X : Type 0} (r : Result X Fault) → Sound (at_once r)
at_once_sound (Ok x) = record { one = λ y z p q. p ∙ sym q; apart = λ y f p q. q }
at_once_sound (Err g) = record { one = λ y z p q. absurd p; apart = λ y f p q. p }

-- ---- going on

pub going_ok : {A X : Type 0} (go : A → Judging X) (r : Result A Fault) {a : A} {v : Result X Fault} → r ≡ Ok a → Tells (go a) v → Tells (going_on r go) v
going_ok {A} {X} go r {a} {v} e t = let P : Result A Fault → Type 0 = λ z. Tells (going_on z go) v in subst P (sym e) t

pub going_err : {A X : Type 0} (go : A → Judging X) (r : Result A Fault) {f : Fault} → r ≡ Err f → Tells (going_on r go) (Err f)
going_err {A} {X} go r {f} e = let P : Result A Fault → Type 0 = λ z. Tells (going_on z go) (Err f) in subst P (sym e) (at_once_told (Err f))

pub going_sound : {A X : Type 0} (go : A → Judging X) (r : Result A Fault) → ((a : A) → Sound (go a)) → Sound (going_on r go)
going_sound go (Ok a) p = p a
going_sound go (Err f) p = at_once_sound (Err f)

-- ---- a rule of one's own

abbrev pub then_own : {X Y : Type 0} → Result X Fault → (X → Result Y Fault) → Result Y Fault
then_own (Ok x) own = own x
then_own (Err f) own = Err f

same_broken : {X Y : Type 0} (own : X → Result Y Fault) (x z : X) (f g : Fault) → x ≡ z → own x ≡ Err f → own z ≡ Err g → f ≡ g
same_broken own x z f g e p q = cc

same_made : {X Y : Type 0} (own : X → Result Y Fault) (x z : X) (y w : Y) → x ≡ z → own x ≡ Ok y → own z ≡ Ok w → y ≡ w
same_made own x z y w e p q = cc

never_both : {X Y : Type 0} (own : X → Result Y Fault) (x z : X) (y : Y) (f : Fault) → x ≡ z → own x ≡ Ok y → own z ≡ Err f → ⊥
never_both own x z y f e p q = cc

own_first : {X Y : Type 0} (j : Judging X) (own : X → Result Y Fault) → Sound j → (x : X) (f : Fault) → j.comes x → own x ≡ Err f → (g : Fault) → (owned j own).breaks g → NotBehind f g
own_first j own s x f a e g (inl b) = absurd (s.apart x g a b)
own_first j own s x f a e g (inr (z, c, h)) = not_behind_same f g (same_broken own x z f g (s.one x z a c) e h)

pub owned_by : {X Y : Type 0} (j : Judging X) (own : X → Result Y Fault) → Sound j → (x : X) (r : Result Y Fault) → own x ≡ r → j.comes x → Tells (owned j own) r
owned_by j own s x (Ok y) e a = something (x, a, e)
owned_by j own s x (Err f) e a = fault (record { has = inr (x, a, e); first = own_first j own s x f a e })

owned_broken : {X Y : Type 0} (j : Judging X) (own : X → Result Y Fault) → Sound j → (f : Fault) → IsFirst j.breaks f → (g : Fault) → (owned j own).breaks g → NotBehind f g
owned_broken j own s f p g (inl b) = p.first g b
owned_broken j own s f p g (inr (z, c, h)) = absurd (s.apart z f c p.has)

-- what is told of a part, with the rule of the whole
pub owned_told : {X Y : Type 0} (j : Judging X) (own : X → Result Y Fault) → Sound j → {v : Result X Fault} → Tells j v → Tells (owned j own) (then_own v own)
owned_told j own s (something {x} a) = owned_by j own s x (own x) refl a
owned_told j own s (fault {f} p) = fault (record { has = inl p.has; first = owned_broken j own s f p })

owned_apart : {X Y : Type 0} (j : Judging X) (own : X → Result Y Fault) → Sound j → (y : Y) (f : Fault) → (owned j own).comes y → (owned j own).breaks f → ⊥
owned_apart j own s y f (x, a, e) (inl b) = s.apart x f a b
owned_apart j own s y f (x, a, e) (inr (z, c, h)) = never_both own x z y f (s.one x z a c) e h

pub owned_sound : {X Y : Type 0} (j : Judging X) (own : X → Result Y Fault) → Sound j → Sound (owned j own)
owned_sound j own s = record {
  one = λ y w p q. same_made own p.0 q.0 y w (s.one p.0 q.0 p.1 q.1) p.2 q.2;
  apart = λ y f p. owned_apart j own s y f p;
}

pub made_told : {X Y : Type 0} (j : Judging X) (make : X → Y) → Sound j → {v : Result X Fault} → Tells j v → Tells (made j make) (then_own v (λ x. Ok (make x)))
made_told j make s t = owned_told j (λ x. Ok (make x)) s t

pub made_sound : {X Y : Type 0} (j : Judging X) (make : X → Y) → Sound j → Sound (made j make)
made_sound j make s = owned_sound j (λ x. Ok (make x)) s

-- a part that came to something, and what is made of it
pub made_of : {X Y : Type 0} (j : Judging X) (make : X → Y) → Sound j → {x : X} → Tells j (Ok x) → Tells (made j make) (Ok (make x))
made_of j make s t = owned_told j (λ x. Ok (make x)) s t

pub owned_err : {X Y : Type 0} (j : Judging X) (own : X → Result Y Fault) → Sound j → {f : Fault} → Tells j (Err f) → Tells (owned j own) (Err f)
owned_err j own s t = owned_told j own s t

pub owned_ok : {X Y : Type 0} (j : Judging X) (own : X → Result Y Fault) → Sound j → {x : X} {r : Result Y Fault} → r ≡ own x → Tells j (Ok x) → Tells (owned j own) r
owned_ok j own s e t = told_at (owned j own) (sym e) (owned_told j own s t)

-- of a part that was taken apart
pub made_in_ok : {X Y : Type 0} (j : Judging X) (make : X → Y) → Sound j → {v : Result X Fault} {x : X} → v ≡ Ok x → Tells j v → Tells (made j make) (Ok (make x))
made_in_ok j make s e t = made_of j make s (told_at j e t)

pub made_in_err : {X Y : Type 0} (j : Judging X) (make : X → Y) → Sound j → {v : Result X Fault} {f : Fault} → v ≡ Err f → Tells j v → Tells (made j make) (Err f)
made_in_err j make s e t = owned_err j (λ x. Ok (make x)) s (told_at j e t)

pub owned_in_ok : {X Y : Type 0} (j : Judging X) (own : X → Result Y Fault) → Sound j → {v : Result X Fault} {x : X} {r : Result Y Fault} → v ≡ Ok x → r ≡ own x → Tells j v → Tells (owned j own) r
owned_in_ok j own s e h t = owned_ok j own s h (told_at j e t)

pub owned_in_err : {X Y : Type 0} (j : Judging X) (own : X → Result Y Fault) → Sound j → {v : Result X Fault} {f : Fault} → v ≡ Err f → Tells j v → Tells (owned j own) (Err f)
owned_in_err j own s e t = owned_err j own s (told_at j e t)

-- going on, of what was found
pub going_in_ok : {A X : Type 0} (go : A → Judging X) {r q : Result A Fault} {a : A} {v : Result X Fault} → r ≡ Ok a → r ≡ q → Tells (go a) v → Tells (going_on q go) v
going_in_ok go {r} {q} e h t = going_ok go q (sym h ∙ e) t

pub going_in_err : {A X : Type 0} (go : A → Judging X) {r q : Result A Fault} {f : Fault} → r ≡ Err f → r ≡ q → Tells (going_on q go) (Err f)
going_in_err go {r} {q} e h = going_err go q (sym h ∙ e)

-- of what a call gives that may lack memory
abbrev pub map_ok : {A B E : Type 0} → (A → B) → Result A E → Result B E
map_ok f (Ok a) = Ok (f a)
map_ok f (Err e) = Err e

pub if_told : {X Y E : Type 0} (j : Judging X) (k : Judging Y) (f : Result X Fault → Result Y Fault) → ((v : Result X Fault) → Tells j v → Tells k (f v)) → (made : Result (Result X Fault) E) → IfOk made (λ v. Tells j v) → (given : Result (Result Y Fault) E) → given ≡ map_ok f made → IfOk given (λ v. Tells k v)
if_told {X} {Y} {E} j k f go (Ok v) t given e = let P : Result (Result Y Fault) E → Type 0 = λ z. IfOk z (λ w. Tells k w) in subst P (sym e) (go v t)
if_told {X} {Y} {E} j k f go (Err m) t given e = let P : Result (Result Y Fault) E → Type 0 = λ z. IfOk z (λ w. Tells k w) in subst P (sym e) tt

pub if_same : {X E : Type 0} (j k : Judging X) → ((v : Result X Fault) → Tells j v → Tells k v) → (made : Result (Result X Fault) E) → IfOk made (λ v. Tells j v) → IfOk made (λ v. Tells k v)
if_same j k go (Ok v) t = go v t
if_same j k go (Err m) t = tt

pub if_going : {A X E : Type 0} (go : A → Judging X) {r q : Result A Fault} {a : A} → r ≡ Ok a → r ≡ q → (made : Result (Result X Fault) E) → IfOk made (λ v. Tells (go a) v) → IfOk made (λ v. Tells (going_on q go) v)
if_going go {r} {q} {a} e h made t = if_same (go a) (going_on q go) (λ v u. going_in_ok go e h u) made t

-- ---- two parts

both_left : {X Y : Type 0} (a : Judging X) (b : Judging Y) → Sound b → (f : Fault) (y : Y) → IsFirst a.breaks f → b.comes y → (g : Fault) → (both a b).breaks g → NotBehind f g
both_left a b s f y p c g (inl k) = p.first g k
both_left a b s f y p c g (inr k) = absurd (s.apart y g c k)

both_right : {X Y : Type 0} (a : Judging X) (b : Judging Y) → Sound a → (x : X) (f : Fault) → a.comes x → IsFirst b.breaks f → (g : Fault) → (both a b).breaks g → NotBehind f g
both_right a b s x f c p g (inl k) = absurd (s.apart x g c k)
both_right a b s x f c p g (inr k) = p.first g k

-- of two faults the earlier one
data Chosen (f g h : Fault) : Type 0 where
  chosen : (h ≡ f) ⊎ (h ≡ g) → NotBehind h f → NotBehind h g → Chosen f g h

choose : (f g : Fault) (b : Bool) → is_gt (slice_cmp nat_cmp (rank f) (rank g)) ≡ b → Chosen f g (if b then g else f)
choose f g true e = chosen (inr refl) (NotBehind-total f g e) (NotBehind-refl g)
choose f g false e = chosen (inl refl) (NotBehind-refl f) e

earlier_chosen : (f g : Fault) → Chosen f g (earlier_fault f g)
earlier_chosen f g = choose f g (is_gt (slice_cmp nat_cmp (rank f) (rank g))) refl

has_either : (P Q : Fault → Type 0) (f g h : Fault) → (h ≡ f) ⊎ (h ≡ g) → P f → Q g → P h ⊎ Q h
has_either P Q f g h (inl e) p q = inl (let R : Fault → Type 0 = λ z. P z in subst R (sym e) p)
has_either P Q f g h (inr e) p q = inr (let R : Fault → Type 0 = λ z. Q z in subst R (sym e) q)

first_of_either : (P Q : Fault → Type 0) (f g h : Fault) → NotBehind h f → NotBehind h g → IsFirst P f → IsFirst Q g → (k : Fault) → P k ⊎ Q k → NotBehind h k
first_of_either P Q f g h a b p q k (inl c) = NotBehind-trans h f k a (p.first k c)
first_of_either P Q f g h a b p q k (inr c) = NotBehind-trans h g k b (q.first k c)

first_chosen : (P Q : Fault → Type 0) (f g h : Fault) → Chosen f g h → IsFirst P f → IsFirst Q g → IsFirst (λ x. P x ⊎ Q x) h
first_chosen P Q f g h (chosen e a b) p q = record { has = has_either P Q f g h e p.has q.has; first = first_of_either P Q f g h a b p q }

pub earlier_first : (P Q : Fault → Type 0) (f g : Fault) → IsFirst P f → IsFirst Q g → IsFirst (λ x. P x ⊎ Q x) (earlier_fault f g)
earlier_first P Q f g p q = first_chosen P Q f g (earlier_fault f g) (earlier_chosen f g) p q

pub both_of : {X Y : Type 0} (a : Judging X) (b : Judging Y) → Sound a → Sound b → {v : Result X Fault} {w : Result Y Fault} → Tells a v → Tells b w → Tells (both a b) (both_told v w)
both_of a b s r (something {x} p) (something {x = y} q) = something (p, q)
both_of a b s r (something {x} p) (fault {f = g} q) = fault (record { has = inr q.has; first = both_right a b s x g p q })
both_of a b s r (fault {f} p) (something {x = y} q) = fault (record { has = inl p.has; first = both_left a b r f y p q })
both_of a b s r (fault {f} p) (fault {f = g} q) = fault (earlier_first a.breaks b.breaks f g p q)

same_pair : {X Y : Type 0} (x y : X × Y) → x.0 ≡ y.0 → x.1 ≡ y.1 → x ≡ y
same_pair x y p q = ap (λ z. (z, x.1)) p ∙ ap (λ z. (y.0, z)) q

both_apart : {X Y : Type 0} (a : Judging X) (b : Judging Y) → Sound a → Sound b → (x : X × Y) (f : Fault) → (both a b).comes x → (both a b).breaks f → ⊥
both_apart a b s r x f p (inl k) = s.apart x.0 f p.0 k
both_apart a b s r x f p (inr k) = r.apart x.1 f p.1 k

pub both_sound : {X Y : Type 0} (a : Judging X) (b : Judging Y) → Sound a → Sound b → Sound (both a b)
both_sound a b s r = record { one = λ x y p q. same_pair x y (s.one x.0 y.0 p.0 q.0) (r.one x.1 y.1 p.1 q.1); apart = both_apart a b s r }

-- ---- lists of parts

abbrev EachSound : {A X : Type 0} → (A → Judging X) → Type 0
EachSound {A} part = (a : A) → Sound (part a)

all_more : {A X : Type 0} {Comes : A → X → Type 0} {parts : List A} {xs : List X} {a : A} {x : X} → AllCome Comes parts xs → Comes a x → AllCome Comes (parts ++ a ∷ []) (xs ++ x ∷ [])
all_more none c = more c none
all_more (more b rest) c = more b (all_more rest c)

one_left : {A : Type 0} {Breaks : A → Fault → Type 0} {parts : List A} {f : Fault} (a : A) → OneBreaks Breaks parts f → OneBreaks Breaks (parts ++ a ∷ []) f
one_left a (first b) = first b
one_left a (behind b) = behind (one_left a b)

one_last : {A : Type 0} {Breaks : A → Fault → Type 0} (parts : List A) (a : A) {f : Fault} → Breaks a f → OneBreaks Breaks (parts ++ a ∷ []) f
one_last [] a b = first b
one_last (p ∷ parts) a b = behind (one_last parts a b)

only_one : {A : Type 0} {Breaks : A → Fault → Type 0} {a : A} {f : Fault} → OneBreaks Breaks (a ∷ []) f → Breaks a f
only_one (first b) = b
only_one (behind b) = elim b [ ]

one_either : {A : Type 0} {Breaks : A → Fault → Type 0} (parts : List A) {a : A} {f : Fault} → OneBreaks Breaks (parts ++ a ∷ []) f → OneBreaks Breaks parts f ⊎ Breaks a f
one_either [] b = inr (only_one b)
one_either (p ∷ parts) (first b) = inl (first b)
one_either (p ∷ parts) (behind b) = elim (one_either parts b) [ inl c ↦ inl (behind c) | inr c ↦ inr c ]

each_apart : {A X : Type 0} (part : A → Judging X) → EachSound part → {parts : List A} {xs : List X} {f : Fault} → (each part parts).comes xs → (each part parts).breaks f → ⊥
each_apart part s none b = elim b [ ]
each_apart part s (more {a} {x = x} c rest) (first {f = f} b) = (s a).apart x f c b
each_apart part s (more c rest) (behind b) = each_apart part s rest b

onto_same : {X : Type 0} (x y : X) (xs ys : List X) → x ≡ y → xs ≡ ys → x ∷ xs ≡ y ∷ ys
onto_same x y xs ys p q = cc

each_one : {A X : Type 0} (part : A → Judging X) → EachSound part → {parts : List A} {xs ys : List X} → (each part parts).comes xs → (each part parts).comes ys → xs ≡ ys
each_one part s none none = refl
each_one part s (more {a} {x = x} {xs = xs} c rest) (more {x = y} {xs = ys} d others) = onto_same x y xs ys ((s a).one x y c d) (each_one part s rest others)

pub each_sound : {A X : Type 0} (part : A → Judging X) → EachSound part → (parts : List A) → Sound (each part parts)
each_sound part s parts = record { one = λ xs ys p q. each_one part s p q; apart = λ xs f p q. each_apart part s p q }

pub each_none : {A X : Type 0} (part : A → Judging X) → Tells (each part []) (Ok [])
each_none part = something none

last_first : {A X : Type 0} (part : A → Judging X) → EachSound part → (parts : List A) (a : A) {xs : List X} {f : Fault} → (each part parts).comes xs → IsFirst (part a).breaks f → (g : Fault) → (each part parts).breaks g ⊎ (part a).breaks g → NotBehind f g
last_first part s parts a c p g (inl k) = absurd (each_apart part s c k)
last_first part s parts a c p g (inr k) = p.first g k

seen_first : {A X : Type 0} (part : A → Judging X) → EachSound part → (parts : List A) (a : A) {x : X} {f : Fault} → IsFirst (each part parts).breaks f → (part a).comes x → (g : Fault) → (each part parts).breaks g ⊎ (part a).breaks g → NotBehind f g
seen_first part s parts a p c g (inl k) = p.first g k
seen_first part s parts a {x} p c g (inr k) = absurd ((s a).apart x g c k)

earlier_of_each : {A X : Type 0} (part : A → Judging X) (parts : List A) (a : A) (f g : Fault) → IsFirst (each part parts).breaks f → IsFirst (part a).breaks g → IsFirst (each part (parts ++ a ∷ [])).breaks (earlier_fault f g)
earlier_of_each part parts a f g p q =
    let e = earlier_first (each part parts).breaks (part a).breaks f g p q in
    record { has = elim e.has [ inl k ↦ one_left a k | inr k ↦ one_last parts a k ]; first = λ h k. e.first h (one_either parts k) }

pub each_more : {A X : Type 0} (part : A → Judging X) → EachSound part → (parts : List A) (a : A) {seen : Result (List X) Fault} {v : Result X Fault} → Tells (each part parts) seen → Tells (part a) v → Tells (each part (parts ++ a ∷ [])) (added seen v)
each_more part s parts a (something c) (something d) = something (all_more c d)
each_more part s parts a (something c) (fault q) = fault (record { has = one_last parts a q.has; first = λ g k. last_first part s parts a c q g (one_either parts k) })
each_more part s parts a (fault p) (something d) = fault (record { has = one_left a p.has; first = λ g k. seen_first part s parts a p d g (one_either parts k) })
each_more part s parts a (fault {f} p) (fault {f = g} q) = fault (earlier_of_each part parts a f g p q)

-- ---- two ways

pub or_one : {X : Type 0} (a b : Judging X) {x : X} → Tells a (Ok x) → Tells (or_else a b) (Ok x)
or_one a b (something p) = something (inl p)

pub or_other : {X : Type 0} (a b : Judging X) {f : Fault} {x : X} → Tells a (Err f) → Tells b (Ok x) → Tells (or_else a b) (Ok x)
or_other a b (fault {f} p) (something q) = something (inr ((f, p.has), q))

pub or_neither : {X : Type 0} (a b : Judging X) {f g : Fault} → Tells a (Err f) → Tells b (Err g) → Tells (or_else a b) (Err f)
or_neither a b (fault {f} p) (fault {f = g} q) = fault (record { has = (p.has, (g, q.has)); first = λ h k. p.first h k.0 })

pub as_one : {X : Type 0} (a b : Judging X) {x : X} → Tells a (Ok x) → Tells (or_as a b) (Ok x)
as_one a b (something p) = something (inl p)

pub as_other : {X : Type 0} (a b : Judging X) {f : Fault} {v : Result X Fault} → Tells a (Err f) → Tells b v → Tells (or_as a b) v
as_other a b (fault {f} p) (something q) = something (inr ((f, p.has), q))
as_other a b (fault {f} p) (fault {f = g} q) = fault (record { has = ((f, p.has), q.has); first = λ h k. q.first h k.1 })

either_one : {X : Type 0} (a b : Judging X) → Sound a → Sound b → (x y : X) → (or_else a b).comes x → (or_else a b).comes y → x ≡ y
either_one a b s r x y (inl p) (inl q) = s.one x y p q
either_one a b s r x y (inl p) (inr (k, q)) = absurd (s.apart x k.0 p k.1)
either_one a b s r x y (inr (k, p)) (inl q) = absurd (s.apart y k.0 q k.1)
either_one a b s r x y (inr (k, p)) (inr (h, q)) = r.one x y p q

else_apart : {X : Type 0} (a b : Judging X) → Sound a → Sound b → (x : X) (f : Fault) → (or_else a b).comes x → (or_else a b).breaks f → ⊥
else_apart a b s r x f (inl p) k = s.apart x f p k.0
else_apart a b s r x f (inr (h, p)) k = r.apart x k.1.0 p k.1.1

as_apart : {X : Type 0} (a b : Judging X) → Sound a → Sound b → (x : X) (f : Fault) → (or_as a b).comes x → (or_as a b).breaks f → ⊥
as_apart a b s r x f (inl p) k = s.apart x k.0.0 p k.0.1
as_apart a b s r x f (inr (h, p)) k = r.apart x f p k.1

pub else_sound : {X : Type 0} (a b : Judging X) → Sound a → Sound b → Sound (or_else a b)
else_sound a b s r = record { one = either_one a b s r; apart = else_apart a b s r }

pub as_sound : {X : Type 0} (a b : Judging X) → Sound a → Sound b → Sound (or_as a b)
as_sound a b s r = record { one = either_one a b s r; apart = as_apart a b s r }

-- ---- a part that may be there

pub optional_sound : {A X : Type 0} (part : A → Judging X) → EachSound part → (a : Option A) → Sound (optional part a)
optional_sound part s None = at_once_sound (Ok None)
optional_sound part s (Some a) = made_sound (part a) (λ x. Some x) (s a)

-- ---- something is told

pub at_once_some : {X : Type 0} (r : Result X Fault) → Told (at_once r)
at_once_some r = told (at_once_told r)

pub going_some : {A X : Type 0} (go : A → Judging X) (r : Result A Fault) → ((a : A) → Told (go a)) → Told (going_on r go)
going_some go (Ok a) p = p a
going_some go (Err f) p = at_once_some (Err f)

pub owned_some : {X Y : Type 0} (j : Judging X) (own : X → Result Y Fault) → Sound j → Told j → Told (owned j own)
owned_some j own s (told t) = told (owned_told j own s t)

pub both_some : {X Y : Type 0} (a : Judging X) (b : Judging Y) → Sound a → Sound b → Told a → Told b → Told (both a b)
both_some a b s r (told t) (told u) = told (both_of a b s r t u)

pub optional_some : {A X : Type 0} (part : A → Judging X) → EachSound part → ((a : A) → Told (part a)) → (a : Option A) → Told (optional part a)
optional_some part s p None = at_once_some (Ok None)
optional_some part s p (Some a) = owned_some (part a) (λ x. Ok (Some x)) (s a) (p a)

else_some_by : {X : Type 0} (a b : Judging X) {v w : Result X Fault} → Tells a v → Tells b w → Told (or_else a b)
else_some_by a b (something p) u = told (or_one a b (something p))
else_some_by a b (fault p) (something q) = told (or_other a b (fault p) (something q))
else_some_by a b (fault p) (fault q) = told (or_neither a b (fault p) (fault q))

pub else_some : {X : Type 0} (a b : Judging X) → Told a → Told b → Told (or_else a b)
else_some a b (told t) (told u) = else_some_by a b t u

as_some_by : {X : Type 0} (a b : Judging X) {v w : Result X Fault} → Tells a v → Tells b w → Told (or_as a b)
as_some_by a b (something p) u = told (as_one a b (something p))
as_some_by a b (fault p) u = told (as_other a b (fault p) u)

pub as_some : {X : Type 0} (a b : Judging X) → Told a → Told b → Told (or_as a b)
as_some a b (told t) (told u) = as_some_by a b t u

-- of a list from the front: of one part and those behind it
front_or : {A : Type 0} {Breaks : A → Fault → Type 0} {a : A} {rest : List A} {f : Fault} → OneBreaks Breaks (a ∷ rest) f → Breaks a f ⊎ OneBreaks Breaks rest f
front_or (first b) = inl b
front_or (behind b) = inr b

back_first : {A X : Type 0} (part : A → Judging X) → EachSound part → (a : A) (parts : List A) {x : X} {g : Fault} → (part a).comes x → IsFirst (each part parts).breaks g → (h : Fault) → (part a).breaks h ⊎ (each part parts).breaks h → NotBehind g h
back_first part s a parts {x} p q h (inl k) = absurd ((s a).apart x h p k)
back_first part s a parts p q h (inr k) = q.first h k

front_first : {A X : Type 0} (part : A → Judging X) → EachSound part → (a : A) (parts : List A) {xs : List X} {f : Fault} → IsFirst (part a).breaks f → (each part parts).comes xs → (h : Fault) → (part a).breaks h ⊎ (each part parts).breaks h → NotBehind f h
front_first part s a parts p q h (inl k) = p.first h k
front_first part s a parts p q h (inr k) = absurd (each_apart part s q k)

both_first : {A X : Type 0} (part : A → Judging X) (a : A) (parts : List A) (f g : Fault) → IsFirst (part a).breaks f → IsFirst (each part parts).breaks g → IsFirst (each part (a ∷ parts)).breaks (earlier_fault f g)
both_first part a parts f g p q =
    let e = earlier_first (part a).breaks (each part parts).breaks f g p q in
    record { has = elim e.has [ inl k ↦ first k | inr k ↦ behind k ]; first = λ h k. e.first h (front_or k) }

each_onto : {A X : Type 0} (part : A → Judging X) → EachSound part → (a : A) (parts : List A) {v : Result X Fault} {seen : Result (List X) Fault} → Tells (part a) v → Tells (each part parts) seen → Told (each part (a ∷ parts))
each_onto part s a parts (something p) (something q) = told (something (more p q))
each_onto part s a parts (something {x} p) (fault {f = g} q) = told (fault (record { has = behind q.has; first = λ h k. back_first part s a parts p q h (front_or k) }))
each_onto part s a parts (fault {f} p) (something q) = told (fault (record { has = first p.has; first = λ h k. front_first part s a parts p q h (front_or k) }))
each_onto part s a parts (fault {f} p) (fault {f = g} q) = told (fault (both_first part a parts f g p q))

each_some_by : {A X : Type 0} (part : A → Judging X) → EachSound part → (a : A) (parts : List A) → Told (part a) → Told (each part parts) → Told (each part (a ∷ parts))
each_some_by part s a parts (told t) (told u) = each_onto part s a parts t u

pub each_some : {A X : Type 0} (part : A → Judging X) → EachSound part → ((a : A) → Told (part a)) → (parts : List A) → Told (each part parts)
each_some part s p [] = told (each_none part)
each_some part s p (a ∷ parts) = each_some_by part s a parts (p a) (each_some part s p parts)
