-- The first of faults: one of two, and one of a list.
use Rattle.std.proofs.Common.{◌≡◌, ℕ, ◌<◌, length, Bool, true, false, List, [], ◌∷◌, ◌++◌, Option, None, Some, Contains, inl, inr, Ordering, refl, sym, ap, ◌∙◌, subst, rules, arith}
use Rattle.std.specs.Prelude.{◌⊎◌, if◌then◌else◌}
use Rattle.std.specs.Cmp.{IsTotalOrder}
use Rattle.std.specs.Cmp.Lexicographic.{slice_cmp}
use Rattle.std.specs.declared.cmp.Ordering.TheVariants.{Less, Equal, Greater}
use Rattle.std.specs.Ordering.{nat_cmp, is_gt, is_eq, ordering_reverse}
use Rattle.std.specs.Str.{bytes_eq}
use Rattle.std.proofs.lemmas.Cmp.{nat_list_cmp_total}
use Rattle.std.proofs.lemmas.Slice.Eq.{bytes_eq-Decides}
use Rattle.std.proofs.lemmas.List.Elements.{Contains-append_cases, Contains-append_left, Contains-append_right, Contains-push_cases}
use Rattle.std.proofs.lemmas.Map.Text.{is_eq-slice_cmp}
use Rattle.slint_base.specs.declared.faults.Fault.{Fault}
use Rattle.slint_base.specs.declared.faults.Span.{Span}
use Rattle.slint_base.specs.declared.rules.Rule.{Rule}
use Rattle.slint_base.specs.Rules.{rule_number}
use Rattle.fault_order.specs.Order.{rank, NotBehind, IsFirst, NoFault, FirstIfAny, earlier_fault, earlier_of, first_of}
use Rattle.fault_order.proofs.Numbered.{rule_number-injective}

-- how two faults compare
abbrev compared : Fault → Fault → Ordering
compared f g = slice_cmp nat_cmp (rank f) (rank g)

reversed_gt : (o p : Ordering) → p ≡ ordering_reverse o → is_gt o ≡ true → is_gt p ≡ false
reversed_gt Less p e t = cc
reversed_gt Equal p e t = cc
reversed_gt Greater p e t = ap is_gt e

own_reverse : (o : Ordering) → o ≡ ordering_reverse o → is_gt o ≡ false
own_reverse Less e = refl
own_reverse Equal e = refl
own_reverse Greater e = cc

pub NotBehind-refl : (f : Fault) → NotBehind f f
NotBehind-refl f = own_reverse (compared f f) (nat_list_cmp_total.antisymm (rank f) (rank f))

pub NotBehind-total : (f g : Fault) → is_gt (compared f g) ≡ true → NotBehind g f
NotBehind-total f g t = reversed_gt (compared f g) (compared g f) (nat_list_cmp_total.antisymm (rank g) (rank f)) t

-- of a total order: not greater goes on
back : {K : Type 0} {R : K → K → Ordering} → IsTotalOrder R → (x y : K) (o : Ordering) → R x y ≡ o → R y x ≡ ordering_reverse o
back total x y o a = total.antisymm y x ∙ ap ordering_reverse a

on_le : {K : Type 0} {R : K → K → Ordering} → IsTotalOrder R → (x y z : K) (o p : Ordering) → R x y ≡ o → R y z ≡ p → is_gt o ≡ false → is_gt p ≡ false → is_gt (R x z) ≡ false
on_le total x y z Greater p a b s t = cc
on_le total x y z Equal p a b s t = ap is_gt (total.congr x y z a ∙ b) ∙ t
on_le total x y z Less Less a b s t = ap is_gt (total.trans x y z a b)
on_le total x y z Less Equal a b s t = ap is_gt (back total z x Greater (total.congr z y x (back total y z Equal b) ∙ back total x y Less a))
on_le total x y z Less Greater a b s t = cc

pub NotBehind-trans : (f g h : Fault) → NotBehind f g → NotBehind g h → NotBehind f h
NotBehind-trans f g h a b = on_le nat_list_cmp_total (rank f) (rank g) (rank h) (compared f g) (compared g h) refl refl a b

-- faults that stand at one place in the order are one fault
neither : (o p : Ordering) → p ≡ ordering_reverse o → is_gt o ≡ false → is_gt p ≡ false → is_eq o ≡ true
neither Equal p e s t = refl
neither Less p e s t = cc
neither Greater p e s t = cc

first_of_four : (a b c d p q r s : ℕ) → a ∷ b ∷ c ∷ d ∷ [] ≡ p ∷ q ∷ r ∷ s ∷ [] → a ≡ p
first_of_four a b c d p q r s e = cc

second_of_four : (a b c d p q r s : ℕ) → a ∷ b ∷ c ∷ d ∷ [] ≡ p ∷ q ∷ r ∷ s ∷ [] → b ≡ q
second_of_four a b c d p q r s e = cc

third_of_four : (a b c d p q r s : ℕ) → a ∷ b ∷ c ∷ d ∷ [] ≡ p ∷ q ∷ r ∷ s ∷ [] → c ≡ r
third_of_four a b c d p q r s e = cc

last_of_four : (a b c d p q r s : ℕ) → a ∷ b ∷ c ∷ d ∷ [] ≡ p ∷ q ∷ r ∷ s ∷ [] → d ≡ s
last_of_four a b c d p q r s e = cc

abbrev span_with : ℕ → ℕ → ℕ → Span
span_with file start end = record { file = file; start = start; end = end }

abbrev fault_with : Rule → Span → Fault
fault_with rule span = record { rule = rule; span = span }

same_span : (a b : Span) → a.file ≡ b.file → a.start ≡ b.start → a.end ≡ b.end → a ≡ b
same_span a b f s e = ap (λ x. span_with x a.start a.end) f ∙ ap (λ x. span_with b.file x a.end) s ∙ ap (λ x. span_with b.file b.start x) e

same_fault : (f g : Fault) → rank f ≡ rank g → f ≡ g
same_fault f g e =
    let n : rule_number f.rule ≡ rule_number g.rule = third_of_four f.span.file f.span.start (rule_number f.rule) f.span.end g.span.file g.span.start (rule_number g.rule) g.span.end e in
    let a : f.span.file ≡ g.span.file = first_of_four f.span.file f.span.start (rule_number f.rule) f.span.end g.span.file g.span.start (rule_number g.rule) g.span.end e in
    let b : f.span.start ≡ g.span.start = second_of_four f.span.file f.span.start (rule_number f.rule) f.span.end g.span.file g.span.start (rule_number g.rule) g.span.end e in
    let d : f.span.end ≡ g.span.end = last_of_four f.span.file f.span.start (rule_number f.rule) f.span.end g.span.file g.span.start (rule_number g.rule) g.span.end e in
    ap (λ r. fault_with r f.span) (rule_number-injective f.rule g.rule n) ∙ ap (λ x. fault_with g.rule x) (same_span f.span g.span a b d)

same_bytes : (xs ys : List ℕ) → bytes_eq xs ys ≡ true → xs ≡ ys
same_bytes xs ys t = search (rules, bytes_eq-Decides xs ys)

-- of two faults neither of which stands behind the other, there is one
pub NotBehind-antisym : (f g : Fault) → NotBehind f g → NotBehind g f → f ≡ g
NotBehind-antisym f g a b =
    same_fault f g (same_bytes (rank f) (rank g) (sym (is_eq-slice_cmp (rank f) (rank g)) ∙ neither (compared f g) (compared g f) (nat_list_cmp_total.antisymm (rank g) (rank f)) a b))

-- the first fault with a property is one
pub one_first : {P : Fault → Type 0} (f g : Fault) → IsFirst P f → IsFirst P g → f ≡ g
one_first f g a b = NotBehind-antisym f g (a.first g b.has) (b.first f a.has)

-- ---- the earlier of two

earlier_is : (f g : Fault) (b : Bool) → is_gt (compared f g) ≡ b → earlier_fault f g ≡ (if b then g else f)
earlier_is f g b e = ap (λ x. if x then g else f) e

on_either : {A B C : Type 0} → (A → C) → (B → C) → A ⊎ B → C
on_either go or (inl a) = go a
on_either go or (inr b) = or b

first_of_two : {P Q : Fault → Type 0} (f g : Fault) (b : Bool) → is_gt (compared f g) ≡ b → IsFirst P f → IsFirst Q g → IsFirst (λ x. P x ⊎ Q x) (if b then g else f)
first_of_two {P} {Q} f g true t p q = record { has = inr q.has; first = λ x. on_either (λ a. NotBehind-trans g f x (NotBehind-total f g t) (p.first x a)) (λ a. q.first x a) }
first_of_two {P} {Q} f g false t p q = record { has = inl p.has; first = λ x. on_either (λ a. p.first x a) (λ a. NotBehind-trans f g x t (q.first x a)) }

-- the earlier of the first fault with a property and of the first with another one is the first with either
pub FirstIfAny-earlier_of : (P Q : Fault → Type 0) (a b : Option Fault) → FirstIfAny P a → FirstIfAny Q b → FirstIfAny (λ x. P x ⊎ Q x) (earlier_of a b)
FirstIfAny-earlier_of P Q None None p q = λ x. on_either (p x) (q x)
FirstIfAny-earlier_of P Q None (Some g) p q = record { has = inr q.has; first = λ x. on_either (λ a. absurd (p x a)) (λ a. q.first x a) }
FirstIfAny-earlier_of P Q (Some f) None p q = record { has = inl p.has; first = λ x. on_either (λ a. p.first x a) (λ a. absurd (q x a)) }
FirstIfAny-earlier_of P Q (Some f) (Some g) p q = first_of_two f g (is_gt (compared f g)) refl p q

-- ---- lists

-- faults that are the same have the same first one
pub FirstIfAny-map : (P Q : Fault → Type 0) (a : Option Fault) → ((x : Fault) → P x → Q x) → ((x : Fault) → Q x → P x) → FirstIfAny P a → FirstIfAny Q a
FirstIfAny-map P Q None to from p = λ x a. p x (from x a)
FirstIfAny-map P Q (Some f) to from p = record { has = to f p.has; first = λ x a. p.first x (from x a) }

none_in : (f : Fault) → Contains [] f → ⊥
none_in f c = omega (arith, c.1)

only_here : (f g : Fault) → Contains (f ∷ []) g → g ≡ f
only_here f g c = on_either (λ a. absurd (none_in g a)) sym (Contains-push_cases [] f g c)

here : (f : Fault) (fs : List Fault) (x : Fault) → x ≡ f ⊎ Contains fs x → Contains (f ∷ fs) x
here f fs x (inl e) = Contains-append_left (f ∷ []) fs x (0, omega arith, sym e)
here f fs x (inr c) = Contains-append_right (f ∷ []) fs x c

apart : (f : Fault) (fs : List Fault) (x : Fault) → Contains (f ∷ fs) x → x ≡ f ⊎ Contains fs x
apart f fs x c = on_either (λ a. inl (only_here f x a)) (λ a. inr a) (Contains-append_cases (f ∷ []) fs x c)

first_alone : (f : Fault) → IsFirst (λ x. x ≡ f) f
first_alone f = record { has = refl; first = λ x e. subst (λ y. NotBehind f y) (sym e) (NotBehind-refl f) }

-- the first of a list is the first of those that stand in it
pub FirstIfAny-first_of : (fs : List Fault) → FirstIfAny (λ f. Contains fs f) (first_of fs)
FirstIfAny-first_of [] = none_in
FirstIfAny-first_of (f ∷ fs) = FirstIfAny-map (λ x. (x ≡ f) ⊎ Contains fs x) (λ x. Contains (f ∷ fs) x) (earlier_of (Some f) (first_of fs)) (here f fs) (apart f fs)
    (FirstIfAny-earlier_of (λ x. x ≡ f) (λ x. Contains fs x) (Some f) (first_of fs) (first_alone f) (FirstIfAny-first_of fs))

-- the first with a property, if there is one, is one
pub one_if_any : (P : Fault → Type 0) (a b : Option Fault) → FirstIfAny P a → FirstIfAny P b → a ≡ b
one_if_any P None None p q = refl
one_if_any P None (Some g) p q = absurd (p g q.has)
one_if_any P (Some f) None p q = absurd (q f p.has)
one_if_any P (Some f) (Some g) p q = ap (λ x. Some x) (one_first f g p q)

in_both : (xs ys : List Fault) (x : Fault) → Contains xs x ⊎ Contains ys x → Contains (xs ++ ys) x
in_both xs ys x c = on_either (Contains-append_left xs ys x) (Contains-append_right xs ys x) c

-- the first of two lists is the earlier one of their first ones
pub first_of-append : (xs ys : List Fault) → first_of (xs ++ ys) ≡ earlier_of (first_of xs) (first_of ys)
first_of-append xs ys = one_if_any (λ x. Contains (xs ++ ys) x) (first_of (xs ++ ys)) (earlier_of (first_of xs) (first_of ys)) (FirstIfAny-first_of (xs ++ ys))
    (FirstIfAny-map (λ x. Contains xs x ⊎ Contains ys x) (λ x. Contains (xs ++ ys) x) (earlier_of (first_of xs) (first_of ys)) (in_both xs ys) (λ x. Contains-append_cases xs ys x)
    (FirstIfAny-earlier_of (λ x. Contains xs x) (λ x. Contains ys x) (first_of xs) (first_of ys) (FirstIfAny-first_of xs) (FirstIfAny-first_of ys)))

pub earlier_of-None : (a : Option Fault) → earlier_of a None ≡ a
earlier_of-None None = refl
earlier_of-None (Some f) = refl
