-- The first of the candidates that pass a test, by their places in the text and then in the list.
use Rattle.std.proofs.Common.{◌≡◌, ℕ, ◌≤◌, inl, inr, Bool, true, false, cond, List, [], ◌∷◌, ◌++◌, length, Option, Some, None, refl, sym, ap, ◌∙◌, subst, arith, append_assoc}
use Rattle.std.specs.Prelude.{◌==◌, ◌||◌, ◌&&◌, nat_lt, filter, fold}
use Rattle.std.proofs.lemmas.Bool.Decides.{nat_tests}
use Rattle.finite_graphs.specs.Walks.{At, In}
use Rattle.finite_graphs.proofs.Lists.{at_end, at_in, at_last, at_left, at_within, in_one, in_split}
use Rattle.alias_merge.specs.declared.candidate.Candidate.{Candidate}
use Rattle.alias_merge.specs.Choosing.{is_sooner}
use Rattle.alias_merge.specs.ChoosingSteps.{sooner}

-- ---- places in the text

abbrev before : ℕ → ℕ → ℕ → ℕ → Bool
before f s g t = nat_lt f g || ((f == g) && nat_lt s t)

not_before_itself : (f s : ℕ) → before f s f s ≡ false
not_before_itself f s = grind (arith, nat_tests)

not_before_sooner : (f s g t h u : ℕ) → before f s g t ≡ true → before h u g t ≡ false → before h u f s ≡ false
not_before_sooner f s g t h u a b = grind (arith, nat_tests)

before_later : (f s g t h u : ℕ) → before f s g t ≡ true → before h u g t ≡ false → before f s h u ≡ true
before_later f s g t h u a b = grind (arith, nat_tests)

-- ---- the first so far

-- a candidate of the list passes; none that passes stands before it in the text, and of those at its place of the text it comes first
pub record IsFirstOf (p : Candidate → Bool) (cs : List Candidate) (c : Candidate) : Type 0 where
  pub place : ℕ
  pub stands : At c cs place
  pub passes : p c ≡ true
  pub soonest : (d : Candidate) → In d cs → p d ≡ true → is_sooner d.span c.span ≡ false
  pub earliest : (d : Candidate) (i : ℕ) → At d cs i → p d ≡ true → is_sooner c.span d.span ≡ false → place ≤ i

abbrev pub FirstOf : (Candidate → Bool) → List Candidate → Option Candidate → Type 0
FirstOf p cs None = (d : Candidate) → In d cs → p d ≡ false
FirstOf p cs (Some c) = IsFirstOf p cs c

module _ (p : Candidate → Bool) (cs : List Candidate) (x : Candidate) where
  In_either : {d : Candidate} → (P : Type 0) → (In d cs → P) → (d ≡ x → P) → In d (cs ++ x ∷ []) → P
  In_either P f g h = elim (in_split cs (x ∷ []) h) [ inl a ↦ f a | inr b ↦ g (in_one b) ]

  At_either : {d : Candidate} {i : ℕ} → (P : Type 0) → (At d cs i → P) → ((d ≡ x) × (i ≡ length cs) → P) → At d (cs ++ x ∷ []) i → P
  At_either P f g h = elim (at_end cs x h) [ inl a ↦ f a | inr b ↦ g b ]

  -- one more that doesn't pass
  passed_by : (o : Option Candidate) → p x ≡ false → FirstOf p cs o → FirstOf p (cs ++ x ∷ []) o
  passed_by None t none = λ d. In_either (p d ≡ false) (none d) (λ e. ap p e ∙ t)
  passed_by (Some b) t h = record {
    place = h.place;
    stands = at_left (x ∷ []) h.stands;
    passes = h.passes;
    soonest = λ d k s. In_either (is_sooner d.span b.span ≡ false) (λ a. h.soonest d a s) (λ e. let f : true ≡ false = sym s ∙ (ap p e ∙ t) in cc) k;
    earliest = λ d i k s n. At_either (h.place ≤ i) (λ a. h.earliest d i a s n) (λ e. let f : true ≡ false = sym s ∙ (ap p e.0 ∙ t) in cc) k;
  }

  same_span : {d : Candidate} → d ≡ x → d.span ≡ x.span
  same_span e = ap (λ (c : Candidate). c.span) e

  itself : (d : Candidate) → d ≡ x → is_sooner d.span x.span ≡ false
  itself d e = ap (λ s. is_sooner s x.span) (same_span e) ∙ not_before_itself x.span.file x.span.start

  -- one more that passes
  first_one : p x ≡ true → FirstOf p cs None → IsFirstOf p (cs ++ x ∷ []) x
  first_one t none = record {
    place = length cs;
    stands = at_last cs;
    passes = t;
    soonest = λ d k s. In_either (is_sooner d.span x.span ≡ false) (λ a. let f : true ≡ false = sym s ∙ none d a in cc) (itself d) k;
    earliest = λ d i k s n. At_either (length cs ≤ i) (λ a. let f : true ≡ false = sym s ∙ none d (at_in a) in cc) (λ e. let i_is = e.1 in omega (arith, i_is)) k;
  }

  stands_before : (b : Candidate) → p x ≡ true → IsFirstOf p cs b → is_sooner x.span b.span ≡ true → IsFirstOf p (cs ++ x ∷ []) x
  stands_before b t h now = record {
    place = length cs;
    stands = at_last cs;
    passes = t;
    soonest = λ d k s. In_either (is_sooner d.span x.span ≡ false)
        (λ a. not_before_sooner x.span.file x.span.start b.span.file b.span.start d.span.file d.span.start now (h.soonest d a s)) (itself d) k;
    earliest = λ d i k s n. At_either (length cs ≤ i)
        (λ a. let f : true ≡ false = sym (before_later x.span.file x.span.start b.span.file b.span.start d.span.file d.span.start now (h.soonest d (at_in a) s)) ∙ n in cc)
        (λ e. let i_is = e.1 in omega (arith, i_is)) k;
  }

  stands_behind : (b : Candidate) → IsFirstOf p cs b → is_sooner x.span b.span ≡ false → IsFirstOf p (cs ++ x ∷ []) b
  stands_behind b h now = record {
    place = h.place;
    stands = at_left (x ∷ []) h.stands;
    passes = h.passes;
    soonest = λ d k s. In_either (is_sooner d.span b.span ≡ false) (λ a. h.soonest d a s) (λ e. ap (λ s. is_sooner s b.span) (same_span e) ∙ now) k;
    earliest = λ d i k s n. At_either (h.place ≤ i) (λ a. h.earliest d i a s n) (λ e. let i_is = e.1 in let l = at_within h.stands in omega (arith, i_is, l)) k;
  }

  either_first : (b : Candidate) (now : Bool) → is_sooner x.span b.span ≡ now → p x ≡ true → IsFirstOf p cs b → FirstOf p (cs ++ x ∷ []) (cond now (Some x) (Some b))
  either_first b true e t h = stands_before b t h e
  either_first b false e t h = stands_behind b h e

  first_with : (o : Option Candidate) → p x ≡ true → FirstOf p cs o → FirstOf p (cs ++ x ∷ []) (sooner o x)
  first_with None t none = first_one t none
  first_with (Some b) t h = either_first b (is_sooner x.span b.span) refl t h

-- ---- the first of all

first_turn : (p : Candidate → Bool) (cs : List Candidate) (x : Candidate) (xs : List Candidate) (o : Option Candidate) (b : Bool) → p x ≡ b → FirstOf p cs o
    → ((o : Option Candidate) → FirstOf p (cs ++ x ∷ []) o → FirstOf p ((cs ++ x ∷ []) ++ xs) (fold sooner o (filter p xs)))
    → FirstOf p ((cs ++ x ∷ []) ++ xs) (fold sooner o (cond b (x ∷ filter p xs) (filter p xs)))
first_turn p cs x xs o true t h rest = rest (sooner o x) (first_with p cs x o t h)
first_turn p cs x xs o false t h rest = rest o (passed_by p cs x o t h)

append_none : {A : Type 0} (xs : List A) → xs ++ [] ≡ xs
append_none [] = refl
append_none (x ∷ xs) = ap (λ ys. x ∷ ys) (append_none xs)

first_behind : (p : Candidate → Bool) (cs xs : List Candidate) (o : Option Candidate) → FirstOf p cs o → FirstOf p (cs ++ xs) (fold sooner o (filter p xs))
first_behind p cs [] o h = subst (λ ys. FirstOf p ys o) (sym (append_none cs)) h
first_behind p cs (x ∷ xs) o h =
    subst (λ ys. FirstOf p ys (fold sooner o (filter p (x ∷ xs)))) (append_assoc cs (x ∷ []) xs)
    (first_turn p cs x xs o (p x) refl h (λ q k. first_behind p (cs ++ x ∷ []) xs q k))

pub first_of_all : (p : Candidate → Bool) (cs : List Candidate) → FirstOf p cs (fold sooner None (filter p cs))
first_of_all p cs = first_behind p [] cs None (λ d h. elim h [ ])
