-- How a run ends says where the tokens stop being the front of a file.
use Rattle.std.proofs.Common.{◌≡◌, ℕ, suc, ◌≤◌, Bool, true, false, cond, ◌&&◌, List, [], ◌∷◌, ◌++◌, length, refl, sym, ap, subst, ◌⊎◌, inl, inr, true≢false, le_trans, le_refl, append-nil, length-append, le-add_left, zero-le}
use Rattle.std.proofs.lemmas.Bool.{and_parts, and_from, or_cases, or_left, or_right}
use Rattle.slint_lexer.specs.declared.tokens.Token.{Token}
use Rattle.slint_grammar.specs.Parts.{FileItems}
use Rattle.slint_grammar.specs.Grammar.{same}
use Rattle.slint_grammar.specs.Derivations.{class_of, Derives}
use Rattle.slint_grammar.specs.Faults.{Viable, FreelyViable}
use Rattle.slint_grammar.specs.Stacks.{Left, afters, is_live, is_done, is_any_done, rule_of, Outcome, Stops, Ends, run, start}
use Rattle.slint_grammar.proofs.Sets.{OneOf, EachOf, one_weaker}
use Rattle.slint_grammar.proofs.Spans.{Spans}
use Rattle.slint_grammar.proofs.AfterToken.{AcceptsWithin, AcceptsAtAll, within_step, within_back, at_all_step, at_all_back, done_at_end, spans_if_done}
use Rattle.slint_grammar.proofs.Completion.{Fillable, completed, each_afters}

-- ---- the stacks behind a front

abbrev pub behind_front : List Token → List Left → List Left
behind_front [] now = now
behind_front (t ∷ front) now = behind_front front (afters (class_of t.kind) now)

pub behind_front-append : (front more : List Token) (now : List Left) → behind_front (front ++ more) now ≡ behind_front more (behind_front front now)
behind_front-append [] more now = refl
behind_front-append (t ∷ front) more now = behind_front-append front more (afters (class_of t.kind) now)

longer_in_front : (front s : List Token) (free : ℕ) → free ≤ length s → free ≤ length (front ++ s)
longer_in_front front s free l = le_trans l (subst (λ z. length s ≤ z) (sym (length-append front s)) (le-add_left (length s) (length front)))

pub within_forth : (free : ℕ) (s : List Token) → free ≤ length s → (front : List Token) (now : List Left) → OneOf (AcceptsWithin free (front ++ s)) now
    → OneOf (AcceptsWithin free s) (behind_front front now)
within_forth free s l [] now e = e
within_forth free s l (t ∷ front) now e = within_forth free s l front (afters (class_of t.kind) now) (within_step free t (front ++ s) (longer_in_front front s free l) now e)

pub within_from : (free : ℕ) (s front : List Token) (now : List Left) → OneOf (AcceptsWithin free s) (behind_front front now) → OneOf (AcceptsWithin free (front ++ s)) now
within_from free s [] now e = e
within_from free s (t ∷ front) now e = within_back free t (front ++ s) now (within_from free s front (afters (class_of t.kind) now) e)

pub at_all_forth : (free : ℕ) (s front : List Token) (now : List Left) → OneOf (AcceptsAtAll free (front ++ s)) now → OneOf (AcceptsAtAll free s) (behind_front front now)
at_all_forth free s [] now e = e
at_all_forth free s (t ∷ front) now e = at_all_forth free s front (afters (class_of t.kind) now) (at_all_step free t (front ++ s) now e)

shorter_by_one : (t : Token) (s : List Token) (free : ℕ) → length (t ∷ s) ≤ free → length s ≤ free
shorter_by_one t s free l = le_trans (subst (λ z. length s ≤ z) (sym (length-append (t ∷ []) s)) (le-add_left (length s) (length (t ∷ [])))) l

pub at_all_from : (free : ℕ) (s front : List Token) → length (front ++ s) ≤ free → (now : List Left) → OneOf (AcceptsAtAll free s) (behind_front front now)
    → OneOf (AcceptsAtAll free (front ++ s)) now
at_all_from free s [] l now e = e
at_all_from free s (t ∷ front) l now e =
    at_all_back free t (front ++ s) l now (at_all_from free s front (shorter_by_one t (front ++ s) free l) (afters (class_of t.kind) now) e)

-- ---- before the first token

start_within : (free : ℕ) (s : List Token) → Derives free FileItems 0 s [] → OneOf (AcceptsWithin free s) start
start_within free s x = inl (refl, ([], x, refl))

derives_one : (free : ℕ) (s : List Token) → Spans free ((same FileItems, 0) ∷ []) s [] → Derives free FileItems 0 s []
derives_one free s x = subst (λ z. Derives free FileItems 0 s z) x.2 x.1

derives_within : (free : ℕ) (s : List Token) → OneOf (AcceptsWithin free s) start → Derives free FileItems 0 s []
derives_within free s (inl e) = derives_one free s e.1
derives_within free s (inr e) = absurd e

start_at_all : (free : ℕ) (s : List Token) → Derives free FileItems 0 s [] → OneOf (AcceptsAtAll free s) start
start_at_all free s x = inl ([], x, refl)

derives_at_all : (free : ℕ) (s : List Token) → OneOf (AcceptsAtAll free s) start → Derives free FileItems 0 s []
derives_at_all free s (inl e) = derives_one free s e
derives_at_all free s (inr e) = absurd e

fillable_behind : (front : List Token) (now : List Left) → EachOf Fillable now → EachOf Fillable (behind_front front now)
fillable_behind [] now e = e
fillable_behind (t ∷ front) now e = fillable_behind front (afters (class_of t.kind) now) (each_afters (class_of t.kind) now e)

fillable_front : (front : List Token) → EachOf Fillable (behind_front front start)
fillable_front front = fillable_behind front start (refl, tt)

-- ---- live sets, and sets with a stack

live_if_within : (P : Left → Type 0) → ((l : Left) → P l → l.1 ≡ true) → (now : List Left) → OneOf P now → is_live now ≡ true
live_if_within P h [] e = absurd e
live_if_within P h (l ∷ now) (inl e) = or_left l.1 (is_live now) (h l e)
live_if_within P h (l ∷ now) (inr e) = or_right l.1 (is_live now) (live_if_within P h now e)

within_if_live : (now : List Left) → is_live now ≡ true → OneOf (λ l. l.1 ≡ true) now
within_if_live [] e = absurd (true≢false (sym e))
within_if_live (l ∷ now) e = by_cases (or_cases l.1 (is_live now) e) (within_if_live now)
  where
    by_cases : (l.1 ≡ true) ⊎ (is_live now ≡ true) → (is_live now ≡ true → OneOf (λ k. k.1 ≡ true) now) → OneOf (λ k. k.1 ≡ true) (l ∷ now)
    by_cases (inl f) k = inl f
    by_cases (inr f) k = inr (k f)

-- some stack
abbrev pub Any : List Left → Type 0
Any now = OneOf (λ l. Unit {0}) now

abbrev some_within : ℕ → List Token → List Left → Type 0
some_within free s now = OneOf (AcceptsWithin free s) now

fills_live : (now : List Left) → EachOf Fillable now → OneOf (λ l. l.1 ≡ true) now → (rest : List Token) × OneOf (AcceptsWithin (length rest) rest) now
fills_live [] f e = absurd e
fills_live (l ∷ now) f (inl e) = let w = completed l.0 f.0 in (w.0, inl (e, w.1 (length w.0) (le_refl (length w.0))))
fills_live (l ∷ now) f (inr e) = let w = fills_live now f.1 e in (w.0, inr w.1)

fills_any : (front : List Token) (now : List Left) → EachOf Fillable now → Any now → (rest : List Token) × OneOf (AcceptsAtAll (length (front ++ rest)) rest) now
fills_any front [] f e = absurd e
fills_any front (l ∷ now) f (inl e) = let w = completed l.0 f.0 in (w.0, inl (w.1 (length (front ++ w.0)) (longer_in_front front w.0 (length w.0) (le_refl (length w.0)))))
fills_any front (l ∷ now) f (inr e) = let w = fills_any front now f.1 e in (w.0, inr w.1)

-- ---- a front is viable where its set is live, and freely viable where its set has a stack

pub viable_live : (front : List Token) → Viable front → is_live (behind_front front start) ≡ true
viable_live front v =
    live_if_within (AcceptsWithin (length v.0) v.0) (λ l e. e.0) (behind_front front start)
    (within_forth (length v.0) v.0 (le_refl (length v.0)) front start (start_within (length v.0) (front ++ v.0) v.1))

pub live_viable : (front : List Token) → is_live (behind_front front start) ≡ true → Viable front
live_viable front e =
    let w = fills_live (behind_front front start) (fillable_front front) (within_if_live (behind_front front start) e) in
    (w.0, derives_within (length w.0) (front ++ w.0) (within_from (length w.0) w.0 front start w.1))

pub freely_any : (front : List Token) → FreelyViable front → Any (behind_front front start)
freely_any front v =
    one_weaker (AcceptsAtAll (length (front ++ v.0)) v.0) (λ l. Unit {0}) (λ l e. tt) (behind_front front start)
    (at_all_forth (length (front ++ v.0)) v.0 front start (start_at_all (length (front ++ v.0)) (front ++ v.0) v.1))

pub any_freely : (front : List Token) → Any (behind_front front start) → FreelyViable front
any_freely front e =
    let w = fills_any front (behind_front front start) (fillable_front front) e in
    (w.0, derives_at_all (length (front ++ w.0)) (front ++ w.0) (at_all_from (length (front ++ w.0)) w.0 front (le_refl (length (front ++ w.0))) start w.1))

-- ---- a file is what the set behind all tokens may end at

done_within : (now : List Left) → OneOf (AcceptsWithin 0 []) now → is_any_done now ≡ true
done_within [] e = absurd e
done_within (l ∷ now) (inl e) = or_left (l.1 && is_done l.0) (is_any_done now) (and_from l.1 (is_done l.0) e.0 (done_at_end 0 l.0 e.1))
done_within (l ∷ now) (inr e) = or_right (l.1 && is_done l.0) (is_any_done now) (done_within now e)

within_done : (now : List Left) → is_any_done now ≡ true → OneOf (AcceptsWithin 0 []) now
within_done [] e = absurd (true≢false (sym e))
within_done (l ∷ now) e = by_cases (or_cases (l.1 && is_done l.0) (is_any_done now) e) (within_done now)
  where
    by_cases : ((l.1 && is_done l.0) ≡ true) ⊎ (is_any_done now ≡ true) → (is_any_done now ≡ true → OneOf (AcceptsWithin 0 []) now) → OneOf (AcceptsWithin 0 []) (l ∷ now)
    by_cases (inl f) k = let g = and_parts l.1 (is_done l.0) f in inl (g.0, spans_if_done 0 l.0 [] g.1)
    by_cases (inr f) k = inr (k f)

pub file_done : (tokens : List Token) → Derives 0 FileItems 0 tokens [] → (is_live (behind_front tokens start) ≡ true) × (is_any_done (behind_front tokens start) ≡ true)
file_done tokens x =
    let e : OneOf (AcceptsWithin 0 []) (behind_front tokens start) =
    within_forth 0 [] zero-le tokens start (start_within 0 (tokens ++ []) (subst (λ z. Derives 0 FileItems 0 z []) (sym (append-nil tokens)) x)) in
    (live_if_within (AcceptsWithin 0 []) (λ l f. f.0) (behind_front tokens start) e, done_within (behind_front tokens start) e)

pub done_file : (tokens : List Token) → is_any_done (behind_front tokens start) ≡ true → Derives 0 FileItems 0 tokens []
done_file tokens e =
    subst (λ z. Derives 0 FileItems 0 z []) (append-nil tokens)
    (derives_within 0 (tokens ++ []) (within_from 0 [] tokens start (within_done (behind_front tokens start) e)))

-- ---- how a run comes out

-- what an outcome says of the sets behind the fronts
abbrev pub Says : List Token → List Left → Outcome → Type 0
Says tokens now (Ends b) = (is_live (behind_front tokens now) ≡ true) × (b ≡ is_any_done (behind_front tokens now))
Says tokens now (Stops rule left) = (front : List Token) × (token : Token) × (rest : List Token) × (tokens ≡ front ++ token ∷ rest) × (left ≡ suc (length rest))
    × (is_live (behind_front front now) ≡ true) × (is_live (afters (class_of token.kind) (behind_front front now)) ≡ false) × (rule ≡ rule_of (afters (class_of token.kind) (behind_front front now)))

pub run_says : (tokens : List Token) (now : List Left) → is_live now ≡ true → Says tokens now (run tokens now)
run_says [] now e = (e, refl)
run_says (t ∷ rest) now e = at_token (is_live (afters (class_of t.kind) now)) refl (run_says rest (afters (class_of t.kind) now))
  where
    further : (o : Outcome) → Says rest (afters (class_of t.kind) now) o → Says (t ∷ rest) now o
    further (Ends b) f = f
    further (Stops rule left) f = (t ∷ f.0, f.1, f.2, ap (λ z. t ∷ z) f.3, f.4, f.5, f.6, f.7)

    at_token : (b : Bool) → is_live (afters (class_of t.kind) now) ≡ b
        → (is_live (afters (class_of t.kind) now) ≡ true → Says rest (afters (class_of t.kind) now) (run rest (afters (class_of t.kind) now)))
        → Says (t ∷ rest) now (cond b (run rest (afters (class_of t.kind) now)) (Stops (rule_of (afters (class_of t.kind) now)) (suc (length rest))))
    at_token true live k = further (run rest (afters (class_of t.kind) now)) (k live)
    at_token false dead k = ([], t, rest, refl, refl, e, dead, refl)
