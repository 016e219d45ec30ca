-- What a stack derives: the places of it one after the other, each from where the one before it ends.
use Rattle.std.proofs.Common.{◌≡◌, ℕ, ◌+◌, List, [], ◌∷◌, ◌++◌, refl, sym, subst}
use Rattle.slint_lexer.specs.declared.tokens.Token.{Token}
use Rattle.slint_grammar.specs.Parts.{Part}
use Rattle.slint_grammar.specs.Grammar.{Slot, one, same, deeper, Alt, slots}
use Rattle.slint_grammar.specs.Derivations.{Takes, Derives, by, Through, ends, takes, part, deep}
use Rattle.slint_grammar.specs.Stacks.{Stack, at_depth}

-- one place, from the list s to the list r that follows it
abbrev pub Place : ℕ → Slot → ℕ → List Token → List Token → Type 0
Place free (one t) d s r = Takes free d t s r
Place free (same p) d s r = Derives free p d s r
Place free (deeper p) d s r = Derives free p (d + 1) s r

-- all of a stack
abbrev pub Spans : ℕ → Stack → List Token → List Token → Type 0
Spans free [] s r = s ≡ r
Spans free (x ∷ ps) s r = (m : List Token) × Place free x.0 x.1 s m × Spans free ps m r

-- the whole list
abbrev pub Accepts : ℕ → Stack → List Token → Type 0
Accepts free ps s = Spans free ps s []

pub spans_append : (free : ℕ) (ps qs : Stack) (s m r : List Token) → Spans free ps s m → Spans free qs m r → Spans free (ps ++ qs) s r
spans_append free [] qs s m r x y = subst (λ z. Spans free qs z r) (sym x) y
spans_append free (p ∷ ps) qs s m r x y = (x.0, x.1, spans_append free ps qs x.0 m r x.2 y)

pub spans_split : (free : ℕ) (ps qs : Stack) (s r : List Token) → Spans free (ps ++ qs) s r → (m : List Token) × Spans free ps s m × Spans free qs m r
spans_split free [] qs s r x = (s, refl, x)
spans_split free (p ∷ ps) qs s r x = further (spans_split free ps qs x.0 r x.2)
  where
    further : (m : List Token) × Spans free ps x.0 m × Spans free qs m r → (m : List Token) × Spans free (p ∷ ps) s m × Spans free qs m r
    further w = (w.0, (x.0, x.1, w.1), w.2)

pub spans_from_through : {free d : ℕ} {xs : List Slot} {s r : List Token} → Through free xs d s r → Spans free (at_depth d xs) s r
spans_from_through ends = refl
spans_from_through (takes {m} x y) = (m, x, spans_from_through y)
spans_from_through (part {m} x y) = (m, x, spans_from_through y)
spans_from_through (deep {m} x y) = (m, x, spans_from_through y)

-- a place in front of a right side
pub place_through : (free : ℕ) (x : Slot) (xs : List Slot) (d : ℕ) (s m r : List Token) → Place free x d s m → Through free xs d m r → Through free (x ∷ xs) d s r
place_through free (one t) xs d s m r x y = takes x y
place_through free (same p) xs d s m r x y = part x y
place_through free (deeper p) xs d s m r x y = deep x y

pub through_from_spans : (free : ℕ) (xs : List Slot) (d : ℕ) (s r : List Token) → Spans free (at_depth d xs) s r → Through free xs d s r
through_from_spans free [] d s r x = subst (λ z. Through free [] d s z) x ends
through_from_spans free (x ∷ xs) d s r y = place_through free x xs d s y.0 r y.1 (through_from_spans free xs d y.0 r y.2)

-- a part in front of a stack that accepts a list, by one of its productions, or one deeper
pub accepts_by : (free : ℕ) {p : Part} (a : Alt p) (d : ℕ) (ps : Stack) (s : List Token) → Accepts free (at_depth d (slots a) ++ ps) s → Accepts free ((same p, d) ∷ ps) s
accepts_by free a d ps s x = let w = spans_split free (at_depth d (slots a)) ps s [] x in (w.0, by a (through_from_spans free (slots a) d s w.0 w.1), w.2)

-- and back: some production, behind which the stack goes on
pub accepts_some : (free : ℕ) (p : Part) (d : ℕ) (ps : Stack) (s : List Token) → Accepts free ((same p, d) ∷ ps) s → (a : Alt p) × Accepts free (at_depth d (slots a) ++ ps) s
accepts_some free p d ps s x = of x.0 x.1 x.2
  where
    of : (m : List Token) → Derives free p d s m → Accepts free ps m → (a : Alt p) × Accepts free (at_depth d (slots a) ++ ps) s
    of m (by a y) z = (a, spans_append free (at_depth d (slots a)) ps s m [] (spans_from_through y) z)
