-- Productions that only a token behind a shared front chooses: whether a property has a type, whether a parameter has a name, and modifiers in any order.
use Rattle.std.proofs.Common.{◌≡◌, ℕ, suc, ◌≤◌, ◌<◌, ◌⊎◌, inl, inr, Bool, true, false, cond, ◌||◌, List, [], ◌∷◌, ◌++◌, length, map, nat_le, sym, refl, ap, ◌∙◌, append-nil, le-leb, le_refl, arith}
use Rattle.std.specs.Prelude.{Result, Ok, Err}
use Rattle.slint_base.specs.declared.faults.Span.{Span}
use Rattle.slint_base.specs.declared.rules.Rule.{Rule}
use Rattle.slint_base.specs.declared.endings.End.{End}
use Rattle.slint_lexer.specs.declared.tokens.Symbol.TheVariants as symbols
use Rattle.slint_lexer.specs.declared.tokens.Token.{Token}
use Rattle.syntax_tree.specs.declared.items.Mark.{Mark}
use Rattle.syntax_tree.specs.declared.items.Property.{Property}
use Rattle.slint_grammar.specs.declared.words.Word.{Word}
use Rattle.slint_grammar.specs.declared.words.Word.TheVariants as words
use Rattle.slint_parser.specs.declared.stops.Stop.{Stop}
use Rattle.slint_parser.specs.declared.stops.Seen.TheVariants as seens
use Rattle.slint_grammar.specs.Parts as parts
use Rattle.slint_grammar.specs.Grammar.{TheWord, one, same, deeper, symbol, name, slots}
use Rattle.slint_grammar.specs.Grammar.{Alt as alts}
use Rattle.slint_grammar.specs.Made.{made}
use Rattle.slint_grammar.specs.Derivations.{Class, ASign, AWord, class_of, is_word, deepest_token, Takes, Derives, by, Through, ends, takes, part, trees}
use Rattle.slint_parser.specs.Readings.{at, outcome, seen, Took, Stuck, Reads}
use Rattle.slint_grammar.specs.Stacks.{Stack, Left, at_depth, onto, through, first, longest_chain, after, afters, is_live, is_any_done, rule_of, Outcome, Stops, Ends, run}
use Rattle.slint_parser.specs.Members.{marked, typed_rest, untyped_rest, ReadsTyped, ReadsUntyped}
use Rattle.slint_grammar.proofs.Steps.{afters-append, is_live-append, is_any_done-append, by_what_stays, step, stop, Lost, lost_left, lost_right}
use Rattle.slint_parser.proofs.Signs.{not_sign, is_word_from}
use Rattle.slint_parser.proofs.Joining.{seen_same, by_alts, onto_append, after_through}
use Rattle.slint_parser.proofs.Shorter.{taken_shorter}

-- ---- two sets of stacks that come out alike

left_of : Outcome → ℕ
left_of (Stops rule left) = left
left_of (Ends done) = 0

left_bound : (s : List Token) (now : List Left) → left_of (run s now) ≤ length s
unfolding left_of
left_bound [] now = le_refl 0
left_bound (t ∷ s) now = bound_by (is_live (afters (class_of t.kind) now)) (left_bound s (afters (class_of t.kind) now))
  where
    bound_by : (live : Bool) → left_of (run s (afters (class_of t.kind) now)) ≤ length s
        → left_of (cond live (run s (afters (class_of t.kind) now)) (Stops (rule_of (afters (class_of t.kind) now)) (suc (length s)))) ≤ suc (length s)
    bound_by true h = omega (arith, h)
    bound_by false h = le_refl (suc (length s))

not_yet : (s : List Token) (now : List Left) (rule : Rule) (o : Outcome) → run s now ≡ o → Stops rule (suc (length s)) ≡ o → ⊥
unfolding left_of
not_yet s now rule o e f = let same_left : left_of (run s now) ≡ suc (length s) = ap left_of (e ∙ sym f) in let b = left_bound s now in omega (arith, same_left, b)

both_dead : (a b : List Left) (n : ℕ) (o : Outcome) → Stops (rule_of a) n ≡ o → Stops (rule_of b) n ≡ o → Stops (rule_of (a ++ b)) n ≡ o
both_dead [] b n o e f = f
both_dead (l ∷ a) b n o e f = e

ends_same : (x y : Bool) (o : Outcome) → Ends x ≡ o → Ends y ≡ o → Ends (x || y) ≡ o
ends_same true y o e f = e
ends_same false y o e f = f

twice_by : (t : Token) (s : List Token) (a b : List Left) (o : Outcome) (live_a live_b : Bool) → is_live (afters (class_of t.kind) a) ≡ live_a → is_live (afters (class_of t.kind) b) ≡ live_b
    → (run s (afters (class_of t.kind) a) ≡ o → run s (afters (class_of t.kind) b) ≡ o → run s (afters (class_of t.kind) a ++ afters (class_of t.kind) b) ≡ o)
    → run (t ∷ s) a ≡ o → run (t ∷ s) b ≡ o → run (t ∷ s) (a ++ b) ≡ o
twice_by t s a b o true live_b p true_b again e f =
    by_other live_b true_b
  where
    by_other : (live : Bool) → is_live (afters (class_of t.kind) b) ≡ live → run (t ∷ s) (a ++ b) ≡ o
    by_other true q =
        step t s (a ++ b) (afters (class_of t.kind) a ++ afters (class_of t.kind) b) (afters-append (class_of t.kind) a b)
        (is_live-append (afters (class_of t.kind) a) (afters (class_of t.kind) b) ∙ ap (λ z. z || is_live (afters (class_of t.kind) b)) p)
        ∙ again (sym (step t s a (afters (class_of t.kind) a) refl p) ∙ e) (sym (step t s b (afters (class_of t.kind) b) refl q) ∙ f)
    by_other false q =
        absurd (not_yet s (afters (class_of t.kind) a) (rule_of (afters (class_of t.kind) b)) o (sym (step t s a (afters (class_of t.kind) a) refl p) ∙ e) (sym (stop t s b (afters (class_of t.kind) b) refl q) ∙ f))
twice_by t s a b o false true p q again e f =
    absurd (not_yet s (afters (class_of t.kind) b) (rule_of (afters (class_of t.kind) a)) o (sym (step t s b (afters (class_of t.kind) b) refl q) ∙ f) (sym (stop t s a (afters (class_of t.kind) a) refl p) ∙ e))
twice_by t s a b o false false p q again e f =
    stop t s (a ++ b) (afters (class_of t.kind) a ++ afters (class_of t.kind) b) (afters-append (class_of t.kind) a b)
    (is_live-append (afters (class_of t.kind) a) (afters (class_of t.kind) b) ∙ ap (λ z. z || is_live (afters (class_of t.kind) b)) p ∙ q)
    ∙ both_dead (afters (class_of t.kind) a) (afters (class_of t.kind) b) (suc (length s)) o
    (sym (stop t s a (afters (class_of t.kind) a) refl p) ∙ e) (sym (stop t s b (afters (class_of t.kind) b) refl q) ∙ f)

pub twice : (s : List Token) (a b : List Left) (o : Outcome) → run s a ≡ o → run s b ≡ o → run s (a ++ b) ≡ o
twice [] a b o e f = ap Ends (is_any_done-append a b) ∙ ends_same (is_any_done a) (is_any_done b) o e f
twice (t ∷ s) a b o e f =
    twice_by t s a b o (is_live (afters (class_of t.kind) a)) (is_live (afters (class_of t.kind) b)) refl refl (twice s (afters (class_of t.kind) a) (afters (class_of t.kind) b) o) e f

-- ---- a word that was taken

word_class : (w : Word) (c : Class) → is_word w c ≡ true → c ≡ AWord w
word_class w c h = seen_same c (AWord w) (is_word_from w c h)

pub low_of : {d : ℕ} {w : Word} {s r : List Token} → Takes 0 d (TheWord w) s r → d ≤ deepest_token
low_of {d} {w} {s} {r} x = low_by x.within (taken_shorter x)
  where
    low_by : (d ≤ deepest_token) ⊎ (length s ≤ 0) → length r < length s → d ≤ deepest_token
    low_by (inl l) h = l
    low_by (inr k) h = absurd (omega (arith, k, h))

pub behind_word : (w : Word) (d : ℕ) (s m : List Token) (now next : List Left) → Takes 0 d (TheWord w) s m → afters (AWord w) now ≡ next → is_live next ≡ true → run s now ≡ run m next
behind_word w d s m now next x e live = ap (λ z. run z now) x.front ∙ step x.token m now next (ap (λ z. afters z now) (word_class w (class_of x.token.kind) x.fits_it) ∙ e) live

-- ---- a property behind its head

abbrev Typed : ℕ → Stack → Stack
Typed d ps = at_depth d typed_rest ++ ps

abbrev Untyped : ℕ → Stack → Stack
Untyped d ps = at_depth d untyped_rest ++ ps

abbrev forked : ℕ → Stack → Bool → List Left
forked d ps w = (Typed d ps, w) ∷ (Untyped d ps, w) ∷ []

-- the same in front of the word that every head ends with
abbrev before : ℕ → Stack → Bool → List Left
before d ps w = ((one (TheWord words.Property), d) ∷ Typed d ps, w) ∷ ((one (TheWord words.Property), d) ∷ Untyped d ps, w) ∷ []

marked_goes : (w : Word) (d : ℕ) (s m : List Token) (ps : Stack) → Through 0 (marked w) d s m → afters (AWord w) (at ((same parts.Property, d) ∷ ps)) ≡ before d ps (nat_le d deepest_token)
    → run s (at ((same parts.Property, d) ∷ ps)) ≡ run m (forked d ps true)
marked_goes w d s m ps (takes {m = k} x (takes y ends)) e =
    behind_word w d s k (at ((same parts.Property, d) ∷ ps)) (before d ps true) x (e ∙ ap (before d ps) (le-leb d deepest_token (low_of x))) refl
    ∙ behind_word words.Property d k m (before d ps true) (forked d ps true) y (ap (forked d ps) (le-leb d deepest_token (low_of y))) refl

head_goes : (d : ℕ) (s m : List Token) → Derives 0 parts.PropertyHead d s m → (ps : Stack) → run s (at ((same parts.Property, d) ∷ ps)) ≡ run m (forked d ps true)
head_goes d s m (by alts.no_mark (takes x ends)) ps =
    behind_word words.Property d s m (at ((same parts.Property, d) ∷ ps)) (forked d ps true) x (ap (forked d ps) (le-leb d deepest_token (low_of x))) refl
head_goes d s m (by alts.private_mark x) ps = marked_goes words.Private d s m ps x refl
head_goes d s m (by alts.in_mark x) ps = marked_goes words.In d s m ps x refl
head_goes d s m (by alts.out_mark x) ps = marked_goes words.Out d s m ps x refl
head_goes d s m (by alts.in_out_mark x) ps = marked_goes words.InOut d s m ps x refl

lost_untyped : (d : ℕ) (m : List Token) (ps : Stack) → seen m ≡ seens.Symbol symbols.Less → Lost m (at (Untyped d ps))
lost_untyped d [] ps e = refl
lost_untyped d (t ∷ m) ps e = ap (λ z. afters z (at (Untyped d ps))) (seen_same (class_of t.kind) (ASign symbols.Less) e)

lost_typed : (d : ℕ) (m : List Token) (ps : Stack) → (seen m ≡ seens.Symbol symbols.Less → ⊥) → Lost m (at (Typed d ps))
lost_typed d [] ps n = refl
lost_typed d (t ∷ m) ps n =
    ap (λ z. (map (onto (at_depth d (deeper parts.TypeName ∷ symbol symbols.Greater ∷ name ∷ same parts.PropertyEnd ∷ []) ++ ps) true) (cond z (([], nat_le d deepest_token) ∷ []) []) ++ []) ++ [])
    (not_sign symbols.Less (t ∷ m) n t m refl)

typed_goes : (d : ℕ) (s m : List Token) → Derives 0 parts.PropertyHead d s m → seen m ≡ seens.Symbol symbols.Less → (ps : Stack) → run s (at ((same parts.Property, d) ∷ ps)) ≡ run m (at (Typed d ps))
typed_goes d s m x e ps = head_goes d s m x ps ∙ lost_right m (at (Typed d ps)) (at (Untyped d ps)) (lost_untyped d m ps e)

untyped_goes : (d : ℕ) (s m : List Token) → Derives 0 parts.PropertyHead d s m → (seen m ≡ seens.Symbol symbols.Less → ⊥) → (ps : Stack) → run s (at ((same parts.Property, d) ∷ ps)) ≡ run m (at (Untyped d ps))
untyped_goes d s m x n ps = head_goes d s m x ps ∙ lost_left m (at (Typed d ps)) (at (Untyped d ps)) (lost_typed d m ps n)

pub typed_reads : (d : ℕ) (s m r : List Token) (mark : Mark) (head : Span) (result : Result Property (End Stop)) → Took parts.PropertyHead d s m (mark, head) → seen m ≡ seens.Symbol symbols.Less
    → ReadsTyped mark head d m result r → Reads parts.Property d s result r
typed_reads d s m r mark head (Ok t) h e x = record {
  x = by alts.typed_property (part h.x x.1.x);
  is = ap (λ z. made alts.typed_property (z, trees x.1.x)) h.is ∙ ap (λ z. made alts.typed_property ((mark, head), z)) x.1.is ∙ x.2;
  goes = λ ps g. typed_goes d s m h.x e ps ∙ x.1.goes ps (tt, (g, tt));
}
typed_reads d s m r mark head (Err end) h e x = record { stops = λ where_to is ps g. typed_goes d s m h.x e ps ∙ x.stops where_to is ps (tt, (g, tt)) }

pub untyped_reads : (d : ℕ) (s m r : List Token) (mark : Mark) (head : Span) (result : Result Property (End Stop)) → Took parts.PropertyHead d s m (mark, head) → (seen m ≡ seens.Symbol symbols.Less → ⊥)
    → ReadsUntyped mark head d m result r → Reads parts.Property d s result r
untyped_reads d s m r mark head (Ok t) h n x = record {
  x = by alts.untyped_property (part h.x x.1.x);
  is = ap (λ z. made alts.untyped_property (z, trees x.1.x)) h.is ∙ ap (λ z. made alts.untyped_property ((mark, head), z)) x.1.is ∙ x.2;
  goes = λ ps g. untyped_goes d s m h.x n ps ∙ x.1.goes ps ((refl, tt), tt);
}
untyped_reads d s m r mark head (Err end) h n x = record { stops = λ where_to is ps g. untyped_goes d s m h.x n ps ∙ x.stops where_to is ps ((refl, tt), tt) }

heads_at : (c : Class) (d : ℕ) (ps : Stack)
    → afters c (at ((same parts.Property, d) ∷ ps)) ≡ afters c (at ((same parts.PropertyHead, d) ∷ Typed d ps) ++ at ((same parts.PropertyHead, d) ∷ Untyped d ps))
heads_at c d ps =
    let f = first longest_chain c in
    let with_type = map (onto ps true) (through f (slots alts.typed_property) d) in
    let without = map (onto ps true) (through f (slots alts.untyped_property) d) in
    append-nil (after c ((same parts.Property, d) ∷ ps) true)
    ∙ append-nil (map (onto ps true) (f (same parts.Property) d))
    ∙ ap (map (onto ps true)) (by_alts c parts.Property d)
    ∙ onto_append ps true (through f (slots alts.typed_property) d) (through f (slots alts.untyped_property) d ++ [])
    ∙ ap (λ z. with_type ++ map (onto ps true) z) (append-nil (through f (slots alts.untyped_property) d))
    ∙ ap (λ z. z ++ without) (sym (after_through c ps true (slots alts.typed_property) d ∙ append-nil with_type))
    ∙ ap (λ z. after c (at_depth d (slots alts.typed_property) ++ ps) true ++ z)
    (sym (append-nil (after c (at_depth d (slots alts.untyped_property) ++ ps) true) ∙ after_through c ps true (slots alts.untyped_property) d ∙ append-nil without))

by_heads : (d : ℕ) (s : List Token) (ps : Stack) → run s (at ((same parts.Property, d) ∷ ps)) ≡ run s (at ((same parts.PropertyHead, d) ∷ Typed d ps) ++ at ((same parts.PropertyHead, d) ∷ Untyped d ps))
by_heads d [] ps = refl
by_heads d (t ∷ s) ps =
    by_what_stays t s (at ((same parts.Property, d) ∷ ps)) (at ((same parts.PropertyHead, d) ∷ Typed d ps) ++ at ((same parts.PropertyHead, d) ∷ Untyped d ps)) (heads_at (class_of t.kind) d ps)

pub head_stuck : {d : ℕ} {s : List Token} {e : End Stop} → Stuck parts.PropertyHead d s e → Stuck parts.Property d s e
head_stuck {d} {s} x = record {
  stops = λ where_to is ps g. by_heads d s ps
      ∙ twice s (at ((same parts.PropertyHead, d) ∷ Typed d ps)) (at ((same parts.PropertyHead, d) ∷ Untyped d ps)) (outcome where_to) (x.stops where_to is (Typed d ps) tt) (x.stops where_to is (Untyped d ps) tt);
}
