-- Sets of stacks at a token and at the end: what they accept is what the sets behind the token accept.
use Rattle.std.proofs.Common.{◌≡◌, ℕ, suc, ◌≤◌, Bool, true, false, cond, ◌&&◌, List, [], ◌∷◌, map, length, refl, sym, ◌∙◌, subst, ◌⊎◌, ◌↔◌, inl, inr, true≢false, not-le_of_lt}
use Rattle.std.proofs.lemmas.Bool.{and_parts, and_from}
use Rattle.slint_lexer.specs.declared.tokens.Token.{Token}
use Rattle.slint_grammar.specs.Parts.{Part}
use Rattle.slint_grammar.specs.Grammar.{Slot, one, same, deeper, Alt, slots}
use Rattle.slint_grammar.specs.Derivations.{Class, class_of, Derives, by, Through, ends, takes, part, deep}
use Rattle.slint_grammar.specs.Stacks.{Stack, Left, first, onto, longest_chain, nullable, nullable_slot, after, afters, is_done}
use Rattle.slint_grammar.proofs.Sets.{OneOf, EachOf, one_left, one_right, one_parts, one_mapped, one_from_mapped, one_weaker, one_with, each_append, each_mapped, at_one}
use Rattle.slint_grammar.proofs.Tables.{all_nullable, nullable_by}
use Rattle.slint_grammar.proofs.Spans.{Place, Spans, spans_append, spans_split}
use Rattle.slint_grammar.proofs.FirstToken.{empty_place, Behind, Found, first_sound, place_found, implied}

abbrev empty_code : List Token → Type 0
empty_code [] = Unit {0}
empty_code (y ∷ ys) = ⊥

pub not_empty : (x : Token) (xs : List Token) → [] ≡ x ∷ xs → ⊥
not_empty x xs e = subst empty_code e tt

-- ---- one stack at a token

each_always : {A : Type 0} (P : A → Type 0) → ((x : A) → P x) → (xs : List A) → EachOf P xs
each_always P h [] = tt
each_always P h (x ∷ xs) = (h x, each_always P h xs)

-- a stack that was out of the limit stays so
pub flags : (c : Class) (ps : Stack) → EachOf (λ l. l.1 ≡ false) (after c ps false)
flags c [] = tt
flags c (x ∷ ps) =
    each_append (λ l. l.1 ≡ false) (map (onto ps false) (first longest_chain c x.0 x.1)) (cond (nullable_slot x.0) (after c ps false) [])
    (each_mapped (onto ps false) (λ l. l.1 ≡ false) (first longest_chain c x.0 x.1) (each_always (λ l. (false && l.1) ≡ false) (λ l. refl) (first longest_chain c x.0 x.1)))
    (of_rest (nullable_slot x.0) (flags c ps))
  where
    of_rest : (b : Bool) → EachOf (λ l. l.1 ≡ false) (after c ps false) → EachOf (λ l. l.1 ≡ false) (cond b (after c ps false) [])
    of_rest true h = h
    of_rest false h = tt

module _ (free : ℕ) (token : Token) (s : List Token) where
  -- what stays of a stack derives what follows the token; its flag tells whether all tokens so far were within the limit
  abbrev Passed : List Token → Bool → Left → Type 0
  Passed r w left = (ok : Bool) × (left.1 ≡ (w && ok)) × Spans free left.0 s r × ((ok ≡ true) ⊎ (suc (length s) ≤ free))

  passed_onto : (ps : Stack) (w : Bool) (m r : List Token) → Spans free ps m r → (left : Left) → Behind free s m left → Passed r w (onto ps w left)
  passed_onto ps w m r y left e = (left.1, refl, spans_append free left.0 ps s m r e.0 y, e.1)

  abbrev Passes : List Token → Stack → Bool → Type 0
  Passes r ps w = ((r ≡ token ∷ s) × (is_done ps ≡ true)) ⊎ OneOf (Passed r w) (after (class_of token.kind) ps w)

  passes_further : (x : Slot) (d : ℕ) (ps : Stack) (w : Bool) (r : List Token) → nullable_slot x ≡ true → Passes r ps w → Passes r ((x, d) ∷ ps) w
  passes_further x d ps w r n (inl e) = inl (e.0, and_from (nullable_slot x) (is_done ps) n e.1)
  passes_further x d ps w r n (inr e) =
      inr (one_right (Passed r w) (map (onto ps w) (first longest_chain (class_of token.kind) x d)) (cond (nullable_slot x) (after (class_of token.kind) ps w) [])
      (subst (λ z. OneOf (Passed r w) (cond z (after (class_of token.kind) ps w) [])) (sym n) e))

  passes_place : (x : Slot) (d : ℕ) (ps : Stack) (w : Bool) (m r : List Token) → Spans free ps m r → (m ≡ token ∷ s → Passes r ps w)
      → Found free token s m (nullable_slot x) (first longest_chain (class_of token.kind) x d) → Passes r ((x, d) ∷ ps) w
  passes_place x d ps w m r y k (inl e) = passes_further x d ps w r e.1 (k e.0)
  passes_place x d ps w m r y k (inr e) =
      inr (one_left (Passed r w) (map (onto ps w) (first longest_chain (class_of token.kind) x d)) (cond (nullable_slot x) (after (class_of token.kind) ps w) [])
      (one_mapped (onto ps w) (Passed r w) (first longest_chain (class_of token.kind) x d)
      (one_weaker (Behind free s m) (λ l. Passed r w (onto ps w l)) (passed_onto ps w m r y) (first longest_chain (class_of token.kind) x d) e)))

  pub after_found : (ps : Stack) (w : Bool) (r : List Token) → Spans free ps (token ∷ s) r → Passes r ps w
  after_found [] w r x = inl (sym x, refl)
  after_found (x ∷ ps) w r y =
      passes_place x.0 x.1 ps w y.0 r y.2 (λ e. after_found ps w r (subst (λ z. Spans free ps z r) e y.2)) (place_found free token s x.0 x.1 y.0 y.1)

  onto_split : (ps : Stack) (w : Bool) (r : List Token) (left : Left) → Behind free s r (onto ps w left) → (m : List Token) × Behind free s m left × Spans free ps m r
  onto_split ps w r left e = let z = spans_split free left.0 ps s r e.0 in (z.0, (z.1, ok e.1), z.2)
    where
      ok : ((w && left.1) ≡ true) ⊎ (suc (length s) ≤ free) → (left.1 ≡ true) ⊎ (suc (length s) ≤ free)
      ok (inl f) = inl (and_parts w left.1 f).1
      ok (inr f) = inr f

  sound_here : (x : Slot) (d : ℕ) (ps : Stack) (w : Bool) (r : List Token) → OneOf (Behind free s r) (map (onto ps w) (first longest_chain (class_of token.kind) x d))
      → Spans free ((x, d) ∷ ps) (token ∷ s) r
  sound_here x d ps w r e =
      let z = one_with (Behind free s) (λ m. Spans free ps m r) (first longest_chain (class_of token.kind) x d)
      (one_weaker (λ l. Behind free s r (onto ps w l)) (λ l. (m : List Token) × Behind free s m l × Spans free ps m r) (onto_split ps w r) (first longest_chain (class_of token.kind) x d)
      (one_from_mapped (onto ps w) (Behind free s r) (first longest_chain (class_of token.kind) x d) e)) in
      (z.0, first_sound free token s longest_chain x d z.0 z.1, z.2)

  sound_further : (x : Slot) (d : ℕ) (ps : Stack) (w : Bool) (r : List Token) → (OneOf (Behind free s r) (after (class_of token.kind) ps w) → Spans free ps (token ∷ s) r)
      → (b : Bool) → nullable_slot x ≡ b → OneOf (Behind free s r) (cond b (after (class_of token.kind) ps w) []) → Spans free ((x, d) ∷ ps) (token ∷ s) r
  sound_further x d ps w r k true n e = (token ∷ s, empty_place x n free d (token ∷ s), k e)
  sound_further x d ps w r k false n e = absurd e

  sound_either : (x : Slot) (d : ℕ) (ps : Stack) (w : Bool) (r : List Token) → (OneOf (Behind free s r) (after (class_of token.kind) ps w) → Spans free ps (token ∷ s) r)
      → OneOf (Behind free s r) (map (onto ps w) (first longest_chain (class_of token.kind) x d)) ⊎ OneOf (Behind free s r) (cond (nullable_slot x) (after (class_of token.kind) ps w) [])
      → Spans free ((x, d) ∷ ps) (token ∷ s) r
  sound_either x d ps w r k (inl e) = sound_here x d ps w r e
  sound_either x d ps w r k (inr e) = sound_further x d ps w r k (nullable_slot x) refl e

  pub after_sound : (ps : Stack) (w : Bool) (r : List Token) → OneOf (Behind free s r) (after (class_of token.kind) ps w) → Spans free ps (token ∷ s) r
  after_sound [] w r e = absurd e
  after_sound (x ∷ ps) w r e =
      sound_either x.0 x.1 ps w r (after_sound ps w r)
      (one_parts (Behind free s r) (map (onto ps w) (first longest_chain (class_of token.kind) x.0 x.1)) (cond (nullable_slot x.0) (after (class_of token.kind) ps w) []) e)

-- one token: a stack accepts it and what follows exactly where one that stays behind it accepts what follows, and the token is within the limit or free
pub accepts_token : (free : ℕ) (token : Token) (s : List Token) (ps : Stack) → Spans free ps (token ∷ s) [] ↔ OneOf (Behind free s []) (after (class_of token.kind) ps true)
accepts_token free token s ps = (λ x. found (after_found free token s ps true [] x), after_sound free token s ps true [])
  where
    passed : (left : Left) → Passed free token s [] true left → Behind free s [] left
    passed left e = (e.2, ok e.3)
      where
        ok : (e.0 ≡ true) ⊎ (suc (length s) ≤ free) → (left.1 ≡ true) ⊎ (suc (length s) ≤ free)
        ok (inl f) = inl (e.1 ∙ f)
        ok (inr f) = inr f

    found : Passes free token s [] ps true → OneOf (Behind free s []) (after (class_of token.kind) ps true)
    found (inl e) = absurd (not_empty token s e.0)
    found (inr e) = one_weaker (Passed free token s [] true) (Behind free s []) passed (after (class_of token.kind) ps true) e

-- ---- sets of stacks: one that is within the limit accepts these tokens; any one does

abbrev pub AcceptsWithin : ℕ → List Token → Left → Type 0
AcceptsWithin free s left = (left.1 ≡ true) × Spans free left.0 s []

abbrev pub AcceptsAtAll : ℕ → List Token → Left → Type 0
AcceptsAtAll free s left = Spans free left.0 s []

module _ (free : ℕ) (token : Token) (s : List Token) where
  within_passed : free ≤ length s → (w : Bool) → w ≡ true → (left : Left) → Passed free token s [] w left → AcceptsWithin free s left
  within_passed l w t left e = (e.1 ∙ and_from w e.0 t (ok e.3), e.2)
    where
      ok : (e.0 ≡ true) ⊎ (suc (length s) ≤ free) → e.0 ≡ true
      ok (inl f) = f
      ok (inr f) = absurd (not-le_of_lt f l)

  within_passes : (ps : Stack) (w : Bool) → free ≤ length s → w ≡ true → Passes free token s [] ps w → OneOf (AcceptsWithin free s) (after (class_of token.kind) ps w)
  within_passes ps w l t (inl e) = absurd (not_empty token s e.0)
  within_passes ps w l t (inr e) = one_weaker (Passed free token s [] w) (AcceptsWithin free s) (within_passed l w t) (after (class_of token.kind) ps w) e

  at_all_passes : (ps : Stack) (w : Bool) → Passes free token s [] ps w → OneOf (AcceptsAtAll free s) (after (class_of token.kind) ps w)
  at_all_passes ps w (inl e) = absurd (not_empty token s e.0)
  at_all_passes ps w (inr e) = one_weaker (Passed free token s [] w) (AcceptsAtAll free s) (λ l f. f.2) (after (class_of token.kind) ps w) e

  pub within_step : free ≤ length s → (now : List Left) → OneOf (AcceptsWithin free (token ∷ s)) now → OneOf (AcceptsWithin free s) (afters (class_of token.kind) now)
  within_step l [] e = absurd e
  within_step l (left ∷ now) (inl e) =
      one_left (AcceptsWithin free s) (after (class_of token.kind) left.0 left.1) (afters (class_of token.kind) now) (within_passes left.0 left.1 l e.0 (after_found free token s left.0 left.1 [] e.1))
  within_step l (left ∷ now) (inr e) = one_right (AcceptsWithin free s) (after (class_of token.kind) left.0 left.1) (afters (class_of token.kind) now) (within_step l now e)

  pub at_all_step : (now : List Left) → OneOf (AcceptsAtAll free (token ∷ s)) now → OneOf (AcceptsAtAll free s) (afters (class_of token.kind) now)
  at_all_step [] e = absurd e
  at_all_step (left ∷ now) (inl e) =
      one_left (AcceptsAtAll free s) (after (class_of token.kind) left.0 left.1) (afters (class_of token.kind) now) (at_all_passes left.0 left.1 (after_found free token s left.0 left.1 [] e))
  at_all_step (left ∷ now) (inr e) = one_right (AcceptsAtAll free s) (after (class_of token.kind) left.0 left.1) (afters (class_of token.kind) now) (at_all_step now e)

  within_one : (ps : Stack) (w : Bool) → OneOf (AcceptsWithin free s) (after (class_of token.kind) ps w) → AcceptsWithin free (token ∷ s) (ps, w)
  within_one ps true e = (refl, after_sound free token s ps true [] (one_weaker (AcceptsWithin free s) (Behind free s []) (λ l f. (f.1, inl f.0)) (after (class_of token.kind) ps true) e))
  within_one ps false e =
      let f = at_one (λ l. l.1 ≡ false) (AcceptsWithin free s) (after (class_of token.kind) ps false) (flags (class_of token.kind) ps) e in
      absurd (true≢false (sym f.2.0 ∙ f.1))

  pub within_back : (now : List Left) → OneOf (AcceptsWithin free s) (afters (class_of token.kind) now) → OneOf (AcceptsWithin free (token ∷ s)) now
  within_back [] e = absurd e
  within_back (left ∷ now) e = by_parts (within_back now) (one_parts (AcceptsWithin free s) (after (class_of token.kind) left.0 left.1) (afters (class_of token.kind) now) e)
    where
      by_parts : (OneOf (AcceptsWithin free s) (afters (class_of token.kind) now) → OneOf (AcceptsWithin free (token ∷ s)) now)
          → OneOf (AcceptsWithin free s) (after (class_of token.kind) left.0 left.1) ⊎ OneOf (AcceptsWithin free s) (afters (class_of token.kind) now)
          → OneOf (AcceptsWithin free (token ∷ s)) (left ∷ now)
      by_parts k (inl f) = inl (within_one left.0 left.1 f)
      by_parts k (inr f) = inr (k f)

  pub at_all_back : suc (length s) ≤ free → (now : List Left) → OneOf (AcceptsAtAll free s) (afters (class_of token.kind) now) → OneOf (AcceptsAtAll free (token ∷ s)) now
  at_all_back l [] e = absurd e
  at_all_back l (left ∷ now) e = by_parts (at_all_back l now) (one_parts (AcceptsAtAll free s) (after (class_of token.kind) left.0 left.1) (afters (class_of token.kind) now) e)
    where
      by_parts : (OneOf (AcceptsAtAll free s) (afters (class_of token.kind) now) → OneOf (AcceptsAtAll free (token ∷ s)) now)
          → OneOf (AcceptsAtAll free s) (after (class_of token.kind) left.0 left.1) ⊎ OneOf (AcceptsAtAll free s) (afters (class_of token.kind) now)
          → OneOf (AcceptsAtAll free (token ∷ s)) (left ∷ now)
      by_parts k (inl f) =
          inl (after_sound free token s left.0 left.1 [] (one_weaker (AcceptsAtAll free s) (Behind free s []) (λ x g. (g, inr l)) (after (class_of token.kind) left.0 left.1) f))
      by_parts k (inr f) = inr (k f)

-- ---- the end of the tokens

implied_null : (p : Part) (a : Alt p) → all_nullable (slots a) ≡ true → nullable p ≡ true
implied_null p a e = implied (all_nullable (slots a)) (nullable p) (nullable_by a) e

mutual
  derives_at_end : {free : ℕ} {p : Part} {d : ℕ} {s r : List Token} → Derives free p d s r → s ≡ [] → (r ≡ []) × (nullable p ≡ true)
  derives_at_end {p = p} (by a x) e = let f = through_at_end x e in (f.0, implied_null p a f.1)

  through_at_end : {free : ℕ} {xs : List Slot} {d : ℕ} {s r : List Token} → Through free xs d s r → s ≡ [] → (r ≡ []) × (all_nullable xs ≡ true)
  through_at_end ends e = (e, refl)
  through_at_end (takes {m} x y) e = absurd (not_empty x.token m (sym e ∙ x.front))
  through_at_end (part {p} {xs} x y) e = let f = derives_at_end x e in let g = through_at_end y f.0 in (g.0, and_from (nullable p) (all_nullable xs) f.1 g.1)
  through_at_end (deep {p} {xs} x y) e = let f = derives_at_end x e in let g = through_at_end y f.0 in (g.0, and_from (nullable p) (all_nullable xs) f.1 g.1)

place_at_end : (free : ℕ) (x : Slot) (d : ℕ) (m : List Token) → Place free x d [] m → (m ≡ []) × (nullable_slot x ≡ true)
place_at_end free (one t) d m x = absurd (not_empty x.token m x.front)
place_at_end free (same p) d m x = derives_at_end x refl
place_at_end free (deeper p) d m x = derives_at_end x refl

pub done_at_end : (free : ℕ) (ps : Stack) → Spans free ps [] [] → is_done ps ≡ true
done_at_end free [] x = refl
done_at_end free (p ∷ ps) x =
    let e = place_at_end free p.0 p.1 x.0 x.1 in
    and_from (nullable_slot p.0) (is_done ps) e.1 (done_at_end free ps (subst (λ z. Spans free ps z []) e.0 x.2))

pub spans_if_done : (free : ℕ) (ps : Stack) (s : List Token) → is_done ps ≡ true → Spans free ps s s
spans_if_done free [] s e = refl
spans_if_done free (p ∷ ps) s e =
    let f = and_parts (nullable_slot p.0) (is_done ps) e in
    (s, empty_place p.0 f.0 free p.1 s, spans_if_done free ps s f.1)
