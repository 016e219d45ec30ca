-- The modifiers of a function, in any order: which of the productions that begin alike reads them.
use Rattle.std.proofs.Common.{◌≡◌, ℕ, Bool, true, false, cond, List, [], ◌∷◌, ◌++◌, map, nat_le, sym, refl, ap, ◌∙◌, subst, append-nil, le-leb}
use Rattle.slint_base.specs.declared.faults.Span.{Span}
use Rattle.slint_base.specs.declared.endings.End.{End}
use Rattle.slint_lexer.specs.declared.tokens.Token.{Token}
use Rattle.syntax_tree.specs.declared.items.Access.TheVariants as accesses
use Rattle.slint_grammar.specs.declared.words.Word.{Word}
use Rattle.slint_grammar.specs.declared.words.Word.TheVariants as words
use Rattle.slint_parser.specs.declared.stops.Stop.{Stop}
use Rattle.slint_parser.specs.declared.stops.Seen.TheVariants as seens
use Rattle.slint_grammar.specs.Parts as parts
use Rattle.slint_grammar.specs.Grammar.{TheWord, one, same}
use Rattle.slint_grammar.specs.Grammar.{Alt as alts}
use Rattle.slint_grammar.specs.Derivations.{AWord, class_of, deepest_token, Takes, by, ends, takes}
use Rattle.slint_parser.specs.Readings.{at, outcome, seen, goes_on, Refuses, TookOne, StuckOne, Took, Stuck}
use Rattle.slint_grammar.specs.Stacks.{Stack, Left, onto, after, afters, run}
use Rattle.slint_grammar.proofs.Steps.{by_what_stays, Lost, lost_left, lost_right}
use Rattle.slint_parser.proofs.Signs.{not_word}
use Rattle.slint_parser.proofs.Joining.{seen_same, chosen_took, took_by, end_all, one_goes, no_alt}
use Rattle.slint_parser.proofs.Among.{chosen_among}
use Rattle.slint_parser.proofs.MemberForks.{low_of, behind_word, twice}

abbrev Refused : Stack → Type 0
Refused ps = Refuses (goes_on parts.Modifiers) ps

-- a word in front of what follows
abbrev Word_then : Word → ℕ → Stack → Stack
Word_then w d ps = (one (TheWord w), d) ∷ ps

-- what can stand behind the first word
abbrev behind_pure : ℕ → Stack → Bool → List Left
behind_pure d ps w = (ps, w) ∷ (Word_then words.Public d ps, w) ∷ (Word_then words.Protected d ps, w) ∷ []

abbrev behind_access : ℕ → Stack → Bool → List Left
behind_access d ps w = (ps, w) ∷ (Word_then words.Pure d ps, w) ∷ []

-- the first word is none that could follow too
first_word : (w : Word) (d : ℕ) (ps : Stack) (now : List Left) → after (AWord w) ps true ≡ [] → after (AWord w) ((same parts.Modifiers, d) ∷ ps) true ≡ now ++ after (AWord w) ps true
    → afters (AWord w) (at ((same parts.Modifiers, d) ∷ ps)) ≡ now
first_word w d ps now g e = append-nil (after (AWord w) ((same parts.Modifiers, d) ∷ ps) true) ∙ e ∙ ap (λ z. now ++ z) g ∙ append-nil now

pure_goes : (d : ℕ) (s m : List Token) (ps : Stack) → Takes 0 d (TheWord words.Pure) s m → Refused ps → run s (at ((same parts.Modifiers, d) ∷ ps)) ≡ run m (behind_pure d ps true)
pure_goes d s m ps x g =
    behind_word words.Pure d s m (at ((same parts.Modifiers, d) ∷ ps)) (behind_pure d ps true) x
    (first_word words.Pure d ps (behind_pure d ps (nat_le d deepest_token)) g.0 refl ∙ ap (behind_pure d ps) (le-leb d deepest_token (low_of x))) refl

public_goes : (d : ℕ) (s m : List Token) (ps : Stack) → Takes 0 d (TheWord words.Public) s m → Refused ps → run s (at ((same parts.Modifiers, d) ∷ ps)) ≡ run m (behind_access d ps true)
public_goes d s m ps x g =
    behind_word words.Public d s m (at ((same parts.Modifiers, d) ∷ ps)) (behind_access d ps true) x
    (first_word words.Public d ps (behind_access d ps (nat_le d deepest_token)) g.1.0 refl ∙ ap (behind_access d ps) (le-leb d deepest_token (low_of x))) refl

protected_goes : (d : ℕ) (s m : List Token) (ps : Stack) → Takes 0 d (TheWord words.Protected) s m → Refused ps → run s (at ((same parts.Modifiers, d) ∷ ps)) ≡ run m (behind_access d ps true)
protected_goes d s m ps x g =
    behind_word words.Protected d s m (at ((same parts.Modifiers, d) ∷ ps)) (behind_access d ps true) x
    (first_word words.Protected d ps (behind_access d ps (nat_le d deepest_token)) g.1.1.0 refl ∙ ap (behind_access d ps) (le-leb d deepest_token (low_of x))) refl

-- ---- what the next token loses

lost_word : (w : Word) (d : ℕ) (m : List Token) (ps : Stack) → (seen m ≡ seens.Word w → ⊥) → Lost m (at (Word_then w d ps))
lost_word w d [] ps n = refl
lost_word w d (t ∷ m) ps n = ap (λ z. (map (onto ps true) (cond z (([], nat_le d deepest_token) ∷ []) []) ++ []) ++ []) (not_word w (t ∷ m) n t m refl)

lost_at : (w : Word) (m : List Token) (ps : Stack) → seen m ≡ seens.Word w → after (AWord w) ps true ≡ [] → Lost m (at ps)
lost_at w [] ps e g = cc
lost_at w (t ∷ m) ps e g = append-nil (after (class_of t.kind) ps true) ∙ ap (λ z. after z ps true) (seen_same (class_of t.kind) (AWord w) e) ∙ g

-- behind `pure`, the word that is seen, or none
public_left : (d : ℕ) (m : List Token) (ps : Stack) → seen m ≡ seens.Word words.Public → after (AWord words.Public) ps true ≡ [] → run m (behind_pure d ps true) ≡ run m (at (Word_then words.Public d ps))
public_left d [] ps e g = cc
public_left d (t ∷ m) ps e g =
    by_what_stays t m (behind_pure d ps true) (at (Word_then words.Public d ps))
    (subst (λ z. afters z (behind_pure d ps true) ≡ afters z (at (Word_then words.Public d ps))) (sym (seen_same (class_of t.kind) (AWord words.Public) e))
    (ap (λ z. z ++ ((ps, nat_le d deepest_token) ∷ [])) g))

protected_left : (d : ℕ) (m : List Token) (ps : Stack) → seen m ≡ seens.Word words.Protected → after (AWord words.Protected) ps true ≡ [] → run m (behind_pure d ps true) ≡ run m (at (Word_then words.Protected d ps))
protected_left d [] ps e g = cc
protected_left d (t ∷ m) ps e g =
    by_what_stays t m (behind_pure d ps true) (at (Word_then words.Protected d ps))
    (subst (λ z. afters z (behind_pure d ps true) ≡ afters z (at (Word_then words.Protected d ps))) (sym (seen_same (class_of t.kind) (AWord words.Protected) e))
    (ap (λ z. z ++ ((ps, nat_le d deepest_token) ∷ [])) g))

none_left : (d : ℕ) (m : List Token) (ps : Stack) → (seen m ≡ seens.Word words.Public → ⊥) → (seen m ≡ seens.Word words.Protected → ⊥) → run m (behind_pure d ps true) ≡ run m (at ps)
none_left d m ps no_public no_protected =
    lost_right m (at ps ++ at (Word_then words.Public d ps)) (at (Word_then words.Protected d ps)) (lost_word words.Protected d m ps no_protected)
    ∙ lost_right m (at ps) (at (Word_then words.Public d ps)) (lost_word words.Public d m ps no_public)

-- behind another one, `pure`, or none
pure_left : (d : ℕ) (m : List Token) (ps : Stack) → seen m ≡ seens.Word words.Pure → after (AWord words.Pure) ps true ≡ [] → run m (behind_access d ps true) ≡ run m (at (Word_then words.Pure d ps))
pure_left d m ps e g = lost_left m (at ps) (at (Word_then words.Pure d ps)) (lost_at words.Pure m ps e g)

no_pure_left : (d : ℕ) (m : List Token) (ps : Stack) → (seen m ≡ seens.Word words.Pure → ⊥) → run m (behind_access d ps true) ≡ run m (at ps)
no_pure_left d m ps n = lost_right m (at ps) (at (Word_then words.Pure d ps)) (lost_word words.Pure d m ps n)

-- ---- what is read

pub none_took : (d : ℕ) (s : List Token) → (seen s ≡ seens.Word words.Pure → ⊥) → (seen s ≡ seens.Word words.Public → ⊥) → (seen s ≡ seens.Word words.Protected → ⊥)
    → Took parts.Modifiers d s s (false, accesses.None)
none_took d s no_pure no_public no_protected =
    chosen_took (chosen_among [] alts.no_modifier (alts.pure_alone ∷ alts.public_alone ∷ alts.protected_alone ∷ alts.pure_public ∷ alts.pure_protected ∷ alts.public_pure ∷ alts.protected_pure ∷ []) d s refl refl
    (λ t r e. let c = class_of t.kind in
    let a = not_word words.Pure s no_pure t r e in
    let b = not_word words.Public s no_public t r e in
    let o = not_word words.Protected s no_protected t r e in (
      tt,
      (
        no_alt alts.pure_alone (TheWord words.Pure) c d refl a,
        (
          no_alt alts.public_alone (TheWord words.Public) c d refl b,
          (
            no_alt alts.protected_alone (TheWord words.Protected) c d refl o,
            (
              no_alt alts.pure_public (TheWord words.Pure) c d refl a,
              (
                no_alt alts.pure_protected (TheWord words.Pure) c d refl a,
                (no_alt alts.public_pure (TheWord words.Public) c d refl b, (no_alt alts.protected_pure (TheWord words.Protected) c d refl o, tt)),
              ),
            ),
          ),
        ),
      ),
    )) (λ ps g. tt))
    (took_by alts.no_modifier (end_all d s))

-- a first word that is seen and can't be taken at this depth
pure_apart : (d : ℕ) (s : List Token) (ps : Stack) → seen s ≡ seens.Word words.Pure → Refused ps
    → run s (at ((same parts.Modifiers, d) ∷ ps)) ≡ run s (at (Word_then words.Pure d ps) ++ (at (Word_then words.Pure d (Word_then words.Public d ps)) ++ at (Word_then words.Pure d (Word_then words.Protected d ps))))
pure_apart d [] ps e g = cc
pure_apart d (t ∷ s) ps e g =
    by_what_stays t s (at ((same parts.Modifiers, d) ∷ ps)) (at (Word_then words.Pure d ps) ++ (at (Word_then words.Pure d (Word_then words.Public d ps)) ++ at (Word_then words.Pure d (Word_then words.Protected d ps))))
    (subst (λ z. afters z (at ((same parts.Modifiers, d) ∷ ps)) ≡ afters z (at (Word_then words.Pure d ps) ++ (at (Word_then words.Pure d (Word_then words.Public d ps)) ++ at (Word_then words.Pure d (Word_then words.Protected d ps))))) (sym (seen_same (class_of t.kind) (AWord words.Pure) e))
    (first_word words.Pure d ps (behind_pure d ps (nat_le d deepest_token)) g.0 refl))

pub pure_stuck : (d : ℕ) {s : List Token} {e : End Stop} → seen s ≡ seens.Word words.Pure → StuckOne (TheWord words.Pure) d s e → Stuck parts.Modifiers d s e
pure_stuck d {s} e x = record {
  stops = λ where_to is ps g. pure_apart d s ps e g
      ∙ twice s (at (Word_then words.Pure d ps)) (at (Word_then words.Pure d (Word_then words.Public d ps)) ++ at (Word_then words.Pure d (Word_then words.Protected d ps))) (outcome where_to) (x.stops where_to is ps)
      (twice s (at (Word_then words.Pure d (Word_then words.Public d ps))) (at (Word_then words.Pure d (Word_then words.Protected d ps))) (outcome where_to) (x.stops where_to is (Word_then words.Public d ps)) (x.stops where_to is (Word_then words.Protected d ps)));
}

public_apart : (d : ℕ) (s : List Token) (ps : Stack) → seen s ≡ seens.Word words.Public → Refused ps
    → run s (at ((same parts.Modifiers, d) ∷ ps)) ≡ run s (at (Word_then words.Public d ps) ++ at (Word_then words.Public d (Word_then words.Pure d ps)))
public_apart d [] ps e g = cc
public_apart d (t ∷ s) ps e g =
    by_what_stays t s (at ((same parts.Modifiers, d) ∷ ps)) (at (Word_then words.Public d ps) ++ at (Word_then words.Public d (Word_then words.Pure d ps)))
    (subst (λ z. afters z (at ((same parts.Modifiers, d) ∷ ps)) ≡ afters z (at (Word_then words.Public d ps) ++ at (Word_then words.Public d (Word_then words.Pure d ps)))) (sym (seen_same (class_of t.kind) (AWord words.Public) e))
    (first_word words.Public d ps (behind_access d ps (nat_le d deepest_token)) g.1.0 refl))

pub public_stuck : (d : ℕ) {s : List Token} {e : End Stop} → seen s ≡ seens.Word words.Public → StuckOne (TheWord words.Public) d s e → Stuck parts.Modifiers d s e
public_stuck d {s} e x = record {
  stops = λ where_to is ps g. public_apart d s ps e g
      ∙ twice s (at (Word_then words.Public d ps)) (at (Word_then words.Public d (Word_then words.Pure d ps))) (outcome where_to) (x.stops where_to is ps) (x.stops where_to is (Word_then words.Pure d ps));
}

protected_apart : (d : ℕ) (s : List Token) (ps : Stack) → seen s ≡ seens.Word words.Protected → Refused ps
    → run s (at ((same parts.Modifiers, d) ∷ ps)) ≡ run s (at (Word_then words.Protected d ps) ++ at (Word_then words.Protected d (Word_then words.Pure d ps)))
protected_apart d [] ps e g = cc
protected_apart d (t ∷ s) ps e g =
    by_what_stays t s (at ((same parts.Modifiers, d) ∷ ps)) (at (Word_then words.Protected d ps) ++ at (Word_then words.Protected d (Word_then words.Pure d ps)))
    (subst (λ z. afters z (at ((same parts.Modifiers, d) ∷ ps)) ≡ afters z (at (Word_then words.Protected d ps) ++ at (Word_then words.Protected d (Word_then words.Pure d ps)))) (sym (seen_same (class_of t.kind) (AWord words.Protected) e))
    (first_word words.Protected d ps (behind_access d ps (nat_le d deepest_token)) g.1.1.0 refl))

pub protected_stuck : (d : ℕ) {s : List Token} {e : End Stop} → seen s ≡ seens.Word words.Protected → StuckOne (TheWord words.Protected) d s e → Stuck parts.Modifiers d s e
protected_stuck d {s} e x = record {
  stops = λ where_to is ps g. protected_apart d s ps e g
      ∙ twice s (at (Word_then words.Protected d ps)) (at (Word_then words.Protected d (Word_then words.Pure d ps))) (outcome where_to) (x.stops where_to is ps) (x.stops where_to is (Word_then words.Pure d ps));
}

-- a word, and the one behind it

pub pure_alone_took : (d : ℕ) (s m : List Token) (word : Span) → TookOne (TheWord words.Pure) d s m word → (seen m ≡ seens.Word words.Public → ⊥) → (seen m ≡ seens.Word words.Protected → ⊥)
    → Took parts.Modifiers d s m (true, accesses.None)
pure_alone_took d s m word x no_public no_protected = record {
  x = by alts.pure_alone (takes x.x ends);
  is = refl;
  goes = λ ps g. pure_goes d s m ps x.x g ∙ none_left d m ps no_public no_protected;
}

pub pure_public_took : (d : ℕ) (s m r : List Token) (word access : Span) → TookOne (TheWord words.Pure) d s m word → seen m ≡ seens.Word words.Public → TookOne (TheWord words.Public) d m r access
    → Took parts.Modifiers d s r (true, accesses.Public)
pure_public_took d s m r word access x e y = record {
  x = by alts.pure_public (takes x.x (takes y.x ends));
  is = refl;
  goes = λ ps g. pure_goes d s m ps x.x g ∙ public_left d m ps e g.1.0 ∙ one_goes (TheWord words.Public) d m r y.x y.low ps;
}

pub pure_protected_took : (d : ℕ) (s m r : List Token) (word access : Span) → TookOne (TheWord words.Pure) d s m word → seen m ≡ seens.Word words.Protected → TookOne (TheWord words.Protected) d m r access
    → Took parts.Modifiers d s r (true, accesses.Protected)
pure_protected_took d s m r word access x e y = record {
  x = by alts.pure_protected (takes x.x (takes y.x ends));
  is = refl;
  goes = λ ps g. pure_goes d s m ps x.x g ∙ protected_left d m ps e g.1.1.0 ∙ one_goes (TheWord words.Protected) d m r y.x y.low ps;
}

pub public_alone_took : (d : ℕ) (s m : List Token) (word : Span) → TookOne (TheWord words.Public) d s m word → (seen m ≡ seens.Word words.Pure → ⊥) → Took parts.Modifiers d s m (false, accesses.Public)
public_alone_took d s m word x n = record {
  x = by alts.public_alone (takes x.x ends);
  is = refl;
  goes = λ ps g. public_goes d s m ps x.x g ∙ no_pure_left d m ps n;
}

pub public_pure_took : (d : ℕ) (s m r : List Token) (word behind : Span) → TookOne (TheWord words.Public) d s m word → seen m ≡ seens.Word words.Pure → TookOne (TheWord words.Pure) d m r behind
    → Took parts.Modifiers d s r (true, accesses.Public)
public_pure_took d s m r word behind x e y = record {
  x = by alts.public_pure (takes x.x (takes y.x ends));
  is = refl;
  goes = λ ps g. public_goes d s m ps x.x g ∙ pure_left d m ps e g.0 ∙ one_goes (TheWord words.Pure) d m r y.x y.low ps;
}

pub protected_alone_took : (d : ℕ) (s m : List Token) (word : Span) → TookOne (TheWord words.Protected) d s m word → (seen m ≡ seens.Word words.Pure → ⊥) → Took parts.Modifiers d s m (false, accesses.Protected)
protected_alone_took d s m word x n = record {
  x = by alts.protected_alone (takes x.x ends);
  is = refl;
  goes = λ ps g. protected_goes d s m ps x.x g ∙ no_pure_left d m ps n;
}

pub protected_pure_took : (d : ℕ) (s m r : List Token) (word behind : Span) → TookOne (TheWord words.Protected) d s m word → seen m ≡ seens.Word words.Pure → TookOne (TheWord words.Pure) d m r behind
    → Took parts.Modifiers d s r (true, accesses.Protected)
protected_pure_took d s m r word behind x e y = record {
  x = by alts.protected_pure (takes x.x (takes y.x ends));
  is = refl;
  goes = λ ps g. protected_goes d s m ps x.x g ∙ pure_left d m ps e g.0 ∙ one_goes (TheWord words.Pure) d m r y.x y.low ps;
}

pub pure_public_stuck : (d : ℕ) {s : List Token} (m : List Token) {word : Span} {e : End Stop} → TookOne (TheWord words.Pure) d s m word → seen m ≡ seens.Word words.Public → StuckOne (TheWord words.Public) d m e
    → Stuck parts.Modifiers d s e
pure_public_stuck d {s} m x e y = record { stops = λ where_to is ps g. pure_goes d s m ps x.x g ∙ public_left d m ps e g.1.0 ∙ y.stops where_to is ps }

pub pure_protected_stuck : (d : ℕ) {s : List Token} (m : List Token) {word : Span} {e : End Stop} → TookOne (TheWord words.Pure) d s m word → seen m ≡ seens.Word words.Protected → StuckOne (TheWord words.Protected) d m e
    → Stuck parts.Modifiers d s e
pure_protected_stuck d {s} m x e y = record { stops = λ where_to is ps g. pure_goes d s m ps x.x g ∙ protected_left d m ps e g.1.1.0 ∙ y.stops where_to is ps }

pub public_pure_stuck : (d : ℕ) {s : List Token} (m : List Token) {word : Span} {e : End Stop} → TookOne (TheWord words.Public) d s m word → seen m ≡ seens.Word words.Pure → StuckOne (TheWord words.Pure) d m e
    → Stuck parts.Modifiers d s e
public_pure_stuck d {s} m x e y = record { stops = λ where_to is ps g. public_goes d s m ps x.x g ∙ pure_left d m ps e g.0 ∙ y.stops where_to is ps }

pub protected_pure_stuck : (d : ℕ) {s : List Token} (m : List Token) {word : Span} {e : End Stop} → TookOne (TheWord words.Protected) d s m word → seen m ≡ seens.Word words.Pure → StuckOne (TheWord words.Pure) d m e
    → Stuck parts.Modifiers d s e
protected_pure_stuck d {s} m x e y = record { stops = λ where_to is ps g. protected_goes d s m ps x.x g ∙ pure_left d m ps e g.0 ∙ y.stops where_to is ps }
