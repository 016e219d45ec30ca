-- Which of several productions reads a part, and what a test of what is seen says.
use Rattle.std.proofs.Common.{◌≡◌, ℕ, Bool, true, false, List, [], ◌∷◌, ◌++◌, sym, refl, ap, ◌∙◌, append_assoc, append-nil, true≢false}
use Rattle.slint_lexer.specs.declared.tokens.Token.{Token}
use Rattle.slint_grammar.specs.Parts.{Part}
use Rattle.slint_grammar.specs.Grammar.{Slot, Alt, slots}
use Rattle.slint_grammar.specs.Derivations.{Class, class_of}
use Rattle.slint_parser.specs.Readings.{goes_on, Refuses, Fits}
use Rattle.slint_grammar.specs.Stacks.{Stack, Left, through, each_alt, first, alts_of, nullable, longest_chain}
use Rattle.slint_grammar.proofs.Tables.{all_nullable}
use Rattle.slint_parser.proofs.Joining.{Chosen, chosen_if}

-- none of these productions finds anything
abbrev pub AllNone : {p : Part} → Class → ℕ → List (Alt p) → Type 0
AllNone c d [] = Unit {0}
AllNone c d (a ∷ as') = (through (first longest_chain c) (slots a) d ≡ []) × AllNone c d as'

each_none : {p : Part} (c : Class) (d : ℕ) (some : List (Alt p)) → AllNone c d some → each_alt (first longest_chain c) some d ≡ []
each_none c d [] h = refl
each_none c d (a ∷ some) h = ap (λ z. z ++ each_alt (first longest_chain c) some d) h.0 ∙ each_none c d some h.1

each_append : {p : Part} (f : Slot → ℕ → List Left) (d : ℕ) (some more : List (Alt p)) → each_alt f (some ++ more) d ≡ each_alt f some d ++ each_alt f more d
each_append f d [] more = refl
each_append f d (a ∷ some) more = ap (λ z. through f (slots a) d ++ z) (each_append f d some more) ∙ sym (append_assoc (through f (slots a) d) (each_alt f some d) (each_alt f more d))

pub each_one : {p : Part} (before : List (Alt p)) (a : Alt p) (behind : List (Alt p)) (c : Class) (d : ℕ) → alts_of p ≡ before ++ a ∷ behind
    → AllNone c d before × AllNone c d behind → each_alt (first longest_chain c) (alts_of p) d ≡ through (first longest_chain c) (slots a) d
each_one before a behind c d split both =
    let f = first longest_chain c in
    ap (λ z. each_alt f z d) split ∙ each_append f d before (a ∷ behind)
    ∙ ap (λ z. z ++ (through f (slots a) d ++ each_alt f behind d)) (each_none c d before both.0)
    ∙ ap (λ z. through f (slots a) d ++ z) (each_none c d behind both.1) ∙ append-nil (through f (slots a) d)

-- a production among others that find nothing
pub chosen_among : {p : Part} (before : List (Alt p)) (a : Alt p) (behind : List (Alt p)) (d : ℕ) (s : List Token) → alts_of p ≡ before ++ a ∷ behind → nullable p ≡ all_nullable (slots a)
    → ((t : Token) (r : List Token) → s ≡ t ∷ r → AllNone (class_of t.kind) d before × AllNone (class_of t.kind) d behind)
    → ((ps : Stack) → Refuses (goes_on p) ps → Fits d (slots a) ps) → Chosen a d s
chosen_among before a behind d s split n none fit = chosen_if a d s n (λ t r e. each_one before a behind (class_of t.kind) d split (none t r e)) fit

-- a test that was false
pub unlike : {A : Type 0} (b : Bool) → b ≡ false → (A → b ≡ true) → A → ⊥
unlike b n f x = true≢false (sym (f x) ∙ n)
