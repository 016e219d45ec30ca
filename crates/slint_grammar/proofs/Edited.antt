-- What is written of read tokens: they stay, but for semicolons and commas, which are left out or put in, and two words that change places.
use Rattle.std.proofs.Common.{ℕ, IsTrue, List, [], ◌∷◌, ◌++◌, sym, subst}
use Rattle.slint_lexer.specs.declared.tokens.Symbol.TheVariants as symbols
use Rattle.slint_lexer.specs.declared.tokens.Token.{Token}
use Rattle.slint_lexer.specs.declared.tokens.TokenKind.{TokenKind}
use Rattle.slint_lexer.specs.declared.tokens.TokenKind.TheVariants as kinds
use Rattle.slint_lexer.specs.Spelled.{kinds_of}
use Rattle.syntax_tree.specs.Printed.{Kinds}
use Rattle.slint_grammar.specs.declared.words.Word.{Word}
use Rattle.slint_grammar.specs.Grammar.{Terminal, TheWord}
use Rattle.slint_grammar.specs.Derivations.{spelling, held, Takes}
use Rattle.slint_grammar.proofs.Spelled.{kind_of}
use Rattle.slint_grammar.proofs.HeldKinds.{is_proper, kind_held}

-- tokens that may stand or not
pub data IsPlain : TokenKind → Type 0 where
  a_semicolon : IsPlain (kinds.Symbol symbols.Semicolon)
  a_comma : IsPlain (kinds.Symbol symbols.Comma)

-- what is read up to the third list, and what is written of it
pub data Edited : Kinds → Kinds → Kinds → Type 0 where
  stays : {r : Kinds} → Edited r [] r
  keeps : {s w r : Kinds} → (k : TokenKind) → Edited s w r → Edited (k ∷ s) (k ∷ w) r
  drops : {s w r : Kinds} → (k : TokenKind) → IsPlain k → Edited s w r → Edited (k ∷ s) w r
  adds : {s w r : Kinds} → (k : TokenKind) → IsPlain k → Edited s w r → Edited s (k ∷ w) r
  swaps : {s w r : Kinds} → (a b : List ℕ) → Edited s w r → Edited (kinds.Id a ∷ kinds.Id b ∷ s) (kinds.Id b ∷ kinds.Id a ∷ w) r

pub joined : {s v m w r : Kinds} → Edited s v m → Edited m w r → Edited s (v ++ w) r
joined stays y = y
joined (keeps k x) y = keeps k (joined x y)
joined (drops k p x) y = drops k p (joined x y)
joined (adds k p x) y = adds k p (joined x y)
joined (swaps a b x) y = swaps a b (joined x y)

-- the next token stays, or is left out
pub keeps_front : {d : ℕ} {t : Terminal} {s m : List Token} (x : Takes 0 d t s m) {w r : Kinds} → IsTrue (is_proper t) → Edited (kinds_of m) w r → Edited (kinds_of s) (kind_of t (held t x.token) ∷ w) r
keeps_front {d} {t} {s} {m} x {w} {r} p y = subst (λ z. Edited (kinds_of z) (kind_of t (held t x.token) ∷ w) r) (sym x.front)
    (subst (λ k. Edited (k ∷ kinds_of m) (kind_of t (held t x.token) ∷ w) r) (kind_held t x.token.kind x.token.span p x.fits_it) (keeps (kind_of t (held t x.token)) y))

pub drops_front : {d : ℕ} {t : Terminal} {s m : List Token} (x : Takes 0 d t s m) {w r : Kinds} → IsTrue (is_proper t) → IsPlain (kind_of t (held t x.token)) → Edited (kinds_of m) w r → Edited (kinds_of s) w r
drops_front {d} {t} {s} {m} x {w} {r} p q y = subst (λ z. Edited (kinds_of z) w r) (sym x.front)
    (subst (λ k. Edited (k ∷ kinds_of m) w r) (kind_held t x.token.kind x.token.span p x.fits_it) (drops (kind_of t (held t x.token)) q y))

-- two words change places
pub swaps_front : {d : ℕ} {v w : Word} {s m r : List Token} (x : Takes 0 d (TheWord v) s m) (y : Takes 0 d (TheWord w) m r) → IsTrue (is_proper (TheWord v)) → IsTrue (is_proper (TheWord w))
    → Edited (kinds_of s) (kinds.Id (spelling w) ∷ kinds.Id (spelling v) ∷ []) (kinds_of r)
swaps_front {d} {v} {w} {s} {m} {r} x y p q =
    let swapped : Kinds = kinds.Id (spelling w) ∷ kinds.Id (spelling v) ∷ [] in
    subst (λ z. Edited (kinds_of z) swapped (kinds_of r)) (sym x.front)
    (subst (λ z. Edited (x.token.kind ∷ kinds_of z) swapped (kinds_of r)) (sym y.front)
    (subst (λ k. Edited (k ∷ y.token.kind ∷ kinds_of r) swapped (kinds_of r)) (kind_held (TheWord v) x.token.kind x.token.span p x.fits_it)
    (subst (λ k. Edited (kinds.Id (spelling v) ∷ k ∷ kinds_of r) swapped (kinds_of r)) (kind_held (TheWord w) y.token.kind y.token.span q y.fits_it) (swaps (spelling v) (spelling w) stays))))
