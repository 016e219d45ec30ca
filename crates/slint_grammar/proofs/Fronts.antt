-- The next token of other tokens, where its kind is known.
use Rattle.std.proofs.Common.{◌≡◌, ℕ, ◌≤◌, IsTrue, List, [], ◌∷◌, length, inl, ⊎_elim, refl, sym, ap, subst, arith}
use Rattle.slint_lexer.specs.declared.tokens.Token.{Token}
use Rattle.slint_lexer.specs.declared.tokens.TokenKind.{TokenKind}
use Rattle.slint_lexer.specs.Spelled.{kinds_of}
use Rattle.syntax_tree.specs.Printed.{Kinds}
use Rattle.slint_grammar.specs.Grammar.{Terminal}
use Rattle.slint_grammar.specs.Derivations.{deepest_token, class_of, fits, Takes}

front_kind : (j k : TokenKind) (xs ys : Kinds) → j ∷ xs ≡ k ∷ ys → j ≡ k
front_kind j k xs ys e = cc

kinds_behind : (j k : TokenKind) (xs ys : Kinds) → j ∷ xs ≡ k ∷ ys → xs ≡ ys
kinds_behind j k xs ys e = cc

no_front : (k : TokenKind) (xs : Kinds) → [] ≡ k ∷ xs → ⊥
no_front k xs e = cc

longer : (token : Token) (s m : List Token) → s ≡ token ∷ m → length s ≤ 0 → ⊥
longer token s m e h = omega (arith, ap length e)

-- a token that was taken where none is free was within the limit
pub limit : {d : ℕ} {t : Terminal} {s m : List Token} → Takes 0 d t s m → d ≤ deepest_token
limit {s} {m} x = ⊎_elim (λ h. h) (λ h. absurd (longer x.token s m x.front h)) x.within

-- the next token is taken, and the kinds behind it are these
pub record Front (free d : ℕ) (t : Terminal) (k : TokenKind) (s : List Token) (ks : Kinds) : Type 0 where
  pub rest : List Token
  pub behind : kinds_of rest ≡ ks
  pub taken : Takes free d t s rest
  pub kind : taken.token.kind ≡ k

pub front : (free : ℕ) {d : ℕ} (t : Terminal) (k : TokenKind) → IsTrue (fits t (class_of k)) → d ≤ deepest_token → (s : List Token) (ks : Kinds) → kinds_of s ≡ k ∷ ks → Front free d t k s ks
front free t k h l [] ks e = absurd (no_front k ks e)
front free t k h l (token ∷ m) ks e =
    let same_kind = front_kind token.kind k (kinds_of m) ks e in
    record {
      rest = m;
      behind = kinds_behind token.kind k (kinds_of m) ks e;
      taken = record { token = token; front = refl; fits_it = subst (λ z. IsTrue (fits t (class_of z))) (sym same_kind) h; within = inl l };
      kind = same_kind;
    }
