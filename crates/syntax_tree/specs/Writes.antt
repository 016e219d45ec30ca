-- Tokens written to the end of a buffer.
use Rattle.std.specs.Prelude.{◌≡◌, ℕ, zero, suc, List, [], ◌∷◌, ◌++◌}
use Rattle.std.specs.Str.{IsUtf8}
use Rattle.slint_lexer.specs.declared.tokens.Symbol.TheVariants as symbols
use Rattle.slint_lexer.specs.declared.tokens.TokenKind.TheVariants as kinds
use Rattle.slint_lexer.specs.Spelled.{written}
use Rattle.syntax_tree.specs.Printed.{Kinds, sign}

-- a buffer's bytes, before and behind, where these tokens were written to its end; a buffer of UTF-8 stays one
pub record Writes (old new : List ℕ) (ks : Kinds) : Type 0 where
  pub is : new ≡ old ++ written ks
  pub text : IsUtf8 old → IsUtf8 new

-- a comma before each item of a list but the first
abbrev pub comma_before : ℕ → Kinds
comma_before zero = []
comma_before (suc n) = sign symbols.Comma

-- a string's text before a hole: up to the first, or between two
abbrev pub opening : ℕ → List ℕ → Kinds
opening zero text = kinds.Head text ∷ []
opening (suc n) text = kinds.Mid text ∷ []

-- a string's text behind the last of its holes, or all of it where there is none
abbrev pub closing : ℕ → List ℕ → Kinds
closing zero text = kinds.Str text ∷ []
closing (suc n) text = kinds.Tail text ∷ []
