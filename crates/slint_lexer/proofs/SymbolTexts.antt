-- The spellings of symbols.
use Rattle.std.proofs.Common.{◌≡◌, ℕ, Option, Some, None, List, [], ◌∷◌, refl, sym, ap, ◌∙◌}
use Rattle.slint_lexer.specs.declared.tokens.Symbol.{Symbol}
use Rattle.slint_lexer.specs.declared.tokens.Symbol.TheVariants.{TwoWay, ColonEqual, FatArrow, ThinArrow, EqualEqual, NotEqual, LessEqual, GreaterEqual, PlusEqual, MinusEqual, StarEqual, SlashEqual, AndAnd, OrOr, OpenBrace, CloseBrace, OpenParen, CloseParen, OpenBracket, CloseBracket, Less, Greater, Equal, Colon, Semicolon, Comma, Dot, Bang, Question, Plus, Minus, Star, Slash, At}
use Rattle.slint_lexer.specs.Symbols.{symbol_text}
use Rattle.slint_lexer.specs.Reading.{one_byte, two_bytes, three_bytes}

-- the symbol that a text spells
unfoldable pub symbol_of : List ℕ → Option Symbol
symbol_of [] = None
symbol_of (a ∷ []) = one_byte a
symbol_of (a ∷ b ∷ []) = two_bytes a b
symbol_of (a ∷ b ∷ c ∷ []) = three_bytes a b (c ∷ [])
symbol_of (a ∷ b ∷ c ∷ d ∷ s) = None

pub symbol_of-text : (k : Symbol) → symbol_of (symbol_text k) ≡ Some k
unfolding symbol_of
symbol_of-text TwoWay = refl
symbol_of-text ColonEqual = refl
symbol_of-text FatArrow = refl
symbol_of-text ThinArrow = refl
symbol_of-text EqualEqual = refl
symbol_of-text NotEqual = refl
symbol_of-text LessEqual = refl
symbol_of-text GreaterEqual = refl
symbol_of-text PlusEqual = refl
symbol_of-text MinusEqual = refl
symbol_of-text StarEqual = refl
symbol_of-text SlashEqual = refl
symbol_of-text AndAnd = refl
symbol_of-text OrOr = refl
symbol_of-text OpenBrace = refl
symbol_of-text CloseBrace = refl
symbol_of-text OpenParen = refl
symbol_of-text CloseParen = refl
symbol_of-text OpenBracket = refl
symbol_of-text CloseBracket = refl
symbol_of-text Less = refl
symbol_of-text Greater = refl
symbol_of-text Equal = refl
symbol_of-text Colon = refl
symbol_of-text Semicolon = refl
symbol_of-text Comma = refl
symbol_of-text Dot = refl
symbol_of-text Bang = refl
symbol_of-text Question = refl
symbol_of-text Plus = refl
symbol_of-text Minus = refl
symbol_of-text Star = refl
symbol_of-text Slash = refl
symbol_of-text At = refl

-- no two symbols have one spelling
pub same_symbol : (k j : Symbol) → symbol_text k ≡ symbol_text j → k ≡ j
same_symbol k j e = let same : Some k ≡ Some j = sym (symbol_of-text k) ∙ ap symbol_of e ∙ symbol_of-text j in cc
