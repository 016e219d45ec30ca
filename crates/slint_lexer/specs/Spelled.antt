-- How tokens are written so that they are read again.
use Rattle.std.specs.Prelude.{◌≡◌, ℕ, ◌^◌, ◌<◌, ⊤, Bool, true, false, List, [], ◌∷◌, ◌++◌, map}
use Rattle.std.specs.Str.{IsUtf8}
use Rattle.slint_base.specs.Names.{normal_name}
use Rattle.slint_literals.specs.Printed.{printed_text}
use Rattle.slint_literals.specs.Spelled.{spelled_number, spelled_colour, ReadyNumber}
use Rattle.slint_lexer.specs.declared.marks.Mark.{Mark}
use Rattle.slint_lexer.specs.declared.tokens.Symbol.{Symbol}
use Rattle.slint_lexer.specs.declared.tokens.Symbol.TheVariants as symbols
use Rattle.slint_lexer.specs.declared.tokens.Token.{Token}
use Rattle.slint_lexer.specs.declared.tokens.TokenKind.{TokenKind}
use Rattle.slint_lexer.specs.declared.tokens.TokenKind.TheVariants as kinds
use Rattle.slint_lexer.specs.Lexing.{ends_hole, behind_token}
use Rattle.slint_lexer.specs.Names.{IsName}
use Rattle.slint_lexer.specs.Symbols.{symbol_text}

-- the spelling of a token
abbrev pub spelled : TokenKind → List ℕ
spelled (kinds.Id name) = name
spelled (kinds.Number n) = spelled_number n
spelled (kinds.Colour c) = spelled_colour c
spelled (kinds.Str text) = 34 ∷ (printed_text text ++ 34 ∷ [])
spelled (kinds.Head text) = 34 ∷ (printed_text text ++ 92 ∷ 123 ∷ [])
spelled (kinds.Mid text) = 125 ∷ (printed_text text ++ 92 ∷ 123 ∷ [])
spelled (kinds.Tail text) = 125 ∷ (printed_text text ++ 34 ∷ [])
spelled (kinds.Symbol k) = symbol_text k

-- tokens as they are written, each with one space behind it
abbrev pub written : List TokenKind → List ℕ
written [] = []
written (k ∷ ks) = spelled k ++ 32 ∷ written ks

-- what tokens are, spans aside
abbrev pub kinds_of : List Token → List TokenKind
kinds_of tokens = map (λ token. token.kind) tokens

-- a symbol where it can stand: a closing brace not where it would end a hole
abbrev pub ReadySymbol : Bool → Symbol → Type 0
ReadySymbol ends symbols.CloseBrace = ends ≡ false
ReadySymbol ends _ = ⊤

-- the text is the name that some spelling has
abbrev pub IsNormal : List ℕ → Type 0
IsNormal name = (text : List ℕ) × IsName text × (name ≡ normal_name text)

-- a token as reading gives it, where it is known whether a closing brace ends a hole
abbrev pub Ready : Bool → TokenKind → Type 0
Ready ends (kinds.Id name) = IsNormal name
Ready ends (kinds.Number n) = ReadyNumber n
Ready ends (kinds.Colour c) = c < 2 ^ 32
Ready ends (kinds.Str text) = IsUtf8 text
Ready ends (kinds.Head text) = IsUtf8 text
Ready ends (kinds.Mid text) = (ends ≡ true) × IsUtf8 text
Ready ends (kinds.Tail text) = (ends ≡ true) × IsUtf8 text
Ready ends (kinds.Symbol k) = ReadySymbol ends k

-- tokens that are each as reading gives them, from some open marks to others
abbrev pub Fits : List Mark → List TokenKind → List Mark → Type 0
Fits held [] now = now ≡ held
Fits held (k ∷ ks) now = Ready (ends_hole held) k × Fits (behind_token k held) ks now
