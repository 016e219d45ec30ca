-- The symbols at the front of bytes, as the code reads them.
use Rattle.std.specs.Prelude.{ℕ, List, [], ◌∷◌, ◌==◌, ◌&&◌, if◌then◌else◌, Option, Some, None}
use Rattle.slint_lexer.specs.declared.tokens.Symbol.{Symbol}
use Rattle.slint_lexer.specs.declared.tokens.Symbol.TheVariants.{TwoWay, ColonEqual, FatArrow, ThinArrow, EqualEqual, NotEqual, LessEqual, GreaterEqual, PlusEqual, MinusEqual, StarEqual, SlashEqual, AndAnd, OrOr, OpenBrace, CloseBrace, OpenParen, CloseParen, OpenBracket, CloseBracket, Less, Greater, Equal, Colon, Semicolon, Comma, Dot, Bang, Question, Plus, Minus, Star, Slash, At}

-- the symbol of a byte and `=`
abbrev pub and_equal : ℕ → Option Symbol
and_equal a = if a == 58 then Some ColonEqual
    else if a == 61 then Some EqualEqual
    else if a == 33 then Some NotEqual
    else if a == 60 then Some LessEqual
    else if a == 62 then Some GreaterEqual
    else if a == 43 then Some PlusEqual
    else if a == 45 then Some MinusEqual
    else if a == 42 then Some StarEqual
    else if a == 47 then Some SlashEqual
    else None

-- the symbol of a byte and `>`
abbrev pub and_greater : ℕ → Option Symbol
and_greater a = if a == 61 then Some FatArrow else if a == 45 then Some ThinArrow else None

-- the symbol of these two bytes
abbrev pub two_bytes : ℕ → ℕ → Option Symbol
two_bytes a b = if b == 61 then and_equal a
    else if b == 62 then and_greater a
    else if a == 38 && b == 38 then Some AndAnd
    else if a == 124 && b == 124 then Some OrOr
    else None

-- the bracket that this byte is
abbrev pub bracket : ℕ → Option Symbol
bracket a = if a == 123 then Some OpenBrace
    else if a == 125 then Some CloseBrace
    else if a == 40 then Some OpenParen
    else if a == 41 then Some CloseParen
    else if a == 91 then Some OpenBracket
    else if a == 93 then Some CloseBracket
    else None

-- the operator that this byte is
abbrev pub operator : ℕ → Option Symbol
operator a = if a == 60 then Some Less
    else if a == 62 then Some Greater
    else if a == 61 then Some Equal
    else if a == 33 then Some Bang
    else if a == 43 then Some Plus
    else if a == 45 then Some Minus
    else if a == 42 then Some Star
    else if a == 47 then Some Slash
    else None

-- the mark that this byte is
abbrev pub mark : ℕ → Option Symbol
mark a = if a == 58 then Some Colon
    else if a == 59 then Some Semicolon
    else if a == 44 then Some Comma
    else if a == 46 then Some Dot
    else if a == 63 then Some Question
    else if a == 64 then Some At
    else None

-- the first that is there
abbrev pub first_of : Option Symbol → Option Symbol → Option Symbol
first_of (Some k) other = Some k
first_of None other = other

-- the symbol of this byte alone
abbrev pub one_byte : ℕ → Option Symbol
one_byte a = first_of (bracket a) (first_of (operator a) (mark a))

-- a symbol and how many bytes spell it
abbrev pub with_length : ℕ → Option Symbol → Option (Symbol × ℕ)
with_length n None = None
with_length n (Some k) = Some (k, n)

-- the longer symbol, where there is one
abbrev pub longer : Option (Symbol × ℕ) → Option (Symbol × ℕ) → Option (Symbol × ℕ)
longer None short = short
longer (Some found) short = Some found

-- the symbol of three bytes
abbrev pub three_bytes : ℕ → ℕ → List ℕ → Option Symbol
three_bytes a b [] = None
three_bytes a b (c ∷ s) = if a == 60 && (b == 61 && c == 62) then Some TwoWay else None

-- the longest symbol at the front, and how many bytes spell it
abbrev pub top_symbol : List ℕ → Option (Symbol × ℕ)
top_symbol [] = None
top_symbol (a ∷ []) = with_length 1 (one_byte a)
top_symbol (a ∷ b ∷ s) = longer (with_length 3 (three_bytes a b s)) (longer (with_length 2 (two_bytes a b)) (with_length 1 (one_byte a)))
