-- The pieces of a source: separators and tokens, each by the bytes before what is left behind it.
use Rattle.std.specs.Prelude.{◌≡◌, ℕ, zero, suc, ◌≤◌, Bool, true, false, List, [], ◌∷◌, ◌++◌, length, drop, ◌==◌, ◌&&◌, ◌||◌, if◌then◌else◌, Option, Some, None}
use Rattle.std.specs.Char.{is_ascii_digit, is_ascii_alphanumeric}
use Rattle.std.specs.List.{list_all}
use Rattle.slint_base.specs.Names.{normal_name}
use Rattle.slint_base.specs.declared.rules.Rule.{Rule}
use Rattle.slint_base.specs.declared.rules.Rule.TheVariants as rules
use Rattle.slint_literals.specs.declared.numbers.Number.{Number}
use Rattle.slint_literals.specs.declared.strings.Look.{Look}
use Rattle.slint_literals.specs.declared.strings.Look.TheVariants as looks
use Rattle.slint_literals.specs.Characters.{char_len}
use Rattle.slint_literals.specs.Colours.{colour_value}
use Rattle.slint_literals.specs.Numbers.{is_number, number_value}
use Rattle.slint_literals.specs.Steps.{Steps}
use Rattle.slint_literals.specs.Strings.{text_look, IsRun}
use Rattle.slint_lexer.specs.declared.classes.Class.{Class}
use Rattle.slint_lexer.specs.declared.classes.Class.TheVariants.{Blank, Digit, Hash, Quote, Close, Slash, Word, Other}
use Rattle.slint_lexer.specs.declared.classes.Second.{Second}
use Rattle.slint_lexer.specs.declared.classes.Second.TheVariants.{Block, Line, Neither}
use Rattle.slint_lexer.specs.declared.comments.Bound.{Bound}
use Rattle.slint_lexer.specs.declared.comments.Bound.TheVariants.{Opens, Shuts, Skips}
use Rattle.slint_lexer.specs.declared.tokens.Symbol.{Symbol}
use Rattle.slint_lexer.specs.declared.tokens.Symbol.TheVariants as symbols
use Rattle.slint_lexer.specs.declared.tokens.TokenKind.{TokenKind}
use Rattle.slint_lexer.specs.declared.tokens.TokenKind.TheVariants as kinds
use Rattle.slint_lexer.specs.Names.{begins_name, IsName}
use Rattle.slint_lexer.specs.Symbols.{symbol_text}

-- what a piece is: a separator, a token, or the spelling of a token whose value breaks a rule
pub data What : Type 0 where
  Apart : What
  Tok : TokenKind → What
  Bad : Rule → What

-- tab, line feed, form feed, carriage return and space separate tokens
abbrev pub is_blank : ℕ → Bool
is_blank b = b == 9 || b == 10 || b == 12 || b == 13 || b == 32

-- what the first byte tells of a piece; a name's first character may have further bytes
abbrev pub class_of : List ℕ → Class
class_of [] = Other
class_of (b ∷ s) = if is_blank b then Blank
    else if is_ascii_digit b then Digit
    else if b == 35 then Hash
    else if b == 34 then Quote
    else if b == 125 then Close
    else if b == 47 then Slash
    else if begins_name (b ∷ s) then Word
    else Other

-- a number's value, or a number that breaks its rule
abbrev pub number_what : Option Number → What
number_what None = Bad rules.BadNumber
number_what (Some n) = Tok (kinds.Number n)

-- a colour's value, or a colour that breaks its rule
abbrev pub colour_what : Option ℕ → What
colour_what None = Bad rules.BadToken
colour_what (Some c) = Tok (kinds.Colour c)

-- one of the symbols
abbrev pub SpellsSymbol : List ℕ → What → List ℕ → Type 0
SpellsSymbol s w r = (k : Symbol) × (s ≡ symbol_text k ++ r) × (w ≡ Tok (kinds.Symbol k))

-- a piece of a string up to its closing quote, by whether it is the first piece
abbrev pub closed_text : Bool → List ℕ → TokenKind
closed_text true text = kinds.Str text
closed_text false text = kinds.Tail text

-- a piece of a string up to a hole, by whether it is the first piece
abbrev pub holed_text : Bool → List ℕ → TokenKind
holed_text true text = kinds.Head text
holed_text false text = kinds.Mid text

-- what lies behind the run of a piece of a string ends it
abbrev pub EndsText : Bool → List ℕ → Look → List ℕ → What → List ℕ → Type 0
EndsText first text looks.Quote x w r = (r ≡ drop 1 x) × (w ≡ Tok (closed_text first text))
EndsText first text looks.Hole x w r = (r ≡ drop 2 x) × (w ≡ Tok (holed_text first text))
EndsText first text _ x w r = ⊥

-- a piece of a string behind its first byte
abbrev pub SpellsText : Bool → List ℕ → What → List ℕ → Type 0
SpellsText first s w r = (text : List ℕ) × (x : List ℕ) × IsRun s text x × EndsText first text (text_look x) x w r

-- `/*`, `*/`, or else a character; none where no well-formed one lies there
abbrev pub bound_of : List ℕ → Bound
bound_of [] = Skips 0
bound_of (b ∷ []) = Skips (char_len (b ∷ []))
bound_of (b ∷ c ∷ s) = if b == 47 && c == 42 then Opens else if b == 42 && c == 47 then Shuts else Skips (char_len (b ∷ c ∷ s))

-- so many comments are open behind what lies at the front, and what is left
abbrev pub behind_bound : Bound → ℕ → List ℕ → Option (ℕ × List ℕ)
behind_bound Opens depth s = Some (suc (suc depth), drop 2 s)
behind_bound Shuts depth s = Some (depth, drop 2 s)
behind_bound (Skips zero) depth s = None
behind_bound (Skips (suc n)) depth s = Some (suc depth, drop (suc n) s)

-- one step inside of so many open comments; none is inside of none
abbrev pub comment_step : ℕ × List ℕ → Option (ℕ × List ℕ)
comment_step (zero, s) = None
comment_step (suc depth, s) = behind_bound (bound_of s) depth s

-- a comment that nests, behind its `/*`
abbrev pub SpellsComment : List ℕ → What → List ℕ → Type 0
SpellsComment s w r = Steps comment_step (1, s) (0, r) × (w ≡ Apart)

-- one character more of a comment to the line's end
abbrev pub skipped : ℕ → List ℕ → Option (List ℕ)
skipped zero s = None
skipped (suc n) s = Some (drop (suc n) s)

abbrev pub line_step : List ℕ → Option (List ℕ)
line_step [] = None
line_step (b ∷ s) = if b == 10 then None else skipped (char_len (b ∷ s)) (b ∷ s)

-- a comment to the line's end, behind its `//`; it goes on as long as characters do
abbrev pub SpellsLine : List ℕ → What → List ℕ → Type 0
SpellsLine s w r = Steps line_step s r × (line_step r ≡ None) × (w ≡ Apart)

-- what the byte behind a slash tells
abbrev pub second_of : List ℕ → Second
second_of [] = Neither
second_of (c ∷ s) = if c == 42 then Block else if c == 47 then Line else Neither

-- a comment or a symbol, behind a slash
abbrev pub SpellsSlash : Second → List ℕ → What → List ℕ → Type 0
SpellsSlash Block s w r = SpellsComment (drop 1 s) w r
SpellsSlash Line s w r = SpellsLine (drop 1 s) w r
SpellsSlash Neither s w r = SpellsSymbol (47 ∷ s) w r

-- a brace that closes, or where it ends a hole a further piece of the string
abbrev pub SpellsClose : Bool → List ℕ → What → List ℕ → Type 0
SpellsClose true s w r = SpellsText false s w r
SpellsClose false s w r = (r ≡ s) × (w ≡ Tok (kinds.Symbol symbols.CloseBrace))

-- a piece of each class: its first byte, what is behind that, what the piece is, and what is left behind it
abbrev pub SpellsAs : Class → Bool → ℕ → List ℕ → What → List ℕ → Type 0
SpellsAs Blank ends b s w r = (r ≡ s) × (w ≡ Apart)
SpellsAs Digit ends b s w r = (more : List ℕ) × (s ≡ more ++ r) × (is_number (b ∷ more) ≡ true) × (w ≡ number_what (number_value (b ∷ more)))
SpellsAs Hash ends b s w r = (more : List ℕ) × (s ≡ more ++ r) × (list_all is_ascii_alphanumeric more ≡ true) × (w ≡ colour_what (colour_value more))
SpellsAs Quote ends b s w r = SpellsText true s w r
SpellsAs Close ends b s w r = SpellsClose ends s w r
SpellsAs Slash ends b s w r = SpellsSlash (second_of s) s w r
SpellsAs Word ends b s w r = (text : List ℕ) × (b ∷ s ≡ text ++ r) × IsName text × (w ≡ Tok (kinds.Id (normal_name text)))
SpellsAs Other ends b s w r = SpellsSymbol (b ∷ s) w r

-- a piece at the front of bytes; `ends` tells whether a closing brace there ends a hole
abbrev pub Spells : Bool → List ℕ → What → List ℕ → Type 0
Spells ends [] w r = ⊥
Spells ends (b ∷ s) w r = SpellsAs (class_of (b ∷ s)) ends b s w r

-- the piece at the front: no piece there is longer
pub record Front (ends : Bool) (s : List ℕ) (w : What) (r : List ℕ) : Type 0 where
  pub spells : Spells ends s w r
  pub longest : (v : What) (q : List ℕ) → Spells ends s v q → length r ≤ length q

-- nothing begins here
abbrev pub NothingBegins : Bool → List ℕ → Type 0
NothingBegins ends s = (w : What) (r : List ℕ) → Spells ends s w r → ⊥
