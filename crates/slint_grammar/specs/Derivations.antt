-- Which tokens derive which part, each part from the tokens where it begins to those that follow it, and which tree they have.
use Rattle.std.specs.Prelude.{◌≡◌, ℕ, ◌+◌, ◌≤◌, ◌⊎◌, Bool, true, false, ◌&&◌, ◌||◌, not, IsTrue, List, [], ◌∷◌, length, ◌==◌, codes, if◌then◌else◌}
use Rattle.std.specs.Str.{bytes_eq}
use Rattle.slint_base.specs.declared.faults.Span.{Span}
use Rattle.slint_literals.specs.declared.numbers.Number.{Number}
use Rattle.slint_literals.specs.declared.numbers.Number.TheVariants as numbers
use Rattle.slint_lexer.specs.declared.tokens.Symbol.{Symbol}
use Rattle.slint_lexer.specs.declared.tokens.Symbol.TheVariants as symbols
use Rattle.slint_lexer.specs.declared.tokens.Token.{Token}
use Rattle.slint_lexer.specs.declared.tokens.TokenKind.{TokenKind}
use Rattle.slint_lexer.specs.declared.tokens.TokenKind.TheVariants as kinds
use Rattle.syntax_tree.specs.declared.words.Ident.{Ident}
use Rattle.syntax_tree.specs.declared.words.Quoted.{Quoted}
use Rattle.syntax_tree.specs.declared.files.File.{File}
use Rattle.slint_grammar.specs.declared.words.Word.{Word}
use Rattle.slint_grammar.specs.declared.words.Word.TheVariants as words
use Rattle.slint_grammar.specs.Parts.{Part, FileItems}
use Rattle.slint_grammar.specs.Grammar.{Terminal, Sign, SignWhere, TheWord, AnyName, NameBut, ANumber, AColour, AText, AHead, AMid, ATail, Slot, one, same, deeper, Alt, slots}
use Rattle.slint_grammar.specs.Made.{Tree, Held, AllGiven, made}

-- the deepest that a token of a file may be
abbrev pub deepest_token : ℕ
deepest_token = 100

-- a token at the front of a list may be as deep as this: within the limit, or anything among the last so many tokens, which are free
abbrev pub Within : ℕ → ℕ → List Token → Type 0
Within free d s = (d ≤ deepest_token) ⊎ (length s ≤ free)

-- a number for each symbol
abbrev pub symbol_number : Symbol → ℕ
symbol_number symbols.TwoWay = 0
symbol_number symbols.ColonEqual = 1
symbol_number symbols.FatArrow = 2
symbol_number symbols.ThinArrow = 3
symbol_number symbols.EqualEqual = 4
symbol_number symbols.NotEqual = 5
symbol_number symbols.LessEqual = 6
symbol_number symbols.GreaterEqual = 7
symbol_number symbols.PlusEqual = 8
symbol_number symbols.MinusEqual = 9
symbol_number symbols.StarEqual = 10
symbol_number symbols.SlashEqual = 11
symbol_number symbols.AndAnd = 12
symbol_number symbols.OrOr = 13
symbol_number symbols.OpenBrace = 14
symbol_number symbols.CloseBrace = 15
symbol_number symbols.OpenParen = 16
symbol_number symbols.CloseParen = 17
symbol_number symbols.OpenBracket = 18
symbol_number symbols.CloseBracket = 19
symbol_number symbols.Less = 20
symbol_number symbols.Greater = 21
symbol_number symbols.Equal = 22
symbol_number symbols.Colon = 23
symbol_number symbols.Semicolon = 24
symbol_number symbols.Comma = 25
symbol_number symbols.Dot = 26
symbol_number symbols.Bang = 27
symbol_number symbols.Question = 28
symbol_number symbols.Plus = 29
symbol_number symbols.Minus = 30
symbol_number symbols.Star = 31
symbol_number symbols.Slash = 32
symbol_number symbols.At = 33

-- the text of each word
abbrev pub spelling : Word → List ℕ
spelling words.As = codes "as"
spelling words.Callback = codes "callback"
spelling words.Changed = codes "changed"
spelling words.Children = codes "children"
spelling words.Component = codes "component"
spelling words.Else = codes "else"
spelling words.Enum = codes "enum"
spelling words.Export = codes "export"
spelling words.For = codes "for"
spelling words.From = codes "from"
spelling words.Function = codes "function"
spelling words.Global = codes "global"
spelling words.If = codes "if"
spelling words.ImageUrl = codes "image-url"
spelling words.Import = codes "import"
spelling words.In = codes "in"
spelling words.InOut = codes "in-out"
spelling words.Inherits = codes "inherits"
spelling words.Out = codes "out"
spelling words.Private = codes "private"
spelling words.Property = codes "property"
spelling words.Protected = codes "protected"
spelling words.Public = codes "public"
spelling words.Pure = codes "pure"
spelling words.Return = codes "return"
spelling words.States = codes "states"
spelling words.Struct = codes "struct"
spelling words.Tr = codes "tr"
spelling words.When = codes "when"
spelling words.Other = []

-- a number for each word
abbrev pub word_number : Word → ℕ
word_number words.As = 0
word_number words.Callback = 1
word_number words.Changed = 2
word_number words.Children = 3
word_number words.Component = 4
word_number words.Else = 5
word_number words.Enum = 6
word_number words.Export = 7
word_number words.For = 8
word_number words.From = 9
word_number words.Function = 10
word_number words.Global = 11
word_number words.If = 12
word_number words.ImageUrl = 13
word_number words.Import = 14
word_number words.In = 15
word_number words.InOut = 16
word_number words.Inherits = 17
word_number words.Out = 18
word_number words.Private = 19
word_number words.Property = 20
word_number words.Protected = 21
word_number words.Public = 22
word_number words.Pure = 23
word_number words.Return = 24
word_number words.States = 25
word_number words.Struct = 26
word_number words.Tr = 27
word_number words.When = 28
word_number words.Other = 29

-- the words of the grammar
abbrev pub all_words : List Word
all_words = words.As ∷ words.Callback ∷ words.Changed ∷ words.Children ∷ words.Component ∷ words.Else ∷ words.Enum ∷ words.Export ∷ words.For ∷ words.From ∷ words.Function ∷ words.Global ∷ words.If ∷ words.ImageUrl ∷ words.Import ∷ words.In ∷ words.InOut ∷ words.Inherits ∷ words.Out ∷ words.Private ∷ words.Property ∷ words.Protected ∷ words.Public ∷ words.Pure ∷ words.Return ∷ words.States ∷ words.Struct ∷ words.Tr ∷ words.When ∷ []

-- the word of a list that a name spells, `Other` where it spells none of them
abbrev pub word_among : List Word → List ℕ → Word
word_among [] name = words.Other
word_among (w ∷ ws) name = if bytes_eq name (spelling w) then w else word_among ws name

-- the word that a name spells
abbrev pub word_of : List ℕ → Word
word_of name = word_among all_words name

-- what the grammar looks at in a token
pub data Class : Type 0 where
  ASign : Symbol → Class
  AWord : Word → Class
  NumberClass : Class
  ColourClass : Class
  TextClass : Class
  HeadClass : Class
  MidClass : Class
  TailClass : Class

abbrev pub class_of : TokenKind → Class
class_of (kinds.Id name) = AWord (word_of name)
class_of (kinds.Number n) = NumberClass
class_of (kinds.Colour c) = ColourClass
class_of (kinds.Str t) = TextClass
class_of (kinds.Head t) = HeadClass
class_of (kinds.Mid t) = MidClass
class_of (kinds.Tail t) = TailClass
class_of (kinds.Symbol s) = ASign s

abbrev pub is_sign : Symbol → Class → Bool
is_sign s (ASign other) = symbol_number s == symbol_number other
is_sign s _ = false

abbrev pub is_word : Word → Class → Bool
is_word w (AWord other) = word_number w == word_number other
is_word w _ = false

abbrev pub is_among : Word → List Word → Bool
is_among w [] = false
is_among w (x ∷ xs) = word_number w == word_number x || is_among w xs

abbrev pub is_name_but : List Word → Class → Bool
is_name_but ws (AWord w) = not (is_among w ws)
is_name_but ws _ = false

abbrev pub is_number : Class → Bool
is_number NumberClass = true
is_number _ = false

abbrev pub is_colour : Class → Bool
is_colour ColourClass = true
is_colour _ = false

abbrev pub is_text : Class → Bool
is_text TextClass = true
is_text _ = false

abbrev pub is_head : Class → Bool
is_head HeadClass = true
is_head _ = false

abbrev pub is_mid : Class → Bool
is_mid MidClass = true
is_mid _ = false

abbrev pub is_tail : Class → Bool
is_tail TailClass = true
is_tail _ = false

-- whether a token of this class is what it was asked to be
abbrev pub fits : Terminal → Class → Bool
fits (Sign s) c = is_sign s c
fits (SignWhere b s) c = b && is_sign s c
fits (TheWord w) c = is_word w c
fits AnyName c = is_name_but [] c
fits (NameBut ws) c = is_name_but ws c
fits ANumber c = is_number c
fits AColour c = is_colour c
fits AText c = is_text c
fits AHead c = is_head c
fits AMid c = is_mid c
fits ATail c = is_tail c

abbrev pub ident_of : TokenKind → Span → Ident
ident_of (kinds.Id name) span = record { name = name; span = span }
ident_of _ span = record { name = []; span = span }

abbrev pub number_of : TokenKind → Number
number_of (kinds.Number n) = n
number_of _ = numbers.Zero

abbrev pub colour_of : TokenKind → ℕ
colour_of (kinds.Colour c) = c
colour_of _ = 0

abbrev pub text_of : TokenKind → List ℕ
text_of (kinds.Str text) = text
text_of (kinds.Head text) = text
text_of (kinds.Mid text) = text
text_of (kinds.Tail text) = text
text_of _ = []

abbrev pub quoted_of : TokenKind → Span → Quoted
quoted_of kind span = record { text = text_of kind; span = span }

-- what a token gives as what it was asked to be
abbrev pub held : (t : Terminal) → Token → Held t
held (Sign s) token = token.span
held (SignWhere b s) token = token.span
held (TheWord w) token = token.span
held AnyName token = ident_of token.kind token.span
held (NameBut ws) token = ident_of token.kind token.span
held ANumber token = (number_of token.kind, token.span)
held AColour token = (colour_of token.kind, token.span)
held AText token = quoted_of token.kind token.span
held AHead token = quoted_of token.kind token.span
held AMid token = quoted_of token.kind token.span
held ATail token = quoted_of token.kind token.span

-- a token at the front that is what it was asked to be, at this depth
pub record Takes (free d : ℕ) (t : Terminal) (s r : List Token) : Type 0 where
  pub token : Token
  pub front : s ≡ token ∷ r
  pub fits_it : IsTrue (fits t (class_of token.kind))
  pub within : Within free d s

mutual
  -- a part at a depth, by one of its productions
  pub data Derives (free : ℕ) : Part → ℕ → List Token → List Token → Type 0 where
    by : {p : Part} {d : ℕ} {s r : List Token} → (a : Alt p) → Through free (slots a) d s r → Derives free p d s r

  -- the places of a right side, one after the other
  pub data Through (free : ℕ) : List Slot → ℕ → List Token → List Token → Type 0 where
    ends : {d : ℕ} {s : List Token} → Through free [] d s s
    takes : {t : Terminal} {xs : List Slot} {d : ℕ} {s m r : List Token} → Takes free d t s m → Through free xs d m r → Through free (one t ∷ xs) d s r
    part : {p : Part} {xs : List Slot} {d : ℕ} {s m r : List Token} → Derives free p d s m → Through free xs d m r → Through free (same p ∷ xs) d s r
    deep : {p : Part} {xs : List Slot} {d : ℕ} {s m r : List Token} → Derives free p (d + 1) s m → Through free xs d m r → Through free (deeper p ∷ xs) d s r

abbrev mutual
  -- the tree of a derivation
  pub tree : {free d : ℕ} {p : Part} {s r : List Token} → Derives free p d s r → Tree p
  tree (by a x) = made a (trees x)

  pub trees : {free d : ℕ} {xs : List Slot} {s r : List Token} → Through free xs d s r → AllGiven xs
  trees ends = tt
  trees (takes {t} x y) = (held t x.token, trees y)
  trees (part x y) = (tree x, trees y)
  trees (deep x y) = (tree x, trees y)

-- the tokens derive a file with this tree, each within the limit
abbrev pub DerivesFile : List Token → File → Type 0
DerivesFile tokens file = (x : Derives 0 FileItems 0 tokens []) × (tree x ≡ file.items)
