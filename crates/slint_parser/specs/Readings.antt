-- What the parser's functions give: the tree of a part that the tokens from here to there derive, or where the tokens stop.
use Rattle.std.specs.Prelude.{◌≡◌, ℕ, suc, ◌≤◌, ◌<◌, ◌⊎◌, Bool, true, false, List, [], ◌∷◌, length, ◌++◌, ◌||◌, Option, Some, None, Result, Ok, Err}
use Rattle.slint_base.specs.declared.endings.End.{End}
use Rattle.slint_base.specs.declared.endings.End.TheVariants as endings
use Rattle.slint_base.specs.declared.rules.Rule.{Rule}
use Rattle.slint_base.specs.declared.rules.Rule.TheVariants.{Syntax, TooDeep}
use Rattle.slint_base.specs.declared.faults.Span.{Span}
use Rattle.slint_lexer.specs.declared.tokens.Symbol.{Symbol}
use Rattle.slint_lexer.specs.declared.tokens.Symbol.TheVariants as symbols
use Rattle.slint_lexer.specs.declared.tokens.Token.{Token}
use Rattle.syntax_tree.specs.declared.words.Quoted.{Quoted}
use Rattle.syntax_tree.specs.declared.expressions.Expr.{Expr}
use Rattle.syntax_tree.specs.declared.expressions.FieldValue.{FieldValue}
use Rattle.syntax_tree.specs.declared.expressions.Hole.{Hole}
use Rattle.slint_grammar.specs.declared.words.Word.{Word}
use Rattle.slint_grammar.specs.declared.words.Word.TheVariants as words
use Rattle.slint_parser.specs.declared.stops.Stop.{Stop}
use Rattle.slint_parser.specs.declared.stops.Stop.TheVariants.{At, AtEnd}
use Rattle.slint_parser.specs.declared.stops.Seen.{Seen}
use Rattle.slint_parser.specs.declared.stops.Seen.TheVariants as seens
use Rattle.slint_grammar.specs.Parts as p
use Rattle.slint_grammar.specs.Parts.{Part, Listed, Start, closer, begins_struct}
use Rattle.slint_grammar.specs.Grammar.{Terminal, Sign, AnyName, NameBut, Slot, one, same, deeper, Alt, slots}
use Rattle.slint_grammar.specs.Trees.{hole}
use Rattle.slint_grammar.specs.Made.{Tree, Held, AllGiven, made}
use Rattle.slint_grammar.specs.Derivations.{Class, ASign, AWord, NumberClass, ColourClass, TextClass, HeadClass, MidClass, TailClass, class_of, fits, is_text, is_head, is_mid, is_tail, Takes, held, Derives, tree, Through, trees, deepest_token}
use Rattle.slint_grammar.specs.Stacks.{Stack, Left, at_depth, first, longest_chain, after, run, Outcome, Stops, Ends}

-- what is seen of a token
abbrev pub seen_of : Class → Seen
seen_of (ASign s) = seens.Symbol s
seen_of (AWord w) = seens.Word w
seen_of NumberClass = seens.Number
seen_of ColourClass = seens.Colour
seen_of TextClass = seens.Text
seen_of HeadClass = seens.Head
seen_of MidClass = seens.Mid
seen_of TailClass = seens.Tail

-- what is seen at the front of tokens
abbrev pub seen : List Token → Seen
seen [] = seens.End
seen (token ∷ rest) = seen_of (class_of token.kind)

-- whether a name is at the front
abbrev pub shows_name : List Token → Bool
shows_name [] = false
shows_name (token ∷ rest) = fits AnyName (class_of token.kind)

-- whether a token is a string or a piece of one
abbrev pub is_piece : Class → Bool
is_piece c = is_text c || is_head c || is_mid c || is_tail c

-- where tokens stop, as the stacks say it
abbrev pub outcome : Stop → Outcome
outcome (At rule left) = Stops rule left
outcome AtEnd = Ends false

-- one stack, all tokens before it within the limit
abbrev pub at : Stack → List Left
at ps = (ps, true) ∷ []

abbrev pub suffix_classes : List Class
suffix_classes = ASign symbols.Dot ∷ ASign symbols.OpenParen ∷ ASign symbols.OpenBracket ∷ []

abbrev pub product_classes : List Class
product_classes = ASign symbols.Star ∷ ASign symbols.Slash ∷ suffix_classes

abbrev pub sum_classes : List Class
sum_classes = ASign symbols.Plus ∷ ASign symbols.Minus ∷ product_classes

abbrev pub comparison_classes : List Class
comparison_classes = ASign symbols.EqualEqual ∷ ASign symbols.NotEqual ∷ ASign symbols.Less ∷ ASign symbols.LessEqual ∷ ASign symbols.Greater ∷ ASign symbols.GreaterEqual ∷ sum_classes

abbrev pub logic_classes : List Class
logic_classes = ASign symbols.AndAnd ∷ ASign symbols.OrOr ∷ comparison_classes

abbrev pub expr_classes : List Class
expr_classes = ASign symbols.Question ∷ logic_classes

abbrev pub prefix_classes : List Class
prefix_classes = ASign symbols.Bang ∷ ASign symbols.Minus ∷ ASign symbols.Plus ∷ []

abbrev pub assign_classes : List Class
assign_classes = ASign symbols.Equal ∷ ASign symbols.PlusEqual ∷ ASign symbols.MinusEqual ∷ ASign symbols.StarEqual ∷ ASign symbols.SlashEqual ∷ expr_classes

-- the tokens with which a part can go on where it could also end
abbrev pub goes_on : Part → List Class
goes_on p.FileItem = ASign symbols.Semicolon ∷ []
goes_on p.ImportNames = ASign symbols.OpenBrace ∷ []
goes_on p.Alias = AWord words.As ∷ []
goes_on p.NewName = AWord words.As ∷ []
goes_on p.Base = AWord words.Inherits ∷ []
goes_on p.GlobalItem = ASign symbols.Semicolon ∷ []
goes_on p.Item = ASign symbols.Semicolon ∷ []
goes_on p.RowNumber = ASign symbols.OpenBracket ∷ []
goes_on p.Parameter = ASign symbols.Colon ∷ []
goes_on p.Property = ASign symbols.Semicolon ∷ []
goes_on p.PropertyEnd = ASign symbols.Semicolon ∷ []
goes_on p.MayParameters = ASign symbols.OpenParen ∷ []
goes_on p.MayResult = ASign symbols.ThinArrow ∷ []
goes_on p.Modifiers = AWord words.Pure ∷ AWord words.Public ∷ AWord words.Protected ∷ []
goes_on p.Value = ASign symbols.Semicolon ∷ []
goes_on p.MaySemicolon = ASign symbols.Semicolon ∷ []
goes_on p.Handler = ASign symbols.Semicolon ∷ []
goes_on p.MayNames = ASign symbols.OpenParen ∷ []
goes_on p.Run = ASign symbols.Semicolon ∷ []
goes_on p.When = AWord words.When ∷ expr_classes
goes_on p.Path = ASign symbols.Dot ∷ []
goes_on p.PathRest = ASign symbols.Dot ∷ []
goes_on p.MayAssign = assign_classes
goes_on p.If = AWord words.Else ∷ []
goes_on p.MayElse = AWord words.Else ∷ []
goes_on (p.Expr h) = expr_classes
goes_on p.MayChoice = expr_classes
goes_on (p.Logic h) = logic_classes
goes_on p.LogicRest = logic_classes
goes_on p.Ands = logic_classes
goes_on p.Ors = logic_classes
goes_on (p.Cmp h) = comparison_classes
goes_on p.MayCompare = comparison_classes
goes_on (p.Sum h) = sum_classes
goes_on p.SumRest = sum_classes
goes_on (p.Prod h) = product_classes
goes_on p.ProdRest = product_classes
goes_on (p.Unary h) = suffix_classes
goes_on (p.Post h) = suffix_classes
goes_on p.Suffixes = suffix_classes
goes_on p.FieldValue = expr_classes
goes_on p.TrText = ASign symbols.FatArrow ∷ []
goes_on _ = []

-- a stack that can go on with none of these
abbrev pub Refuses : List Class → Stack → Type 0
Refuses [] ps = Unit {0}
Refuses (c ∷ cs) ps = (after c ps true ≡ []) × Refuses cs ps

-- the stop of a rule at the front of tokens
abbrev pub stop_at : Rule → List Token → Stop
stop_at rule [] = AtEnd
stop_at rule (token ∷ rest) = At rule (suc (length rest))

-- a token at the front that may be taken at this depth
abbrev pub TakesIf : Bool → ℕ → List Token → Token → List Token → Type 0
TakesIf fits d s token r = (s ≡ token ∷ r) × (fits ≡ true) × (d ≤ deepest_token)

-- why the token at the front can't be taken
abbrev pub Misfits : Bool → ℕ → List Token → End Stop → Type 0
Misfits fits d s e = ((e ≡ endings.Fault (stop_at Syntax s)) × (fits ≡ true → s ≡ [])) ⊎ ((e ≡ endings.Fault (stop_at TooDeep s)) × (fits ≡ true) × (deepest_token < d))

-- a token that is what it was asked to be, and what it gives
pub record TookOne (t : Terminal) (d : ℕ) (s r : List Token) (h : Held t) : Type 0 where
  pub x : Takes 0 d t s r
  pub is : held t x.token ≡ h
  pub low : d ≤ deepest_token

-- a token that isn't what it was asked to be, unless memory ran out
pub record StuckOne (t : Terminal) (d : ℕ) (s : List Token) (e : End Stop) : Type 0 where
  pub stops : (stop : Stop) → e ≡ endings.Fault stop → (ps : Stack) → run s (at ((one t, d) ∷ ps)) ≡ outcome stop

abbrev pub ReadsOne : (t : Terminal) → ℕ → List Token → Result (Held t) (End Stop) → List Token → Type 0
ReadsOne t d s (Ok h) r = TookOne t d s r h
ReadsOne t d s (Err e) r = StuckOne t d s e

-- a part that tokens derive, and how the stacks go on behind it
pub record Took (p : Part) (d : ℕ) (s r : List Token) (t : Tree p) : Type 0 where
  pub x : Derives 0 p d s r
  pub is : tree x ≡ t
  pub goes : (ps : Stack) → Refuses (goes_on p) ps → run s (at ((same p, d) ∷ ps)) ≡ run r (at ps)

-- where the tokens stop being a part, unless memory ran out
pub record Stuck (p : Part) (d : ℕ) (s : List Token) (e : End Stop) : Type 0 where
  pub stops : (stop : Stop) → e ≡ endings.Fault stop → (ps : Stack) → Refuses (goes_on p) ps → run s (at ((same p, d) ∷ ps)) ≡ outcome stop

abbrev pub Reads : (p : Part) → ℕ → List Token → Result (Tree p) (End Stop) → List Token → Type 0
Reads p d s (Ok t) r = Took p d s r t
Reads p d s (Err e) r = Stuck p d s e

-- what each part of a right side must not be followed by
abbrev pub Fits : ℕ → List Slot → Stack → Type 0
Fits d [] ps = Unit {0}
Fits d (one t ∷ xs) ps = Fits d xs ps
Fits d (same p ∷ xs) ps = Refuses (goes_on p) (at_depth d xs ++ ps) × Fits d xs ps
Fits d (deeper p ∷ xs) ps = Refuses (goes_on p) (at_depth d xs ++ ps) × Fits d xs ps

-- a right side that tokens derive
pub record TookAll (xs : List Slot) (d : ℕ) (s r : List Token) (gs : AllGiven xs) : Type 0 where
  pub x : Through 0 xs d s r
  pub is : trees x ≡ gs
  pub goes : (ps : Stack) → Fits d xs ps → run s (at (at_depth d xs ++ ps)) ≡ run r (at ps)

-- where the tokens stop being a right side, unless memory ran out
pub record StuckAll (xs : List Slot) (d : ℕ) (s : List Token) (e : End Stop) : Type 0 where
  pub stops : (stop : Stop) → e ≡ endings.Fault stop → (ps : Stack) → Fits d xs ps → run s (at (at_depth d xs ++ ps)) ≡ outcome stop

-- a part by one of its productions
pub record TookBy {p : Part} (a : Alt p) (d : ℕ) (s r : List Token) (t : Tree p) : Type 0 where
  pub gs : AllGiven (slots a)
  pub all : TookAll (slots a) d s r gs
  pub is : made a gs ≡ t

abbrev pub ReadsBy : {p : Part} → (a : Alt p) → ℕ → List Token → Result (Tree p) (End Stop) → List Token → Type 0
ReadsBy a d s (Ok t) r = TookBy a d s r t
ReadsBy a d s (Err e) r = StuckAll (slots a) d s e

-- the closing symbol of a list is taken where it is at the front, and only there
abbrev pub Closes : Symbol → ℕ → List Token → Result (Option Span) (End Stop) → List Token → Type 0
Closes closing d s (Ok (Some span)) r = TookOne (Sign closing) d s r span
Closes closing d s (Ok None) r = (r ≡ s) × (seen s ≡ seens.Symbol closing → ⊥)
Closes closing d s (Err e) r = StuckOne (Sign closing) d s e × (seen s ≡ seens.Symbol closing)

-- behind an item of a list: its end, or a comma behind which the list goes on
abbrev pub BehindItem : Symbol → ℕ → List Token → Result (Option Span) (End Stop) → List Token → Type 0
BehindItem closing d s (Ok (Some span)) r = (l : Listed) → closer l ≡ closing → Took (p.Rest l) d s r ([], span)
BehindItem closing d s (Ok None) r = (seen s ≡ seens.Symbol closing → ⊥) × (seen r ≡ seens.Symbol closing → ⊥) × ((span : Span) × TookOne (Sign symbols.Comma) d s r span)
BehindItem closing d s (Err e) r = (l : Listed) → closer l ≡ closing → Stuck (p.Rest l) d s e

-- the rest of a list, behind what was read of it
abbrev pub ReadsOnto : {A : Type 0} → (p : Part) → (List A → Tree p) → ℕ → List A → List Token → Result (List A) (End Stop) → List Token → Type 0
ReadsOnto {A} p made_of d all s (Ok list) r = (xs : List A) × (list ≡ all ++ xs) × Took p d s r (made_of xs)
ReadsOnto p made_of d all s (Err e) r = Stuck p d s e

-- nothing of a part can begin at the front of these tokens
abbrev pub Absent : Part → ℕ → List Token → Type 0
Absent p d s = (token : Token) (rest : List Token) → s ≡ token ∷ rest → first longest_chain (class_of token.kind) (same p) d ≡ []

-- the symbol that is seen as a part of one symbol, which is among those classes, or nothing of the part
abbrev pub LooksUp : {A : Type 0} → (p : Part) → (A → Span → Tree p) → List Class → Seen → Option (Symbol × A) → Type 0
LooksUp p made_of cs sight (Some found) = (sight ≡ seens.Symbol found.0) × ((d : ℕ) (s r : List Token) (span : Span) → TookOne (Sign found.0) d s r span → Took p d s r (made_of found.1 span))
    × ((d : ℕ) (s : List Token) (e : End Stop) → seen s ≡ sight → StuckOne (Sign found.0) d s e → Stuck p d s e) × ((ps : Stack) → Refuses cs ps → after (ASign found.0) ps true ≡ [])
LooksUp p made_of cs sight None = (d : ℕ) (s : List Token) → seen s ≡ sight → Absent p d s

-- the class at the front, which these refuse behind a part that it would go on with
abbrev pub Begun : List Class → List Token → Type 0
Begun cs s = (c : Class) × (seen s ≡ seen_of c) × ((ps : Stack) → Refuses cs ps → after c ps true ≡ [])

-- a part where it begins at the front, and nothing where it doesn't
abbrev pub ReadsMay : (p : Part) → List Class → ℕ → List Token → Result (Option (Tree p)) (End Stop) → List Token → Type 0
ReadsMay p cs d s (Ok (Some t)) r = Begun cs s × Took p d s r t
ReadsMay p cs d s (Ok None) r = (r ≡ s) × Absent p d s
ReadsMay p cs d s (Err e) r = Begun cs s × Stuck p d s e

-- the rest of a list with commas, behind what was read of it
abbrev pub MoreArguments : ℕ → List Expr → List Token → Result (List Expr × Span) (End Stop) → List Token → Type 0
MoreArguments d all s (Ok listed) r = (xs : List Expr) × (listed.0 ≡ all ++ xs) × Took (p.Rest p.Arguments) d s r (xs, listed.1)
MoreArguments d all s (Err e) r = Stuck (p.Rest p.Arguments) d s e

abbrev pub MoreElements : ℕ → List Expr → List Token → Result (List Expr × Span) (End Stop) → List Token → Type 0
MoreElements d all s (Ok listed) r = (xs : List Expr) × (listed.0 ≡ all ++ xs) × Took (p.Rest p.Elements) d s r (xs, listed.1)
MoreElements d all s (Err e) r = Stuck (p.Rest p.Elements) d s e

abbrev pub MoreFieldValues : ℕ → List FieldValue → List Token → Result (List FieldValue × Span) (End Stop) → List Token → Type 0
MoreFieldValues d all s (Ok listed) r = (xs : List FieldValue) × (listed.0 ≡ all ++ xs) × Took (p.Rest p.FieldValues) d s r (xs, listed.1)
MoreFieldValues d all s (Err e) r = Stuck (p.Rest p.FieldValues) d s e

-- the holes of a string, of which the first one's expression was read
abbrev pub HolesFrom : ℕ → Expr → List Token → Result (List Hole × Span) (End Stop) → List Token → Type 0
HolesFrom d first s (Ok listed) r = (behind : Quoted) × (hs : List Hole) × (listed.0 ≡ hole first behind ∷ hs) × Took p.Holes d s r (behind, hs, listed.1)
HolesFrom d first s (Err e) r = Stuck p.Holes d s e

-- whether a name is at the front that is none of these
abbrev pub shows_name_but : List Word → List Token → Bool
shows_name_but ws [] = false
shows_name_but ws (token ∷ rest) = fits (NameBut ws) (class_of token.kind)

-- no expression of more than one token begins there
abbrev pub IsSingle : Start → List Token → Type 0
IsSingle h s = (seen s ≡ seens.Symbol symbols.OpenParen → ⊥) × (seen s ≡ seens.Symbol symbols.OpenBracket → ⊥) × (seen s ≡ seens.Symbol symbols.At → ⊥) × (seen s ≡ seens.Head → ⊥)
    × ((begins_struct h ≡ false) ⊎ (seen s ≡ seens.Symbol symbols.OpenBrace → ⊥))
