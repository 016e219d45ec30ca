-- The tokens that can go on with a part behind its end, and so must not follow it where it ends.
use Rattle.std.proofs.Common.{List, [], ◌∷◌, ◌++◌}
use Rattle.slint_lexer.specs.declared.tokens.Symbol.TheVariants as symbols
use Rattle.slint_grammar.specs.declared.words.Word.TheVariants as words
use Rattle.slint_grammar.specs.Parts.{Part}
use Rattle.slint_grammar.specs.Parts as parts
use Rattle.slint_grammar.specs.Grammar.{Terminal, Sign, TheWord, AnyName, ANumber, AColour, AText, AHead}

abbrev behind_post : List Terminal
behind_post = Sign symbols.Dot ∷ Sign symbols.OpenParen ∷ Sign symbols.OpenBracket ∷ []

abbrev behind_product : List Terminal
behind_product = Sign symbols.Star ∷ Sign symbols.Slash ∷ behind_post

abbrev behind_sum : List Terminal
behind_sum = Sign symbols.Plus ∷ Sign symbols.Minus ∷ behind_product

abbrev behind_comparison : List Terminal
behind_comparison = Sign symbols.EqualEqual ∷ Sign symbols.NotEqual ∷ Sign symbols.Less ∷ Sign symbols.LessEqual ∷ Sign symbols.Greater ∷ Sign symbols.GreaterEqual ∷ behind_sum

abbrev behind_logic : List Terminal
behind_logic = Sign symbols.AndAnd ∷ Sign symbols.OrOr ∷ behind_comparison

abbrev behind_expr : List Terminal
behind_expr = Sign symbols.Question ∷ behind_logic

abbrev behind_assign : List Terminal
behind_assign = Sign symbols.Equal ∷ Sign symbols.PlusEqual ∷ Sign symbols.MinusEqual ∷ Sign symbols.StarEqual ∷ Sign symbols.SlashEqual ∷ behind_expr

-- a `return` with no value goes on with one
abbrev heads_of_expr : List Terminal
heads_of_expr = ANumber ∷ AColour ∷ AText ∷ AHead ∷ AnyName ∷ Sign symbols.OpenBrace ∷ Sign symbols.At ∷ Sign symbols.Bang ∷ []

abbrev a_semicolon : List Terminal
a_semicolon = Sign symbols.Semicolon ∷ []

abbrev pub goes_on : Part → List Terminal
goes_on parts.FileItems = TheWord words.Import ∷ TheWord words.Export ∷ TheWord words.Component ∷ TheWord words.Global ∷ TheWord words.Struct ∷ TheWord words.Enum ∷ a_semicolon
goes_on parts.FileItem = a_semicolon
goes_on parts.ImportNames = Sign symbols.OpenBrace ∷ []
goes_on parts.Alias = TheWord words.As ∷ []
goes_on parts.NewName = TheWord words.As ∷ []
goes_on parts.Base = TheWord words.Inherits ∷ []
goes_on parts.GlobalItem = a_semicolon
goes_on parts.Item = a_semicolon
goes_on parts.RowNumber = Sign symbols.OpenBracket ∷ []
goes_on parts.Property = a_semicolon
goes_on parts.PropertyEnd = a_semicolon
goes_on parts.MayParameters = Sign symbols.OpenParen ∷ []
goes_on parts.MayResult = Sign symbols.ThinArrow ∷ []
goes_on parts.Parameter = Sign symbols.Colon ∷ []
goes_on parts.Modifiers = TheWord words.Pure ∷ TheWord words.Public ∷ TheWord words.Protected ∷ []
goes_on parts.Value = a_semicolon
goes_on parts.MaySemicolon = a_semicolon
goes_on parts.Handler = a_semicolon
goes_on parts.MayNames = Sign symbols.OpenParen ∷ []
goes_on parts.Run = a_semicolon
goes_on parts.When = TheWord words.When ∷ behind_expr
goes_on parts.Path = Sign symbols.Dot ∷ []
goes_on parts.PathRest = Sign symbols.Dot ∷ []
goes_on (parts.Open h) = heads_of_expr ++ behind_assign
goes_on parts.MayValue = heads_of_expr ++ behind_expr
goes_on parts.MayAssign = behind_assign
goes_on parts.If = TheWord words.Else ∷ []
goes_on parts.MayElse = TheWord words.Else ∷ []
goes_on (parts.Expr h) = behind_expr
goes_on parts.MayChoice = behind_expr
goes_on (parts.Logic h) = behind_logic
goes_on parts.LogicRest = behind_logic
goes_on parts.Ands = Sign symbols.AndAnd ∷ behind_comparison
goes_on parts.Ors = Sign symbols.OrOr ∷ behind_comparison
goes_on (parts.Cmp h) = behind_comparison
goes_on parts.MayCompare = behind_comparison
goes_on (parts.Sum h) = behind_sum
goes_on parts.SumRest = behind_sum
goes_on (parts.Prod h) = behind_product
goes_on parts.ProdRest = behind_product
goes_on (parts.Unary h) = behind_post
goes_on (parts.Post h) = behind_post
goes_on parts.Suffixes = behind_post
goes_on parts.TrText = Sign symbols.FatArrow ∷ []
goes_on parts.FieldValue = behind_expr
goes_on _ = []
