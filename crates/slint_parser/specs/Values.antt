-- What tells a struct literal from a block behind a brace.
use Rattle.std.specs.Prelude.{Bool, true, false, ◌&&◌}
use Rattle.slint_base.specs.declared.rules.Rule.{Rule}
use Rattle.slint_base.specs.declared.rules.Rule.TheVariants.{Syntax, TooDeep}
use Rattle.slint_lexer.specs.declared.tokens.Symbol.TheVariants as symbols
use Rattle.slint_grammar.specs.declared.words.Word.TheVariants as words
use Rattle.slint_parser.specs.declared.stops.Seen.{Seen}
use Rattle.slint_parser.specs.declared.stops.Seen.TheVariants as seens

-- a name
abbrev pub is_a_name : Seen → Bool
is_a_name (seens.Word w) = true
is_a_name _ = false

abbrev pub is_a_colon : Seen → Bool
is_a_colon (seens.Symbol symbols.Colon) = true
is_a_colon _ = false

-- a field's name with its colon
abbrev pub is_field : Seen → Seen → Bool
is_field a b = is_a_name a && is_a_colon b

-- a name that begins an expression at the head of a statement
abbrev pub is_plain : Seen → Bool
is_plain (seens.Word words.If) = false
is_plain (seens.Word words.Return) = false
is_plain (seens.Word w) = true
is_plain _ = false

-- the rule that a token breaks behind a name that is too deep as the head of a statement: where the statement could go on with it,
-- the name was too deep
abbrev pub rule_behind : Seen → Rule
rule_behind (seens.Symbol symbols.Dot) = TooDeep
rule_behind (seens.Symbol symbols.OpenParen) = TooDeep
rule_behind (seens.Symbol symbols.OpenBracket) = TooDeep
rule_behind (seens.Symbol symbols.Star) = TooDeep
rule_behind (seens.Symbol symbols.Slash) = TooDeep
rule_behind (seens.Symbol symbols.Plus) = TooDeep
rule_behind (seens.Symbol symbols.Minus) = TooDeep
rule_behind (seens.Symbol symbols.EqualEqual) = TooDeep
rule_behind (seens.Symbol symbols.NotEqual) = TooDeep
rule_behind (seens.Symbol symbols.Less) = TooDeep
rule_behind (seens.Symbol symbols.LessEqual) = TooDeep
rule_behind (seens.Symbol symbols.Greater) = TooDeep
rule_behind (seens.Symbol symbols.GreaterEqual) = TooDeep
rule_behind (seens.Symbol symbols.AndAnd) = TooDeep
rule_behind (seens.Symbol symbols.OrOr) = TooDeep
rule_behind (seens.Symbol symbols.Question) = TooDeep
rule_behind (seens.Symbol symbols.Equal) = TooDeep
rule_behind (seens.Symbol symbols.PlusEqual) = TooDeep
rule_behind (seens.Symbol symbols.MinusEqual) = TooDeep
rule_behind (seens.Symbol symbols.StarEqual) = TooDeep
rule_behind (seens.Symbol symbols.SlashEqual) = TooDeep
rule_behind (seens.Symbol symbols.Semicolon) = TooDeep
rule_behind (seens.Symbol symbols.CloseBrace) = TooDeep
rule_behind _ = Syntax
