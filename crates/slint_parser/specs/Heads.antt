-- What an item begins with, by its first two tokens.
use Rattle.std.specs.Prelude.{List, drop}
use Rattle.slint_lexer.specs.declared.tokens.Token.{Token}
use Rattle.slint_grammar.specs.declared.words.Word.{Word}
use Rattle.slint_grammar.specs.declared.words.Word.TheVariants as words
use Rattle.slint_parser.specs.declared.stops.Seen.{Seen}
use Rattle.slint_parser.specs.declared.stops.Seen.TheVariants as seens
use Rattle.slint_parser.specs.declared.heads.ItemHead.{ItemHead}
use Rattle.slint_parser.specs.declared.heads.ItemHead.TheVariants as heads
use Rattle.slint_parser.specs.Readings.{seen}

-- by the first word
abbrev pub word_head : Word → ItemHead
word_head words.Private = heads.Property
word_head words.In = heads.Property
word_head words.Out = heads.Property
word_head words.InOut = heads.Property
word_head words.Property = heads.Property
word_head words.Callback = heads.Callback
word_head words.Pure = heads.Function
word_head words.Public = heads.Function
word_head words.Protected = heads.Function
word_head words.Function = heads.Function
word_head words.Changed = heads.Changed
word_head words.States = heads.States
word_head words.If = heads.If
word_head words.For = heads.For
word_head _ = heads.Name

-- behind `pure`
abbrev pub pure_head : Seen → ItemHead
pure_head (seens.Word words.Callback) = heads.Callback
pure_head _ = heads.Function

abbrev pub head_of : Seen → Seen → ItemHead
head_of (seens.Word words.Pure) second = pure_head second
head_of (seens.Word word) second = word_head word
head_of first second = heads.Nameless

-- what begins at the front of tokens
abbrev pub head_at : List Token → ItemHead
head_at s = head_of (seen s) (seen (drop 1 s))
