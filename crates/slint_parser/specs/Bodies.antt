-- What a condition or a model gives with its element.
use Rattle.std.specs.Prelude.{ℕ, List, [], ◌∷◌, Result, Ok, Err}
use Rattle.slint_base.specs.declared.faults.Span.{Span}
use Rattle.slint_base.specs.declared.endings.End.{End}
use Rattle.slint_lexer.specs.declared.tokens.Symbol.TheVariants as symbols
use Rattle.slint_lexer.specs.declared.tokens.Token.{Token}
use Rattle.syntax_tree.specs.declared.expressions.Expr.{Expr}
use Rattle.syntax_tree.specs.declared.items.Element.{Element}
use Rattle.slint_grammar.specs.Parts as p
use Rattle.slint_grammar.specs.Grammar.{Slot, same, deeper, symbol}
use Rattle.slint_parser.specs.declared.stops.Stop.{Stop}
use Rattle.slint_parser.specs.Readings.{TookAll, StuckAll}

-- an expression, and an element behind a colon
abbrev pub guarded : List Slot
guarded = deeper (p.Expr p.Anywhere) ∷ symbol symbols.Colon ∷ same p.Element ∷ []

abbrev pub ReadsGuarded : ℕ → List Token → Result (Expr × Element) (End Stop) → List Token → Type 0
ReadsGuarded d s (Ok t) r = (colon : Span) × TookAll guarded d s r (t.0, (colon, (t.1, tt)))
ReadsGuarded d s (Err e) r = StuckAll guarded d s e
