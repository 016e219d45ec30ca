-- What reading a whole file gives.
use Rattle.std.specs.Prelude.{◌≡◌, ℕ, ◌-◌, List, [], ◌∷◌, length, slice_get, Some, Result, Ok, Err}
use Rattle.slint_base.specs.declared.faults.Span.{Span}
use Rattle.slint_base.specs.declared.faults.Fault.{Fault}
use Rattle.slint_base.specs.declared.rules.Rule.TheVariants.{Syntax}
use Rattle.slint_base.specs.declared.endings.End.{End}
use Rattle.slint_base.specs.declared.endings.End.TheVariants as endings
use Rattle.slint_lexer.specs.declared.tokens.Token.{Token}
use Rattle.syntax_tree.specs.declared.words.Ident.{Ident}
use Rattle.syntax_tree.specs.declared.files.FileItem.{FileItem}
use Rattle.slint_parser.specs.declared.stops.Stop.{Stop}
use Rattle.slint_parser.specs.declared.stops.Stop.TheVariants.{At, AtEnd}
use Rattle.slint_grammar.specs.Parts as p
use Rattle.slint_grammar.specs.Derivations.{Derives, tree}
use Rattle.slint_parser.specs.Readings.{outcome, Took, Stuck}
use Rattle.slint_grammar.specs.Stacks.{run, start}

-- the items of a file that all the tokens derive, or where the tokens stop, unless memory ran out
abbrev pub ReadsFile : List Token → Result (List FileItem) (End Stop) → Type 0
ReadsFile s (Ok items) = (x : Derives 0 p.FileItems 0 s []) × (tree x ≡ items)
ReadsFile s (Err e) = (stop : Stop) → e ≡ endings.Fault stop → run s start ≡ outcome stop

-- a first value and those behind it, up to the closing brace
abbrev pub ReadsMore : Ident → List Token → Result (List Ident × Span) (End Stop) → List Token → Type 0
ReadsMore first s (Ok (all, end)) r = (rest : List Ident) × (all ≡ first ∷ rest) × Took (p.Rest p.EnumValues) 0 s r (rest, end)
ReadsMore first s (Err e) r = Stuck (p.Rest p.EnumValues) 0 s e

-- the fault of tokens that stop there
abbrev pub StopFault : ℕ → ℕ → List Token → Stop → Fault → Type 0
StopFault file len tokens AtEnd fault = fault ≡ record { rule = Syntax; span = record { file = file; start = len; end = len } }
StopFault file len tokens (At rule left) fault = (token : Token) → slice_get tokens (length tokens - left) ≡ Some token → fault ≡ record { rule = rule; span = token.span }
