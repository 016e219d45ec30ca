-- What the parts of a declared property and of a callback's parameters give, where the next token alone doesn't choose the production.
use Rattle.std.specs.Prelude.{◌≡◌, ℕ, Bool, true, List, [], ◌∷◌, Result, Ok, Err}
use Rattle.slint_base.specs.declared.faults.Span.{Span}
use Rattle.slint_base.specs.declared.endings.End.{End}
use Rattle.slint_base.specs.declared.endings.End.TheVariants as endings
use Rattle.slint_lexer.specs.declared.tokens.Symbol.TheVariants as symbols
use Rattle.slint_lexer.specs.declared.tokens.Token.{Token}
use Rattle.syntax_tree.specs.declared.items.Mark.{Mark}
use Rattle.syntax_tree.specs.declared.items.Parameter.{Parameter}
use Rattle.syntax_tree.specs.declared.items.Property.{Property}
use Rattle.syntax_tree.specs.declared.items.Access.{Access}
use Rattle.syntax_tree.specs.declared.items.Function.{Function}
use Rattle.syntax_tree.specs.declared.words.Ident.{Ident}
use Rattle.slint_grammar.specs.Parts.{item_words}
use Rattle.slint_grammar.specs.Derivations.{class_of, fits}
use Rattle.slint_grammar.specs.declared.words.Word.{Word}
use Rattle.slint_grammar.specs.declared.words.Word.TheVariants as words
use Rattle.slint_parser.specs.declared.stops.Stop.{Stop}
use Rattle.slint_parser.specs.declared.stops.Seen.{Seen}
use Rattle.slint_parser.specs.declared.stops.Seen.TheVariants as seens
use Rattle.slint_base.specs.declared.rules.Rule.{Rule}
use Rattle.slint_base.specs.declared.rules.Rule.TheVariants.{Syntax, TooDeep}
use Rattle.slint_grammar.specs.Parts as p
use Rattle.slint_grammar.specs.Parts.{Part}
use Rattle.slint_grammar.specs.Grammar.{NameBut, Slot, same, deeper, symbol, word, name}
use Rattle.slint_grammar.specs.Grammar.{Alt as alts}
use Rattle.slint_grammar.specs.Made.{AllGiven, made}
use Rattle.slint_parser.specs.Readings.{at, outcome, TookAll, StuckAll, Took}
use Rattle.slint_grammar.specs.Stacks.{Stack, run}

-- a word that marks a property, and the word behind it
abbrev pub marked : Word → List Slot
marked w = word w ∷ word words.Property ∷ []

abbrev pub ReadsMark : Mark → Word → ℕ → List Token → Result (Mark × Span) (End Stop) → List Token → Type 0
ReadsMark mark w d s (Ok t) r = (k : Span) × TookAll (marked w) d s r (t.1, (k, tt)) × (t.0 ≡ mark)
ReadsMark mark w d s (Err e) r = StuckAll (marked w) d s e

-- a property behind its head: with a type, and without one
abbrev pub typed_rest : List Slot
typed_rest = symbol symbols.Less ∷ deeper p.TypeName ∷ symbol symbols.Greater ∷ name ∷ same p.PropertyEnd ∷ []

abbrev pub untyped_rest : List Slot
untyped_rest = name ∷ symbol symbols.TwoWay ∷ same p.Path ∷ symbol symbols.Semicolon ∷ []

abbrev pub ReadsTyped : Mark → Span → ℕ → List Token → Result Property (End Stop) → List Token → Type 0
ReadsTyped mark head d s (Ok t) r = (gs : AllGiven typed_rest) × TookAll typed_rest d s r gs × (made alts.typed_property ((mark, head), gs) ≡ t)
ReadsTyped mark head d s (Err e) r = StuckAll typed_rest d s e

abbrev pub ReadsUntyped : Mark → Span → ℕ → List Token → Result Property (End Stop) → List Token → Type 0
ReadsUntyped mark head d s (Ok t) r = (gs : AllGiven untyped_rest) × TookAll untyped_rest d s r gs × (made alts.untyped_property ((mark, head), gs) ≡ t)
ReadsUntyped mark head d s (Err e) r = StuckAll untyped_rest d s e

-- where the tokens stop being a parameter of a callback, the rest of its list behind it: at the limit of depths a comma or a parenthesis
-- behind a name tells the name's depth
pub record StuckParameter (d : ℕ) (s : List Token) (e : End Stop) : Type 0 where
  pub stops : (stop : Stop) → e ≡ endings.Fault stop → (ps : Stack) → run s (at ((same p.Parameter, d) ∷ (same (p.Rest p.Parameters), d) ∷ ps)) ≡ outcome stop

abbrev pub ReadsParameter : ℕ → List Token → Result Parameter (End Stop) → List Token → Type 0
ReadsParameter d s (Ok t) r = Took p.Parameter d s r t
ReadsParameter d s (Err e) r = StuckParameter d s e

-- the rule that a token breaks behind a name which is within the limit as a parameter's name, and past it as its type
abbrev pub rule_behind : Seen → Rule
rule_behind (seens.Symbol symbols.Comma) = TooDeep
rule_behind (seens.Symbol symbols.CloseParen) = TooDeep
rule_behind _ = Syntax

-- a function behind its name
abbrev pub function_rest : List Slot
function_rest = symbol symbols.OpenParen ∷ same (p.Listing p.FunctionParameters) ∷ same p.MayResult ∷ deeper p.Block ∷ []

abbrev pub ReadsFunctionRest : Bool → Access → Ident → ℕ → List Token → Result Function (End Stop) → List Token → Type 0
ReadsFunctionRest is_pure access ident d s (Ok t) r = (gs : AllGiven function_rest) × TookAll function_rest d s r gs × ((word : Span) → made alts.function ((is_pure, access), (word, (ident, gs))) ≡ t)
ReadsFunctionRest is_pure access ident d s (Err e) r = StuckAll function_rest d s e

-- where a name is seen that is no word at the head of an item
abbrev pub MayName : List Token → Type 0
MayName [] = Unit {0}
MayName (token ∷ rest) = fits (NameBut item_words) (class_of token.kind) ≡ true
