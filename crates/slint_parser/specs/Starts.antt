-- Where expressions begin, and a function value that reads them one deeper.
use Rattle.std.specs.Prelude.{ℕ, ◌+◌, ◌≤◌, List, Result}
use Rattle.std.specs.declared.alloc.Global.{Global}
use denote.Ref.{MutBor}
use Rattle.slint_base.specs.declared.endings.End.{End}
use Rattle.slint_lexer.specs.declared.tokens.Token.{Token}
use Rattle.syntax_tree.specs.declared.expressions.Expr.{Expr}
use Rattle.slint_parser.specs.declared.stops.Stop.{Stop}
use Rattle.slint_parser.specs.declared.starts.Start.{Start as Place}
use Rattle.slint_parser.specs.declared.starts.Start.TheVariants as places
use Rattle.slint_parser.specs.declared.starts.Inner.{Inner}
use Rattle.slint_parser.specs.declared.starts.Inner.TheVariants as inners
use Rattle.slint_grammar.specs.Parts as p
use Rattle.slint_grammar.specs.Derivations.{deepest_token}
use Rattle.slint_parser.specs.Readings.{Reads}

-- the place as the grammar has it
abbrev pub start_of : Place → p.Start
start_of places.Anywhere = p.Anywhere
start_of places.InValue = p.InValue
start_of places.InRun = p.InRun
start_of places.InStmt = p.InStmt
start_of places.BehindIf = p.BehindIf

-- an expression, or what a prefix operator has behind it
abbrev pub ReadsInner : Inner → ℕ → List Token → Result Expr (End Stop) → List Token → Type 0
ReadsInner (inners.Expr start) d s result r = Reads (p.Expr (start_of start)) d s result r
ReadsInner inners.Operand d s result r = Reads (p.Unary p.Anywhere) d s result r

-- a function value that reads what is one deeper than this, where that is within the limit or the first depth past it
pub record Nests (depth : ℕ) (pre : Global → MutBor (List Token) → ℕ → Inner → Type 0)
    (post : Global → MutBor (List Token) → ℕ → Inner → Result Expr (End Stop) → MutBor (List Token) → Type 0) : Type 0 where
  pub callable : depth ≤ deepest_token → (alloc : Global) (old : MutBor (List Token)) (what : Inner) → pre alloc old (depth + 1) what
  pub reads : (alloc : Global) (old new : MutBor (List Token)) (what : Inner) (r : Result Expr (End Stop)) → post alloc old (depth + 1) what r new
      → ReadsInner what (depth + 1) old.now r new.now
