-- What reading a statement of a block gives.
use Rattle.std.specs.Prelude.{◌≡◌, ℕ, ◌<◌, Bool, true, false, List, [], ◌∷◌, length, Result, Ok, Err, Option, Some, None}
use Rattle.slint_base.specs.declared.faults.Span.{Span}
use Rattle.slint_base.specs.declared.endings.End.{End}
use Rattle.slint_base.specs.declared.endings.End.TheVariants as endings
use Rattle.slint_lexer.specs.declared.tokens.Symbol.{Symbol}
use Rattle.slint_lexer.specs.declared.tokens.Symbol.TheVariants as symbols
use Rattle.slint_lexer.specs.declared.tokens.Token.{Token}
use Rattle.syntax_tree.specs.declared.statements.Stmt.{Stmt}
use Rattle.syntax_tree.specs.declared.statements.AssignOp.{AssignOp}
use Rattle.syntax_tree.specs.declared.statements.AssignOp.TheVariants as assign_ops
use Rattle.slint_parser.specs.declared.stops.Stop.{Stop}
use Rattle.slint_parser.specs.declared.stops.Seen.{Seen}
use Rattle.slint_parser.specs.declared.stops.Seen.TheVariants as seens
use Rattle.slint_parser.specs.declared.statements.Behind.{Behind}
use Rattle.slint_parser.specs.declared.statements.Behind.TheVariants as behinds
use Rattle.slint_grammar.specs.Parts as p
use Rattle.slint_grammar.specs.Parts.{Part}
use Rattle.slint_grammar.specs.Grammar.{Sign, same}
use Rattle.slint_grammar.specs.Made.{Tree}
use Rattle.slint_grammar.specs.Derivations.{Derives, tree}
use Rattle.slint_parser.specs.Readings.{at, outcome, seen, TookOne, Took, Stuck}
use Rattle.slint_grammar.specs.Stacks.{Stack, run}

-- where a statement begins, behind an `if` or not
abbrev pub head_of : Bool → p.Start
head_of true = p.BehindIf
head_of false = p.InStmt

-- a part that tokens derive, where another one stands behind it
pub record TookBefore (q p : Part) (d : ℕ) (s r : List Token) (t : Tree p) : Type 0 where
  pub x : Derives 0 p d s r
  pub is : tree x ≡ t
  pub goes : (ps : Stack) → run s (at ((same p, d) ∷ (same q, d) ∷ ps)) ≡ run r (at ((same q, d) ∷ ps))

-- where the tokens stop being that
pub record StuckBefore (q p : Part) (d : ℕ) (s : List Token) (e : End Stop) : Type 0 where
  pub stops : (stop : Stop) → e ≡ endings.Fault stop → (ps : Stack) → run s (at ((same p, d) ∷ (same q, d) ∷ ps)) ≡ outcome stop

abbrev pub ReadsBefore : (q p : Part) → ℕ → List Token → Result (Tree p) (End Stop) → List Token → Type 0
ReadsBefore q p d s (Ok t) r = TookBefore q p d s r t
ReadsBefore q p d s (Err e) r = StuckBefore q p d s e

-- the end of a statement: the brace that closes its block, or a semicolon
abbrev pub ReadsStmtEnd : ℕ → List Token → Result Behind (End Stop) → List Token → Type 0
ReadsStmtEnd d s (Ok (behinds.Closed end)) r = Took p.StmtEnd d s r ([], end)
ReadsStmtEnd d s (Ok (behinds.Another i)) r = (i ≡ false) × (seen s ≡ seens.Symbol symbols.CloseBrace → ⊥) × ((span : Span) × TookOne (Sign symbols.Semicolon) d s r span)
ReadsStmtEnd d s (Err e) r = Stuck p.StmtEnd d s e

-- a statement, whose block goes on behind it
pub record StmtThen (b i : Bool) (d : ℕ) (s m : List Token) (stmt : Stmt) : Type 0 where
  pub took : (r : List Token) (more : List Stmt) (end : Span) → Took (p.Stmts (head_of i)) d m r (more, end) → Took (p.Stmts (head_of b)) d s r (stmt ∷ more, end)
  pub stuck : (e : End Stop) → Stuck (p.Stmts (head_of i)) d m e → Stuck (p.Stmts (head_of b)) d s e
  pub fewer : length m < length s

-- a statement, and what stands behind it
abbrev pub ReadsStmt : Bool → ℕ → List Token → Result (Stmt × Behind) (End Stop) → List Token → Type 0
ReadsStmt b d s (Ok (stmt, behinds.Closed end)) r = Took (p.Stmts (head_of b)) d s r (stmt ∷ [], end)
ReadsStmt b d s (Ok (stmt, behinds.Another i)) r = StmtThen b i d s r stmt
ReadsStmt b d s (Err e) r = Stuck (p.Stmts (head_of b)) d s e

-- the signs of assignments, and what they mean
abbrev pub assign_sign : Seen → Option (Symbol × AssignOp)
assign_sign (seens.Symbol symbols.Equal) = Some (symbols.Equal, assign_ops.Set)
assign_sign (seens.Symbol symbols.PlusEqual) = Some (symbols.PlusEqual, assign_ops.Add)
assign_sign (seens.Symbol symbols.MinusEqual) = Some (symbols.MinusEqual, assign_ops.Sub)
assign_sign (seens.Symbol symbols.StarEqual) = Some (symbols.StarEqual, assign_ops.Mul)
assign_sign (seens.Symbol symbols.SlashEqual) = Some (symbols.SlashEqual, assign_ops.Div)
assign_sign _ = None
