-- The judgement of expressions and blocks: which type each has, and the least fault in it.
use Rattle.std.specs.Prelude.{List, None, Result, Ok, Err}
use Rattle.slint_base.specs.declared.faults.Fault.{Fault}
use Rattle.slint_base.specs.declared.faults.Span.{Span}
use Rattle.slint_base.specs.declared.endings.End.{End}
use Rattle.slint_base.specs.declared.endings.End.TheVariants as ends
use Rattle.syntax_tree.specs.declared.expressions.Expr.{Expr, out-Expr}
use Rattle.syntax_tree.specs.declared.statements.Else.{out-Else}
use Rattle.syntax_tree.specs.declared.statements.Stmt.{Stmt, out-Stmt}
use Rattle.syntax_tree.specs.Spans.{expr_span as source_span}
use Rattle.value_types.specs.declared.types.Ty.{Ty}
use Rattle.typed_tree.specs.declared.expressions.TypedExpr.{TypedExpr}
use Rattle.typed_tree.specs.declared.statements.TypedBlock.{TypedBlock}
use Rattle.typed_tree.specs.Scopes.{ScopeValue}
use Rattle.expr_rules.specs.declared.judged.Denoted.{Denoted}
use Rattle.expr_rules.specs.declared.judged.Judged.{Judged}
use Rattle.expr_rules.specs.declared.judged.Judged.TheVariants as judged
use Rattle.typed_tree.specs.Scopes.{Place}
use Rattle.expr_rules.specs.Denotations.{denoted, value_of}
use Rattle.expr_types.specs.Judgement.{Rules, ComesTo, FaultIn}
use Rattle.expr_types.specs.Nodes.{Node, At, Denotes, Suffixed, Chained, FieldName, Assigned, Body, Braces, Otherwise, Statement, parts, later_parts}
use Rattle.expr_rules.specs.Own.{form_own, suffixed_own, chained_own, field_name_own, at_place, of_one}
use Rattle.expr_rules.specs.OwnBlocks.{assigned_own, body_own, braces_own, otherwise_own, statement_own}
use Rattle.fault_order.specs.Order.{IsFirst}

-- what a node comes to once all its parts have come to something, or the rule that it breaks
abbrev pub own : ScopeValue → Node → List Judged → List Judged → Result Judged Fault
own s (At place e) xs ys = of_one (λ x. at_place place (source_span e) x) xs
own s (Denotes place e) xs ys = form_own s place (out-Expr e) xs
own s (Suffixed e suffixes) xs ys = suffixed_own s e suffixes xs ys
own s (Chained e operands) xs ys = chained_own e operands xs
own s (FieldName ident before) xs ys = field_name_own ident before
own s (Assigned e) xs ys = of_one (λ x. assigned_own s (denoted x)) xs
own s (Body t stmts span) xs ys = body_own t stmts span xs
own s (Braces t ends stmts span) xs ys = Ok (braces_own span xs)
own s (Otherwise t ends otherwise) xs ys = otherwise_own (out-Else otherwise) xs
own s (Statement t ends stmt) xs ys = statement_own s t ends (out-Stmt stmt) xs ys

-- the rules on names and types in a scope
abbrev pub typing : ScopeValue → Rules Node Judged Fault
typing s = record { parts = parts; later = later_parts s; own = own s }

-- an expression has a typed form at a place, and a block has one that gives a value of a type
abbrev pub TypesExpr : ScopeValue → Place → Expr → TypedExpr → Type 0
TypesExpr s place e t = ComesTo Node Judged Fault (typing s) (At place e) (value_of t)

abbrev pub TypesBlock : ScopeValue → Ty → List Stmt → Span → TypedBlock → Type 0
TypesBlock s t stmts span block = ComesTo Node Judged Fault (typing s) (Body t stmts span) (judged.Block block)

-- an expression stands for something where any value is wanted
abbrev pub Stands : ScopeValue → Expr → Denoted → Type 0
Stands s e d = ComesTo Node Judged Fault (typing s) (Denotes None e) (judged.Denoted d)

-- rules that are broken in them
abbrev pub BreaksExpr : ScopeValue → Place → Expr → Fault → Type 0
BreaksExpr s place e = FaultIn Node Judged Fault (typing s) (At place e)

abbrev pub BreaksBlock : ScopeValue → Ty → List Stmt → Span → Fault → Type 0
BreaksBlock s t stmts span = FaultIn Node Judged Fault (typing s) (Body t stmts span)

abbrev pub BreaksStanding : ScopeValue → Expr → Fault → Type 0
BreaksStanding s e = FaultIn Node Judged Fault (typing s) (Denotes None e)

-- the typed form of an expression, or the least fault in it, unless memory ran out
abbrev pub JudgesExpr : ScopeValue → Place → Expr → Result TypedExpr (End Fault) → Type 0
JudgesExpr s place e (Ok t) = TypesExpr s place e t
JudgesExpr s place e (Err (ends.Fault f)) = IsFirst (BreaksExpr s place e) f
JudgesExpr s place e (Err ends.Memory) = Unit {0}

abbrev pub JudgesBlock : ScopeValue → Ty → List Stmt → Span → Result TypedBlock (End Fault) → Type 0
JudgesBlock s t stmts span (Ok block) = TypesBlock s t stmts span block
JudgesBlock s t stmts span (Err (ends.Fault f)) = IsFirst (BreaksBlock s t stmts span) f
JudgesBlock s t stmts span (Err ends.Memory) = Unit {0}

-- what an expression stands for where any value is wanted, or the least fault in it, unless memory ran out
abbrev pub JudgesStanding : ScopeValue → Expr → Result Denoted (End Fault) → Type 0
JudgesStanding s e (Ok d) = Stands s e d
JudgesStanding s e (Err (ends.Fault f)) = IsFirst (BreaksStanding s e) f
JudgesStanding s e (Err ends.Memory) = Unit {0}

-- a node comes to something, or it breaks rules, and of what it breaks one is told first
pub data SomeOutcome (s : ScopeValue) (n : Node) : Type 0 where
  comes_to : {x : Judged} → ComesTo Node Judged Fault (typing s) n x → SomeOutcome s n
  breaks : {f : Fault} → IsFirst (FaultIn Node Judged Fault (typing s) n) f → SomeOutcome s n
