-- Expressions, blocks and what expressions stand for tell one thing, by the laws of their judgement.
use Rattle.std.proofs.Common.{◌≡◌, List, Some, None, Ok, Err, ap, subst}
use Rattle.slint_base.specs.declared.endings.End.{End}
use Rattle.slint_base.specs.declared.endings.End.TheVariants as ends
use Rattle.slint_base.specs.declared.faults.Fault.{Fault}
use Rattle.syntax_tree.specs.declared.expressions.Expr.{Expr}
use Rattle.syntax_tree.specs.declared.statements.Block.{Block, out-Block}
use Rattle.syntax_tree.specs.declared.statements.Stmt.{Stmt}
use Rattle.value_types.specs.declared.types.Ty.{Ty}
use Rattle.typed_tree.specs.declared.statements.TypedBlock.{TypedBlock}
use Rattle.typed_tree.specs.Scopes.{ScopeValue}
use Rattle.fault_order.specs.Order.{IsFirst}
use Rattle.expr_rules.specs.declared.judged.Judged.{Judged}
use Rattle.expr_rules.specs.Denotations.{denoted, given}
use Rattle.expr_rules.specs.OwnBlocks.{block_given}
use Rattle.expr_types.specs.Nodes.{At, Body, Denotes}
use Rattle.expr_types.specs.Typing.{BreaksBlock, JudgesBlock, JudgesExpr, JudgesStanding, SomeOutcome, TypesBlock, comes_to, breaks}
use Rattle.expr_types.specs.Verdicts.{something as node_comes}
use Rattle.expr_types.proofs.Deciding.{some_outcome}
use Rattle.expr_types.proofs.Outcomes.{one_thing, no_fault}
use Rattle.expr_types.proofs.Standing.{told_block, told_standing, told_value}
use Rattle.expr_types.proofs.Telling.{came_as}
use Rattle.item_types.specs.Judging.{Tells, something, fault, Told, told}
use Rattle.item_types.specs.Values.{expression_judging, block_judging, standing_judging}
use Rattle.item_types.proofs.Telling.{Sound}

pub expression_sound : (s : ScopeValue) (t : Ty) (e : Expr) → Sound (expression_judging s t e)
expression_sound s t e = record { one = λ x y p q. ap given (one_thing p q); apart = λ x f p k. no_fault k p }

pub block_sound : (s : ScopeValue) (t : Ty) (b : Block) → Sound (block_judging s t b)
block_sound s t b = record { one = λ x y p q. ap block_given (one_thing p q); apart = λ x f p k. no_fault k p }

pub standing_sound : (s : ScopeValue) (e : Expr) → Sound (standing_judging s e)
standing_sound s e = record { one = λ x y p q. ap denoted (one_thing p q); apart = λ x f p k. no_fault k p }

expression_by : (s : ScopeValue) (t : Ty) (e : Expr) → SomeOutcome s (At (Some t) e) → Told (expression_judging s t e)
expression_by s t e (comes_to a) = told (something (came_as (At (Some t) e) (told_value (Some t) e (node_comes a)) (node_comes a)))
expression_by s t e (breaks p) = told (fault p)

pub expression_some : (s : ScopeValue) (t : Ty) (e : Expr) → Told (expression_judging s t e)
expression_some s t e = expression_by s t e (some_outcome s (At (Some t) e))

block_by : (s : ScopeValue) (t : Ty) (b : Block) → SomeOutcome s (Body t (out-Block b).stmts (out-Block b).span) → Told (block_judging s t b)
block_by s t b (comes_to a) = told (something (came_as (Body t (out-Block b).stmts (out-Block b).span) (told_block t (out-Block b).stmts (out-Block b).span (node_comes a)) (node_comes a)))
block_by s t b (breaks p) = told (fault p)

pub block_some : (s : ScopeValue) (t : Ty) (b : Block) → Told (block_judging s t b)
block_some s t b = block_by s t b (some_outcome s (Body t (out-Block b).stmts (out-Block b).span))

standing_by : (s : ScopeValue) (e : Expr) → SomeOutcome s (Denotes None e) → Told (standing_judging s e)
standing_by s e (comes_to a) = told (something (came_as (Denotes None e) (told_standing None e (node_comes a)) (node_comes a)))
standing_by s e (breaks p) = told (fault p)

pub standing_some : (s : ScopeValue) (e : Expr) → Told (standing_judging s e)
standing_some s e = standing_by s e (some_outcome s (Denotes None e))

-- what the judgement of expressions tells

pub expression_fault : (s : ScopeValue) (t : Ty) (e : Expr) {x : End Fault} {f : Fault} → x ≡ ends.Fault f → JudgesExpr s (Some t) e (Err x) → Tells (expression_judging s t e) (Err f)
expression_fault s t e {x} {f} h p = let P : End Fault → Type 0 = λ z. JudgesExpr s (Some t) e (Err z) in fault (subst P h p)

pub standing_fault : (s : ScopeValue) (e : Expr) {x : End Fault} {f : Fault} → x ≡ ends.Fault f → JudgesStanding s e (Err x) → Tells (standing_judging s e) (Err f)
standing_fault s e {x} {f} h p = let P : End Fault → Type 0 = λ z. JudgesStanding s e (Err z) in fault (subst P h p)

pub block_fault : (s : ScopeValue) (t : Ty) (b : Block) {stmts : List Stmt} {x : End Fault} {f : Fault} → stmts ≡ (out-Block b).stmts → x ≡ ends.Fault f → JudgesBlock s t stmts (out-Block b).span (Err x) → Tells (block_judging s t b) (Err f)
block_fault s t b {stmts} {x} {f} e h p =
    let P : End Fault → Type 0 = λ z. JudgesBlock s t stmts (out-Block b).span (Err z) in
    let Q : List Stmt → Type 0 = λ z. IsFirst (BreaksBlock s t z (out-Block b).span) f in
    fault (subst Q e (subst P h p))

pub block_comes : (s : ScopeValue) (t : Ty) (b : Block) {stmts : List Stmt} {x : TypedBlock} → stmts ≡ (out-Block b).stmts → TypesBlock s t stmts (out-Block b).span x → Tells (block_judging s t b) (Ok x)
block_comes s t b {stmts} {x} e p = let Q : List Stmt → Type 0 = λ z. TypesBlock s t z (out-Block b).span x in something (subst Q e p)
