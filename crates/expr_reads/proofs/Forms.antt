-- What each form names that has several parts, as they are added one after the other.
use Rattle.std.proofs.Common.{◌≡◌, ℕ, List, [], ◌∷◌, ◌++◌, sym, ◌∙◌, ap, subst, append_assoc}
use Rattle.std.specs.Prelude.{OnOk, Result}
use Rattle.std.specs.List.{flat_map}
use Rattle.slint_base.specs.declared.endings.Memory.{Memory}
use Rattle.slint_base.specs.declared.faults.Span.{Span}
use Rattle.element_tables.specs.declared.functions.MathFunction.{MathFunction}
use Rattle.typed_tree.specs.declared.expressions.Callee.{Callee}
use Rattle.typed_tree.specs.declared.expressions.ExprKind.{ExprKind, fold-roll-ExprKind}
use Rattle.typed_tree.specs.declared.expressions.ExprKind.TheOpen.{ExprKind-F}
use Rattle.typed_tree.specs.declared.expressions.ExprKind.TheVariants as exprs
use Rattle.typed_tree.specs.declared.expressions.StepKind.{StepKind}
use Rattle.typed_tree.specs.declared.expressions.TypedExpr.{TypedExpr}
use Rattle.typed_tree.specs.declared.expressions.TypedField.{TypedField}
use Rattle.typed_tree.specs.declared.expressions.TypedHole.{TypedHole}
use Rattle.typed_tree.specs.declared.expressions.TypedOperand.{TypedOperand}
use Rattle.typed_tree.specs.declared.expressions.TypedStep.{TypedStep}
use Rattle.typed_tree.specs.declared.members.MemberRef.{MemberRef}
use Rattle.typed_tree.specs.declared.statements.TypedBlock.{TypedBlock, fold_out-TypedBlock, out-TypedBlock}
use Rattle.typed_tree.specs.declared.statements.TypedStmt.{TypedStmt}
use Rattle.expr_reads.specs.declared.names.Named.{Named}
use Rattle.expr_reads.specs.declared.names.Named.TheVariants as names
use Rattle.expr_reads.specs.Names.{Names, called, named_block, named, named_field, named_hole, named_kind, named_operand, named_step, named_stmt, block_layer, expr_layer, field_layer, hole_layer, kind_layer, operand_layer, step_kind_layer, step_layer, stmt_kind_layer, stmt_layer}
use Rattle.expr_reads.proofs.Listing.{all_map}

-- what was added, told otherwise
pub added : (r : Result (Unit {0}) Memory) (old new xs ys : List Named) → xs ≡ ys → OnOk r (new ≡ old ++ xs) → OnOk r (new ≡ old ++ ys)
added r old new xs ys e h = subst (λ (z : List Named). OnOk r (new ≡ old ++ z)) e h

-- what was added in two steps
pub added_behind : (r : Result (Unit {0}) Memory) (old now new a xs ys : List Named) → now ≡ old ++ a → a ++ xs ≡ ys → OnOk r (new ≡ now ++ xs) → OnOk r (new ≡ old ++ ys)
added_behind r old now new a xs ys p e h = subst (λ (z : List Named). OnOk r (new ≡ z)) (ap (λ (z : List Named). z ++ xs) p ∙ append_assoc old a xs ∙ ap (λ (z : List Named). old ++ z) e) h

abbrev Layer : Type 0
Layer = ExprKind-F ExprKind StepKind TypedExpr TypedField TypedHole TypedOperand TypedStep

pub kind_struct : (kind : ExprKind) (span : Span) (fields read : List TypedField) → kind ≡ exprs.Struct fields → read ≡ fields → flat_map named_field read ≡ named_kind kind span
kind_struct kind span fields read is at =
    ap (flat_map named_field) at ∙ sym (all_map named_field fields)
    ∙ sym (ap (λ (k : ExprKind). named_kind k span) (is ∙ sym (exprs.rolls-Struct fields))
    ∙ ap (λ (f : Span → Names). f span) (fold-roll-ExprKind (Span → Names) Names Names Names Names Names Names kind_layer step_kind_layer expr_layer field_layer hole_layer operand_layer step_layer (ExprKind-F.Struct fields)))

pub kind_array : (kind : ExprKind) (span : Span) (items read : List TypedExpr) → kind ≡ exprs.Array items → read ≡ items → flat_map named read ≡ named_kind kind span
kind_array kind span items read is at =
    ap (flat_map named) at ∙ sym (all_map named items)
    ∙ sym (ap (λ (k : ExprKind). named_kind k span) (is ∙ sym (exprs.rolls-Array items))
    ∙ ap (λ (f : Span → Names). f span) (fold-roll-ExprKind (Span → Names) Names Names Names Names Names Names kind_layer step_kind_layer expr_layer field_layer hole_layer operand_layer step_layer (ExprKind-F.Array items)))

pub kind_math : (kind : ExprKind) (span : Span) (function : MathFunction) (items read : List TypedExpr) → kind ≡ exprs.Math function items → read ≡ items → flat_map named read ≡ named_kind kind span
kind_math kind span function items read is at =
    ap (flat_map named) at ∙ sym (all_map named items)
    ∙ sym (ap (λ (k : ExprKind). named_kind k span) (is ∙ sym (exprs.rolls-Math function items))
    ∙ ap (λ (f : Span → Names). f span) (fold-roll-ExprKind (Span → Names) Names Names Names Names Names Names kind_layer step_kind_layer expr_layer field_layer hole_layer operand_layer step_layer (ExprKind-F.Math function items)))

pub kind_template : (kind : ExprKind) (span : Span) (text : List ℕ) (holes read : List TypedHole) → kind ≡ exprs.Template text holes → read ≡ holes → flat_map named_hole read ≡ named_kind kind span
kind_template kind span text holes read is at =
    ap (flat_map named_hole) at ∙ sym (all_map named_hole holes)
    ∙ sym (ap (λ (k : ExprKind). named_kind k span) (is ∙ sym (exprs.rolls-Template text holes))
    ∙ ap (λ (f : Span → Names). f span) (fold-roll-ExprKind (Span → Names) Names Names Names Names Names Names kind_layer step_kind_layer expr_layer field_layer hole_layer operand_layer step_layer (ExprKind-F.Template text holes)))

pub kind_part : (kind : ExprKind) (span : Span) (base : TypedExpr) (steps read : List TypedStep) → kind ≡ exprs.Part base steps → read ≡ steps → named base ++ flat_map named_step read ≡ named_kind kind span
kind_part kind span base steps read is at =
    ap (λ (xs : List TypedStep). named base ++ flat_map named_step xs) at ∙ ap (λ (xs : Names). named base ++ xs) (sym (all_map named_step steps))
    ∙ sym (ap (λ (k : ExprKind). named_kind k span) (is ∙ sym (exprs.rolls-Part base steps))
    ∙ ap (λ (f : Span → Names). f span) (fold-roll-ExprKind (Span → Names) Names Names Names Names Names Names kind_layer step_kind_layer expr_layer field_layer hole_layer operand_layer step_layer (ExprKind-F.Part base steps)))

pub kind_chain : (kind : ExprKind) (span : Span) (first : TypedExpr) (operands read : List TypedOperand) → kind ≡ exprs.Chain first operands → read ≡ operands
    → named first ++ flat_map named_operand read ≡ named_kind kind span
kind_chain kind span first operands read is at =
    ap (λ (xs : List TypedOperand). named first ++ flat_map named_operand xs) at ∙ ap (λ (xs : Names). named first ++ xs) (sym (all_map named_operand operands))
    ∙ sym (ap (λ (k : ExprKind). named_kind k span) (is ∙ sym (exprs.rolls-Chain first operands))
    ∙ ap (λ (f : Span → Names). f span) (fold-roll-ExprKind (Span → Names) Names Names Names Names Names Names kind_layer step_kind_layer expr_layer field_layer hole_layer operand_layer step_layer (ExprKind-F.Chain first operands)))

pub kind_call : (kind : ExprKind) (span : Span) (callee : Callee) (items read : List TypedExpr) → kind ≡ exprs.Call callee items → read ≡ items → flat_map named read ++ called callee span ≡ named_kind kind span
kind_call kind span callee items read is at =
    ap (λ (xs : List TypedExpr). flat_map named xs ++ called callee span) at ∙ ap (λ (xs : Names). xs ++ called callee span) (sym (all_map named items))
    ∙ sym (ap (λ (k : ExprKind). named_kind k span) (is ∙ sym (exprs.rolls-Call callee items))
    ∙ ap (λ (f : Span → Names). f span) (fold-roll-ExprKind (Span → Names) Names Names Names Names Names Names kind_layer step_kind_layer expr_layer field_layer hole_layer operand_layer step_layer (ExprKind-F.Call callee items)))

pub kind_item : (kind : ExprKind) (span : Span) (m : MemberRef) (at : TypedExpr) → kind ≡ exprs.PropertyItem m at → named at ++ names.Property m ∷ [] ≡ named_kind kind span
kind_item kind span m at is =
    sym (ap (λ (k : ExprKind). named_kind k span) (is ∙ sym (exprs.rolls-PropertyItem m at))
    ∙ ap (λ (f : Span → Names). f span) (fold-roll-ExprKind (Span → Names) Names Names Names Names Names Names kind_layer step_kind_layer expr_layer field_layer hole_layer operand_layer step_layer (ExprKind-F.PropertyItem m at)))

pub kind_choice : (kind : ExprKind) (span : Span) (condition first second : TypedExpr) → kind ≡ exprs.Choice condition first second
    → (named condition ++ named first) ++ named second ≡ named_kind kind span
kind_choice kind span condition first second is =
    append_assoc (named condition) (named first) (named second)
    ∙ sym (ap (λ (k : ExprKind). named_kind k span) (is ∙ sym (exprs.rolls-Choice condition first second))
    ∙ ap (λ (f : Span → Names). f span) (fold-roll-ExprKind (Span → Names) Names Names Names Names Names Names kind_layer step_kind_layer expr_layer field_layer hole_layer operand_layer step_layer (ExprKind-F.Choice condition first second)))

pub two : (old mid now a b : List Named) → mid ≡ old ++ a → now ≡ mid ++ b → now ≡ old ++ (a ++ b)
two old mid now a b p q = q ∙ ap (λ (z : List Named). z ++ b) p ∙ append_assoc old a b

pub block_is : (block : TypedBlock) (read : List TypedStmt) → read ≡ (out-TypedBlock block).stmts → flat_map named_stmt read ≡ named_block block
block_is block read at =
    ap (flat_map named_stmt) at ∙ sym (all_map named_stmt (out-TypedBlock block).stmts) ∙ sym (fold_out-TypedBlock Names Names Names stmt_kind_layer block_layer stmt_layer block)
