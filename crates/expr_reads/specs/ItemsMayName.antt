-- What items, models and conditions may name, said once more as a relation: a case for each form and part.
use Rattle.std.specs.Prelude.{◌≡◌, ◌↔◌, Some}
use Rattle.slint_base.specs.declared.faults.Span.{Span}
use Rattle.typed_tree.specs.declared.expressions.TypedExpr.{TypedExpr}
use Rattle.typed_tree.specs.declared.members.MemberRef.{MemberRef}
use Rattle.typed_tree.specs.declared.trees.RowSource.TheVariants as sources
use Rattle.typed_tree.specs.declared.trees.TypedBinding.{TypedBinding}
use Rattle.typed_tree.specs.declared.trees.TypedChange.{TypedChange}
use Rattle.typed_tree.specs.declared.trees.TypedChanged.{TypedChanged}
use Rattle.typed_tree.specs.declared.trees.TypedFor.{TypedFor}
use Rattle.typed_tree.specs.declared.trees.TypedFunction.{TypedFunction}
use Rattle.typed_tree.specs.declared.trees.TypedHandler.{TypedHandler}
use Rattle.typed_tree.specs.declared.trees.TypedItem.{TypedItem}
use Rattle.typed_tree.specs.declared.trees.TypedItem.TheVariants as items
use Rattle.typed_tree.specs.declared.trees.TypedRepeat.{TypedRepeat}
use Rattle.typed_tree.specs.declared.trees.TypedRepeat.TheVariants as repeats
use Rattle.typed_tree.specs.declared.trees.TypedState.{TypedState}
use Rattle.typed_tree.specs.declared.trees.TypedStates.{TypedStates}
use Rattle.finite_graphs.specs.Walks.{In}
use Rattle.expr_reads.specs.declared.names.Named.{Named}
use Rattle.expr_reads.specs.declared.names.Named.TheVariants as names
use Rattle.expr_reads.specs.Items.{named_item, named_repeat}
use Rattle.expr_reads.specs.MayName.{BlockMayName, MayName, ValueMayName}

-- an item may name this
pub data ItemMayName : TypedItem → Named → Type 0 where
  bound : (b : TypedBinding) {n : Named} → ValueMayName b.value n → ItemMayName (items.Binding b) n
  body : (f : TypedFunction) {n : Named} → BlockMayName f.body n → ItemMayName (items.Function f) n
  handled : (h : TypedHandler) {n : Named} → ValueMayName h.run n → ItemMayName (items.Handler h) n
  watched : (c : TypedChanged) {n : Named} → ValueMayName c.run n → ItemMayName (items.Changed c) n
  when : (list : TypedStates) (s : TypedState) (e : TypedExpr) {n : Named} → In s list.states → s.when ≡ Some e → MayName e n → ItemMayName (items.States list) n
  change : (list : TypedStates) (s : TypedState) (c : TypedChange) {n : Named} → In s list.states → In c s.changes → ValueMayName c.value n → ItemMayName (items.States list) n

-- a model or a condition may name this
pub data RepeatMayName : TypedRepeat → Named → Type 0 where
  holds : (e : TypedExpr) (s : Span) {n : Named} → MayName e n → RepeatMayName (repeats.If e s) n
  rows_of : (f : TypedFor) (m : MemberRef) → f.rows ≡ sources.Property m → RepeatMayName (repeats.For f) (names.Property m)
  array : (f : TypedFor) (e : TypedExpr) {n : Named} → f.rows ≡ sources.Array e → MayName e n → RepeatMayName (repeats.For f) n
  count : (f : TypedFor) (e : TypedExpr) {n : Named} → f.rows ≡ sources.Count e → MayName e n → RepeatMayName (repeats.For f) n

-- an item's list has just what it may name
abbrev pub ItemNamesAreExact : Type 0
ItemNamesAreExact = (i : TypedItem) (n : Named) → ItemMayName i n ↔ In n (named_item i)

abbrev pub RepeatNamesAreExact : Type 0
RepeatNamesAreExact = (r : TypedRepeat) (n : Named) → RepeatMayName r n ↔ In n (named_repeat r)
