-- Steps of the definitions of what nodes come to, as the code takes them.
use Rattle.std.specs.Prelude.{Bool, true, if◌then◌else◌, List, [], ◌∷◌, Option, Some, None, Result, Ok, Err}
use Rattle.slint_base.specs.declared.faults.Fault.{Fault}
use Rattle.slint_base.specs.declared.faults.Span.{Span}
use Rattle.slint_base.specs.declared.rules.Rule.TheVariants as rules
use Rattle.typed_tree.specs.declared.expressions.ExprKind.TheOpen.{ExprKind-F}
use Rattle.typed_tree.specs.declared.members.MemberRef.{MemberRef}
use Rattle.typed_tree.specs.declared.statements.TargetBase.{TargetBase}
use Rattle.typed_tree.specs.declared.statements.TargetBase.TheVariants as bases
use Rattle.typed_tree.specs.Scopes.{ScopeValue}
use Rattle.typed_tree.specs.Typed.{KindLayer}
use Rattle.name_lookup.specs.Names.{Lookup}
use Rattle.expr_rules.specs.declared.judged.Denoted.{Denoted}
use Rattle.expr_rules.specs.declared.judged.Judged.{Judged}
use Rattle.expr_rules.specs.Denotations.{broken, standing}
use Rattle.expr_rules.specs.Own.{name_of_part}
use Rattle.expr_rules.specs.OwnBlocks.{is_callable, may_assign}
use Rattle.expr_rules.specs.Targets.{is_assignable_row}

-- where an assignment to what an expression does begins, and to that of a part of it
abbrev pub base_of : ScopeValue → KindLayer → Option TargetBase
base_of s (ExprKind-F.Property member) = Some (bases.Property member)
base_of s (ExprKind-F.PropertyItem member i) = Some (bases.Property member)
base_of s (ExprKind-F.RowItem e) = if is_assignable_row e s.rows then Some (bases.RowItem e) else None
base_of s _ = None

-- what was found behind a point, where the member that it goes back to is told at `owner`, and its own name at `name`
abbrev pub found_as : Span → Span → Bool → Lookup → Result Judged Fault
found_as owner name plain None = broken rules.UnknownName name
found_as owner name plain (Some (Err rule)) = broken rule name
found_as owner name plain (Some (Ok m)) = Ok (standing m (name_of_part m owner name) plain)

-- the property of which an item is one, where that is written as a plain path
abbrev pub plain_property : Bool → KindLayer → Option MemberRef
plain_property true (ExprKind-F.Property member) = Some member
plain_property plain _ = None

-- the first part
abbrev pub first : List Judged → Option Judged
first [] = None
first (x ∷ rest) = Some x

-- the two sides of an assignment: both parts, or a part and a later one
abbrev pub only : List Judged → Option Judged
only [] = None
only (x ∷ []) = Some x
only (x ∷ y ∷ rest) = None

abbrev pub two : List Judged → Option (Judged × Judged)
two [] = None
two (x ∷ []) = None
two (x ∷ y ∷ []) = Some (x, y)
two (x ∷ y ∷ z ∷ rest) = None

abbrev pub one_each : Option Judged → Option Judged → Option (Judged × Judged)
one_each (Some x) (Some y) = Some (x, y)
one_each (Some x) None = None
one_each None other = None

abbrev pub two_sides : List Judged → List Judged → Option (Judged × Judged)
two_sides xs [] = two xs
two_sides xs (y ∷ ys) = one_each (only xs) (only (y ∷ ys))

-- the rule that an assignment breaks by what is assigned
abbrev pub assigned_fault : ScopeValue → Denoted → Option Fault
assigned_fault s d = if is_callable d.meaning then Some (record { rule = rules.NotCallable; span = d.name })
    else if may_assign s d.meaning then None
    else Some (record { rule = rules.Visibility; span = d.name })
