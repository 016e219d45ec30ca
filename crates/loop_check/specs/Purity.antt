-- What is impure, and where that is a fault.
use Rattle.std.specs.Prelude.{◌≡◌, Bool, true, false, if◌then◌else◌, List, [], slice_get, Option, Some, None, Result, Ok, Err}
use Rattle.std.specs.Option.{option_map}
use Rattle.slint_base.specs.declared.endings.End.{End}
use Rattle.slint_base.specs.declared.endings.End.TheVariants as ends
use Rattle.slint_base.specs.declared.faults.Fault.{Fault}
use Rattle.slint_base.specs.declared.rules.Rule.{Rule}
use Rattle.slint_base.specs.declared.rules.Rule.TheVariants as rules
use Rattle.syntax_tree.specs.declared.items.Access.TheVariants as access
use Rattle.typed_tree.specs.declared.members.Member.{Member}
use Rattle.typed_tree.specs.declared.members.MemberKind.{MemberKind}
use Rattle.typed_tree.specs.declared.members.MemberKind.TheVariants as kinds
use Rattle.typed_tree.specs.declared.trees.TypedComponent.{TypedComponent}
use Rattle.typed_tree.specs.declared.trees.TypedGlobal.{TypedGlobal}
use Rattle.typed_tree.specs.declared.trees.TypedTree.{TypedTree}
use Rattle.fault_order.specs.Order.{FirstIfAny, IsFirst, NoFault}
use Rattle.finite_graphs.specs.Walks.{In}
use Rattle.loop_check.specs.declared.acts.Act.{Act}
use Rattle.loop_check.specs.declared.acts.Home.{Home}
use Rattle.loop_check.specs.declared.acts.Home.TheVariants as homes
use Rattle.loop_check.specs.declared.acts.Routine.{Routine}
use Rattle.loop_check.specs.declared.bodies.Body.{Body}
use Rattle.loop_check.specs.declared.bodies.Place.{Place}
use Rattle.loop_check.specs.declared.bodies.Place.TheVariants as places
use Rattle.loop_check.specs.Bodies.{bodies_in}

-- the members that are declared in a component or a global
abbrev pub component_members : Option TypedComponent → List Member
component_members None = []
component_members (Some comp) = comp.outline.members

abbrev pub global_members : Option TypedGlobal → List Member
global_members None = []
global_members (Some global) = global.outline.members

abbrev pub members_of : TypedTree → Home → List Member
members_of tree (homes.Component n) = component_members (slice_get tree.comps n)
members_of tree (homes.Global n) = global_members (slice_get tree.globals n)

abbrev pub kind_of : TypedTree → Routine → Option MemberKind
kind_of tree r = option_map (λ m. m.kind) (slice_get (members_of tree r.home) r.number)

-- it is marked `pure`
abbrev pub is_pure : Option MemberKind → Bool
is_pure (Some (kinds.Callback true signature)) = true
is_pure (Some (kinds.Function true access signature)) = true
is_pure _ = false

-- it is impure whatever it runs: a callback without `pure`, and a function without `pure` that others may call
abbrev pub is_impure : Option MemberKind → Bool
is_impure (Some (kinds.Callback false signature)) = true
is_impure (Some (kinds.Function false access.Public signature)) = true
is_impure (Some (kinds.Function false access.Protected signature)) = true
is_impure _ = false

-- whether it is impure depends on what it does: a function without any mark
abbrev pub is_inferred : Option MemberKind → Bool
is_inferred (Some (kinds.Function false access.None signature)) = true
is_inferred _ = false

-- an act of what a callback or function runs
pub record DoneIn (tree : TypedTree) (r : Routine) (act : Act) : Type 0 where
  pub body : Body
  pub among : In body (bodies_in tree)
  pub place : body.place ≡ places.Run r
  pub does : In act body.acts

-- what is impure: an assignment or a call of what is built in, which call nothing that is declared; a callback or function that is impure by its
-- marks; and a function without marks of whose acts one calls what is impure
pub data Impure (tree : TypedTree) : Option Routine → Type 0 where
  in_any_case : Impure tree None
  by_its_marks : (r : Routine) → is_impure (kind_of tree r) ≡ true → Impure tree (Some r)
  by_an_act : (r : Routine) (act : Act) → is_inferred (kind_of tree r) ≡ true → DoneIn tree r act → Impure tree act.calls → Impure tree (Some r)

-- the rule that an impure act breaks at a place, if it breaks any
abbrev pub rule_at : TypedTree → Place → Option Rule
rule_at tree places.Value = Some rules.ImpureBinding
rule_at tree (places.Run r) = if is_pure (kind_of tree r) then Some rules.PureCallsImpure else None

-- a fault: an impure act where it breaks a rule
pub record PurityFault (tree : TypedTree) (f : Fault) : Type 0 where
  pub body : Body
  pub among : In body (bodies_in tree)
  pub act : Act
  pub does : In act body.acts
  pub impure : Impure tree act.calls
  pub rule : rule_at tree body.place ≡ Some f.rule
  pub span : f.span ≡ act.span

-- no fault, or the first one, unless memory ran out
abbrev pub ChecksPurity : TypedTree → Result (Unit {0}) (End Fault) → Type 0
ChecksPurity tree (Ok done) = NoFault (PurityFault tree)
ChecksPurity tree (Err (ends.Fault f)) = IsFirst (PurityFault tree) f
ChecksPurity tree (Err ends.Memory) = Unit {0}

-- a source has a first fault of purity, or none
pub record SomeVerdict (tree : TypedTree) : Type 0 where
  pub verdict : Option Fault
  pub first : FirstIfAny (PurityFault tree) verdict
