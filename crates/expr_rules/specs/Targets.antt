-- What can be assigned.
use Rattle.std.specs.Prelude.{ℕ, Bool, ◌&&◌, ◌==◌, List, [], ◌∷◌, map, if◌then◌else◌, Option, Some, None, option_map}
use Rattle.std.specs.List.{list_any}
use Rattle.value_types.specs.declared.types.Ty.{Ty}
use Rattle.value_types.specs.declared.types.Ty.TheVariants as ty
use Rattle.element_tables.specs.declared.functions.Arguments.{Arguments}
use Rattle.element_tables.specs.declared.functions.Arguments.TheVariants as arguments
use Rattle.typed_tree.specs.declared.expressions.ExprKind.TheOpen.{ExprKind-F}
use Rattle.typed_tree.specs.declared.expressions.StepKind.TheVariants as step
use Rattle.typed_tree.specs.declared.expressions.TypedExpr.{TypedExpr}
use Rattle.typed_tree.specs.declared.expressions.TypedStep.{TypedStep}
use Rattle.typed_tree.specs.declared.members.MemberRef.{MemberRef}
use Rattle.typed_tree.specs.declared.scopes.RowNames.{RowNames}
use Rattle.typed_tree.specs.declared.statements.Target.{Target}
use Rattle.typed_tree.specs.declared.statements.TargetBase.{TargetBase}
use Rattle.typed_tree.specs.declared.statements.TargetBase.TheVariants as bases
use Rattle.typed_tree.specs.Scopes.{ScopeValue}
use Rattle.typed_tree.specs.Typed.{KindLayer, kind_layer, expr_ty, typed_step}
use Rattle.name_lookup.specs.declared.meanings.Meaning.{Meaning}
use Rattle.name_lookup.specs.declared.meanings.Meaning.TheVariants as meaning
use Rattle.typed_tree.specs.Scopes.{Place}

-- the row item of a `for` whose model can be assigned itself
abbrev pub is_assignable_row : ℕ → List RowNames → Bool
is_assignable_row e rows = list_any (λ r. (r.element == e) && r.is_assignable) rows

abbrev pub target : TargetBase → List TypedStep → Option Target
target base steps = Some (record { base = base; steps = steps })

-- a property, the item of a property, or the item of a row; behind it steps to a part. The item of a property has the type given
abbrev pub base_target : ScopeValue → KindLayer → Ty → List TypedStep → Option Target
base_target s (ExprKind-F.Property member) t steps = target (bases.Property member) steps
base_target s (ExprKind-F.PropertyItem member i) t steps = target (bases.Property member) (typed_step (step.ToItem i) t ∷ steps)
base_target s (ExprKind-F.RowItem e) t steps = if is_assignable_row e s.rows then target (bases.RowItem e) steps else None
base_target s _ t steps = None

abbrev pub layer_target : ScopeValue → KindLayer → Ty → Option Target
layer_target s (ExprKind-F.Part base steps) t = base_target s (kind_layer base) (expr_ty base) steps
layer_target s layer t = base_target s layer t []

-- what an expression assigns where it is assigned: a property, an assignable row's item, or a part of one
abbrev pub target_of : ScopeValue → TypedExpr → Option Target
target_of s e = layer_target s (kind_layer e) (expr_ty e)

-- the property that an expression goes back to
abbrev pub property_in : TargetBase → Option MemberRef
property_in (bases.Property member) = Some member
property_in (bases.RowItem e) = None

abbrev pub property_of_target : Option Target → Option MemberRef
property_of_target None = None
property_of_target (Some t) = property_in t.base

-- what is wanted of arguments: of each that has a parameter, that one's type
abbrev pub built_in_places : Arguments → List Place
built_in_places (arguments.Alike count) = []
built_in_places arguments.Rounded = Some ty.Float ∷ []

abbrev pub each_wanted : List Ty → List Place
each_wanted tys = map (λ t. Some t) tys

abbrev pub argument_places : Meaning → List Place
argument_places (meaning.Callable callee signature) = each_wanted signature.parameters
argument_places (meaning.Math function) = built_in_places function.arguments
argument_places _ = []

-- what can't be assigned wants nothing of the right side
abbrev pub assigned_place : ScopeValue → Meaning → Place
assigned_place s (meaning.Value e) = option_map (λ target. expr_ty e) (target_of s e)
assigned_place s _ = None
