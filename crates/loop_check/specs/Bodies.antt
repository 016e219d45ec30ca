-- Everything that is written in a source: values, which may change nothing, and what callbacks and functions run.
use Rattle.std.specs.Prelude.{ℕ, suc, List, [], ◌∷◌, ◌++◌, Option, Some, None}
use Rattle.std.specs.List.{flat_map}
use Rattle.typed_tree.specs.declared.expressions.TypedExpr.{TypedExpr}
use Rattle.typed_tree.specs.declared.statements.TypedBlock.{TypedBlock}
use Rattle.typed_tree.specs.declared.statements.TypedValue.{TypedValue}
use Rattle.typed_tree.specs.declared.trees.HandlerOf.{HandlerOf}
use Rattle.typed_tree.specs.declared.trees.HandlerOf.TheVariants as handler_of
use Rattle.typed_tree.specs.declared.trees.RowSource.{RowSource}
use Rattle.typed_tree.specs.declared.trees.RowSource.TheVariants as row_source
use Rattle.typed_tree.specs.declared.trees.TypedChange.{TypedChange}
use Rattle.typed_tree.specs.declared.trees.TypedComponent.{TypedComponent}
use Rattle.typed_tree.specs.declared.trees.TypedElement.{TypedElement}
use Rattle.typed_tree.specs.declared.trees.TypedGlobal.{TypedGlobal}
use Rattle.typed_tree.specs.declared.trees.TypedHandler.{TypedHandler}
use Rattle.typed_tree.specs.declared.trees.TypedItem.{TypedItem}
use Rattle.typed_tree.specs.declared.trees.TypedItem.TheVariants as items
use Rattle.typed_tree.specs.declared.trees.TypedRepeat.{TypedRepeat}
use Rattle.typed_tree.specs.declared.trees.TypedRepeat.TheVariants as repeats
use Rattle.typed_tree.specs.declared.trees.TypedState.{TypedState}
use Rattle.typed_tree.specs.declared.trees.TypedTree.{TypedTree}
use Rattle.loop_check.specs.declared.acts.Home.{Home}
use Rattle.loop_check.specs.declared.acts.Home.TheVariants as homes
use Rattle.loop_check.specs.declared.acts.Routine.{Routine}
use Rattle.loop_check.specs.declared.bodies.Body.{Body}
use Rattle.loop_check.specs.declared.bodies.Place.TheVariants as places
use Rattle.loop_check.specs.Acts.{acts_in_block, acts_in_expr, acts_in_value, declared_by}

-- the value of a binding or of a state's change; a condition or a model; the body of a function
abbrev pub body_of_value : TypedValue → List Body
body_of_value value = record { place = places.Value; acts = acts_in_value value } ∷ []

abbrev pub body_of_expr : TypedExpr → List Body
body_of_expr e = record { place = places.Value; acts = acts_in_expr e } ∷ []

abbrev pub body_of_function : Routine → TypedBlock → List Body
body_of_function function block = record { place = places.Run function; acts = acts_in_block block } ∷ []

-- what a declared callback runs; what one that is built in runs may do anything
abbrev pub bodies_of_run : Option Routine → TypedValue → List Body
bodies_of_run None run = []
bodies_of_run (Some callback) run = record { place = places.Run callback; acts = acts_in_value run } ∷ []

-- a handler; what runs for `init` may do anything
abbrev pub bodies_of_what : HandlerOf → TypedValue → List Body
bodies_of_what handler_of.Init run = []
bodies_of_what (handler_of.Callback m) run = bodies_of_run (declared_by m) run

abbrev pub bodies_of_handler : TypedHandler → List Body
bodies_of_handler handler = bodies_of_what handler.event handler.run

-- a state: its condition, and the values of its changes
abbrev pub bodies_of_when : Option TypedExpr → List Body
bodies_of_when None = []
bodies_of_when (Some condition) = body_of_expr condition

abbrev pub bodies_of_change : TypedChange → List Body
bodies_of_change change = body_of_value change.value

abbrev pub bodies_of_state : TypedState → List Body
bodies_of_state state = bodies_of_when state.when ++ flat_map bodies_of_change state.changes

-- an item; what runs for `changed` may do anything
abbrev pub bodies_of_item : Home → TypedItem → List Body
bodies_of_item home (items.Binding binding) = body_of_value binding.value
bodies_of_item home (items.Link link) = []
bodies_of_item home (items.Function function) = body_of_function (record { home = home; number = function.number }) function.body
bodies_of_item home (items.Handler handler) = bodies_of_handler handler
bodies_of_item home (items.Changed changed) = []
bodies_of_item home (items.States states) = flat_map bodies_of_state states.states

-- the condition or the model of a repeated element
abbrev pub bodies_of_rows : RowSource → List Body
bodies_of_rows (row_source.Property m) = []
bodies_of_rows (row_source.Array model) = body_of_expr model
bodies_of_rows (row_source.Count count) = body_of_expr count

abbrev pub bodies_of_repeat : TypedRepeat → List Body
bodies_of_repeat repeats.Once = []
bodies_of_repeat (repeats.If condition span) = body_of_expr condition
bodies_of_repeat (repeats.For for) = bodies_of_rows for.rows

abbrev pub bodies_of_element : Home → TypedElement → List Body
bodies_of_element home element = bodies_of_repeat element.repeat ++ flat_map (bodies_of_item home) element.items

-- a component and a global, by their numbers
abbrev pub component_bodies : ℕ → TypedComponent → List Body
component_bodies n comp = flat_map (bodies_of_element (homes.Component n)) comp.elements

abbrev pub global_bodies : ℕ → TypedGlobal → List Body
global_bodies n global = flat_map (bodies_of_item (homes.Global n)) global.items

-- those of a list that is numbered from n
abbrev pub bodies_from : {A : Type 0} → (ℕ → A → List Body) → ℕ → List A → List Body
bodies_from f n [] = []
bodies_from f n (x ∷ xs) = f n x ++ bodies_from f (suc n) xs

-- a whole source
abbrev pub bodies_in : TypedTree → List Body
bodies_in tree = bodies_from component_bodies 0 tree.comps ++ bodies_from global_bodies 0 tree.globals
