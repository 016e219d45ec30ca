-- What the items of a body can read or call, and the models and conditions of repeated elements.
use Rattle.std.specs.Prelude.{[], ◌∷◌, ◌++◌}
use Rattle.std.specs.List.{flat_map}
use Rattle.typed_tree.specs.declared.trees.RowSource.{RowSource}
use Rattle.typed_tree.specs.declared.trees.RowSource.TheVariants as sources
use Rattle.typed_tree.specs.declared.trees.TypedChange.{TypedChange}
use Rattle.typed_tree.specs.declared.trees.TypedItem.{TypedItem}
use Rattle.typed_tree.specs.declared.trees.TypedItem.TheVariants as items
use Rattle.typed_tree.specs.declared.trees.TypedRepeat.{TypedRepeat}
use Rattle.typed_tree.specs.declared.trees.TypedRepeat.TheVariants as repeats
use Rattle.typed_tree.specs.declared.trees.TypedState.{TypedState}
use Rattle.expr_reads.specs.declared.names.Named.TheVariants as names
use Rattle.expr_reads.specs.Names.{Names, named, named_block, named_optional, named_value}

-- a state's condition
abbrev pub named_when : TypedState → Names
named_when state = named_optional state.when

-- the value that a property has in a state
abbrev pub named_change : TypedChange → Names
named_change change = named_value change.value

-- a state: its condition, and its changes behind it
abbrev pub named_state : TypedState → Names
named_state state = named_when state ++ flat_map named_change state.changes

-- where rows come from
abbrev pub named_rows : RowSource → Names
named_rows (sources.Property m) = names.Property m ∷ []
named_rows (sources.Array e) = named e
named_rows (sources.Count e) = named e

-- how often an element is there
abbrev pub named_repeat : TypedRepeat → Names
named_repeat repeats.Once = []
named_repeat (repeats.If condition span) = named condition
named_repeat (repeats.For model) = named_rows model.rows

-- an item of a body; a link joins two members, and reads neither
abbrev pub named_item : TypedItem → Names
named_item (items.Binding binding) = named_value binding.value
named_item (items.Link link) = []
named_item (items.Function function) = named_block function.body
named_item (items.Handler handler) = named_value handler.run
named_item (items.Changed changed) = named_value changed.run
named_item (items.States list) = flat_map named_state list.states
