-- The names in a body that have to differ from each other.
use Rattle.std.specs.Prelude.{List, ◌++◌, Option, Some, None}
use Rattle.std.specs.List.{filter_map}
use Rattle.slint_base.specs.declared.faults.Fault.{Fault}
use Rattle.syntax_tree.specs.declared.items.Element.{Element}
use Rattle.syntax_tree.specs.declared.items.For.{For}
use Rattle.syntax_tree.specs.declared.items.IfElement.{IfElement}
use Rattle.syntax_tree.specs.declared.items.Item.{Item, out-Item}
use Rattle.syntax_tree.specs.declared.items.Item.TheOpen.{Item-F}
use Rattle.syntax_tree.specs.declared.items.PropValue.{PropValue}
use Rattle.syntax_tree.specs.declared.items.PropValue.TheVariants as prop_values
use Rattle.syntax_tree.specs.declared.words.Ident.{Ident}
use Rattle.item_rules.specs.declared.names.NameKind.{NameKind}
use Rattle.item_rules.specs.declared.names.NameKind.TheVariants as names
use Rattle.item_rules.specs.Twice.{twice_in}

-- an item, opened
abbrev pub ItemLayer : Type 0
ItemLayer = Item-F Item Element For IfElement

-- the name of the member that an item declares
abbrev pub declared_in : ItemLayer → Option Ident
declared_in (Item-F.Property p) = Some p.name
declared_in (Item-F.Callback c) = Some c.name
declared_in (Item-F.Function f) = Some f.name
declared_in _ = None

abbrev pub declared_name : Item → Option Ident
declared_name item = declared_in (out-Item item)

-- the name that an item binds or links; a property with a value binds its own
abbrev pub if_bound : Ident → PropValue → Option Ident
if_bound name (prop_values.Value value) = Some name
if_bound name _ = None

abbrev pub bound_in : ItemLayer → Option Ident
bound_in (Item-F.Property p) = if_bound p.name p.value
bound_in (Item-F.Binding b) = Some b.name
bound_in (Item-F.Link l) = Some l.left
bound_in _ = None

abbrev pub bound_name : Item → Option Ident
bound_name item = bound_in (out-Item item)

-- the name of what an item handles
abbrev pub handled_in : ItemLayer → Option Ident
handled_in (Item-F.Handler h) = Some h.name
handled_in _ = None

abbrev pub handled_name : Item → Option Ident
handled_name item = handled_in (out-Item item)

-- the name of what an item watches
abbrev pub watched_in : ItemLayer → Option Ident
watched_in (Item-F.Changed c) = Some c.name
watched_in _ = None

abbrev pub watched_name : Item → Option Ident
watched_name item = watched_in (out-Item item)

-- the names of a kind
abbrev pub name_by : NameKind → Item → Option Ident
name_by names.Declared item = declared_name item
name_by names.Bound item = bound_name item
name_by names.Handled item = handled_name item
name_by names.Watched item = watched_name item

-- names of a body that are declared, bound or linked, handled, or watched twice
abbrev pub made_faults : List Item → List Fault
made_faults items = twice_in (filter_map (name_by names.Declared) items) ++ twice_in (filter_map (name_by names.Bound) items)

abbrev pub heard_faults : List Item → List Fault
heard_faults items = twice_in (filter_map (name_by names.Handled) items) ++ twice_in (filter_map (name_by names.Watched) items)

abbrev pub names_faults : List Item → List Fault
names_faults items = made_faults items ++ heard_faults items
