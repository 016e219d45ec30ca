-- A source whose names are looked up and whose expressions have types, or the first fault of the first pass in which anything is broken.
use Rattle.std.specs.Prelude.{◌≡◌, ◌⊎◌, ℕ, List, [], ◌∷◌, Option, Some, None, Result, Ok, Err, Contains}
use Rattle.slint_base.specs.declared.faults.Fault.{Fault}
use Rattle.slint_base.specs.declared.endings.End.{End}
use Rattle.slint_base.specs.declared.endings.End.TheVariants as ends
use Rattle.import_resolver.specs.Loaded.{FileRow}
use Rattle.typed_tree.specs.declared.outlines.ComponentOutline.{ComponentOutline}
use Rattle.typed_tree.specs.declared.outlines.GlobalOutline.{GlobalOutline}
use Rattle.typed_tree.specs.declared.outlines.Outline.{Outline}
use Rattle.typed_tree.specs.declared.trees.TypedComponent.{TypedComponent}
use Rattle.typed_tree.specs.declared.trees.TypedElement.{TypedElement}
use Rattle.typed_tree.specs.declared.trees.TypedGlobal.{TypedGlobal}
use Rattle.typed_tree.specs.declared.trees.TypedItem.{TypedItem}
use Rattle.typed_tree.specs.declared.trees.TypedTree.{TypedTree}
use Rattle.fault_order.specs.Order.{IsFirst, NoFault, earlier_fault}
use Rattle.source_scopes.specs.Declarations.{components_of, globals_of}
use Rattle.source_scopes.specs.Names.{root_component}
use Rattle.declaration_rules.specs.Declarations.{DeclarationFault}
use Rattle.source_outline.specs.declared.sketching.Sketch.{Sketch}
use Rattle.source_outline.specs.declared.sketching.Sketch.TheVariants as sketches
use Rattle.source_outline.specs.Outlines.{rough_outline}
use Rattle.source_outline.specs.Following.{outline, EndlessLink}
use Rattle.item_rules.specs.Items.{item_faults}
use Rattle.child_rules.specs.Source.{child_faults}
use Rattle.item_types.specs.Judging.{Judging}
use Rattle.type_resolver.specs.Bodies.{bodies}

-- the second pass: faults in bodies, and links of properties that leave their types out which lead in a circle
abbrev pub BodyFault : List FileRow → Fault → Type 0
BodyFault rows f = Contains (item_faults rows (rough_outline rows)) f ⊎ Contains (child_faults rows (rough_outline rows)) f

abbrev pub ItemFault : List FileRow → Fault → Type 0
ItemFault rows f = BodyFault rows f ⊎ EndlessLink rows f

-- the outline of a source in which the second pass finds nothing, or the first fault that it finds
abbrev pub SecondPass : List FileRow → Result Outline Fault → Type 0
SecondPass rows (Ok o) = (o ≡ outline rows) × NoFault (ItemFault rows)
SecondPass rows (Err f) = IsFirst (ItemFault rows) f

-- what it comes to, by the first fault in bodies, if there is one, and by what the source is sketched as
abbrev pub passed : Option Fault → Sketch → Result Outline Fault
passed None (sketches.Whole o) = Ok o
passed None (sketches.Endless g) = Err g
passed (Some f) (sketches.Whole o) = Err f
passed (Some f) (sketches.Endless g) = Err (earlier_fault f g)

-- the third pass
abbrev pub source : List FileRow → Judging (List (List TypedElement) × List (List TypedItem))
source rows = bodies (outline rows) (components_of rows) (globals_of rows)

-- components and globals with what is written in them
abbrev pub with_elements : List ComponentOutline → List (List TypedElement) → List TypedComponent
with_elements (comp ∷ comps) (elements ∷ rest) = record { outline = comp; elements = elements } ∷ with_elements comps rest
with_elements _ _ = []

abbrev pub with_bodies : List GlobalOutline → List (List TypedItem) → List TypedGlobal
with_bodies (global ∷ globals) (items ∷ rest) = record { outline = global; items = items } ∷ with_bodies globals rest
with_bodies _ _ = []

abbrev pub tree_of : Outline → ℕ → List (List TypedElement) × List (List TypedItem) → TypedTree
tree_of o root p = record { comps = with_elements o.comps p.0; globals = with_bodies o.globals p.1; enums = o.enums; root = root }

-- a source in which nothing is broken, and its tree
pub record IsResolved (rows : List FileRow) (named : Option (List ℕ)) (tree : TypedTree) : Type 0 where
  pub declared : NoFault (DeclarationFault rows named)
  pub sound : NoFault (ItemFault rows)
  pub root : ℕ
  pub rooted : root_component rows named ≡ Some root
  pub typed : List (List TypedElement) × List (List TypedItem)
  pub comes : (source rows).comes typed
  pub is : tree ≡ tree_of (outline rows) root typed

-- the fault that is told: the first one of the first pass that has one
pub data IsBroken (rows : List FileRow) (named : Option (List ℕ)) (f : Fault) : Type 0 where
  in_declarations : IsFirst (DeclarationFault rows named) f → IsBroken rows named f
  in_items : NoFault (DeclarationFault rows named) → IsFirst (ItemFault rows) f → IsBroken rows named f
  in_expressions : NoFault (DeclarationFault rows named) → NoFault (ItemFault rows) → IsFirst (source rows).breaks f → IsBroken rows named f

-- the tree, or the fault, unless memory ran out
abbrev pub Resolves : List FileRow → Option (List ℕ) → Result TypedTree (End Fault) → Type 0
Resolves rows named (Ok tree) = IsResolved rows named tree
Resolves rows named (Err (ends.Fault f)) = IsBroken rows named f
Resolves rows named (Err ends.Memory) = Unit {0}

-- a source has a tree, or a fault is told
pub data SomeResolution (rows : List FileRow) (named : Option (List ℕ)) : Type 0 where
  resolved : {tree : TypedTree} → IsResolved rows named tree → SomeResolution rows named
  broken : {f : Fault} → IsBroken rows named f → SomeResolution rows named
