-- What a source breaks.
use Rattle.std.proofs.Common.{if◌then◌else◌, ◌≡◌, inl, inr, ℕ, zero, suc, Bool, true, false, List, [], ◌∷◌, map, slice_get, Option, Some, None, Ok, refl, sym, ap, subst}
use Rattle.slint_base.specs.declared.faults.Fault.{Fault}
use Rattle.slint_base.specs.declared.rules.Rule.{Rule}
use Rattle.slint_base.specs.declared.rules.Rule.TheVariants as rules
use Rattle.syntax_tree.specs.declared.items.For.{out-For}
use Rattle.syntax_tree.specs.declared.items.IfElement.{out-IfElement}
use Rattle.syntax_tree.specs.declared.items.Item.{Item}
use Rattle.typed_tree.specs.declared.outlines.Outline.{Outline}
use Rattle.typed_tree.specs.declared.scopes.RowNames.{RowNames}
use Rattle.typed_tree.specs.declared.scopes.Site.{Site}
use Rattle.typed_tree.specs.declared.scopes.Site.TheVariants as sites
use Rattle.typed_tree.specs.declared.trees.TypedTree.{TypedTree}
use Rattle.import_resolver.specs.Loaded.{FileRow}
use Rattle.source_elements.specs.Elements.{WrittenElement, HowOften, JustOnce, WhileTrue, EachRow, written_in}
use Rattle.source_scopes.specs.Declarations.{FileComponent, FileGlobal, components_of, globals_of}
use Rattle.source_outline.specs.declared.followers.Follower.{Follower}
use Rattle.source_outline.specs.Following.{EndlessLink, endless, followers_in, outline}
use Rattle.source_outline.specs.Outlines.{rough_outline}
use Rattle.item_rules.specs.Items.{item_faults}
use Rattle.child_rules.specs.Source.{child_faults}
use Rattle.item_types.specs.Judging.{each}
use Rattle.item_types.specs.Typing.{condition_in, item_in, model_in}
use Rattle.loop_check.specs.Purity.{PurityFault, is_pure, kind_of, rule_at}
use Rattle.loop_check.specs.declared.bodies.Place.{Place}
use Rattle.loop_check.specs.declared.bodies.Place.TheVariants as places
use Rattle.type_resolver.specs.declared.elements.Inside.{Inside}
use Rattle.type_resolver.specs.Bodies.{bodies, body, component, counted, element, global, in_body, in_each_row, in_rows, repeated, rows_in, site_around, somes, with_items}
use Rattle.type_resolver.specs.Resolves.{IsBroken, ItemFault, in_declarations, in_expressions, in_items}
use Rattle.source_faults.proofs.Others.{IsOther, is_missing, other_of}
use Rattle.source_faults.proofs.Results.{fine}
use Rattle.source_faults.proofs.Judgements.{Others, all, known, next, pair, same}
use Rattle.source_faults.proofs.Declaring.{declarations_other}
use Rattle.source_faults.proofs.Bodies.{items_other}
use Rattle.source_faults.proofs.Children.{children_other}
use Rattle.source_faults.proofs.Items.{condition_other, item_other, model_other}

-- ---- the third pass

in_items_of : (o : Outline) (here : Site) (rows : List RowNames) (items : List Item) → Others (body o here rows items)
in_items_of o here rows items = same (each (item_in o here rows) items) somes (all (item_in o here rows) (item_other o here rows) items)

repeats : (o : Outline) (around : Site) (e : ℕ) (how : HowOften) (rows : List RowNames) → Others (repeated o around e how rows)
repeats o around e JustOnce rows = known (Ok _) fine
repeats o around e (WhileTrue i) rows = same (condition_in o around rows (out-IfElement i).condition) _ (condition_other o around rows (out-IfElement i).condition)
repeats o around e (EachRow f) rows = same (model_in o around rows (out-For f).model) (in_each_row e f rows) (model_other o around rows (out-For f).model)

names : (o : Outline) (c : ℕ) (ws : List WrittenElement) (parent : Option ℕ) → Others (rows_in o c ws parent)
names o c ws parent = record { each = λ f b. absurd b }

inside : (o : Outline) (c e : ℕ) (items : List Item) (i : Inside) → Others (in_body o c e items i)
inside o c e items i = same (body o (sites.Element c e) i.rows items) (with_items i.repeat) (in_items_of o (sites.Element c e) i.rows items)

in_names : (o : Outline) (c : ℕ) (p : ℕ × WrittenElement) (around : List RowNames) → Others (in_rows o c p around)
in_names o c p around = next (repeated o (site_around c p.1.parent) p.0 p.1.repeating around) (in_body o c p.0 p.1.body) (repeats o (site_around c p.1.parent) p.0 p.1.repeating around) (inside o c p.0 p.1.body)

in_element : (o : Outline) (c : ℕ) (ws : List WrittenElement) (p : ℕ × WrittenElement) → Others (element o c ws p)
in_element o c ws p = next (rows_in o c ws p.1.parent) (in_rows o c p) (names o c ws p.1.parent) (in_names o c p)

in_component : (o : Outline) (p : ℕ × FileComponent) → Others (component o p)
in_component o p = all (element o p.0 (written_in p.1.component)) (in_element o p.0 (written_in p.1.component)) (counted 0 (written_in p.1.component))

in_global : (o : Outline) (p : ℕ × FileGlobal) → Others (global o p)
in_global o p = in_items_of o (sites.Global p.0) [] p.1.global.items

in_bodies : (o : Outline) (comps : List FileComponent) (globals : List FileGlobal) → Others (bodies o comps globals)
in_bodies o comps globals = pair (each (component o) (counted 0 comps)) (each (global o) (counted 0 globals)) (all (component o) (in_component o) (counted 0 comps)) (all (global o) (in_global o) (counted 0 globals))

-- ---- the second pass

at_place : (xs : List Follower) (n : ℕ) (f : Fault) → slice_get (map endless xs) n ≡ Some f → IsOther f
at_place [] n f e = cc
at_place (x ∷ xs) zero f e = let p : endless x ≡ f = cc in subst IsOther p refl
at_place (x ∷ xs) (suc n) f e = at_place xs n f e

links : (rows : List FileRow) (f : Fault) → EndlessLink rows f → IsOther f
links rows f p = at_place (followers_in (rough_outline rows) rows) p.member f p.told

items : (rows : List FileRow) (f : Fault) → ItemFault rows f → IsOther f
items rows f (inl (inl p)) = other_of (item_faults rows (rough_outline rows)) f (items_other rows (rough_outline rows)) p
items rows f (inl (inr p)) = other_of (child_faults rows (rough_outline rows)) f (children_other rows (rough_outline rows)) p
items rows f (inr p) = links rows f p

-- ---- a source

pub broken_other : (rows : List FileRow) (named : Option (List ℕ)) (f : Fault) → IsBroken rows named f → IsOther f
broken_other rows named f (in_declarations p) = declarations_other rows named f p.has
broken_other rows named f (in_items n p) = items rows f p.has
broken_other rows named f (in_expressions n m p) = (in_bodies (outline rows) (components_of rows) (globals_of rows)).each f p.has

at_impure : (b : Bool) (rule : Rule) → (if b then Some rules.PureCallsImpure else None) ≡ Some rule → is_missing rule ≡ false
at_impure true rule e = let p : rules.PureCallsImpure ≡ rule = cc in sym (ap is_missing p)
at_impure false rule e = cc

at_rule : (tree : TypedTree) (place : Place) (rule : Rule) → rule_at tree place ≡ Some rule → is_missing rule ≡ false
at_rule tree places.Value rule e = let p : rules.ImpureBinding ≡ rule = cc in sym (ap is_missing p)
at_rule tree (places.Run r) rule e = at_impure (is_pure (kind_of tree r)) rule e

pub impure_other : (tree : TypedTree) (f : Fault) → PurityFault tree f → IsOther f
impure_other tree f p = at_rule tree p.body.place f.rule p.rule
