-- What is written in bodies comes to one thing at most, and not where it breaks a rule.
use Rattle.std.proofs.Common.{◌≡◌, ℕ, List, [], ◌∷◌, Option, Some, None, Ok, refl, sym, subst}
use Rattle.std.specs.Prelude.{slice_get}
use Rattle.slint_base.specs.declared.faults.Fault.{Fault}
use Rattle.syntax_tree.specs.declared.expressions.Expr.{Expr}
use Rattle.syntax_tree.specs.declared.items.Item.{Item}
use Rattle.syntax_tree.specs.declared.items.For.{out-For}
use Rattle.syntax_tree.specs.declared.items.IfElement.{out-IfElement}
use Rattle.typed_tree.specs.declared.expressions.TypedExpr.{TypedExpr}
use Rattle.typed_tree.specs.declared.outlines.Outline.{Outline}
use Rattle.typed_tree.specs.declared.scopes.RowNames.{RowNames}
use Rattle.typed_tree.specs.declared.scopes.Site.{Site}
use Rattle.typed_tree.specs.declared.scopes.Site.TheVariants as sites
use Rattle.typed_tree.specs.declared.trees.TypedFor.{TypedFor}
use Rattle.typed_tree.specs.declared.trees.TypedItem.{TypedItem}
use Rattle.typed_tree.specs.declared.trees.TypedRepeat.TheVariants as repeats
use Rattle.source_elements.specs.Elements.{WrittenElement, HowOften, JustOnce, WhileTrue, EachRow, written_in}
use Rattle.source_scopes.specs.Declarations.{FileComponent, FileGlobal}
use Rattle.item_types.specs.Judging.{Judging}
use Rattle.item_types.specs.Rows.{row_names}
use Rattle.item_types.specs.Typing.{BreaksCondition, BreaksItem, BreaksModel, TypesCondition, TypesItem, TypesModel, condition_in, item_in, model_in}
use Rattle.item_types.proofs.Telling.{Sound, at_once_sound, both_sound, each_sound, made_sound}
use Rattle.type_resolver.specs.declared.elements.Inside.{Inside}
use Rattle.type_resolver.specs.Bodies.{RowsIn, outside, within, bodies, body, component, counted, element, elements, global, in_body, in_rows, repeated, rows_in, site_around, somes, with_items}
use Rattle.type_resolver.proofs.Following.{followed_sound}

-- what is known of items, conditions and models
pub record Parts : Type 0 where
  pub items : (o : Outline) (here : Site) (rows : List RowNames) (x : Item) → Sound (item_in o here rows x)
  pub conditions : (o : Outline) (here : Site) (rows : List RowNames) (e : Expr) → Sound (condition_in o here rows e)
  pub models : (o : Outline) (here : Site) (rows : List RowNames) (e : Expr) → Sound (model_in o here rows e)

-- by the laws of items, conditions and models
pub parts_of : ((o : Outline) (here : Site) (rows : List RowNames) (item : Item) (x y : Option TypedItem) → TypesItem o here rows item x → TypesItem o here rows item y → x ≡ y)
    → ((o : Outline) (here : Site) (rows : List RowNames) (item : Item) (x : Option TypedItem) (f : Fault) → TypesItem o here rows item x → BreaksItem o here rows item f → ⊥)
    → ((o : Outline) (here : Site) (rows : List RowNames) (e : Expr) (x y : TypedExpr) → TypesCondition o here rows e x → TypesCondition o here rows e y → x ≡ y)
    → ((o : Outline) (here : Site) (rows : List RowNames) (e : Expr) (x : TypedExpr) (f : Fault) → TypesCondition o here rows e x → BreaksCondition o here rows e f → ⊥)
    → ((o : Outline) (here : Site) (rows : List RowNames) (e : Expr) (x y : TypedFor) → TypesModel o here rows e x → TypesModel o here rows e y → x ≡ y)
    → ((o : Outline) (here : Site) (rows : List RowNames) (e : Expr) (x : TypedFor) (f : Fault) → TypesModel o here rows e x → BreaksModel o here rows e f → ⊥)
    → Parts
parts_of a b c d e f = record {
  items = λ o here rows x. record { one = a o here rows x; apart = b o here rows x };
  conditions = λ o here rows x. record { one = c o here rows x; apart = d o here rows x };
  models = λ o here rows x. record { one = e o here rows x; apart = f o here rows x };
}

module _ (known : Parts) (o : Outline) where
  pub body_sound : (here : Site) (rows : List RowNames) (items : List Item) → Sound (body o here rows items)
  body_sound here rows items = made_sound _ somes (each_sound (item_in o here rows) (known.items o here rows) items)

  pub repeated_sound : (around : Site) (e : ℕ) (often : HowOften) (rows : List RowNames) → Sound (repeated o around e often rows)
  repeated_sound around e JustOnce rows = at_once_sound (Ok (record { repeat = repeats.Once; rows = rows }))
  repeated_sound around e (WhileTrue i) rows = made_sound _ _ (known.conditions o around rows (out-IfElement i).condition)
  repeated_sound around e (EachRow f) rows = made_sound _ _ (known.models o around rows (out-For f).model)

  same_written : (ws : List WrittenElement) (e : ℕ) (w v : WrittenElement) → slice_get ws e ≡ Some w → slice_get ws e ≡ Some v → v ≡ w
  same_written ws e w v a b = cc

  same_inside : (c e : ℕ) (w : WrittenElement) (around other : List RowNames) (i j : Inside) → other ≡ around → (repeated o (site_around c w.parent) e w.repeating around).comes i
      → (repeated o (site_around c w.parent) e w.repeating other).comes j → i.rows ≡ j.rows
  same_inside c e w around other i j same a b =
      let P : List RowNames → Type 0 = λ r. (repeated o (site_around c w.parent) e w.repeating r).comes j in
      let one : i ≡ j = (repeated_sound (site_around c w.parent) e w.repeating around).one i j a (subst P same b) in cc

  pub one_rows : (c : ℕ) (ws : List WrittenElement) {p : Option ℕ} {r q : List RowNames} → RowsIn o c ws p r → RowsIn o c ws p q → r ≡ q
  one_rows c ws outside outside = refl
  one_rows c ws (within {e} {w} {around} i stands on comes) (within {w = v} {around = other} j stands2 on2 comes2) =
      let same : v ≡ w = same_written ws e w v stands stands2 in
      let P : WrittenElement → Type 0 = λ u. RowsIn o c ws u.parent other in
      let Q : WrittenElement → Type 0 = λ u. (repeated o (site_around c u.parent) e u.repeating other).comes j in
      let rows : around ≡ other = one_rows c ws on (subst P same on2) in
      same_inside c e w around other i j (sym rows) comes (subst Q same comes2)

  pub rows_sound : (c : ℕ) (ws : List WrittenElement) (p : Option ℕ) → Sound (rows_in o c ws p)
  rows_sound c ws p = record { one = λ r q a b. one_rows c ws a b; apart = λ r f a b. b }

  pub in_body_sound : (c e : ℕ) (items : List Item) (inside : Inside) → Sound (in_body o c e items inside)
  in_body_sound c e items inside = made_sound (body o (sites.Element c e) inside.rows items) (with_items inside.repeat) (body_sound (sites.Element c e) inside.rows items)

  pub in_rows_sound : (c : ℕ) (p : ℕ × WrittenElement) (around : List RowNames) → Sound (in_rows o c p around)
  in_rows_sound c p around = followed_sound (repeated o (site_around c p.1.parent) p.0 p.1.repeating around) (in_body o c p.0 p.1.body) (repeated_sound (site_around c p.1.parent) p.0 p.1.repeating around) (in_body_sound c p.0 p.1.body)

  pub element_sound : (c : ℕ) (ws : List WrittenElement) (p : ℕ × WrittenElement) → Sound (element o c ws p)
  element_sound c ws p = followed_sound (rows_in o c ws p.1.parent) (in_rows o c p) (rows_sound c ws p.1.parent) (in_rows_sound c p)

  pub elements_sound : (c : ℕ) (ws : List WrittenElement) → Sound (elements o c ws)
  elements_sound c ws = each_sound (element o c ws) (element_sound c ws) (counted 0 ws)

  pub component_sound : (p : ℕ × FileComponent) → Sound (component o p)
  component_sound p = elements_sound p.0 (written_in p.1.component)

  pub global_sound : (p : ℕ × FileGlobal) → Sound (global o p)
  global_sound p = body_sound (sites.Global p.0) [] p.1.global.items

  pub bodies_sound : (comps : List FileComponent) (globals : List FileGlobal) → Sound (bodies o comps globals)
  bodies_sound comps globals = both_sound _ _ (each_sound (component o) component_sound (counted 0 comps)) (each_sound (global o) global_sound (counted 0 globals))
