-- Something is told of each body: what it comes to, or a first fault.
use Rattle.std.proofs.Common.{◌≡◌, ℕ, zero, suc, ◌+◌, ◌<◌, List, [], ◌∷◌, ◌++◌, Option, Some, None, Result, Ok, Err, length, take, refl, sym, ap, ◌∙◌, subst, arith}
use Rattle.std.specs.Prelude.{slice_get}
use Rattle.std.proofs.lemmas.List.{take_all}
use Rattle.slint_base.specs.declared.faults.Fault.{Fault}
use Rattle.syntax_tree.specs.declared.expressions.Expr.{Expr}
use Rattle.syntax_tree.specs.declared.items.Item.{Item}
use Rattle.syntax_tree.specs.declared.items.For.{out-For}
use Rattle.syntax_tree.specs.declared.items.IfElement.{out-IfElement}
use Rattle.typed_tree.specs.declared.outlines.Outline.{Outline}
use Rattle.typed_tree.specs.declared.scopes.RowNames.{RowNames}
use Rattle.typed_tree.specs.declared.scopes.Site.{Site}
use Rattle.typed_tree.specs.declared.scopes.Site.TheVariants as sites
use Rattle.typed_tree.specs.declared.trees.TypedElement.{TypedElement}
use Rattle.typed_tree.specs.declared.trees.TypedRepeat.TheVariants as repeats
use Rattle.fault_order.specs.Order.{IsFirst}
use Rattle.source_elements.specs.Elements.{WrittenElement, HowOften, JustOnce, WhileTrue, EachRow, written_in}
use Rattle.source_scopes.specs.Declarations.{FileComponent, FileGlobal}
use Rattle.item_types.specs.Judging.{Judging, Tells, something, fault, Told, told, each}
use Rattle.item_types.specs.Typing.{condition_in, item_in, model_in}
use Rattle.item_types.proofs.Telling.{Sound, at_once_some, both_some, each_some, each_sound, owned_some}
use Rattle.type_resolver.specs.declared.elements.Inside.{Inside}
use Rattle.type_resolver.specs.Bodies.{RowsIn, bodies, body, component, counted, element, elements, global, in_body, in_each_row, repeated, site_around, somes, with_items}
use Rattle.type_resolver.specs.Walking.{ElementTold, IsErr, Stands, Walked, failed, rows_at, seen_with, skipped, went}
use Rattle.type_resolver.proofs.Sounding.{Parts, body_sound, component_sound, global_sound}
use Rattle.type_resolver.proofs.Walking.{around_stands, skipped_broken, walked_all, walked_more, walked_none}

-- something is told of items, conditions and models
pub record PartsTold : Type 0 where
  pub items : (o : Outline) (here : Site) (rows : List RowNames) (x : Item) → Told (item_in o here rows x)
  pub conditions : (o : Outline) (here : Site) (rows : List RowNames) (e : Expr) → Told (condition_in o here rows e)
  pub models : (o : Outline) (here : Site) (rows : List RowNames) (e : Expr) → Told (model_in o here rows e)

module _ (known : Parts) (given : PartsTold) (o : Outline) where
  body_told : (here : Site) (rows : List RowNames) (items : List Item) → Told (body o here rows items)
  body_told here rows items = owned_some _ (λ xs. Ok (somes xs)) (each_sound (item_in o here rows) (known.items o here rows) items) (each_some (item_in o here rows) (known.items o here rows) (given.items o here rows) items)

  in_body_told : (c e : ℕ) (items : List Item) (inside : Inside) → Told (in_body o c e items inside)
  in_body_told c e items inside = owned_some (body o (sites.Element c e) inside.rows items) (λ x. Ok (with_items inside.repeat x)) (body_sound known o (sites.Element c e) inside.rows items) (body_told (sites.Element c e) inside.rows items)

  repeated_told : (around : Site) (e : ℕ) (often : HowOften) (rows : List RowNames) → Told (repeated o around e often rows)
  repeated_told around e JustOnce rows = at_once_some (Ok (record { repeat = repeats.Once; rows = rows }))
  repeated_told around e (WhileTrue i) rows = owned_some _ _ (known.conditions o around rows (out-IfElement i).condition) (given.conditions o around rows (out-IfElement i).condition)
  repeated_told around e (EachRow f) rows = owned_some _ (λ t. Ok (in_each_row e f rows t)) (known.models o around rows (out-For f).model) (given.models o around rows (out-For f).model)

  module _ (c : ℕ) (ws : List WrittenElement) (parents : (e p : ℕ) (w : WrittenElement) → slice_get ws e ≡ Some w → w.parent ≡ Some p → p < e) where
    -- what is told of an element
    record Looked (n : ℕ) (w : WrittenElement) (around : Option (List RowNames)) : Type 0 where
      told : Option (Result TypedElement Fault)
      rows : Option (List RowNames)
      is : ElementTold o c ws (n, w) told rows
      looked : told ≡ None → around ≡ None

    looked_in : (n : ℕ) (w : WrittenElement) (around : List RowNames) (inside : Inside) → RowsIn o c ws w.parent around → (repeated o (site_around c w.parent) n w.repeating around).comes inside
        → Told (in_body o c n w.body inside) → Looked n w (Some around)
    looked_in n w around inside a b (told {v} t) = record { told = Some v; rows = Some inside.rows; is = went a b t; looked = λ e. absurd (let h = e in cc) }

    looked_by : (n : ℕ) (w : WrittenElement) (around : List RowNames) → RowsIn o c ws w.parent around → {v : Result Inside Fault} → Tells (repeated o (site_around c w.parent) n w.repeating around) v → Looked n w (Some around)
    looked_by n w around a (something {x = inside} b) = looked_in n w around inside a b (in_body_told c n w.body inside)
    looked_by n w around a (fault {f} q) = record { told = Some (Err f); rows = None; is = failed a q; looked = λ e. absurd (let h = e in cc) }

    looked_around : (n : ℕ) (w : WrittenElement) (around : List RowNames) → RowsIn o c ws w.parent around → Told (repeated o (site_around c w.parent) n w.repeating around) → Looked n w (Some around)
    looked_around n w around a (told t) = looked_by n w around a t

    look : (n : ℕ) (w : WrittenElement) (around : Option (List RowNames)) → Stands o c ws w.parent around → Looked n w around
    look n w None s = record { told = None; rows = None; is = skipped s; looked = λ e. refl }
    look n w (Some around) s = looked_around n w around s (repeated_told (site_around c w.parent) n w.repeating around)

    record Walk (n : ℕ) : Type 0 where
      seen : Result (List TypedElement) Fault
      rows : List (Option (List RowNames))
      is : Walked o c ws n seen rows

    walk_on : (n : ℕ) (w : WrittenElement) → slice_get ws n ≡ Some w → Walk n → Walk (suc n)
    walk_on n w at walk =
        let less : (k : ℕ) → w.parent ≡ Some k → k < n = λ k e. parents n k w at e in
        let looked = look n w (rows_at walk.rows w.parent) (around_stands known o c ws n walk.seen walk.rows walk.is w.parent less) in
        record {
          seen = seen_with walk.seen looked.told;
          rows = walk.rows ++ looked.rows ∷ [];
          is = walked_more known o c ws n w walk.seen walk.rows looked.told looked.rows at walk.is looked.is
              (λ e. skipped_broken known o c ws n walk.seen walk.rows walk.is w.parent less (looked.looked e));
        }

    at_or : (n : ℕ) (found : Option WrittenElement) → slice_get ws n ≡ found → n < length ws → Walk n → Walk (suc n)
    at_or n None e l walk = absurd (there ws n e l)
      where
        there : {X : Type 0} (xs : List X) (k : ℕ) → slice_get xs k ≡ None → k < length xs → ⊥
        there [] k h l = omega (arith, l)
        there (x ∷ xs) zero h l = cc
        there (x ∷ xs) (suc k) h l = there xs k h (omega (arith, l))
    at_or n (Some w) e l walk = walk_on n w e walk

    walks : (n : ℕ) → n < length ws + 1 → Walk n
    walks zero l = record { seen = Ok []; rows = []; is = walked_none known o c ws }
    walks (suc n) l = at_or n (slice_get ws n) refl (omega (arith, l)) (walks n (omega (arith, l)))

    pub elements_told : Told (elements o c ws)
    elements_told =
        let walk = walks (length ws) (omega arith) in
        told (walked_all known o c ws (length ws) walk.seen walk.rows (take_all (length ws) ws (omega arith)) walk.is)

  module _ (parents : (c : _) (e p : ℕ) (w : WrittenElement) → slice_get (written_in c) e ≡ Some w → w.parent ≡ Some p → p < e) where
    component_told : (p : ℕ × FileComponent) → Told (component o p)
    component_told p = elements_told p.0 (written_in p.1.component) (parents p.1.component)

    global_told : (p : ℕ × FileGlobal) → Told (global o p)
    global_told p = body_told (sites.Global p.0) [] p.1.global.items

    pub bodies_told : (comps : List FileComponent) (globals : List FileGlobal) → Told (bodies o comps globals)
    bodies_told comps globals =
        both_some _ _ (each_sound (component o) (component_sound known o) (counted 0 comps)) (each_sound (global o) (global_sound known o) (counted 0 globals))
        (each_some (component o) (component_sound known o) component_told (counted 0 comps)) (each_some (global o) (global_sound known o) global_told (counted 0 globals))
