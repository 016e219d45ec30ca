-- The third pass: what is written in the bodies of a source comes to typed forms, or breaks rules.
use Rattle.std.specs.Prelude.{◌≡◌, ◌⊎◌, ℕ, suc, List, [], ◌∷◌, Option, Some, None, Ok, slice_get}
use Rattle.syntax_tree.specs.declared.expressions.Expr.{Expr}
use Rattle.syntax_tree.specs.declared.items.For.{For, out-For}
use Rattle.syntax_tree.specs.declared.items.IfElement.{out-IfElement}
use Rattle.syntax_tree.specs.declared.items.Item.{Item}
use Rattle.syntax_tree.specs.Spans.{expr_span}
use Rattle.typed_tree.specs.declared.outlines.Outline.{Outline}
use Rattle.typed_tree.specs.declared.scopes.RowNames.{RowNames}
use Rattle.typed_tree.specs.declared.scopes.Site.{Site}
use Rattle.typed_tree.specs.declared.scopes.Site.TheVariants as sites
use Rattle.typed_tree.specs.declared.trees.TypedElement.{TypedElement}
use Rattle.typed_tree.specs.declared.trees.TypedFor.{TypedFor}
use Rattle.typed_tree.specs.declared.trees.TypedItem.{TypedItem}
use Rattle.typed_tree.specs.declared.trees.TypedRepeat.{TypedRepeat}
use Rattle.typed_tree.specs.declared.trees.TypedRepeat.TheVariants as repeats
use Rattle.source_elements.specs.Elements.{WrittenElement, HowOften, JustOnce, WhileTrue, EachRow, written_in}
use Rattle.source_scopes.specs.Declarations.{FileComponent, FileGlobal}
use Rattle.item_types.specs.Judging.{Judging, at_once, made, both, each}
use Rattle.item_types.specs.Rows.{row_names}
use Rattle.item_types.specs.Typing.{condition_in, item_in, model_in}
use Rattle.type_resolver.specs.declared.elements.Inside.{Inside}

-- going on with what something comes to
abbrev pub followed : {X Y : Type 0} → Judging X → (X → Judging Y) → Judging Y
followed {X} part go = record {
  comes = λ y. (x : X) × (part.comes x) × (go x).comes y;
  breaks = λ f. part.breaks f ⊎ ((x : X) × (part.comes x) × (go x).breaks f);
}

-- things with their places, counted from n
abbrev pub counted : {A : Type 0} → ℕ → List A → List (ℕ × A)
counted n [] = []
counted n (a ∷ rest) = (n, a) ∷ counted (suc n) rest

-- ---- bodies

abbrev pub somes : {Y : Type 0} → List (Option Y) → List Y
somes [] = []
somes (None ∷ ys) = somes ys
somes (Some y ∷ ys) = y ∷ somes ys

-- the items of a body that come to something, in the order of the text
abbrev pub body : Outline → Site → List RowNames → List Item → Judging (List TypedItem)
body outline here rows items = made (each (item_in outline here rows) items) somes

-- ---- elements

-- an element that is there while a condition holds, and one that is there for each row of a model, which puts its names before the others
abbrev pub while_holds : Outline → Site → Expr → List RowNames → Judging Inside
while_holds outline around condition rows = made (condition_in outline around rows condition) (λ t. record { repeat = repeats.If t (expr_span condition); rows = rows })

abbrev pub in_each_row : ℕ → For → List RowNames → TypedFor → Inside
in_each_row e f rows t = record { repeat = repeats.For t; rows = row_names e f t ∷ rows }

abbrev pub for_each_row : Outline → Site → ℕ → For → List RowNames → Judging Inside
for_each_row outline around e f rows = made (model_in outline around rows (out-For f).model) (in_each_row e f rows)

-- how often the element of a number is there, which stands in a body with these names around
abbrev pub repeated : Outline → Site → ℕ → HowOften → List RowNames → Judging Inside
repeated outline around e JustOnce rows = at_once (Ok (record { repeat = repeats.Once; rows = rows }))
repeated outline around e (WhileTrue i) rows = while_holds outline around (out-IfElement i).condition rows
repeated outline around e (EachRow f) rows = for_each_row outline around e f rows

-- the body around an element; a root element, which is there once, has none
abbrev pub site_around : ℕ → Option ℕ → Site
site_around c None = sites.Element c 0
site_around c (Some p) = sites.Element c p

-- the names of repeaters in the body of an element, or outside of all; there are none where a model or condition around breaks a rule
pub data RowsIn (outline : Outline) (c : ℕ) (ws : List WrittenElement) : Option ℕ → List RowNames → Type 0 where
  outside : RowsIn outline c ws None []
  within : {e : ℕ} {w : WrittenElement} {around : List RowNames} (inside : Inside) → slice_get ws e ≡ Some w → RowsIn outline c ws w.parent around
      → (repeated outline (site_around c w.parent) e w.repeating around).comes inside → RowsIn outline c ws (Some e) inside.rows

abbrev pub rows_in : Outline → ℕ → List WrittenElement → Option ℕ → Judging (List RowNames)
rows_in outline c ws parent = record { comes = RowsIn outline c ws parent; breaks = λ f. ⊥ }

abbrev pub with_items : TypedRepeat → List TypedItem → TypedElement
with_items repeat items = record { repeat = repeat; items = items }

abbrev pub in_body : Outline → ℕ → ℕ → List Item → Inside → Judging TypedElement
in_body outline c e items inside = made (body outline (sites.Element c e) inside.rows items) (with_items inside.repeat)

abbrev pub in_rows : Outline → ℕ → ℕ × WrittenElement → List RowNames → Judging TypedElement
in_rows outline c p around = followed (repeated outline (site_around c p.1.parent) p.0 p.1.repeating around) (in_body outline c p.0 p.1.body)

abbrev pub element : Outline → ℕ → List WrittenElement → ℕ × WrittenElement → Judging TypedElement
element outline c ws p = followed (rows_in outline c ws p.1.parent) (in_rows outline c p)

-- ---- a source

abbrev pub elements : Outline → ℕ → List WrittenElement → Judging (List TypedElement)
elements outline c ws = each (element outline c ws) (counted 0 ws)

abbrev pub component : Outline → ℕ × FileComponent → Judging (List TypedElement)
component outline p = elements outline p.0 (written_in p.1.component)

abbrev pub global : Outline → ℕ × FileGlobal → Judging (List TypedItem)
global outline p = body outline (sites.Global p.0) [] p.1.global.items

abbrev pub bodies : Outline → List FileComponent → List FileGlobal → Judging (List (List TypedElement) × List (List TypedItem))
bodies outline comps globals = both (each (component outline) (counted 0 comps)) (each (global outline) (counted 0 globals))
