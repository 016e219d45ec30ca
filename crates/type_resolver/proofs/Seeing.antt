-- The items of a body, one after the other.
use Rattle.std.proofs.Common.{◌≡◌, ℕ, ◌+◌, ◌<◌, List, [], ◌∷◌, ◌++◌, Option, Some, None, Result, Ok, Err, length, take, get_or, refl, sym, ap, ◌∙◌, subst}
use Rattle.std.proofs.lemmas.List.{take_more}
use Rattle.slint_base.specs.declared.faults.Fault.{Fault}
use Rattle.syntax_tree.specs.declared.items.Item.{Item}
use Rattle.typed_tree.specs.declared.outlines.Outline.{Outline}
use Rattle.typed_tree.specs.declared.scopes.RowNames.{RowNames}
use Rattle.typed_tree.specs.declared.scopes.Site.{Site}
use Rattle.typed_tree.specs.declared.trees.TypedItem.{TypedItem}
use Rattle.item_types.specs.Judging.{Judging, Tells, added, each}
use Rattle.item_types.specs.Typing.{item_in}
use Rattle.item_types.proofs.Telling.{Sound, each_more, each_none, each_sound, made_told, then_own}
use Rattle.type_resolver.specs.Bodies.{body, somes}
use Rattle.type_resolver.specs.Seen.{with_item, without_none}
use Rattle.type_resolver.proofs.Sounding.{Parts}

somes-append : (xs : List (Option TypedItem)) (x : TypedItem) → somes (xs ++ Some x ∷ []) ≡ somes xs ++ x ∷ []
somes-append [] x = refl
somes-append (None ∷ xs) x = somes-append xs x
somes-append (Some y ∷ xs) x = ap (λ zs. y ∷ zs) (somes-append xs x)

somes-none : (xs : List (Option TypedItem)) → somes (xs ++ None ∷ []) ≡ somes xs
somes-none [] = refl
somes-none (None ∷ xs) = somes-none xs
somes-none (Some y ∷ xs) = ap (λ zs. y ∷ zs) (somes-none xs)

-- of one more item
more_items : (seen : Result (List (Option TypedItem)) Fault) (v : Result (Option TypedItem) Fault) → with_item (without_none seen) v ≡ without_none (added seen v)
more_items (Ok xs) (Ok None) = ap Ok (sym (somes-none xs))
more_items (Ok xs) (Ok (Some x)) = ap Ok (sym (somes-append xs x))
more_items (Ok xs) (Err g) = refl
more_items (Err f) (Ok x) = refl
more_items (Err f) (Err g) = refl

-- what is told of the first items of a body
pub record SeenItems (o : Outline) (here : Site) (rows : List RowNames) (items : List Item) (now : Result (List TypedItem) Fault) : Type 0 where
  pub seen : Result (List (Option TypedItem)) Fault
  pub told : Tells (each (item_in o here rows) items) seen
  pub is : now ≡ without_none seen

pub seen_none : (o : Outline) (here : Site) (rows : List RowNames) (none : List TypedItem) → none ≡ [] → SeenItems o here rows [] (Ok none)
seen_none o here rows none e = record { seen = Ok []; told = each_none (item_in o here rows); is = ap Ok e }

module _ (known : Parts) (o : Outline) (here : Site) (rows : List RowNames) where
  seen_more : (items : List Item) (item : Item) (old new : Result (List TypedItem) Fault) (v : Result (Option TypedItem) Fault) → SeenItems o here rows items old → Tells (item_in o here rows item) v → new ≡ with_item old v
      → SeenItems o here rows (items ++ item ∷ []) new
  seen_more items item old new v s t e = record {
    seen = added s.seen v;
    told = each_more (item_in o here rows) (known.items o here rows) items item s.told t;
    is = e ∙ (ap (λ x. with_item x v) s.is ∙ more_items s.seen v);
  }

  pub seen_next : (items : List Item) (at : ℕ) (item : Item) (old new : Result (List TypedItem) Fault) (v : Result (Option TypedItem) Fault) → at < length items → item ≡ get_or items at item
      → SeenItems o here rows (take at items) old → Tells (item_in o here rows item) v → new ≡ with_item old v → SeenItems o here rows (take (at + 1) items) new
  seen_next items at item old new v within is s t e =
      let next : take (at + 1) items ≡ take at items ++ item ∷ [] = take_more items at item within ∙ ap (λ (i : Item). take at items ++ i ∷ []) (sym is) in
      let P : List Item → Type 0 = λ its. SeenItems o here rows its new in
      subst P (sym next) (seen_more (take at items) item old new v s t e)

  own_none : (seen : Result (List (Option TypedItem)) Fault) → then_own seen (λ xs. Ok (somes xs)) ≡ without_none seen
  own_none (Ok xs) = refl
  own_none (Err f) = refl

  pub seen_all : (items its : List Item) (now : Result (List TypedItem) Fault) → its ≡ items → SeenItems o here rows its now → Tells (body o here rows items) now
  seen_all items its now same s =
      let P : List Item → Type 0 = λ z. SeenItems o here rows z now in
      by (subst P same s)
    where
      by : SeenItems o here rows items now → Tells (body o here rows items) now
      by t =
          let Q : Result (List TypedItem) Fault → Type 0 = λ z. Tells (body o here rows items) z in
          subst Q (own_none t.seen ∙ sym t.is) (made_told (each (item_in o here rows) items) somes (each_sound (item_in o here rows) (known.items o here rows) items) t.told)
