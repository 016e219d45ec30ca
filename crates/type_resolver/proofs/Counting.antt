-- Things with their places, one after the other.
use Rattle.std.proofs.Common.{◌≡◌, ℕ, zero, suc, ◌+◌, ◌<◌, ◌≤◌, List, [], ◌∷◌, ◌++◌, Option, Some, None, Result, Ok, Err, length, take, map, get_or, refl, sym, ap, ◌∙◌, subst, arith}
use Rattle.std.specs.Prelude.{slice_get}
use Rattle.std.specs.Option.{option_map}
use Rattle.std.proofs.lemmas.List.{length-map, take_all}
use Rattle.std.proofs.lemmas.Option.{slice_get-get_or, slice_get-map}
use Rattle.slint_base.specs.declared.faults.Fault.{Fault}
use Rattle.syntax_tree.specs.declared.items.Item.{Item}
use Rattle.typed_tree.specs.declared.outlines.Outline.{Outline}
use Rattle.typed_tree.specs.declared.scopes.Site.TheVariants as sites
use Rattle.typed_tree.specs.declared.trees.TypedElement.{TypedElement}
use Rattle.typed_tree.specs.declared.trees.TypedItem.{TypedItem}
use Rattle.source_scopes.specs.Declarations.{FileComponent, FileGlobal}
use Rattle.item_types.specs.Judging.{Judging, Tells, added, both_told, each}
use Rattle.item_types.proofs.Telling.{Sound, both_of, each_more, each_none, each_sound, told_at}
use Rattle.type_resolver.specs.Bodies.{bodies, body, component, counted, global}
use Rattle.type_resolver.proofs.Sounding.{Parts, component_sound, global_sound}
use Rattle.type_resolver.proofs.Walking.{counted_at}

module _ {A B X : Type 0} (f : A → B) (part : ℕ × B → Judging X) (sound : (p : ℕ × B) → Sound (part p)) where
  pub each_first : (xs : List A) (none : List X) → none ≡ [] → Tells (each part (counted 0 (take 0 (map f xs)))) (Ok none)
  each_first xs none e = let P : List X → Type 0 = λ z. Tells (each part []) (Ok z) in subst P (sym e) (each_none part)

  pub each_next : (xs : List A) (n : ℕ) (x : A) {seen new : Result (List X) Fault} {v : Result X Fault} → n < length xs → x ≡ get_or xs n x → Tells (each part (counted 0 (take n (map f xs)))) seen → Tells (part (n, f x)) v → new ≡ added seen v
      → Tells (each part (counted 0 (take (n + 1) (map f xs)))) new
  each_next xs n x {seen} {new} {v} inner is s t e =
      let here : slice_get (map f xs) n ≡ Some (f x) = slice_get-map f xs n ∙ ap (option_map f) (slice_get-get_or xs n x inner ∙ ap Some (sym is)) in
      let P : List (ℕ × B) → Type 0 = λ parts. Tells (each part parts) (added seen v) in
      let Q : ℕ → Type 0 = λ k. Tells (each part (counted 0 (take k (map f xs)))) new in
      let R : Result (List X) Fault → Type 0 = λ z. Tells (each part (counted 0 (take (suc n) (map f xs)))) z in
      subst Q (plain n) (subst R (sym e) (subst P (sym (counted_at (map f xs) n (f x) here)) (each_more part sound (counted 0 (take n (map f xs))) (n, f x) s t)))
    where
      plain : (k : ℕ) → suc k ≡ k + 1
      plain k = omega arith

  pub each_all : (xs : List A) (n : ℕ) {seen : Result (List X) Fault} → length xs ≤ n → Tells (each part (counted 0 (take n (map f xs)))) seen → Tells (each part (counted 0 (map f xs))) seen
  each_all xs n {seen} l t =
      let whole : take n (map f xs) ≡ map f xs = take_all n (map f xs) (let m = length-map xs f in omega (arith, m, l)) in
      let P : List B → Type 0 = λ z. Tells (each part (counted 0 z)) seen in
      subst P whole t

-- what is told of a global, by its items
pub of_global : (o : Outline) (g : ℕ) (items : List Item) (one : FileGlobal) {v : Result (List TypedItem) Fault} → items ≡ one.global.items → Tells (body o (sites.Global g) [] items) v → Tells (global o (g, one)) v
of_global o g items one {v} e t = let P : List Item → Type 0 = λ its. Tells (body o (sites.Global g) [] its) v in subst P e t

-- what is told of components and of globals is told of all bodies
pub bodies_by : (known : Parts) (o : Outline) (xs comps : List FileComponent) (ys globals : List FileGlobal) {v : Result (List (List TypedElement)) Fault} {u : Result (List (List TypedItem)) Fault} {r : Result (List (List TypedElement) × List (List TypedItem)) Fault}
    → xs ≡ comps → ys ≡ globals → Tells (each (component o) (counted 0 xs)) v → Tells (each (global o) (counted 0 ys)) u → r ≡ both_told v u → Tells (bodies o comps globals) r
bodies_by known o xs comps ys globals {v} {u} {r} p q t s e =
    let P : List FileComponent → Type 0 = λ z. Tells (each (component o) (counted 0 z)) v in
    let Q : List FileGlobal → Type 0 = λ z. Tells (each (global o) (counted 0 z)) u in
    told_at (bodies o comps globals) (sym e) (both_of _ _ (each_sound (component o) (component_sound known o) (counted 0 comps)) (each_sound (global o) (global_sound known o) (counted 0 globals)) (subst P p t) (subst Q q s))
