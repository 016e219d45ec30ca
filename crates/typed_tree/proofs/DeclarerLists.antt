-- The components that declare a name, one member or component more.
use Rattle.std.specs.Prelude.{ℕ, zero, suc, Bool, true, false, ◌&&◌, ◌||◌, ◌==◌, if◌then◌else◌, String, Vec, List, [], ◌∷◌, ◌++◌, length, position}
use Rattle.std.specs.BTreeMap.{BTreeMap}
use Rattle.std.specs.Global.{Global}
use Rattle.std.specs.List.{list_any}
use Rattle.std.specs.Option.{is_some}
use Rattle.std.specs.Str.{bytes_eq}
use Rattle.std.proofs.Common.{◌≡◌, refl, sym, ◌∙◌, arith}
use Rattle.std.proofs.lemmas.Bool.{ne_eqb}
use Rattle.std.proofs.lemmas.Grind.{common_steps}
use Rattle.std.proofs.lemmas.List.Folds.{list_any-append}
use Rattle.name_index.specs.Places.{Adds, places_at}
use Rattle.name_index.proofs.PlaceLists.{any_place}
use Rattle.typed_tree.specs.declared.members.Member.{Member}
use Rattle.typed_tree.specs.declared.outlines.ComponentOutline.{ComponentOutline}
use Rattle.typed_tree.specs.Declarers.{AreDeclarers, MoreDeclare, declares}
use Rattle.typed_tree.specs.Elements.{is_among}
use Rattle.typed_tree.specs.MemberIndexes.{is_named}

-- of a map of numbers by name
abbrev Numbers : Type 0
Numbers = BTreeMap (String Global) (Vec ℕ Global)

or_false : (b : Bool) → (b || false) ≡ b
or_false true = refl
or_false false = refl

-- a number more, under the name at hand or not
with_number : (n a b : Bool) → ((a || (n && b)) || (n || false)) ≡ (a || (n && (b || true)))
with_number true true true = refl
with_number true true false = refl
with_number true false true = refl
with_number true false false = refl
with_number false true true = refl
with_number false true false = refl
with_number false false true = refl
with_number false false false = refl

noted : (t : Bool) (numbers : List ℕ) (number c : ℕ) (a b : Bool) → is_among numbers c ≡ (a || ((number == c) && b))
    → is_among (if t then numbers ++ number ∷ [] else numbers) c ≡ (a || ((number == c) && (b || (t || false))))
noted true numbers number c a b e = rw (list_any-append (λ m. m == c) numbers (number ∷ []), e) (with_number (number == c) a b)
noted false numbers number c a b e = rw (or_false b) e

pub noted_more : (before longer : List Member) (m : Member) (number : ℕ) (start old new : Numbers) → longer ≡ before ++ m ∷ [] → m.element ≡ 0 → Adds old new m.name.name number
    → MoreDeclare before number start old → MoreDeclare longer number start new
noted_more before longer m number start old new is root adds held = λ name c.
    rw (is, adds name, list_any-append (is_named 0 name) before (m ∷ []), root)
    (noted (bytes_eq m.name.name name) (places_at old name) number c (is_among (places_at start name) c) (list_any (is_named 0 name) before) (held name c))

pub other_more : (before longer : List Member) (m : Member) (number : ℕ) (start old : Numbers) → longer ≡ before ++ m ∷ [] → (m.element ≡ 0 → ⊥)
    → MoreDeclare before number start old → MoreDeclare longer number start old
other_more before longer m number start old is apart held = λ name c.
    rw (is, list_any-append (is_named 0 name) before (m ∷ []), ne_eqb m.element 0 apart)
    (noted false (places_at old name) number c (is_among (places_at start name) c) (list_any (is_named 0 name) before) (held name c))

-- a component more
same_suc : (a b : ℕ) → (suc a == suc b) ≡ (a == b)
same_suc a b = grind (arith, common_steps)

declares-push : (comps : List ComponentOutline) (comp : ComponentOutline) (name : List ℕ) (c : ℕ)
    → declares (comps ++ comp ∷ []) name c ≡ (declares comps name c || ((length comps == c) && list_any (is_named 0 name) comp.members))
declares-push [] comp name zero = any_place (is_named 0 name) comp.members
declares-push [] comp name (suc c) = rw (ne_eqb 0 (suc c) (λ e. omega arith)) refl
declares-push (x ∷ xs) comp name zero = rw (ne_eqb (suc (length xs)) 0 (λ e. omega arith)) (sym (or_false (is_some (position (is_named 0 name) x.members))))
declares-push (x ∷ xs) comp name (suc c) = rw (same_suc (length xs) c) (declares-push xs comp name c)

pub declares_more : (comps longer : List ComponentOutline) (comp : ComponentOutline) (members : List Member) (number : ℕ) (old new : Numbers) → longer ≡ comps ++ comp ∷ [] → length comps ≡ number → members ≡ comp.members
    → MoreDeclare members number old new → AreDeclarers comps old → AreDeclarers longer new
declares_more comps longer comp members number old new is same all more held = λ name c.
    more name c ∙ rw (held name c, is, all, ← same) (sym (declares-push comps comp name c))
