-- The components that declare a name in their root elements.
use Rattle.std.specs.Prelude.{◌≡◌, ℕ, Bool, ◌&&◌, ◌||◌, ◌==◌, if◌then◌else◌, String, Vec, List, [], ◌∷◌, slice_get, position, Option, Some, None}
use Rattle.std.specs.BTreeMap.{BTreeMap}
use Rattle.std.specs.Global.{Global}
use Rattle.std.specs.List.{list_any}
use Rattle.std.specs.Option.{is_some}
use Rattle.name_index.specs.Places.{places_at}
use Rattle.typed_tree.specs.declared.members.Member.{Member}
use Rattle.typed_tree.specs.declared.outlines.ComponentOutline.{ComponentOutline}
use Rattle.typed_tree.specs.Elements.{is_among}
use Rattle.typed_tree.specs.MemberIndexes.{is_named}
use Rattle.typed_tree.specs.Members.{members_in}

-- a component declares a member of a name in its root element
abbrev pub declares : List ComponentOutline → List ℕ → ℕ → Bool
declares comps name c = is_some (position (is_named 0 name) (members_in (slice_get comps c)))

-- the first of some components that does
abbrev pub first_declaring : List ComponentOutline → List ℕ → List ℕ → Option ℕ
first_declaring comps name [] = None
first_declaring comps name (c ∷ cs) = if declares comps name c then Some c else first_declaring comps name cs

-- of each name the components that do
abbrev pub AreDeclarers : List ComponentOutline → BTreeMap (String Global) (Vec ℕ Global) → Type 0
AreDeclarers comps found = (name : List ℕ) (c : ℕ) → is_among (places_at found name) c ≡ declares comps name c

-- a component is noted under the names that its members have in its root element
abbrev pub MoreDeclare : List Member → ℕ → BTreeMap (String Global) (Vec ℕ Global) → BTreeMap (String Global) (Vec ℕ Global) → Type 0
MoreDeclare members number old new = (name : List ℕ) (c : ℕ) → is_among (places_at new name) c ≡ (is_among (places_at old name) c || ((number == c) && list_any (is_named 0 name) members))
