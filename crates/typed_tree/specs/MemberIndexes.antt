-- What is true of the indexes by which members are found.
use Rattle.std.specs.Prelude.{◌≡◌, ℕ, Bool, true, false, ◌&&◌, ◌==◌, List, slice_get, position, Option, Some, None}
use Rattle.std.specs.BTreeMap.{BTreeMap, get}
use Rattle.std.specs.Option.{option_and_then, option_or}
use Rattle.std.specs.Ordering.{nat_cmp, ordering_then}
use Rattle.std.specs.Str.{bytes_eq}
use Rattle.std.specs.declared.cmp.Ordering.{Ordering}
use Rattle.typed_tree.specs.declared.member_indexes.MemberIndex.{MemberIndex}
use Rattle.typed_tree.specs.declared.members.Member.{Member}
use Rattle.typed_tree.specs.declared.outlines.ComponentOutline.{ComponentOutline}
use Rattle.typed_tree.specs.Members.{members_in}

-- a member of a name that is declared in the body of an element
abbrev pub is_named : ℕ → List ℕ → Member → Bool
is_named element name m = (m.element == element) && bytes_eq m.name.name name

-- what a map has at a pair
abbrev pub pair_cmp : ℕ × ℕ → ℕ × ℕ → Ordering
pair_cmp a b = ordering_then (nat_cmp a.0 b.0) (nat_cmp a.1 b.1)

abbrev pub number_at : BTreeMap (ℕ × ℕ) ℕ → ℕ → ℕ → Option ℕ
number_at numbers a b = get pair_cmp numbers (a, b)

-- a number is noted at a pair, where none was
abbrev pub with_first : Bool → Option ℕ → ℕ → Option ℕ
with_first true old number = option_or old (Some number)
with_first false old number = old

abbrev pub AddsFirst : BTreeMap (ℕ × ℕ) ℕ → BTreeMap (ℕ × ℕ) ℕ → ℕ → Option ℕ → ℕ → Type 0
AddsFirst old new element None number = (a b : ℕ) → number_at new a b ≡ number_at old a b
AddsFirst old new element (Some first) number = (a b : ℕ) → number_at new a b ≡ with_first ((element == a) && (first == b)) (number_at old a b) number

-- at an element and the first place of a name stands the number of the first member of that element and name
abbrev pub AreFirst : List (List ℕ) → List Member → BTreeMap (ℕ × ℕ) ℕ → Type 0
AreFirst names members numbers = (element first : ℕ) (name : List ℕ) → position (λ x. bytes_eq x name) names ≡ Some first → number_at numbers element first ≡ position (is_named element name) members

-- the number that an index finds
abbrev pub found_number : MemberIndex → ℕ → List ℕ → Option ℕ
found_number index element name = option_and_then (λ first. number_at index.numbers element first) (position (λ x. bytes_eq x name) index.names)

abbrev pub FindsNumbers : List Member → MemberIndex → Type 0
FindsNumbers members index = (element : ℕ) (name : List ℕ) → found_number index element name ≡ position (is_named element name) members

-- the same in each component
abbrev pub number_in : Option MemberIndex → ℕ → List ℕ → Option ℕ
number_in None element name = None
number_in (Some index) element name = found_number index element name

abbrev pub FindsMembers : List ComponentOutline → List MemberIndex → Type 0
FindsMembers comps indexes = (c element : ℕ) (name : List ℕ) → number_in (slice_get indexes c) element name ≡ position (is_named element name) (members_in (slice_get comps c))
