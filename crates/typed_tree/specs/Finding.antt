-- What is found by its number.
use Rattle.std.specs.Prelude.{ℕ, ◌&&◌, if◌then◌else◌, List, [], ◌∷◌, slice_get, Option, Some, None}
use Rattle.std.specs.Option.{option_map}
use Rattle.typed_tree.specs.declared.members.Found.{Found}
use Rattle.typed_tree.specs.declared.members.Member.{Member}
use Rattle.typed_tree.specs.declared.members.MemberRef.{MemberRef}
use Rattle.typed_tree.specs.declared.members.Owner.{Owner}
use Rattle.syntax_tree.specs.declared.words.Ident.{Ident}
use Rattle.typed_tree.specs.declared.outlines.Declared.{Declared}
use Rattle.typed_tree.specs.declared.outlines.ElementOutline.{ElementOutline}
use Rattle.typed_tree.specs.declared.outlines.FileName.{FileName}
use Rattle.typed_tree.specs.Elements.{has_id, sees}

abbrev pub found_of : MemberRef → Owner → Member → Found
found_of reference owner m = record { member = reference; kind = m.kind; owner = owner }

abbrev pub found_with : MemberRef → Owner → Option Member → Option Found
found_with reference owner member = option_map (found_of reference owner) member

abbrev pub declared_in : Option FileName → Option Declared
declared_in name = option_map (λ n. n.declared) name

-- a list of names, if it is there
abbrev pub list_in : Option (List (List ℕ)) → List (List ℕ)
list_in None = []
list_in (Some names) = names

-- the first of some elements that has an id and is seen from an element
abbrev pub id_of : Option ElementOutline → Option Ident
id_of None = None
id_of (Some element) = element.id

abbrev pub first_seen : List ElementOutline → ℕ → List ℕ → List ℕ → Option ℕ
first_seen all from name [] = None
first_seen all from name (n ∷ ns) = if has_id name (id_of (slice_get all n)) && sees all from n then Some n else first_seen all from name ns
