-- The places at which a name stands in a list of names.
use Rattle.std.specs.Prelude.{◌≡◌, ℕ, suc, String, Vec, List, [], ◌∷◌, ◌++◌, if◌then◌else◌}
use Rattle.std.specs.BTreeMap.{BTreeMap, get_by_text}
use Rattle.std.specs.Option.{option_map_or}
use Rattle.std.specs.Str.{bytes_eq}
use Rattle.std.specs.declared.alloc.Global.{Global}

-- the places of a name, where the first name of the list has place n
abbrev pub places_from : ℕ → List ℕ → List (List ℕ) → List ℕ
places_from n name [] = []
places_from n name (x ∷ xs) = if bytes_eq x name then n ∷ places_from (suc n) name xs else places_from (suc n) name xs

abbrev pub places_of : List ℕ → List (List ℕ) → List ℕ
places_of name names = places_from 0 name names

-- what a map of places has at a name
abbrev pub places_at : BTreeMap (String Global) (Vec ℕ Global) → List ℕ → List ℕ
places_at map name = option_map_or (λ places. places.items) (get_by_text map name) []

-- a map has all places of each name
abbrev pub Places : BTreeMap (String Global) (Vec ℕ Global) → List (List ℕ) → Type 0
Places map names = (name : List ℕ) → places_at map name ≡ places_of name names

-- a name has one place more
abbrev pub Adds : BTreeMap (String Global) (Vec ℕ Global) → BTreeMap (String Global) (Vec ℕ Global) → List ℕ → ℕ → Type 0
Adds old new name place = (other : List ℕ) → places_at new other ≡ (if bytes_eq name other then places_at old other ++ place ∷ [] else places_at old other)

-- all names keep their places
abbrev pub Keeps : BTreeMap (String Global) (Vec ℕ Global) → BTreeMap (String Global) (Vec ℕ Global) → Type 0
Keeps old new = (name : List ℕ) → places_at new name ≡ places_at old name
