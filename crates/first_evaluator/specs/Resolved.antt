-- What the resolver makes of a tree: each name in a sum gives way to the place of its property.
use Rattle.std.specs.Prelude.{◌≡◌, ℕ, List, [], ◌∷◌, length, take, reverse, if◌then◌else◌, Option, None, Some, option_map, unwrap_or, String}
use Rattle.std.specs.BTreeMap.{BTreeMap, get_by_text}
use Rattle.std.specs.Str.{bytes_eq}
use Rattle.slint_base.specs.Options.{onto_all, all_of}
use Rattle.first_evaluator.specs.declared.trees.Factor.{Factor}
use Rattle.first_evaluator.specs.declared.trees.Factor.TheVariants.{Lit, Named}
use Rattle.first_evaluator.specs.declared.trees.FirstProp.{FirstProp}
use Rattle.first_evaluator.specs.declared.trees.FirstFile.{FirstFile}
use Rattle.first_evaluator.specs.Bindings.{has_name, names_of, reserved_words}
use Rattle.first_evaluator.specs.declared.resolving.Operand.{Operand}
use Rattle.first_evaluator.specs.declared.resolving.Operand.TheVariants.{Literal, Property}

-- the place of a name among names, of which the last in the text comes first
abbrev pub place_among : List (List ℕ) → List ℕ → Option ℕ
place_among [] name = None
place_among (other ∷ before) name = if bytes_eq other name then Some (length before) else place_among before name

-- a number stands for itself, and a name that is no reserved word for the property at its place
abbrev pub operand_of : (List ℕ → Option ℕ) → Factor → Option Operand
operand_of place_of (Lit n) = Some (Literal n)
operand_of place_of (Named name) = if has_name reserved_words name then None else option_map (λ place. Property place) (place_of name)

-- the operands of a product
abbrev pub product_of : (List ℕ → Option ℕ) → List Factor → Option (List Operand)
product_of place_of factors = all_of (operand_of place_of) factors

-- the operands of a sum
abbrev pub sum_of : (List ℕ → Option ℕ) → List (List Factor) → Option (List (List Operand))
sum_of place_of terms = all_of (product_of place_of) terms

-- the sums of properties behind properties of these names, of which the last in the text comes first
abbrev pub sums_behind : List (List ℕ) → List FirstProp → Option (List (List (List Operand)))
sums_behind before [] = Some []
sums_behind before (prop ∷ props) =
    if has_name before prop.name then None else onto_all (sum_of (λ name. place_among before name) prop.terms) (sums_behind (prop.name ∷ before) props)

-- the sums of a tree's properties
abbrev pub sums_of : FirstFile → List (List (List Operand))
sums_of file = unwrap_or (sums_behind [] file.props) []

-- the map gives each of these names its place, and no other name one
abbrev pub AreAt : {Y : Type 0} → BTreeMap (String Y) ℕ → List (List ℕ) → Type 0
AreAt places before = (name : List ℕ) → get_by_text places name ≡ place_among before name

-- the names of the first of properties, the last of them first
abbrev pub names_before : List FirstProp → ℕ → List (List ℕ)
names_before props count = reverse (names_of (take count props))

-- a tree, the sums of its properties and the places of their names
pub record IsResolved {Y : Type 0} (file : FirstFile) (sums : List (List (List Operand))) (places : BTreeMap (String Y) ℕ) : Type 0 where
  pub resolved : sums_behind [] file.props ≡ Some sums
  pub at : AreAt places (reverse (names_of file.props))
