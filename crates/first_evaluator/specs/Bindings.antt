-- Which names a component's bindings may have.
use Rattle.std.specs.Prelude.{ℕ, Bool, true, not, List, [], ◌∷◌, map, ◌&&◌, codes}
use Rattle.std.specs.List.{list_all, list_any}
use Rattle.std.specs.Str.{bytes_eq}
use Rattle.first_evaluator.specs.declared.trees.Factor.{Factor}
use Rattle.first_evaluator.specs.declared.trees.Factor.TheVariants.{Lit, Named}
use Rattle.first_evaluator.specs.declared.trees.FirstProp.{FirstProp}

-- the name is one of these
abbrev pub has_name : List (List ℕ) → List ℕ → Bool
has_name names name = list_any (λ other. bytes_eq other name) names

-- the words that name no property in an expression
abbrev pub reserved_words : List (List ℕ)
reserved_words = codes "true" ∷ codes "false" ∷ codes "root" ∷ codes "self" ∷ codes "parent" ∷ []

-- a name is that of an earlier property and none of the words
abbrev pub is_factor_bound : List (List ℕ) → Factor → Bool
is_factor_bound earlier (Lit n) = true
is_factor_bound earlier (Named name) = has_name earlier name && not (has_name reserved_words name)

-- so is each factor of a sum
abbrev pub is_sum_bound : List (List ℕ) → List (List Factor) → Bool
is_sum_bound earlier terms = list_all (list_all (is_factor_bound earlier)) terms

-- behind properties of these names no property has the name of an earlier one, and each sum is bound
abbrev pub are_bound : List (List ℕ) → List FirstProp → Bool
are_bound earlier [] = true
are_bound earlier (prop ∷ props) = not (has_name earlier prop.name) && (is_sum_bound earlier prop.terms && are_bound (prop.name ∷ earlier) props)

-- the names of properties
abbrev pub names_of : List FirstProp → List (List ℕ)
names_of props = map (λ prop. prop.name) props
