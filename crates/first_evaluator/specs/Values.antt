-- The world that a script makes, and the value of a property in it, evaluated afresh on the tree.
use Rattle.std.specs.Prelude.{ℕ, ℤ, pos, ◌+ℤ◌, ◌*ℤ◌, List, [], ◌∷◌, reverse, fold, Option, None, Some, if◌then◌else◌}
use Rattle.std.specs.Str.{bytes_eq}
use Rattle.slint_base.specs.Numbers.{to_int}
use Rattle.first_evaluator.specs.declared.trees.Factor.{Factor}
use Rattle.first_evaluator.specs.declared.trees.Factor.TheVariants.{Lit, Named}
use Rattle.first_evaluator.specs.declared.trees.FirstProp.{FirstProp}
use Rattle.first_evaluator.specs.declared.trees.FirstFile.{FirstFile}

-- what a script changed so far: the values that were assigned to properties, the latest first
pub record World : Type 0 where
  pub assigned : List (List ℕ × ℤ)

-- nothing is assigned yet
abbrev pub opening_world : World
opening_world = record { assigned = [] }

-- the latest value assigned to a name
abbrev pub latest : List (List ℕ × ℤ) → List ℕ → Option ℤ
latest [] name = None
latest (pair ∷ pairs) name = if bytes_eq pair.0 name then Some pair.1 else latest pairs name

-- the assignment of a property
abbrev pub assignment : World → List ℕ → Option ℤ
assignment world name = latest world.assigned name

-- the world after one more assignment
abbrev pub assign : World → List ℕ → ℤ → World
assign world name value = record { assigned = (name, value) ∷ world.assigned }

-- a number stands for itself, a name for its value
abbrev pub factor_value : (List ℕ → ℤ) → Factor → ℤ
factor_value value (Lit n) = n
factor_value value (Named name) = value name

-- a product, factor by factor from the left, each time brought between the ends of int
abbrev pub product_value : (List ℕ → ℤ) → List Factor → ℤ
product_value value factors = fold (λ product factor. to_int (product *ℤ factor_value value factor)) (pos 1) factors

-- a sum, term by term from the left, each time brought between the ends of int
abbrev pub sum_value : (List ℕ → ℤ) → List (List Factor) → ℤ
sum_value value terms = fold (λ sum term. to_int (sum +ℤ product_value value term)) (pos 0) terms

-- an assignment, or else the value of the binding
abbrev pub assigned_or : Option ℤ → ℤ → ℤ
assigned_or None bound = bound
assigned_or (Some value) bound = value

-- the value of a name among properties, of which the last in the text comes first: the property's assignment,
-- or else its sum over the values of the properties before it
abbrev pub value_among : List FirstProp → World → List ℕ → ℤ
value_among [] world name = pos 0
value_among (prop ∷ before) world name =
    if bytes_eq prop.name name
    then assigned_or (assignment world name) (sum_value (λ earlier. value_among before world earlier) prop.terms)
    else value_among before world name

-- the value of a property of a file in a world
abbrev pub property_value : FirstFile → World → List ℕ → ℤ
property_value file world name = value_among (reverse file.props) world name
