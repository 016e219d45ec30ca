-- What the plain evaluator computes over resolved sums, and what it keeps between calls.
use Rattle.std.specs.Prelude.{◌≡◌, ℕ, ◌<◌, ◌≤◌, ℤ, pos, ◌+ℤ◌, ◌*ℤ◌, List, [], length, take, fold, IsTrue, Option, None, slice_index_or}
use Rattle.slint_base.specs.Numbers.{to_int}
use Rattle.first_evaluator.specs.declared.trees.FirstFile.{FirstFile}
use Rattle.first_evaluator.specs.Bindings.{are_bound}
use Rattle.first_evaluator.specs.Values.{assigned_or}
use Rattle.first_evaluator.specs.declared.resolving.Operand.{Operand}
use Rattle.first_evaluator.specs.declared.resolving.Operand.TheVariants.{Literal, Property}
use Rattle.first_evaluator.specs.Resolved.{sums_of}

-- the operand is a number, or one of so many properties
abbrev pub IsWithin : ℕ → Operand → Type 0
IsWithin count (Literal value) = Unit {0}
IsWithin count (Property place) = place < count

-- a number stands for itself, a place for the value there
abbrev pub operand_value : List ℤ → Operand → ℤ
operand_value values (Literal value) = value
operand_value values (Property place) = slice_index_or values place (pos 0)

-- a product, operand by operand from the left, each time brought between the ends of int
abbrev pub operands_product : List ℤ → List Operand → ℤ
operands_product values operands = fold (λ product operand. to_int (product *ℤ operand_value values operand)) (pos 1) operands

-- a sum, product by product from the left, each time brought between the ends of int
abbrev pub operands_sum : List ℤ → List (List Operand) → ℤ
operands_sum values products = fold (λ sum operands. to_int (sum +ℤ operands_product values operands)) (pos 0) products

-- the value of the property at a place: its assignment, or else its sum over the values before it
abbrev pub value_at : FirstFile → List (Option ℤ) → List ℤ → ℕ → ℤ
value_at file assigned values place = assigned_or (slice_index_or assigned place None) (operands_sum (take place values) (slice_index_or (sums_of file) place []))

-- so many of the values are right
abbrev pub AreRight : FirstFile → List (Option ℤ) → List ℤ → ℕ → Type 0
AreRight file assigned values count = (place : ℕ) → place < count → slice_index_or values place (pos 0) ≡ value_at file assigned values place

-- each property has an assignment, or none, and a value, and the first values are right
pub record IsEvaluated (file : FirstFile) (assigned : List (Option ℤ)) (values : List ℤ) (fresh : ℕ) : Type 0 where
  pub bound : IsTrue (are_bound [] file.props)
  pub assigned_length : length assigned ≡ length file.props
  pub values_length : length values ≡ length file.props
  pub within : fresh ≤ length file.props
  pub right : AreRight file assigned values fresh
