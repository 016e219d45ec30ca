-- The built-in functions, the members of values, and the names that hold built-in members.
use Rattle.std.specs.Prelude.{ℕ, true, false, List, [], ◌∷◌, codes}
use Rattle.element_tables.specs.declared.functions.Arguments.TheVariants.{Alike, Rounded}
use Rattle.element_tables.specs.declared.functions.BuiltInFunction.{BuiltInFunction}
use Rattle.element_tables.specs.declared.functions.MathFunction.{MathFunction}
use Rattle.element_tables.specs.declared.functions.MathFunction.TheVariants as math
use Rattle.element_tables.specs.declared.functions.Namespace.{Namespace}
use Rattle.element_tables.specs.declared.functions.Namespace.TheVariants as namespace
use Rattle.element_tables.specs.declared.functions.ValueMember.{ValueMember}
use Rattle.element_tables.specs.declared.functions.ValueMemberKind.TheVariants.{IsEmpty, IsFloat, ToFloat, Length}
use Rattle.element_tables.specs.declared.types.BuiltInType.TheVariants as ty

abbrev pub namespaces : List (List ℕ × Namespace)
namespaces = (codes "Math", namespace.Math) ∷ (codes "Colors", namespace.Colors) ∷ (codes "Key", namespace.Key) ∷ []

-- a function of so many values of one type, and one that makes an int of a float
abbrev pub alike : MathFunction → ℕ → BuiltInFunction
alike f count = record { function = f; arguments = Alike count }

abbrev pub rounded : MathFunction → BuiltInFunction
rounded f = record { function = f; arguments = Rounded }

abbrev pub functions : List (List ℕ × BuiltInFunction)
functions = (codes "abs", alike math.Abs 1) ∷ (codes "min", alike math.Min 2) ∷ (codes "max", alike math.Max 2) ∷ (codes "mod", alike math.Mod 2)
    ∷ (codes "clamp", alike math.Clamp 3) ∷ (codes "round", rounded math.Round) ∷ (codes "floor", rounded math.Floor) ∷ (codes "ceil", rounded math.Ceil) ∷ []

-- the members of strings and of arrays
abbrev pub string_members : List (List ℕ × ValueMember)
string_members = (codes "is-empty", record { kind = IsEmpty; is_called = false; result = ty.Bool })
    ∷ (codes "is-float", record { kind = IsFloat; is_called = true; result = ty.Bool })
    ∷ (codes "to-float", record { kind = ToFloat; is_called = true; result = ty.Float }) ∷ []

abbrev pub array_members : List (List ℕ × ValueMember)
array_members = (codes "length", record { kind = Length; is_called = false; result = ty.Int }) ∷ []
