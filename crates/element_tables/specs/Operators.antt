-- The operators between two operands and before one: which sides have a result, and of which type.
use Rattle.std.specs.Prelude.{ℕ, Bool, true, false, ◌||◌, ◌&&◌, if◌then◌else◌, List, [], ◌∷◌, ◌++◌, Option, Some, None, map}
use Rattle.std.specs.Ordering.{nat_cmp, ordering_then, is_eq}
use Rattle.std.specs.declared.cmp.Ordering.{Ordering}
use Rattle.slint_base.specs.declared.rules.Rule.{Rule}
use Rattle.slint_base.specs.declared.rules.Rule.TheVariants.{NoOperator, UnitProduct}
use Rattle.value_types.specs.declared.types.Ty.TheOpen as form
use Rattle.value_types.specs.Conversions.{Form}
use Rattle.element_tables.specs.declared.operators.Op.{Op}
use Rattle.element_tables.specs.declared.operators.Op.TheVariants.{Add, Sub, Mul, Div, Less, LessEqual, Greater, GreaterEqual, Equal, NotEqual, And, Or}
use Rattle.element_tables.specs.declared.operators.PrefixOp.{PrefixOp}
use Rattle.element_tables.specs.declared.operators.PrefixOp.TheVariants.{Not, Minus, Plus}
use Rattle.element_tables.specs.declared.operators.TyCode.{TyCode}
use Rattle.element_tables.specs.declared.operators.TyCode.TheVariants as code
use Rattle.element_tables.specs.declared.operators.Operation.{Operation}
use Rattle.element_tables.specs.declared.operators.OpRow.{OpRow}
use Rattle.element_tables.specs.Rows.{beside}

-- the place of an operator and of a kind of types in the order of the matrix
abbrev pub op_number : Op → ℕ
op_number Add = 0
op_number Sub = 1
op_number Mul = 2
op_number Div = 3
op_number Less = 4
op_number LessEqual = 5
op_number Greater = 6
op_number GreaterEqual = 7
op_number Equal = 8
op_number NotEqual = 9
op_number And = 10
op_number Or = 11

abbrev pub code_number : TyCode → ℕ
code_number code.Void = 0
code_number code.Zero = 1
code_number code.Int = 2
code_number code.Float = 3
code_number code.Percent = 4
code_number code.Bool = 5
code_number code.Str = 6
code_number code.Color = 7
code_number code.Length = 8
code_number code.Duration = 9
code_number code.Angle = 10
code_number code.Image = 11
code_number code.Enum = 12
code_number code.Struct = 13
code_number code.Array = 14
code_number code.Empty = 15

-- an operator and the kinds of its sides
abbrev pub Key : Type 0
Key = Op × TyCode × TyCode

-- the order of the matrix: by operator, then by the left side, then by the right one
abbrev pub key_order : Key → Key → Ordering
key_order a b = ordering_then (nat_cmp (op_number a.0) (op_number b.0))
    (ordering_then (nat_cmp (code_number a.1) (code_number b.1)) (nat_cmp (code_number a.2) (code_number b.2)))

-- sides that stay as they are
abbrev pub as_is : Op → TyCode → TyCode → TyCode → Key × Operation
as_is op left right result = ((op, left, right), record { left = left; right = right; result = result })

-- sides that are both converted to one type
abbrev pub as_both : Op → TyCode → TyCode → TyCode → TyCode → Key × Operation
as_both op left right both result = ((op, left, right), record { left = both; right = both; result = result })

-- two numbers that aren't both ints count as floats
abbrev pub mixed : Op → TyCode → List (Key × Operation)
mixed op result = as_both op code.Int code.Float code.Float result ∷ as_both op code.Float code.Int code.Float result ∷ as_both op code.Float code.Float code.Float result ∷ []

-- rows for each unit
abbrev pub over_units : (TyCode → List (Key × Operation)) → List (Key × Operation)
over_units rows = rows code.Length ++ rows code.Duration ++ rows code.Angle

-- two ints give an int, other numbers a float, two of the same unit that unit
abbrev pub sums : Op → List (Key × Operation)
sums op = as_is op code.Int code.Int code.Int ∷ mixed op code.Float ++ over_units (λ unit. as_is op unit unit unit ∷ [])

-- a text with a text or a number on either side gives a text
abbrev pub texts : Op → List (Key × Operation)
texts op = as_is op code.Str code.Str code.Str
    ∷ as_both op code.Str code.Int code.Str code.Str ∷ as_both op code.Str code.Float code.Str code.Str
    ∷ as_both op code.Int code.Str code.Str code.Str ∷ as_both op code.Float code.Str code.Str code.Str ∷ []

-- a number and a unit on either side give the unit
abbrev pub products : Op → List (Key × Operation)
products op = as_is op code.Int code.Int code.Int ∷ mixed op code.Float
    ++ over_units (λ unit. as_is op code.Int unit unit ∷ as_is op code.Float unit unit ∷ as_is op unit code.Int unit ∷ as_is op unit code.Float unit ∷ [])

-- numbers give a float, a unit by a number the unit, two of the same unit a float
abbrev pub quotients : Op → List (Key × Operation)
quotients op = as_both op code.Int code.Int code.Float code.Float ∷ mixed op code.Float
    ++ over_units (λ unit. as_is op unit code.Int unit ∷ as_is op unit code.Float unit ∷ as_is op unit unit code.Float ∷ [])

-- numbers, two of the same unit and two texts are in order
abbrev pub orders : Op → List (Key × Operation)
orders op = as_is op code.Int code.Int code.Bool ∷ mixed op code.Bool ++ over_units (λ unit. as_is op unit unit code.Bool ∷ []) ++ as_is op code.Str code.Str code.Bool ∷ []

abbrev pub truths : Op → List (Key × Operation)
truths op = as_is op code.Bool code.Bool code.Bool ∷ []

-- the rows of all operators but `==` and `!=`, which have a result where the sides have a type in common
abbrev pub operations : List (Key × Operation)
operations = sums Add ++ texts Add ++ sums Sub ++ products Mul ++ quotients Div ++ orders Less ++ orders LessEqual ++ orders Greater ++ orders GreaterEqual ++ truths And ++ truths Or

-- the row of an operator and the kinds of its sides, if there is one
abbrev pub operation : Op → TyCode → TyCode → List (Key × Operation) → Option Operation
operation op left right rows = beside (λ key. is_eq (key_order key (op, left, right))) rows

-- a row of a table in code
abbrev pub operation_of : OpRow → Key × Operation
operation_of row = ((row.op, row.left, row.right), row.operation)

abbrev pub operations_of : List OpRow → List (Key × Operation)
operations_of rows = map operation_of rows

-- numbers and units
abbrev pub is_number : TyCode → Bool
is_number code.Int = true
is_number code.Float = true
is_number _ = false

abbrev pub is_unit : TyCode → Bool
is_unit code.Length = true
is_unit code.Duration = true
is_unit code.Angle = true
is_unit _ = false

-- the rule that sides without a row break: products of units, and quotients by a unit, have a rule of their own
abbrev pub missing_rule : Op → TyCode → TyCode → Rule
missing_rule Mul left right = if is_unit left && is_unit right then UnitProduct else NoOperator
missing_rule Div left right = if is_unit right && (is_unit left || is_number left) then UnitProduct else NoOperator
missing_rule _ left right = NoOperator

-- the operators at which a literal of zeros takes the other side's unit: `+`, `-` and comparisons
abbrev pub takes_unit : Op → Bool
takes_unit Mul = false
takes_unit Div = false
takes_unit And = false
takes_unit Or = false
takes_unit _ = true

-- the kind as which a side is looked up, beside the other side's kind: a percent is a float, `[]` an array, a literal of zeros the other
-- side's unit or else an int
abbrev pub looked_up : Op → TyCode → TyCode → TyCode
looked_up op code.Percent other = code.Float
looked_up op code.Empty other = code.Array
looked_up op code.Zero other = if takes_unit op && is_unit other then other else code.Int
looked_up op side other = side

-- what an operator before an operand of a kind gives: `!` of a truth value, `-` and `+` of a number or a unit give the same
abbrev pub signed : TyCode → Option TyCode
signed code.Zero = Some code.Int
signed code.Percent = Some code.Float
signed side = if is_number side || is_unit side then Some side else None

abbrev pub negated : TyCode → Option TyCode
negated code.Bool = Some code.Bool
negated _ = None

abbrev pub prefixed : PrefixOp → TyCode → Option TyCode
prefixed Not side = negated side
prefixed Minus side = signed side
prefixed Plus side = signed side

-- the kind of a type
abbrev pub code_of : Form → TyCode
code_of form.Void = code.Void
code_of form.Zero = code.Zero
code_of form.Int = code.Int
code_of form.Float = code.Float
code_of form.Percent = code.Percent
code_of form.Bool = code.Bool
code_of form.Str = code.Str
code_of form.Color = code.Color
code_of form.Length = code.Length
code_of form.Duration = code.Duration
code_of form.Angle = code.Angle
code_of form.Image = code.Image
code_of (form.Enum number) = code.Enum
code_of (form.Struct fields) = code.Struct
code_of (form.Array item) = code.Array
code_of form.Empty = code.Empty
