-- What an operator does between two types: the types to which its sides are converted, and that of its result.
use Rattle.std.specs.Prelude.{Bool, true, false, if◌then◌else◌, Option, Some, None, Result, Ok, Err}
use Rattle.slint_base.specs.declared.rules.Rule.{Rule}
use Rattle.slint_base.specs.declared.rules.Rule.TheVariants.{NoOperator}
use Rattle.value_types.specs.declared.types.Ty.{Ty, out-Ty}
use Rattle.value_types.specs.declared.types.Ty.TheOpen as form
use Rattle.value_types.specs.declared.types.Ty.TheVariants as ty
use Rattle.value_types.specs.CommonTypes.{common}
use Rattle.value_types.specs.Conversions.{Form}
use Rattle.element_tables.specs.declared.typed_operators.Operands.{Operands}
use Rattle.element_tables.specs.declared.operators.Op.{Op}
use Rattle.element_tables.specs.declared.operators.Op.TheVariants.{Equal, NotEqual}
use Rattle.element_tables.specs.declared.operators.Operation.{Operation}
use Rattle.element_tables.specs.declared.operators.TyCode.{TyCode}
use Rattle.element_tables.specs.declared.operators.TyCode.TheVariants as code
use Rattle.element_tables.specs.Operators.{code_of, looked_up, missing_rule, operation, operations}

-- the type of a kind without parts; the rows of operators name no others
abbrev pub plain_type : TyCode → Ty
plain_type code.Zero = ty.Zero
plain_type code.Int = ty.Int
plain_type code.Float = ty.Float
plain_type code.Percent = ty.Percent
plain_type code.Bool = ty.Bool
plain_type code.Str = ty.Str
plain_type code.Color = ty.Color
plain_type code.Length = ty.Length
plain_type code.Duration = ty.Duration
plain_type code.Angle = ty.Angle
plain_type code.Image = ty.Image
plain_type code.Empty = ty.Empty
plain_type _ = ty.Void

-- the type as which a side is looked up, by its form and the other side's kind: a percent is a float, `[]` an array of ints, a literal of
-- zeros has the other side's unit or is an int
abbrev pub counted_form : Op → Form → TyCode → Ty → Ty
counted_form op form.Percent other side = ty.Float
counted_form op form.Empty other side = ty.Array ty.Int
counted_form op form.Zero other side = plain_type (looked_up op code.Zero other)
counted_form op _ other side = side

abbrev pub counted : Op → Ty → Ty → Ty
counted op side other = counted_form op (out-Ty side) (code_of (out-Ty other)) side

-- two types of which both sides are: what they have in common, if there is such a type
abbrev pub by_common : Option Ty → Result Operands Rule
by_common None = Err NoOperator
by_common (Some t) = Ok (record { left = t; right = t; result = ty.Bool })

-- what a row says, and the rule that is broken without one
abbrev pub by_row : Rule → Option Operation → Result Operands Rule
by_row rule None = Err rule
by_row rule (Some row) = Ok (record { left = plain_type row.left; right = plain_type row.right; result = plain_type row.result })

abbrev pub by_rows : Op → TyCode → TyCode → Result Operands Rule
by_rows op left right = by_row (missing_rule op left right) (operation op left right operations)

-- `==` and `!=` go by the common type, the others by their rows
abbrev pub is_equality : Op → Bool
is_equality Equal = true
is_equality NotEqual = true
is_equality _ = false

abbrev pub between : Op → Ty → Ty → Result Operands Rule
between op left right = if is_equality op then by_common (common left right) else by_rows op (code_of (out-Ty left)) (code_of (out-Ty right))

-- what an operator does between two types, or the rule that it breaks there
abbrev pub operands_of : Op → Ty → Ty → Result Operands Rule
operands_of op left right = between op (counted op left right) (counted op right left)
