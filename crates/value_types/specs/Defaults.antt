-- The values that properties have before anything is assigned to them.
use Rattle.std.specs.Prelude.{[], pos, false}
use Rattle.value_types.specs.declared.types.Ty.{Ty}
use Rattle.value_types.specs.declared.types.Ty.TheOpen as form
use Rattle.value_types.specs.declared.types.Ty.TheFolds.{fold-Ty}
use Rattle.value_types.specs.declared.values.Value.{Value}
use Rattle.value_types.specs.declared.values.Value.TheVariants as value

-- the default of a type of which the parts stand with their defaults
abbrev pub default_step : form.Ty-F Value → Value
default_step form.Void = value.Void
default_step form.Zero = value.Int (pos 0)
default_step form.Int = value.Int (pos 0)
default_step form.Float = value.Float (pos 0)
default_step form.Percent = value.Percent (pos 0)
default_step form.Bool = value.Bool false
default_step form.Str = value.Str []
default_step form.Color = value.Color 0
default_step form.Length = value.Length (pos 0)
default_step form.Duration = value.Duration (pos 0)
default_step form.Angle = value.Angle (pos 0)
default_step form.Image = value.Image []
default_step (form.Enum number) = value.Enum number 0
default_step (form.Struct fields) = value.Struct fields
default_step (form.Array item) = value.Array []
default_step form.Empty = value.Array []

-- 0, false, the empty text and path, the colour without red, green, blue and alpha, an enum's first value, of a struct the defaults
-- of its fields, and the empty array
abbrev pub default_value : Ty → Value
default_value = fold-Ty Value default_step
