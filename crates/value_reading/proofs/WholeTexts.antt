-- What a whole text is read as.
use Rattle.std.proofs.Common.{◌≡◌, ℕ, List, sym, ◌∙◌, ap, Option, Some, None}
use Rattle.std.specs.Prelude.{Ok}
use Rattle.value_types.specs.declared.enums.EnumNames.{EnumNames}
use Rattle.value_types.specs.declared.types.Ty.{Ty}
use Rattle.value_types.specs.declared.values.Value.{Value}
use Rattle.value_reading.specs.declared.parts.Part.{Part}
use Rattle.value_reading.specs.Grammar.{Reads, ReadsAs}
use Rattle.value_reading.specs.Parts.{SplitsInto}
use Rattle.value_reading.specs.Reading.{value_of_parts}
use Rattle.value_reading.proofs.GrammarReads.{parts_read}
use Rattle.value_reading.proofs.GrammarSound.{parts_sound}

none_some : (v : Value) → None ≡ Some v → ⊥
none_some v e = cc

some_same : (v w : Value) → Some v ≡ Some w → v ≡ w
some_same v w e = cc

pub read_value_is : (enums : List EnumNames) (ty : Ty) (text : List ℕ) (parts : List Part) (v : Value) → SplitsInto text (Some parts) → Some v ≡ value_of_parts enums ty parts → ReadsAs enums ty text (Ok v)
read_value_is enums ty text parts v split e = (
  (parts, split.0, parts_sound enums ty parts v (sym e)),
  λ other h. some_same other v (sym (parts_read enums ty h.0 other h.2) ∙ ap (λ ps. value_of_parts enums ty ps) (split.1 h.0 h.1) ∙ sym e),
)

pub read_no_value : (enums : List EnumNames) (ty : Ty) (text : List ℕ) (parts : List Part) → SplitsInto text (Some parts) → None ≡ value_of_parts enums ty parts → (v : Value) → Reads enums ty text v → ⊥
read_no_value enums ty text parts split e = λ v h. none_some v (e ∙ sym (ap (λ ps. value_of_parts enums ty ps) (split.1 h.0 h.1)) ∙ parts_read enums ty h.0 v h.2)

pub read_no_parts : (enums : List EnumNames) (ty : Ty) (text : List ℕ) → SplitsInto text None → (v : Value) → Reads enums ty text v → ⊥
read_no_parts enums ty text split = λ v h. split h.0 h.1
