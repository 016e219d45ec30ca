-- The written forms of values, over the parts of their texts.
use Rattle.std.specs.Prelude.{◌≡◌, ℕ, List, [], ◌∷◌, ◌++◌, codes, Some, None, Result, Ok, Err, ⊤}
use Rattle.slint_base.specs.declared.endings.End.{End}
use Rattle.slint_base.specs.declared.endings.End.TheVariants as ends
use Rattle.slint_literals.specs.declared.numbers.Number.{Number}
use Rattle.value_types.specs.declared.enums.EnumNames.{EnumNames}
use Rattle.value_types.specs.declared.types.Ty.{Ty, out-Ty}
use Rattle.value_types.specs.declared.types.Ty.TheOpen as form
use Rattle.value_types.specs.declared.values.Value.{Value}
use Rattle.value_types.specs.declared.values.Value.TheVariants as value
use Rattle.value_types.specs.Conversions.{converted, field_named}
use Rattle.value_reading.specs.declared.parts.Part.{Part}
use Rattle.value_reading.specs.declared.parts.Part.TheVariants as part
use Rattle.value_reading.specs.declared.reading.BadValue.{BadValue}
use Rattle.value_reading.specs.Parts.{AreParts}
use Rattle.value_reading.specs.Words.{number_as, negative_as, word_in, pair_in, filled}

mutual
  -- the parts are a written form of a value of a type: a number, a number behind `-`, a colour, a string, a word, two words with a point
  -- between them, `@image-url("..")`, items in `[` and `]`, or fields in `{` and `}`
  pub data IsValue (enums : List EnumNames) : Ty → List Part → Value → Type 0 where
    a_number : (ty : Ty) (n : Number) (v : Value) → converted (number_as n) ty ≡ Some v → IsValue enums ty (part.Number n ∷ []) v
    a_negative : (ty : Ty) (n : Number) (v : Value) → converted (negative_as n) ty ≡ Some v → IsValue enums ty (part.Mark 45 ∷ part.Number n ∷ []) v
    a_color : (ty : Ty) (c : ℕ) (v : Value) → converted (value.Color c) ty ≡ Some v → IsValue enums ty (part.Color c ∷ []) v
    a_string : (ty : Ty) (t : List ℕ) (v : Value) → converted (value.Str t) ty ≡ Some v → IsValue enums ty (part.Str t ∷ []) v
    a_word : (ty : Ty) (w : List ℕ) (v : Value) → word_in enums w (out-Ty ty) ≡ Some v → IsValue enums ty (part.Word w ∷ []) v
    a_pair : (ty : Ty) (w x : List ℕ) (v : Value) → pair_in enums w x (out-Ty ty) ≡ Some v → IsValue enums ty (part.Word w ∷ part.Mark 46 ∷ part.Word x ∷ []) v
    an_image : (ty : Ty) (path : List ℕ) (v : Value) → converted (value.Image path) ty ≡ Some v
        → IsValue enums ty (part.Mark 64 ∷ part.Word (codes "image-url") ∷ part.Mark 40 ∷ part.Str path ∷ part.Mark 41 ∷ []) v
    an_array : (ty item : Ty) (inside : List Part) (vs : List Value) → out-Ty ty ≡ form.Array item → IsItems enums item inside vs
        → IsValue enums ty (part.Mark 91 ∷ (inside ++ part.Mark 93 ∷ [])) (value.Array vs)
    a_struct : (ty : Ty) (fields : List (List ℕ × Ty)) (inside : List Part) (found : List (List ℕ × Value)) → out-Ty ty ≡ form.Struct fields → IsFields enums fields [] inside found
        → IsValue enums ty (part.Mark 123 ∷ (inside ++ part.Mark 125 ∷ [])) (value.Struct (filled fields found))

  -- values of a type with commas between them, and one more where it may stand: behind the last
  pub data IsItems (enums : List EnumNames) : Ty → List Part → List Value → Type 0 where
    no_items : (item : Ty) → IsItems enums item [] []
    last_item : (item : Ty) (ps : List Part) (v : Value) → IsValue enums item ps v → IsItems enums item ps (v ∷ [])
    more_items : (item : Ty) (ps rest : List Part) (v : Value) (vs : List Value) → IsValue enums item ps v → IsItems enums item rest vs
        → IsItems enums item (ps ++ part.Mark 44 ∷ rest) (v ∷ vs)

  -- fields with commas between them, and one more where it may stand, behind those that stand before: each is the name of a field of the
  -- type, which isn't among those before, `:` and a value of the field's type
  pub data IsFields (enums : List EnumNames) : List (List ℕ × Ty) → List (List ℕ × Value) → List Part → List (List ℕ × Value) → Type 0 where
    no_fields : (fields : List (List ℕ × Ty)) (before : List (List ℕ × Value)) → IsFields enums fields before [] []
    last_field : (fields : List (List ℕ × Ty)) (before : List (List ℕ × Value)) (name : List ℕ) (ty : Ty) (ps : List Part) (v : Value)
        → field_named name before ≡ None → field_named name fields ≡ Some ty → IsValue enums ty ps v
        → IsFields enums fields before (part.Word name ∷ part.Mark 58 ∷ ps) ((name, v) ∷ [])
    more_fields : (fields : List (List ℕ × Ty)) (before : List (List ℕ × Value)) (name : List ℕ) (ty : Ty) (ps rest : List Part) (v : Value) (found : List (List ℕ × Value))
        → field_named name before ≡ None → field_named name fields ≡ Some ty → IsValue enums ty ps v → IsFields enums fields (before ++ (name, v) ∷ []) rest found
        → IsFields enums fields before (part.Word name ∷ part.Mark 58 ∷ (ps ++ part.Mark 44 ∷ rest)) ((name, v) ∷ found)

-- a text is a written form of a value of a type
abbrev pub Reads : List EnumNames → Ty → List ℕ → Value → Type 0
Reads enums ty text v = (parts : List Part) × AreParts text parts × IsValue enums ty parts v

-- the value of which a text is a written form, or that it is none, unless memory ran out
abbrev pub ReadsAs : List EnumNames → Ty → List ℕ → Result Value (End BadValue) → Type 0
ReadsAs enums ty text (Ok v) = Reads enums ty text v × ((other : Value) → Reads enums ty text other → other ≡ v)
ReadsAs enums ty text (Err (ends.Fault why)) = (v : Value) → Reads enums ty text v → ⊥
ReadsAs enums ty text (Err ends.Memory) = ⊤
