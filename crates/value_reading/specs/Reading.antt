-- What a reader finds at each place of the parts of a text, by a type.
use Rattle.std.specs.Prelude.{◌≡◌, ℕ, zero, suc, ◌+◌, Bool, true, false, ◌==◌, ◌&&◌, if◌then◌else◌, List, [], ◌∷◌, ◌++◌, length, codes, Option, Some, None, is_some, option_and_then, slice_get}
use Rattle.std.specs.Str.{bytes_eq}
use Rattle.value_types.specs.declared.enums.EnumNames.{EnumNames}
use Rattle.value_types.specs.declared.types.Ty.{Ty, out-Ty}
use Rattle.value_types.specs.declared.types.Ty.TheOpen as form
use Rattle.value_types.specs.declared.values.Value.{Value}
use Rattle.value_types.specs.declared.values.Value.TheVariants as value
use Rattle.value_types.specs.Conversions.{Form, converted, field_named}
use Rattle.value_reading.specs.declared.parts.Part.{Part}
use Rattle.value_reading.specs.declared.parts.Part.TheVariants as part
use Rattle.value_reading.specs.declared.reading.Reading.{Reading}
use Rattle.value_reading.specs.declared.reading.ItemsRead.{ItemsRead}
use Rattle.value_reading.specs.declared.reading.FieldsRead.{FieldsRead}
use Rattle.value_reading.specs.Words.{number_as, negative_as, word_in, pair_in, filled}

-- a value that is read, and the place behind it
abbrev pub beside : ℕ → Option Value → Option Reading
beside next None = None
beside next (Some v) = Some (record { value = v; next = next })

-- the part is this mark, or this word
abbrev pub is_mark_of : ℕ → Option Part → Bool
is_mark_of mark (Some (part.Mark m)) = m == mark
is_mark_of mark _ = false

abbrev pub is_mark_at : List Part → ℕ → ℕ → Bool
is_mark_at parts at mark = is_mark_of mark (slice_get parts at)

abbrev pub is_word_of : List ℕ → Option Part → Bool
is_word_of word (Some (part.Word w)) = bytes_eq w word
is_word_of word _ = false

-- a number behind a `-`
abbrev pub negative_read : Ty → ℕ → Option Part → Option Reading
negative_read ty at (Some (part.Number n)) = beside (at + 2) (converted (negative_as n) ty)
negative_read ty at _ = None

-- an image: `@`, the word `image-url`, and a string in parentheses
abbrev pub path_read : Ty → ℕ → Option Part → Option Reading
path_read ty at (Some (part.Str path)) = beside (at + 5) (converted (value.Image path) ty)
path_read ty at _ = None

abbrev pub image_read : Ty → List Part → ℕ → Option Reading
image_read ty parts at = if is_word_of (codes "image-url") (slice_get parts (at + 1)) && (is_mark_at parts (at + 2) 40 && is_mark_at parts (at + 4) 41)
    then path_read ty at (slice_get parts (at + 3)) else None

-- a mark with what is behind it
abbrev pub mark_read : Ty → List Part → ℕ → ℕ → Option Reading
mark_read ty parts at mark = if mark == 45 then negative_read ty at (slice_get parts (at + 1)) else if mark == 64 then image_read ty parts at else None

-- a word alone, or two with a point between them
abbrev pub second_read : List EnumNames → Ty → ℕ → List ℕ → Option Part → Option Reading
second_read enums ty at word (Some (part.Word second)) = beside (at + 3) (pair_in enums word second (out-Ty ty))
second_read enums ty at word _ = None

abbrev pub word_read : List EnumNames → Ty → List Part → ℕ → List ℕ → Option Reading
word_read enums ty parts at word = if is_mark_at parts (at + 1) 46 then second_read enums ty at word (slice_get parts (at + 2)) else beside (at + 1) (word_in enums word (out-Ty ty))

-- a value that is neither an array nor a struct
abbrev pub plain_by : List EnumNames → Ty → List Part → ℕ → Option Part → Option Reading
plain_by enums ty parts at None = None
plain_by enums ty parts at (Some (part.Number n)) = beside (at + 1) (converted (number_as n) ty)
plain_by enums ty parts at (Some (part.Color c)) = beside (at + 1) (converted (value.Color c) ty)
plain_by enums ty parts at (Some (part.Str t)) = beside (at + 1) (converted (value.Str t) ty)
plain_by enums ty parts at (Some (part.Word w)) = word_read enums ty parts at w
plain_by enums ty parts at (Some (part.Mark m)) = mark_read ty parts at m

abbrev pub plain_read : List EnumNames → Ty → List Part → ℕ → Option Reading
plain_read enums ty parts at = plain_by enums ty parts at (slice_get parts at)

-- behind an item stands the end, or a comma and more items
abbrev pub item_then : (List Value → ℕ → Option ItemsRead) → List Part → List Value → Option Reading → Option ItemsRead
item_then more parts before None = None
item_then more parts before (Some found) = if is_mark_at parts found.next 93 then Some (record { values = before ++ found.value ∷ []; next = found.next + 1 })
    else if is_mark_at parts found.next 44 then more (before ++ found.value ∷ []) (found.next + 1) else None

-- the items from a place on up to `]`, behind those before: values with commas between them, and one more where it may stand. As many
-- items as parts may be read.
unfoldable pub items_read : (ℕ → Option Reading) → List Part → ℕ → List Value → ℕ → Option ItemsRead
items_read read parts zero before at = None
items_read read parts (suc left) before at = if is_mark_at parts at 93 then Some (record { values = before; next = at + 1 }) else item_then (λ values next. items_read read parts left values next) parts before (read at)

-- behind a field stands the end, or a comma and more fields
abbrev pub field_then : (List (List ℕ × Value) → ℕ → Option FieldsRead) → List Part → List (List ℕ × Value) → List ℕ → Option Reading → Option FieldsRead
field_then more parts before name None = None
field_then more parts before name (Some found) = if is_mark_at parts found.next 125 then Some (record { fields = before ++ (name, found.value) ∷ []; next = found.next + 1 })
    else if is_mark_at parts found.next 44 then more (before ++ (name, found.value) ∷ []) (found.next + 1) else None

-- a field: its name, which stands among those of the type and not before, `:` and a value of its type
abbrev pub field_read : (Ty → ℕ → Option Reading) → List (List ℕ × Ty) → List Part → List (List ℕ × Value) → ℕ → List ℕ → Option Reading
field_read read fields parts before at name = if is_some (field_named name before) then None else if is_mark_at parts (at + 1) 58 then option_and_then (λ ty. read ty (at + 2)) (field_named name fields) else None

-- the word that a part is
abbrev pub word_of : Option Part → Option (List ℕ)
word_of (Some (part.Word word)) = Some word
word_of _ = None

abbrev pub name_read : (List (List ℕ × Value) → ℕ → Option FieldsRead) → (Ty → ℕ → Option Reading) → List (List ℕ × Ty) → List Part → List (List ℕ × Value) → ℕ → Option (List ℕ) → Option FieldsRead
name_read more read fields parts before at None = None
name_read more read fields parts before at (Some name) = field_then more parts before name (field_read read fields parts before at name)

-- the fields from a place on up to `}`, behind those before, in the order in which they are written
unfoldable pub fields_read : (Ty → ℕ → Option Reading) → List (List ℕ × Ty) → List Part → ℕ → List (List ℕ × Value) → ℕ → Option FieldsRead
fields_read read fields parts zero before at = None
fields_read read fields parts (suc left) before at = if is_mark_at parts at 125 then Some (record { fields = before; next = at + 1 })
    else name_read (λ found next. fields_read read fields parts left found next) read fields parts before at (word_of (slice_get parts at))

-- an array and a struct, and the place behind them
abbrev pub array_of : Option ItemsRead → Option Reading
array_of None = None
array_of (Some found) = Some (record { value = value.Array found.values; next = found.next })

abbrev pub struct_of : List (List ℕ × Ty) → Option FieldsRead → Option Reading
struct_of fields None = None
struct_of fields (Some found) = Some (record { value = value.Struct (filled fields found.fields); next = found.next })

abbrev pub array_read : (ℕ → Option Reading) → List Part → ℕ → Option Reading
array_read read parts at = if is_mark_at parts at 91 then array_of (items_read read parts (suc (length parts)) [] (at + 1)) else None

abbrev pub struct_read : (Ty → ℕ → Option Reading) → List (List ℕ × Ty) → List Part → ℕ → Option Reading
struct_read read fields parts at = if is_mark_at parts at 123 then struct_of fields (fields_read read fields parts (suc (length parts)) [] (at + 1)) else None

-- a value of a type, opened, by how those of its parts are read
abbrev pub read_form : List EnumNames → (Ty → ℕ → Option Reading) → Ty → List Part → ℕ → Form → Option Reading
read_form enums read ty parts at (form.Array item) = array_read (read item) parts at
read_form enums read ty parts at (form.Struct fields) = struct_read read fields parts at
read_form enums read ty parts at _ = plain_read enums ty parts at

-- the value of a type that stands at a place, to so many levels of arrays and structs
unfoldable pub read_to : List EnumNames → List Part → ℕ → Ty → ℕ → Option Reading
read_to enums parts zero ty at = None
read_to enums parts (suc depth) ty at = read_form enums (read_to enums parts depth) ty parts at (out-Ty ty)

-- the value that parts are, with none left. No array or struct has more levels than its text has parts.
abbrev pub whole_of : List Part → Option Reading → Option Value
whole_of parts None = None
whole_of parts (Some found) = if found.next == length parts then Some found.value else None

abbrev pub value_of_parts : List EnumNames → Ty → List Part → Option Value
value_of_parts enums ty parts = whole_of parts (read_to enums parts (length parts + 1) ty 0)
