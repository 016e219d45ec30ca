-- One turn of the reading of items and of fields.
use Rattle.std.proofs.Common.{◌≡◌, ℕ, zero, suc, ◌+◌, ◌-◌, ◌<◌, Bool, true, false, List, [], ◌∷◌, ◌++◌, sym, ◌∙◌, ap, refl, arith, Option, Some, None}
use Rattle.std.specs.Prelude.{if◌then◌else◌, slice_get}
use Rattle.value_types.specs.declared.enums.EnumNames.{EnumNames}
use Rattle.value_reading.specs.declared.parts.Part.{Part}
use Rattle.value_reading.specs.declared.reading.Reading.{Reading}
use Rattle.value_reading.specs.declared.reading.ItemsRead.{ItemsRead}
use Rattle.value_reading.specs.declared.reading.FieldsRead.{FieldsRead}
use Rattle.value_types.specs.declared.types.Ty.{Ty, out-Ty}
use Rattle.value_types.specs.declared.values.Value.{Value}
use Rattle.value_reading.specs.Reading.{is_mark_at, item_then, items_read, field_then, field_read, name_read, fields_read, word_of, read_form, read_to}

-- a level
pub read_none : (enums : List EnumNames) (parts : List Part) (depth : ℕ) (ty : Ty) (at : ℕ) → depth ≡ 0 → None ≡ read_to enums parts depth ty at
unfolding read_to
read_none enums parts zero ty at e = refl
read_none enums parts (suc depth) ty at e = absurd (omega (arith, e))

pub read_more : (enums : List EnumNames) (parts : List Part) (depth below : ℕ) (ty : Ty) (at : ℕ) (found : Option Reading) → (depth ≡ 0 → ⊥) → below ≡ depth - 1
    → found ≡ read_form enums (read_to enums parts below) ty parts at (out-Ty ty) → found ≡ read_to enums parts depth ty at
unfolding read_to
read_more enums parts zero below ty at found n b e = absurd (n refl)
read_more enums parts (suc depth) below ty at found n b e = let same : below ≡ depth = omega arith in e ∙ ap (λ d. read_form enums (read_to enums parts d) ty parts at (out-Ty ty)) same

-- items: none left, the end, and an item
items_first : (read : ℕ → Option Reading) (parts : List Part) (left : ℕ) (before : List Value) (at : ℕ)
    → items_read read parts (suc left) before at ≡ (if is_mark_at parts at 93 then Some (record { values = before; next = at + 1 }) else item_then (λ values next. items_read read parts left values next) parts before (read at))
unfolding items_read
items_first read parts left before at = refl

pub items_out : (read : ℕ → Option Reading) (parts : List Part) (left : ℕ) (before : List Value) (at : ℕ) (whole : Option ItemsRead) → left ≡ 0 → whole ≡ items_read read parts left before at → None ≡ whole
unfolding items_read
items_out read parts zero before at whole z e = sym e
items_out read parts (suc left) before at whole z e = absurd (omega (arith, z))

pub items_end : (read : ℕ → Option Reading) (parts : List Part) (left : ℕ) (before : List Value) (at : ℕ) (whole : Option ItemsRead) → 0 < left → is_mark_at parts at 93 ≡ true
    → whole ≡ items_read read parts left before at → Some (record { values = before; next = at + 1 }) ≡ whole
items_end read parts zero before at whole l m e = absurd (omega arith)
items_end read parts (suc left) before at whole l m e =
    sym (e ∙ items_first read parts left before at ∙ ap (λ b. (if b then Some (record { values = before; next = at + 1 }) else item_then (λ values next. items_read read parts left values next) parts before (read at))) m)

items_step : (read : ℕ → Option Reading) (parts : List Part) (left now : ℕ) (before : List Value) (at : ℕ) (whole : Option ItemsRead) (found : Option Reading) → 0 < left → now ≡ left - 1 → is_mark_at parts at 93 ≡ false → found ≡ read at
    → whole ≡ items_read read parts left before at → whole ≡ item_then (λ values next. items_read read parts now values next) parts before found
items_step read parts zero now before at whole found l n m f e = absurd (omega arith)
items_step read parts (suc left) now before at whole found l n m f e =
    let same : left ≡ now = omega arith in
    e ∙ items_first read parts left before at ∙ ap (λ b. (if b then Some (record { values = before; next = at + 1 }) else item_then (λ values next. items_read read parts left values next) parts before (read at))) m
    ∙ ap (λ k. item_then (λ values next. items_read read parts k values next) parts before (read at)) same ∙ ap (λ o. item_then (λ values next. items_read read parts now values next) parts before o) (sym f)

pub items_stop : (read : ℕ → Option Reading) (parts : List Part) (left now : ℕ) (before : List Value) (at : ℕ) (whole : Option ItemsRead) (found : Option Reading) → 0 < left → now ≡ left - 1 → is_mark_at parts at 93 ≡ false → found ≡ read at → found ≡ None
    → whole ≡ items_read read parts left before at → None ≡ whole
items_stop read parts left now before at whole found l n m f none e = sym (items_step read parts left now before at whole found l n m f e ∙ ap (λ o. item_then (λ values next. items_read read parts now values next) parts before o) none)

-- behind an item
items_found : (read : ℕ → Option Reading) (parts : List Part) (left now : ℕ) (before : List Value) (at : ℕ) (whole : Option ItemsRead) (found : Option Reading) (f : Reading) (e44 e93 : Bool) → 0 < left → now ≡ left - 1 → is_mark_at parts at 93 ≡ false → found ≡ read at
    → found ≡ Some f → is_mark_at parts f.next 93 ≡ e93 → is_mark_at parts f.next 44 ≡ e44 → whole ≡ items_read read parts left before at
    → whole ≡ (if e93 then Some (record { values = before ++ f.value ∷ []; next = f.next + 1 }) else if e44 then items_read read parts now (before ++ f.value ∷ []) (f.next + 1) else None)
items_found read parts left now before at whole found f e44 e93 l n m r some h k e =
    items_step read parts left now before at whole found l n m r e ∙ ap (λ o. item_then (λ values next. items_read read parts now values next) parts before o) some
    ∙ ap (λ b. (if b then Some (record { values = before ++ f.value ∷ []; next = f.next + 1 }) else if is_mark_at parts f.next 44 then items_read read parts now (before ++ f.value ∷ []) (f.next + 1) else None)) h
    ∙ ap (λ b. (if e93 then Some (record { values = before ++ f.value ∷ []; next = f.next + 1 }) else if b then items_read read parts now (before ++ f.value ∷ []) (f.next + 1) else None)) k

pub items_last : (read : ℕ → Option Reading) (parts : List Part) (left now : ℕ) (before after : List Value) (at : ℕ) (whole : Option ItemsRead) (found : Option Reading) (f : Reading) → 0 < left → now ≡ left - 1 → is_mark_at parts at 93 ≡ false → found ≡ read at
    → found ≡ Some f → after ≡ before ++ f.value ∷ [] → is_mark_at parts f.next 93 ≡ true → whole ≡ items_read read parts left before at → Some (record { values = after; next = f.next + 1 }) ≡ whole
items_last read parts left now before after at whole found f l n m r some a h e =
    ap (λ (vs : List Value). Some (record { values = vs; next = f.next + 1 })) a ∙ sym (items_found read parts left now before at whole found f (is_mark_at parts f.next 44) true l n m r some h refl e)

pub items_lost : (read : ℕ → Option Reading) (parts : List Part) (left now : ℕ) (before : List Value) (at : ℕ) (whole : Option ItemsRead) (found : Option Reading) (f : Reading) → 0 < left → now ≡ left - 1 → is_mark_at parts at 93 ≡ false → found ≡ read at
    → found ≡ Some f → is_mark_at parts f.next 93 ≡ false → is_mark_at parts f.next 44 ≡ false → whole ≡ items_read read parts left before at → None ≡ whole
items_lost read parts left now before at whole found f l n m r some h k e = sym (items_found read parts left now before at whole found f false false l n m r some h k e)

pub items_more : (read : ℕ → Option Reading) (parts : List Part) (left now : ℕ) (before after : List Value) (at : ℕ) (whole : Option ItemsRead) (found : Option Reading) (f : Reading) → 0 < left → now ≡ left - 1 → is_mark_at parts at 93 ≡ false → found ≡ read at
    → found ≡ Some f → after ≡ before ++ f.value ∷ [] → is_mark_at parts f.next 93 ≡ false → is_mark_at parts f.next 44 ≡ true → whole ≡ items_read read parts left before at → whole ≡ items_read read parts now after (f.next + 1)
items_more read parts left now before after at whole found f l n m r some a h k e =
    items_found read parts left now before at whole found f true false l n m r some h k e ∙ ap (λ vs. items_read read parts now vs (f.next + 1)) (sym a)

-- fields: none left, the end, no word, and a field
fields_first : (read : Ty → ℕ → Option Reading) (fields : List (List ℕ × Ty)) (parts : List Part) (left : ℕ) (before : List (List ℕ × Value)) (at : ℕ)
    → fields_read read fields parts (suc left) before at ≡ (if is_mark_at parts at 125 then Some (record { fields = before; next = at + 1 }) else name_read (λ found next. fields_read read fields parts left found next) read fields parts before at (word_of (slice_get parts at)))
unfolding fields_read
fields_first read fields parts left before at = refl

pub fields_out : (read : Ty → ℕ → Option Reading) (fields : List (List ℕ × Ty)) (parts : List Part) (left : ℕ) (before : List (List ℕ × Value)) (at : ℕ) (whole : Option FieldsRead) → left ≡ 0 → whole ≡ fields_read read fields parts left before at → None ≡ whole
unfolding fields_read
fields_out read fields parts zero before at whole z e = sym e
fields_out read fields parts (suc left) before at whole z e = absurd (omega (arith, z))

pub fields_end : (read : Ty → ℕ → Option Reading) (fields : List (List ℕ × Ty)) (parts : List Part) (left : ℕ) (before : List (List ℕ × Value)) (at : ℕ) (whole : Option FieldsRead) → 0 < left → is_mark_at parts at 125 ≡ true
    → whole ≡ fields_read read fields parts left before at → Some (record { fields = before; next = at + 1 }) ≡ whole
fields_end read fields parts zero before at whole l m e = absurd (omega arith)
fields_end read fields parts (suc left) before at whole l m e =
    sym (e ∙ fields_first read fields parts left before at
    ∙ ap (λ b. (if b then Some (record { fields = before; next = at + 1 }) else name_read (λ found next. fields_read read fields parts left found next) read fields parts before at (word_of (slice_get parts at)))) m)

fields_step : (read : Ty → ℕ → Option Reading) (fields : List (List ℕ × Ty)) (parts : List Part) (left now : ℕ) (before : List (List ℕ × Value)) (at : ℕ) (whole : Option FieldsRead) (word : Option (List ℕ)) → 0 < left → now ≡ left - 1 → is_mark_at parts at 125 ≡ false
    → word ≡ word_of (slice_get parts at) → whole ≡ fields_read read fields parts left before at → whole ≡ name_read (λ found next. fields_read read fields parts now found next) read fields parts before at word
fields_step read fields parts zero now before at whole word l n m w e = absurd (omega arith)
fields_step read fields parts (suc left) now before at whole word l n m w e =
    let same : left ≡ now = omega arith in
    e ∙ fields_first read fields parts left before at
    ∙ ap (λ b. (if b then Some (record { fields = before; next = at + 1 }) else name_read (λ found next. fields_read read fields parts left found next) read fields parts before at (word_of (slice_get parts at)))) m
    ∙ ap (λ k. name_read (λ found next. fields_read read fields parts k found next) read fields parts before at (word_of (slice_get parts at))) same
    ∙ ap (λ o. name_read (λ found next. fields_read read fields parts now found next) read fields parts before at o) (sym w)

pub fields_wordless : (read : Ty → ℕ → Option Reading) (fields : List (List ℕ × Ty)) (parts : List Part) (left now : ℕ) (before : List (List ℕ × Value)) (at : ℕ) (whole : Option FieldsRead) (word : Option (List ℕ)) → 0 < left → now ≡ left - 1 → is_mark_at parts at 125 ≡ false
    → word ≡ word_of (slice_get parts at) → word ≡ None → whole ≡ fields_read read fields parts left before at → None ≡ whole
fields_wordless read fields parts left now before at whole word l n m w none e =
    sym (fields_step read fields parts left now before at whole word l n m w e ∙ ap (λ o. name_read (λ found next. fields_read read fields parts now found next) read fields parts before at o) none)

field_step : (read : Ty → ℕ → Option Reading) (fields : List (List ℕ × Ty)) (parts : List Part) (left now : ℕ) (before : List (List ℕ × Value)) (at : ℕ) (whole : Option FieldsRead) (word : Option (List ℕ)) (name : List ℕ) (found : Option Reading) → 0 < left → now ≡ left - 1 → is_mark_at parts at 125 ≡ false
    → word ≡ word_of (slice_get parts at) → word ≡ Some name → found ≡ field_read read fields parts before at name → whole ≡ fields_read read fields parts left before at
    → whole ≡ field_then (λ found next. fields_read read fields parts now found next) parts before name found
field_step read fields parts left now before at whole word name found l n m w some r e =
    fields_step read fields parts left now before at whole word l n m w e ∙ ap (λ o. name_read (λ found next. fields_read read fields parts now found next) read fields parts before at o) some
    ∙ ap (λ o. field_then (λ found next. fields_read read fields parts now found next) parts before name o) (sym r)

pub fields_stop : (read : Ty → ℕ → Option Reading) (fields : List (List ℕ × Ty)) (parts : List Part) (left now : ℕ) (before : List (List ℕ × Value)) (at : ℕ) (whole : Option FieldsRead) (word : Option (List ℕ)) (name : List ℕ) (found : Option Reading) → 0 < left → now ≡ left - 1 → is_mark_at parts at 125 ≡ false
    → word ≡ word_of (slice_get parts at) → word ≡ Some name → found ≡ field_read read fields parts before at name → found ≡ None → whole ≡ fields_read read fields parts left before at → None ≡ whole
fields_stop read fields parts left now before at whole word name found l n m w some r none e =
    sym (field_step read fields parts left now before at whole word name found l n m w some r e ∙ ap (λ o. field_then (λ found next. fields_read read fields parts now found next) parts before name o) none)

fields_found : (read : Ty → ℕ → Option Reading) (fields : List (List ℕ × Ty)) (parts : List Part) (left now : ℕ) (before : List (List ℕ × Value)) (at : ℕ) (whole : Option FieldsRead) (word : Option (List ℕ)) (name : List ℕ) (found : Option Reading) (f : Reading) (e44 e125 : Bool) → 0 < left → now ≡ left - 1 → is_mark_at parts at 125 ≡ false
    → word ≡ word_of (slice_get parts at) → word ≡ Some name → found ≡ field_read read fields parts before at name → found ≡ Some f → is_mark_at parts f.next 125 ≡ e125 → is_mark_at parts f.next 44 ≡ e44 → whole ≡ fields_read read fields parts left before at
    → whole ≡ (if e125 then Some (record { fields = before ++ (name, f.value) ∷ []; next = f.next + 1 }) else if e44 then fields_read read fields parts now (before ++ (name, f.value) ∷ []) (f.next + 1) else None)
fields_found read fields parts left now before at whole word name found f e44 e125 l n m w some r there h k e =
    field_step read fields parts left now before at whole word name found l n m w some r e ∙ ap (λ o. field_then (λ found next. fields_read read fields parts now found next) parts before name o) there
    ∙ ap (λ b. (if b then Some (record { fields = before ++ (name, f.value) ∷ []; next = f.next + 1 }) else if is_mark_at parts f.next 44 then fields_read read fields parts now (before ++ (name, f.value) ∷ []) (f.next + 1) else None)) h
    ∙ ap (λ b. (if e125 then Some (record { fields = before ++ (name, f.value) ∷ []; next = f.next + 1 }) else if b then fields_read read fields parts now (before ++ (name, f.value) ∷ []) (f.next + 1) else None)) k

pub fields_last : (read : Ty → ℕ → Option Reading) (fields : List (List ℕ × Ty)) (parts : List Part) (left now : ℕ) (before after : List (List ℕ × Value)) (at : ℕ) (whole : Option FieldsRead) (word : Option (List ℕ)) (name kept : List ℕ) (found : Option Reading) (f : Reading) → 0 < left → now ≡ left - 1 → is_mark_at parts at 125 ≡ false
    → word ≡ word_of (slice_get parts at) → word ≡ Some name → found ≡ field_read read fields parts before at name → found ≡ Some f → kept ≡ name → after ≡ before ++ (kept, f.value) ∷ [] → is_mark_at parts f.next 125 ≡ true → whole ≡ fields_read read fields parts left before at
    → Some (record { fields = after; next = f.next + 1 }) ≡ whole
fields_last read fields parts left now before after at whole word name kept found f l n m w some r there same a h e =
    ap (λ (vs : List (List ℕ × Value)). Some (record { fields = vs; next = f.next + 1 })) (a ∙ ap (λ (k : List ℕ). before ++ (k, f.value) ∷ []) same)
    ∙ sym (fields_found read fields parts left now before at whole word name found f (is_mark_at parts f.next 44) true l n m w some r there h refl e)

pub fields_lost : (read : Ty → ℕ → Option Reading) (fields : List (List ℕ × Ty)) (parts : List Part) (left now : ℕ) (before : List (List ℕ × Value)) (at : ℕ) (whole : Option FieldsRead) (word : Option (List ℕ)) (name : List ℕ) (found : Option Reading) (f : Reading) → 0 < left → now ≡ left - 1 → is_mark_at parts at 125 ≡ false
    → word ≡ word_of (slice_get parts at) → word ≡ Some name → found ≡ field_read read fields parts before at name → found ≡ Some f → is_mark_at parts f.next 125 ≡ false → is_mark_at parts f.next 44 ≡ false → whole ≡ fields_read read fields parts left before at → None ≡ whole
fields_lost read fields parts left now before at whole word name found f l n m w some r there h k e = sym (fields_found read fields parts left now before at whole word name found f false false l n m w some r there h k e)

pub fields_more : (read : Ty → ℕ → Option Reading) (fields : List (List ℕ × Ty)) (parts : List Part) (left now : ℕ) (before after : List (List ℕ × Value)) (at : ℕ) (whole : Option FieldsRead) (word : Option (List ℕ)) (name kept : List ℕ) (found : Option Reading) (f : Reading) → 0 < left → now ≡ left - 1 → is_mark_at parts at 125 ≡ false
    → word ≡ word_of (slice_get parts at) → word ≡ Some name → found ≡ field_read read fields parts before at name → found ≡ Some f → kept ≡ name → after ≡ before ++ (kept, f.value) ∷ [] → is_mark_at parts f.next 125 ≡ false → is_mark_at parts f.next 44 ≡ true → whole ≡ fields_read read fields parts left before at
    → whole ≡ fields_read read fields parts now after (f.next + 1)
fields_more read fields parts left now before after at whole word name kept found f l n m w some r there same a h k e =
    fields_found read fields parts left now before at whole word name found f true false l n m w some r there h k e
    ∙ ap (λ vs. fields_read read fields parts now vs (f.next + 1)) (sym (a ∙ ap (λ (x : List ℕ). before ++ (x, f.value) ∷ []) same))
