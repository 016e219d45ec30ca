-- Written forms are read.
use Rattle.std.proofs.Common.{◌≡◌, ℕ, zero, suc, ◌+◌, ◌-◌, ◌<◌, ◌≤◌, Bool, true, false, List, [], ◌∷◌, ◌++◌, length, drop, sym, ◌∙◌, ap, refl, subst, arith, append_assoc, append-nil, length-append, eq-eqb, Option, Some, None}
use Rattle.std.specs.Prelude.{if◌then◌else◌, ◌==◌, ◌&&◌, slice_get, codes, option_and_then, is_some}
use Rattle.std.proofs.lemmas.List.{drop-drop, drop_at, length-drop}
use Rattle.slint_literals.specs.declared.numbers.Number.{Number}
use Rattle.value_types.specs.declared.enums.EnumNames.{EnumNames}
use Rattle.value_types.specs.declared.types.Ty.{Ty, out-Ty}
use Rattle.value_types.specs.declared.types.Ty.TheOpen as form
use Rattle.value_types.specs.declared.values.Value.{Value}
use Rattle.value_types.specs.declared.values.Value.TheVariants as value
use Rattle.value_types.specs.Conversions.{Form, converted, field_named}
use Rattle.value_reading.specs.declared.parts.Part.{Part}
use Rattle.value_reading.specs.declared.parts.Part.TheVariants as part
use Rattle.value_reading.specs.declared.reading.Reading.{Reading}
use Rattle.value_reading.specs.declared.reading.ItemsRead.{ItemsRead}
use Rattle.value_reading.specs.declared.reading.FieldsRead.{FieldsRead}
use Rattle.value_reading.specs.Reading.{beside, is_mark_of, is_mark_at, is_word_of, path_read, negative_read, second_read, plain_by, plain_read, items_read, field_read, fields_read, word_of, array_of, struct_of, array_read, struct_read, read_form, read_to, whole_of, value_of_parts}
use Rattle.value_reading.specs.Words.{number_as, negative_as, word_in, pair_in, filled}
use Rattle.value_reading.specs.Grammar.{IsValue, a_number, a_negative, a_color, a_string, a_word, a_pair, an_image, an_array, a_struct, IsItems, no_items, last_item, more_items, IsFields, no_fields, last_field, more_fields}
use Rattle.value_reading.proofs.Scalars.{is_plain, number_plain, negative_plain, color_plain, text_plain, image_plain, word_plain, pair_plain}
use Rattle.value_reading.proofs.ReadingLemmas.{items_end, items_last, items_more, fields_end, fields_last, fields_more}

-- what stands at a place
get-drop : {X : Type 0} (n : ℕ) (xs : List X) (i : ℕ) → slice_get (drop n xs) i ≡ slice_get xs (n + i)
get-drop zero xs i = let same : i ≡ 0 + i = omega arith in ap (slice_get xs) same
get-drop (suc n) [] i = refl
get-drop (suc n) (x ∷ xs) i = let same : suc (n + i) ≡ suc n + i = omega arith in get-drop n xs i ∙ ap (slice_get (x ∷ xs)) same

get-behind : {X : Type 0} (xs : List X) (y : X) (ys : List X) → slice_get (xs ++ y ∷ ys) (length xs) ≡ Some y
get-behind [] y ys = refl
get-behind (x ∷ xs) y ys = get-behind xs y ys

look : (all tail : List Part) (at k : ℕ) → drop at all ≡ tail → slice_get all (at + k) ≡ slice_get tail k
look all tail at k e = sym (get-drop at all k) ∙ ap (λ xs. slice_get xs k) e

look_here : (all tail : List Part) (at : ℕ) → drop at all ≡ tail → slice_get all at ≡ slice_get tail 0
look_here all tail at e = let same : at ≡ at + 0 = omega arith in ap (slice_get all) same ∙ look all tail at 0 e

behind : (all xs ys : List Part) (at : ℕ) → drop at all ≡ xs ++ ys → drop (at + length xs) all ≡ ys
behind all xs ys at e = sym (drop-drop (length xs) at all) ∙ ap (drop (length xs)) e ∙ drop_at xs ys (length xs) refl

next : (all ys : List Part) (p : Part) (at : ℕ) → drop at all ≡ p ∷ ys → drop (at + 1) all ≡ ys
next all ys p at e = sym (drop-drop 1 at all) ∙ ap (drop 1) e

-- a value that is neither an array nor a struct
form_plain : (enums : List EnumNames) (read : Ty → ℕ → Option Reading) (ty : Ty) (all : List Part) (at : ℕ) (f : Form) → is_plain f ≡ true → read_form enums read ty all at f ≡ plain_read enums ty all at
form_plain enums read ty all at (form.Array item) h = absurd (cc)
form_plain enums read ty all at (form.Struct fields) h = absurd (cc)
form_plain enums read ty all at _ h = refl

plain_reads : (enums : List EnumNames) (all : List Part) (ty : Ty) (at depth : ℕ) (found : Option Reading) → 1 ≤ depth → is_plain (out-Ty ty) ≡ true → plain_read enums ty all at ≡ found → read_to enums all depth ty at ≡ found
unfolding read_to
plain_reads enums all ty at zero found h p e = absurd (omega arith)
plain_reads enums all ty at (suc depth) found h p e = form_plain enums (read_to enums all depth) ty all at (out-Ty ty) p ∙ e

number_reads : (enums : List EnumNames) (all after : List Part) (ty : Ty) (n : Number) (v : Value) (at depth : ℕ) → converted (number_as n) ty ≡ Some v → drop at all ≡ part.Number n ∷ after → 1 ≤ depth
    → read_to enums all depth ty at ≡ Some (record { value = v; next = at + 1 })
number_reads enums all after ty n v at depth e d h =
    plain_reads enums all ty at depth _ h (number_plain n ty v e) (ap (λ o. plain_by enums ty all at o) (look_here all (part.Number n ∷ after) at d) ∙ ap (λ o. beside (at + 1) o) e)

negative_reads : (enums : List EnumNames) (all after : List Part) (ty : Ty) (n : Number) (v : Value) (at depth : ℕ) → converted (negative_as n) ty ≡ Some v → drop at all ≡ part.Mark 45 ∷ part.Number n ∷ after → 1 ≤ depth
    → read_to enums all depth ty at ≡ Some (record { value = v; next = at + 2 })
negative_reads enums all after ty n v at depth e d h =
    plain_reads enums all ty at depth _ h (negative_plain n ty v e)
    (ap (λ o. plain_by enums ty all at o) (look_here all (part.Mark 45 ∷ part.Number n ∷ after) at d) ∙ ap (λ o. negative_read ty at o) (look all (part.Mark 45 ∷ part.Number n ∷ after) at 1 d) ∙ ap (λ o. beside (at + 2) o) e)

color_reads : (enums : List EnumNames) (all after : List Part) (ty : Ty) (c : ℕ) (v : Value) (at depth : ℕ) → converted (value.Color c) ty ≡ Some v → drop at all ≡ part.Color c ∷ after → 1 ≤ depth
    → read_to enums all depth ty at ≡ Some (record { value = v; next = at + 1 })
color_reads enums all after ty c v at depth e d h =
    plain_reads enums all ty at depth _ h (color_plain c ty v e) (ap (λ o. plain_by enums ty all at o) (look_here all (part.Color c ∷ after) at d) ∙ ap (λ o. beside (at + 1) o) e)

string_reads : (enums : List EnumNames) (all after : List Part) (ty : Ty) (t : List ℕ) (v : Value) (at depth : ℕ) → converted (value.Str t) ty ≡ Some v → drop at all ≡ part.Str t ∷ after → 1 ≤ depth
    → read_to enums all depth ty at ≡ Some (record { value = v; next = at + 1 })
string_reads enums all after ty t v at depth e d h =
    plain_reads enums all ty at depth _ h (text_plain t ty v e) (ap (λ o. plain_by enums ty all at o) (look_here all (part.Str t ∷ after) at d) ∙ ap (λ o. beside (at + 1) o) e)

word_reads : (enums : List EnumNames) (all after : List Part) (ty : Ty) (w : List ℕ) (v : Value) (at depth : ℕ) → word_in enums w (out-Ty ty) ≡ Some v → drop at all ≡ part.Word w ∷ after → is_mark_of 46 (slice_get after 0) ≡ false → 1 ≤ depth
    → read_to enums all depth ty at ≡ Some (record { value = v; next = at + 1 })
word_reads enums all after ty w v at depth e d m h =
    plain_reads enums all ty at depth _ h (word_plain enums w ty v e)
    (ap (λ o. plain_by enums ty all at o) (look_here all (part.Word w ∷ after) at d)
    ∙ ap (λ b. (if b then second_read enums ty at w (slice_get all (at + 2)) else beside (at + 1) (word_in enums w (out-Ty ty)))) (ap (is_mark_of 46) (look all (part.Word w ∷ after) at 1 d) ∙ m) ∙ ap (λ o. beside (at + 1) o) e)

pair_reads : (enums : List EnumNames) (all after : List Part) (ty : Ty) (w x : List ℕ) (v : Value) (at depth : ℕ) → pair_in enums w x (out-Ty ty) ≡ Some v → drop at all ≡ part.Word w ∷ part.Mark 46 ∷ part.Word x ∷ after → 1 ≤ depth
    → read_to enums all depth ty at ≡ Some (record { value = v; next = at + 3 })
pair_reads enums all after ty w x v at depth e d h =
    let tail : List Part = part.Word w ∷ part.Mark 46 ∷ part.Word x ∷ after in
    plain_reads enums all ty at depth _ h (pair_plain enums w x ty v e)
    (ap (λ o. plain_by enums ty all at o) (look_here all tail at d)
    ∙ ap (λ b. (if b then second_read enums ty at w (slice_get all (at + 2)) else beside (at + 1) (word_in enums w (out-Ty ty)))) (ap (is_mark_of 46) (look all tail at 1 d))
    ∙ ap (λ o. second_read enums ty at w o) (look all tail at 2 d) ∙ ap (λ o. beside (at + 3) o) e)

image_reads : (enums : List EnumNames) (all after : List Part) (ty : Ty) (path : List ℕ) (v : Value) (at depth : ℕ) → converted (value.Image path) ty ≡ Some v
    → drop at all ≡ part.Mark 64 ∷ part.Word (codes "image-url") ∷ part.Mark 40 ∷ part.Str path ∷ part.Mark 41 ∷ after → 1 ≤ depth → read_to enums all depth ty at ≡ Some (record { value = v; next = at + 5 })
image_reads enums all after ty path v at depth e d h =
    let tail : List Part = part.Mark 64 ∷ part.Word (codes "image-url") ∷ part.Mark 40 ∷ part.Str path ∷ part.Mark 41 ∷ after in
    plain_reads enums all ty at depth _ h (image_plain path ty v e)
    (ap (λ o. plain_by enums ty all at o) (look_here all tail at d)
    ∙ ap (λ o. (if is_word_of (codes "image-url") o && (is_mark_of 40 (slice_get all (at + 2)) && is_mark_of 41 (slice_get all (at + 4))) then path_read ty at (slice_get all (at + 3)) else None)) (look all tail at 1 d)
    ∙ ap (λ o. (if is_mark_of 40 o && is_mark_of 41 (slice_get all (at + 4)) then path_read ty at (slice_get all (at + 3)) else None)) (look all tail at 2 d)
    ∙ ap (λ o. (if is_mark_of 41 o then path_read ty at (slice_get all (at + 3)) else None)) (look all tail at 4 d)
    ∙ ap (λ o. path_read ty at o) (look all tail at 3 d) ∙ ap (λ o. beside (at + 5) o) e)

-- an array and a struct, by what is inside
array_reads : (enums : List EnumNames) (all : List Part) (ty item : Ty) (vs : List Value) (at below end : ℕ) → out-Ty ty ≡ form.Array item → is_mark_of 91 (slice_get all at) ≡ true
    → items_read (read_to enums all below item) all (suc (length all)) [] (at + 1) ≡ Some (record { values = vs; next = end }) → read_to enums all (suc below) ty at ≡ Some (record { value = value.Array vs; next = end })
unfolding read_to
array_reads enums all ty item vs at below end f m e =
    ap (λ g. read_form enums (read_to enums all below) ty all at g) f ∙ ap (λ b. (if b then array_of (items_read (read_to enums all below item) all (suc (length all)) [] (at + 1)) else None)) m ∙ ap (λ o. array_of o) e

struct_reads : (enums : List EnumNames) (all : List Part) (ty : Ty) (fields : List (List ℕ × Ty)) (found : List (List ℕ × Value)) (at below end : ℕ) → out-Ty ty ≡ form.Struct fields → is_mark_of 123 (slice_get all at) ≡ true
    → fields_read (read_to enums all below) fields all (suc (length all)) [] (at + 1) ≡ Some (record { fields = found; next = end }) → read_to enums all (suc below) ty at ≡ Some (record { value = value.Struct (filled fields found); next = end })
unfolding read_to
struct_reads enums all ty fields found at below end f m e =
    ap (λ g. read_form enums (read_to enums all below) ty all at g) f ∙ ap (λ b. (if b then struct_of fields (fields_read (read_to enums all below) fields all (suc (length all)) [] (at + 1)) else None)) m ∙ ap (λ o. struct_of fields o) e

-- no value begins with the end of a list
pub begins : (enums : List EnumNames) (ty : Ty) (ps : List Part) (v : Value) → IsValue enums ty ps v → (rest : List Part) → is_mark_of 93 (slice_get (ps ++ rest) 0) ≡ false
begins enums _ _ _ (a_number ty n v e) rest = refl
begins enums _ _ _ (a_negative ty n v e) rest = refl
begins enums _ _ _ (a_color ty c v e) rest = refl
begins enums _ _ _ (a_string ty t v e) rest = refl
begins enums _ _ _ (a_word ty w v e) rest = refl
begins enums _ _ _ (a_pair ty w x v e) rest = refl
begins enums _ _ _ (an_image ty path v e) rest = refl
begins enums _ _ _ (an_array ty item inside vs e is) rest = refl
begins enums _ _ _ (a_struct ty fields inside found e is) rest = refl

-- a value and its place, by another way to count
same_reading : (o : Option Reading) (v : Value) (a b : ℕ) → o ≡ Some (record { value = v; next = a }) → a ≡ b → o ≡ Some (record { value = v; next = b })
same_reading o v a b e f = e ∙ ap (λ k. Some (record { value = v; next = k })) f

-- the length of what a list's brackets hold
within : (all inside after : List Part) (p q : Part) (at : ℕ) → drop at all ≡ p ∷ (inside ++ q ∷ after) → length inside < suc (length all)
within all inside after p q at d = let e = ap length d in omega (arith, e, length-drop at all, length-append inside (q ∷ after))

unclosed : (inside after : List Part) (p q : Part) → (p ∷ (inside ++ q ∷ [])) ++ after ≡ p ∷ (inside ++ q ∷ after)
unclosed inside after p q = ap (λ xs. p ∷ xs) (append_assoc inside (q ∷ []) after)

bracketed : (inside : List Part) (p q : Part) → length (p ∷ (inside ++ q ∷ [])) ≡ length inside + 2
bracketed inside p q = omega (arith, length-append inside (q ∷ []))

-- what a list's reading gives, counted another way
same_items : (o : Option ItemsRead) (vs ws : List Value) (a b : ℕ) → o ≡ Some (record { values = vs; next = a }) → vs ≡ ws → a ≡ b → o ≡ Some (record { values = ws; next = b })
same_items o vs ws a b e f g = e ∙ ap (λ (xs : List Value). Some (record { values = xs; next = a })) f ∙ ap (λ k. Some (record { values = ws; next = k })) g

same_fields : (o : Option FieldsRead) (vs ws : List (List ℕ × Value)) (a b : ℕ) → o ≡ Some (record { fields = vs; next = a }) → vs ≡ ws → a ≡ b → o ≡ Some (record { fields = ws; next = b })
same_fields o vs ws a b e f g = e ∙ ap (λ (xs : List (List ℕ × Value)). Some (record { fields = xs; next = a })) f ∙ ap (λ k. Some (record { fields = ws; next = k })) g

parted : (ps rest : List Part) → length (ps ++ part.Mark 44 ∷ rest) ≡ length ps + length rest + 1
parted ps rest = omega (arith, length-append ps (part.Mark 44 ∷ rest))

marked : (all xs ys : List Part) (p : Part) (at : ℕ) → drop at all ≡ xs ++ p ∷ ys → slice_get all (at + length xs) ≡ Some p
marked all xs ys p at d = look all (xs ++ p ∷ ys) at (length xs) d ∙ get-behind xs p ys

-- items: the end, the last, and one with a comma behind it
items_none : (enums : List EnumNames) (all : List Part) (item : Ty) (before : List Value) (at depth left : ℕ) (after : List Part) → drop at all ≡ part.Mark 93 ∷ after → 0 < left
    → items_read (read_to enums all depth item) all left before at ≡ Some (record { values = before ++ []; next = at + 0 + 1 })
items_none enums all item before at depth left after d l =
    let mark : is_mark_at all at 93 ≡ true = ap (is_mark_of 93) (look_here all (part.Mark 93 ∷ after) at d) in
    let count : at + 1 ≡ at + 0 + 1 = omega arith in
    same_items _ before (before ++ []) (at + 1) (at + 0 + 1) (sym (items_end (read_to enums all depth item) all left before at _ l mark refl)) (sym (append-nil before)) count

item_last : (enums : List EnumNames) (all : List Part) (item : Ty) (ps after : List Part) (before : List Value) (v : Value) (at depth left : ℕ) → is_mark_of 93 (slice_get (ps ++ part.Mark 93 ∷ after) 0) ≡ false → drop at all ≡ ps ++ part.Mark 93 ∷ after
    → read_to enums all depth item at ≡ Some (record { value = v; next = at + length ps }) → 0 < left → items_read (read_to enums all depth item) all left before at ≡ Some (record { values = before ++ v ∷ []; next = at + length ps + 1 })
item_last enums all item ps after before v at depth left open_m d read l =
    let f : Reading = record { value = v; next = at + length ps } in
    let first : is_mark_at all at 93 ≡ false = ap (is_mark_of 93) (look_here all (ps ++ part.Mark 93 ∷ after) at d) ∙ open_m in
    let last : is_mark_at all (at + length ps) 93 ≡ true = ap (is_mark_of 93) (marked all ps after (part.Mark 93) at d) in
    sym (items_last (read_to enums all depth item) all left (left - 1) before (before ++ v ∷ []) at _ _ f l refl first refl read refl last refl)

item_more : (enums : List EnumNames) (all : List Part) (item : Ty) (ps rest after : List Part) (before : List Value) (v : Value) (vs : List Value) (at depth left : ℕ) → is_mark_of 93 (slice_get (ps ++ part.Mark 44 ∷ (rest ++ part.Mark 93 ∷ after)) 0) ≡ false
    → drop at all ≡ ps ++ part.Mark 44 ∷ (rest ++ part.Mark 93 ∷ after) → read_to enums all depth item at ≡ Some (record { value = v; next = at + length ps }) → 0 < left
    → items_read (read_to enums all depth item) all (left - 1) (before ++ v ∷ []) (at + length ps + 1) ≡ Some (record { values = (before ++ v ∷ []) ++ vs; next = at + length ps + 1 + length rest + 1 })
    → items_read (read_to enums all depth item) all left before at ≡ Some (record { values = before ++ v ∷ vs; next = at + length (ps ++ part.Mark 44 ∷ rest) + 1 })
item_more enums all item ps rest after before v vs at depth left open_m d read l more =
    let f : Reading = record { value = v; next = at + length ps } in
    let tail : List Part = rest ++ part.Mark 93 ∷ after in
    let first : is_mark_at all at 93 ≡ false = ap (is_mark_of 93) (look_here all (ps ++ part.Mark 44 ∷ tail) at d) ∙ open_m in
    let last : is_mark_at all (at + length ps) 93 ≡ false = ap (is_mark_of 93) (marked all ps tail (part.Mark 44) at d) in
    let comma : is_mark_at all (at + length ps) 44 ≡ true = ap (is_mark_of 44) (marked all ps tail (part.Mark 44) at d) in
    let count : at + length ps + 1 + length rest + 1 ≡ at + length (ps ++ part.Mark 44 ∷ rest) + 1 = omega (arith, parted ps rest) in
    same_items _ ((before ++ v ∷ []) ++ vs) (before ++ v ∷ vs) (at + length ps + 1 + length rest + 1) (at + length (ps ++ part.Mark 44 ∷ rest) + 1)
    (items_more (read_to enums all depth item) all left (left - 1) before (before ++ v ∷ []) at _ _ f l refl first refl read refl last comma refl ∙ more) (append_assoc before (v ∷ []) vs) count

-- fields, likewise
fields_none : (enums : List EnumNames) (all : List Part) (fields : List (List ℕ × Ty)) (before : List (List ℕ × Value)) (at depth left : ℕ) (after : List Part) → drop at all ≡ part.Mark 125 ∷ after → 0 < left
    → fields_read (read_to enums all depth) fields all left before at ≡ Some (record { fields = before ++ []; next = at + 0 + 1 })
fields_none enums all fields before at depth left after d l =
    let mark : is_mark_at all at 125 ≡ true = ap (is_mark_of 125) (look_here all (part.Mark 125 ∷ after) at d) in
    let count : at + 1 ≡ at + 0 + 1 = omega arith in
    same_fields _ before (before ++ []) (at + 1) (at + 0 + 1) (sym (fields_end (read_to enums all depth) fields all left before at _ l mark refl)) (sym (append-nil before)) count

field_there : (read : Ty → ℕ → Option Reading) (fields : List (List ℕ × Ty)) (all : List Part) (before : List (List ℕ × Value)) (at : ℕ) (name : List ℕ) (ty : Ty) (found : Option Reading) → field_named name before ≡ None → is_mark_at all (at + 1) 58 ≡ true
    → field_named name fields ≡ Some ty → read ty (at + 2) ≡ found → field_read read fields all before at name ≡ found
field_there read fields all before at name ty found new colon known e =
    ap (λ o. (if is_some o then None else if is_mark_at all (at + 1) 58 then option_and_then (λ t. read t (at + 2)) (field_named name fields) else None)) new
    ∙ ap (λ b. (if b then option_and_then (λ t. read t (at + 2)) (field_named name fields) else None)) colon ∙ ap (λ o. option_and_then (λ t. read t (at + 2)) o) known ∙ e

field_last : (enums : List EnumNames) (all : List Part) (fields : List (List ℕ × Ty)) (before : List (List ℕ × Value)) (name : List ℕ) (ty : Ty) (ps after : List Part) (v : Value) (at depth left : ℕ) → field_named name before ≡ None → field_named name fields ≡ Some ty
    → drop at all ≡ part.Word name ∷ part.Mark 58 ∷ (ps ++ part.Mark 125 ∷ after) → read_to enums all depth ty (at + 2) ≡ Some (record { value = v; next = at + 2 + length ps }) → 0 < left
    → fields_read (read_to enums all depth) fields all left before at ≡ Some (record { fields = before ++ (name, v) ∷ []; next = at + length (part.Word name ∷ part.Mark 58 ∷ ps) + 1 })
field_last enums all fields before name ty ps after v at depth left new known d read l =
    let tail : List Part = part.Word name ∷ part.Mark 58 ∷ (ps ++ part.Mark 125 ∷ after) in
    let f : Reading = record { value = v; next = at + 2 + length ps } in
    let first : is_mark_at all at 125 ≡ false = ap (is_mark_of 125) (look_here all tail at d) in
    let word : Some name ≡ word_of (slice_get all at) = sym (ap word_of (look_here all tail at d)) in
    let colon : is_mark_at all (at + 1) 58 ≡ true = ap (is_mark_of 58) (look all tail at 1 d) in
    let there = field_there (read_to enums all depth) fields all before at name ty _ new colon known read in
    let last : is_mark_at all (at + 2 + length ps) 125 ≡ true = ap (is_mark_of 125) (marked all ps after (part.Mark 125) (at + 2) (behind all (part.Word name ∷ part.Mark 58 ∷ []) (ps ++ part.Mark 125 ∷ after) at d)) in
    let count : at + 2 + length ps + 1 ≡ at + length (part.Word name ∷ part.Mark 58 ∷ ps) + 1 = omega arith in
    same_fields _ (before ++ (name, v) ∷ []) (before ++ (name, v) ∷ []) (at + 2 + length ps + 1) (at + length (part.Word name ∷ part.Mark 58 ∷ ps) + 1)
    (sym (fields_last (read_to enums all depth) fields all left (left - 1) before (before ++ (name, v) ∷ []) at _ (Some name) name name _ f l refl first word refl refl there refl refl last refl)) refl count

field_more : (enums : List EnumNames) (all : List Part) (fields : List (List ℕ × Ty)) (before : List (List ℕ × Value)) (name : List ℕ) (ty : Ty) (ps rest after : List Part) (v : Value) (found : List (List ℕ × Value)) (at depth left : ℕ) → field_named name before ≡ None
    → field_named name fields ≡ Some ty → drop at all ≡ part.Word name ∷ part.Mark 58 ∷ (ps ++ part.Mark 44 ∷ (rest ++ part.Mark 125 ∷ after)) → read_to enums all depth ty (at + 2) ≡ Some (record { value = v; next = at + 2 + length ps }) → 0 < left
    → fields_read (read_to enums all depth) fields all (left - 1) (before ++ (name, v) ∷ []) (at + 2 + length ps + 1) ≡ Some (record { fields = (before ++ (name, v) ∷ []) ++ found; next = at + 2 + length ps + 1 + length rest + 1 })
    → fields_read (read_to enums all depth) fields all left before at ≡ Some (record { fields = before ++ (name, v) ∷ found; next = at + length (part.Word name ∷ part.Mark 58 ∷ (ps ++ part.Mark 44 ∷ rest)) + 1 })
field_more enums all fields before name ty ps rest after v found at depth left new known d read l more =
    let behind_it : List Part = rest ++ part.Mark 125 ∷ after in
    let tail : List Part = part.Word name ∷ part.Mark 58 ∷ (ps ++ part.Mark 44 ∷ behind_it) in
    let f : Reading = record { value = v; next = at + 2 + length ps } in
    let first : is_mark_at all at 125 ≡ false = ap (is_mark_of 125) (look_here all tail at d) in
    let word : Some name ≡ word_of (slice_get all at) = sym (ap word_of (look_here all tail at d)) in
    let colon : is_mark_at all (at + 1) 58 ≡ true = ap (is_mark_of 58) (look all tail at 1 d) in
    let there = field_there (read_to enums all depth) fields all before at name ty _ new colon known read in
    let at_comma = marked all ps behind_it (part.Mark 44) (at + 2) (behind all (part.Word name ∷ part.Mark 58 ∷ []) (ps ++ part.Mark 44 ∷ behind_it) at d) in
    let last : is_mark_at all (at + 2 + length ps) 125 ≡ false = ap (is_mark_of 125) at_comma in
    let comma : is_mark_at all (at + 2 + length ps) 44 ≡ true = ap (is_mark_of 44) at_comma in
    let count : at + 2 + length ps + 1 + length rest + 1 ≡ at + length (part.Word name ∷ part.Mark 58 ∷ (ps ++ part.Mark 44 ∷ rest)) + 1 = omega (arith, parted ps rest) in
    same_fields _ ((before ++ (name, v) ∷ []) ++ found) (before ++ (name, v) ∷ found) (at + 2 + length ps + 1 + length rest + 1) (at + length (part.Word name ∷ part.Mark 58 ∷ (ps ++ part.Mark 44 ∷ rest)) + 1)
    (fields_more (read_to enums all depth) fields all left (left - 1) before (before ++ (name, v) ∷ []) at _ (Some name) name name _ f l refl first word refl refl there refl refl last comma refl ∙ more) (append_assoc before ((name, v) ∷ []) found) count

mutual
  pub value_reads : (enums : List EnumNames) (all : List Part) (ty : Ty) (ps : List Part) (v : Value) → IsValue enums ty ps v → (at depth : ℕ) (after : List Part) → drop at all ≡ ps ++ after → is_mark_of 46 (slice_get after 0) ≡ false → length ps ≤ depth
      → read_to enums all depth ty at ≡ Some (record { value = v; next = at + length ps })
  value_reads enums all _ _ _ (a_number ty n v e) at depth after d m h = number_reads enums all after ty n v at depth e d h
  value_reads enums all _ _ _ (a_negative ty n v e) at depth after d m h = negative_reads enums all after ty n v at depth e d (omega (arith, h))
  value_reads enums all _ _ _ (a_color ty c v e) at depth after d m h = color_reads enums all after ty c v at depth e d h
  value_reads enums all _ _ _ (a_string ty t v e) at depth after d m h = string_reads enums all after ty t v at depth e d h
  value_reads enums all _ _ _ (a_word ty w v e) at depth after d m h = word_reads enums all after ty w v at depth e d m h
  value_reads enums all _ _ _ (a_pair ty w x v e) at depth after d m h = pair_reads enums all after ty w x v at depth e d (omega (arith, h))
  value_reads enums all _ _ _ (an_image ty path v e) at depth after d m h = image_reads enums all after ty path v at depth e d (omega (arith, h))
  value_reads enums all _ _ _ (an_array ty item inside vs e is) at zero after d m h = absurd (omega (arith, h))
  value_reads enums all _ _ _ (an_array ty item inside vs e is) at (suc below) after d m h =
      let open_d : drop at all ≡ part.Mark 91 ∷ (inside ++ part.Mark 93 ∷ after) = d ∙ unclosed inside after (part.Mark 91) (part.Mark 93) in
      let count = bracketed inside (part.Mark 91) (part.Mark 93) in
      same_reading _ (value.Array vs) (at + 1 + length inside + 1) (at + length (part.Mark 91 ∷ (inside ++ part.Mark 93 ∷ [])))
      (array_reads enums all ty item vs at below (at + 1 + length inside + 1) e (ap (is_mark_of 91) (look_here all _ at open_d))
      (items_reads enums all item inside vs is (at + 1) below (suc (length all)) [] after (next all (inside ++ part.Mark 93 ∷ after) (part.Mark 91) at open_d) (omega (arith, h, count)) (within all inside after (part.Mark 91) (part.Mark 93) at open_d)))
      (omega (arith, count))
  value_reads enums all _ _ _ (a_struct ty fields inside found e is) at zero after d m h = absurd (omega (arith, h))
  value_reads enums all _ _ _ (a_struct ty fields inside found e is) at (suc below) after d m h =
      let open_d : drop at all ≡ part.Mark 123 ∷ (inside ++ part.Mark 125 ∷ after) = d ∙ unclosed inside after (part.Mark 123) (part.Mark 125) in
      let count = bracketed inside (part.Mark 123) (part.Mark 125) in
      same_reading _ (value.Struct (filled fields found)) (at + 1 + length inside + 1) (at + length (part.Mark 123 ∷ (inside ++ part.Mark 125 ∷ [])))
      (struct_reads enums all ty fields found at below (at + 1 + length inside + 1) e (ap (is_mark_of 123) (look_here all _ at open_d))
      (fields_reads enums all fields [] inside found is (at + 1) below (suc (length all)) after (next all (inside ++ part.Mark 125 ∷ after) (part.Mark 123) at open_d) (omega (arith, h, count)) (within all inside after (part.Mark 123) (part.Mark 125) at open_d)))
      (omega (arith, count))

  pub items_reads : (enums : List EnumNames) (all : List Part) (item : Ty) (inside : List Part) (vs : List Value) → IsItems enums item inside vs → (at depth left : ℕ) (before : List Value) (after : List Part) → drop at all ≡ inside ++ part.Mark 93 ∷ after → length inside ≤ depth → length inside < left
      → items_read (read_to enums all depth item) all left before at ≡ Some (record { values = before ++ vs; next = at + length inside + 1 })
  items_reads enums all _ _ _ (no_items item) at depth left before after d h l = items_none enums all item before at depth left after d l
  items_reads enums all _ _ _ (last_item item ps v is) at depth left before after d h l =
      item_last enums all item ps after before v at depth left (begins enums item ps v is (part.Mark 93 ∷ after)) d (value_reads enums all item ps v is at depth (part.Mark 93 ∷ after) d refl h) (omega (arith, l))
  items_reads enums all _ _ _ (more_items item ps rest v vs is more) at depth left before after d h l =
      let open_d : drop at all ≡ ps ++ part.Mark 44 ∷ (rest ++ part.Mark 93 ∷ after) = d ∙ append_assoc ps (part.Mark 44 ∷ rest) (part.Mark 93 ∷ after) in
      let count : length (ps ++ part.Mark 44 ∷ rest) ≡ length ps + length rest + 1 = parted ps rest in
      item_more enums all item ps rest after before v vs at depth left (begins enums item ps v is (part.Mark 44 ∷ (rest ++ part.Mark 93 ∷ after))) open_d
      (value_reads enums all item ps v is at depth (part.Mark 44 ∷ (rest ++ part.Mark 93 ∷ after)) open_d refl (omega (arith, h, count))) (omega (arith, l, count))
      (items_reads enums all item rest vs more (at + length ps + 1) depth (left - 1) (before ++ v ∷ []) after (next all (rest ++ part.Mark 93 ∷ after) (part.Mark 44) (at + length ps) (behind all ps (part.Mark 44 ∷ (rest ++ part.Mark 93 ∷ after)) at open_d)) (omega (arith, h, count)) (omega (arith, l, count)))

  pub fields_reads : (enums : List EnumNames) (all : List Part) (fields : List (List ℕ × Ty)) (before : List (List ℕ × Value)) (inside : List Part) (found : List (List ℕ × Value)) → IsFields enums fields before inside found → (at depth left : ℕ) (after : List Part) → drop at all ≡ inside ++ part.Mark 125 ∷ after → length inside ≤ depth → length inside < left
      → fields_read (read_to enums all depth) fields all left before at ≡ Some (record { fields = before ++ found; next = at + length inside + 1 })
  fields_reads enums all _ _ _ _ (no_fields fields before) at depth left after d h l = fields_none enums all fields before at depth left after d l
  fields_reads enums all _ _ _ _ (last_field fields before name ty ps v new known is) at depth left after d h l =
      field_last enums all fields before name ty ps after v at depth left new known d
      (value_reads enums all ty ps v is (at + 2) depth (part.Mark 125 ∷ after) (behind all (part.Word name ∷ part.Mark 58 ∷ []) (ps ++ part.Mark 125 ∷ after) at d) refl (omega (arith, h))) (omega (arith, l))
  fields_reads enums all _ _ _ _ (more_fields fields before name ty ps rest v found new known is more) at depth left after d h l =
      let open_d : drop at all ≡ part.Word name ∷ part.Mark 58 ∷ (ps ++ part.Mark 44 ∷ (rest ++ part.Mark 125 ∷ after)) = d ∙ ap (λ xs. part.Word name ∷ part.Mark 58 ∷ xs) (append_assoc ps (part.Mark 44 ∷ rest) (part.Mark 125 ∷ after)) in
      let count : length (ps ++ part.Mark 44 ∷ rest) ≡ length ps + length rest + 1 = parted ps rest in
      let at_value : drop (at + 2) all ≡ ps ++ part.Mark 44 ∷ (rest ++ part.Mark 125 ∷ after) = behind all (part.Word name ∷ part.Mark 58 ∷ []) (ps ++ part.Mark 44 ∷ (rest ++ part.Mark 125 ∷ after)) at open_d in
      field_more enums all fields before name ty ps rest after v found at depth left new known open_d
      (value_reads enums all ty ps v is (at + 2) depth (part.Mark 44 ∷ (rest ++ part.Mark 125 ∷ after)) at_value refl (omega (arith, h, count))) (omega (arith, l, count))
      (fields_reads enums all fields (before ++ (name, v) ∷ []) rest found more (at + 2 + length ps + 1) depth (left - 1) after (next all (rest ++ part.Mark 125 ∷ after) (part.Mark 44) (at + 2 + length ps) (behind all ps (part.Mark 44 ∷ (rest ++ part.Mark 125 ∷ after)) (at + 2) at_value)) (omega (arith, h, count)) (omega (arith, l, count)))

-- parts that are a written form of a value of a type are read as that value
pub parts_read : (enums : List EnumNames) (ty : Ty) (parts : List Part) (v : Value) → IsValue enums ty parts v → value_of_parts enums ty parts ≡ Some v
parts_read enums ty parts v is =
    let count : length parts ≤ length parts + 1 = omega arith in
    let found : Reading = record { value = v; next = 0 + length parts } in
    let end : 0 + length parts ≡ length parts = omega arith in
    ap (whole_of parts) (value_reads enums parts ty parts v is 0 (length parts + 1) [] (sym (append-nil parts)) refl count)
    ∙ ap (λ b. (if b then Some v else None)) (ap (λ k. k == length parts) end ∙ eq-eqb (length parts) (length parts) refl)
