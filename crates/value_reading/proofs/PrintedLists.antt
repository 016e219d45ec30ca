-- That printed values of all types are read as themselves.
use Rattle.std.proofs.Common.{◌≡◌, ℕ, zero, suc, ◌+◌, ◌<◌, ◌^◌, Bool, true, false, List, [], ◌∷◌, ◌++◌, length, get_or, map, sym, ◌∙◌, ap, refl, subst, arith, append-nil, append_assoc, Option, Some, None}
use Rattle.std.specs.Prelude.{if◌then◌else◌, nat_lt, slice_get, codes, option_and_then, position, unwrap_or}
use Rattle.std.specs.List.{flat_map}
use Rattle.std.specs.Str.{bytes_eq}
use Rattle.std.specs.Cmp.Lexicographic.{bytes_decides}
use Rattle.std.proofs.lemmas.Bool.{false_from_ne_true, lt-ltb}
use Rattle.std.proofs.lemmas.List.Sums.{position_or_len_is}
use Rattle.std.proofs.lemmas.Option.{slice_get-get_or, slice_get_within, get_or_from_slice_get}
use Rattle.slint_literals.proofs.NumberTexts.{Fails}
use Rattle.value_types.specs.declared.enums.EnumNames.{EnumNames}
use Rattle.value_types.specs.declared.types.Ty.{Ty, out-Ty}
use Rattle.value_types.specs.declared.types.Ty.TheOpen as form
use Rattle.value_types.specs.declared.types.Ty.TheVariants as ty
use Rattle.value_types.specs.declared.values.Value.{Value}
use Rattle.value_types.specs.declared.values.Value.TheVariants as value
use Rattle.value_types.specs.declared.values.Value.TheOpen as shape
use Rattle.value_types.specs.declared.values.Value.TheFolds.{fold-roll-Value}
use Rattle.value_types.specs.Conversions.{field_named}
use Rattle.value_types.specs.Defaults.{default_value}
use Rattle.value_types.specs.Printed.{printed, printing_step, value_name, enum_name, printed_enum, listed, printed_array, printed_field, printed_struct}
use Rattle.value_reading.specs.declared.parts.Part.{Part}
use Rattle.value_reading.specs.declared.parts.Part.TheVariants as part
use Rattle.value_reading.specs.Grammar.{IsValue, a_pair, an_array, a_struct, IsItems, no_items, last_item, more_items, IsFields, no_fields, last_field, more_fields}
use Rattle.value_reading.specs.Parts.{is_word_byte, AreParts, none, space, more}
use Rattle.value_reading.specs.Grammar.{Reads}
use Rattle.value_reading.specs.Words.{value_at, value_named, named_in, pair_in, filled, filled_field}
use Rattle.value_reading.specs.Typed.{is_name, IsEnum, HasType, int_typed, float_typed, percent_typed, bool_typed, string_typed, color_typed, length_typed, duration_typed, angle_typed, image_typed, enum_typed, array_typed, struct_typed, HaveType, none_typed, more_typed, FieldsHaveType, no_fields_typed, more_fields_typed}
use Rattle.value_reading.proofs.PrintedParts.{word_there}
use Rattle.value_reading.proofs.PrintedForms.{Stops, at_end, at_comma, at_bracket, at_space, IsPrinted, as_text, word_stops, int_printed, float_printed, percent_printed, length_printed, duration_printed, angle_printed, truth_printed, str_printed, image_printed, color_printed}

-- the place of a name among names that differ
place_named : (names : List (List ℕ)) (v : ℕ) (name : List ℕ) → ((i j : ℕ) (n : List ℕ) → slice_get names i ≡ Some n → slice_get names j ≡ Some n → i ≡ j) → slice_get names v ≡ Some name → position (λ n. bytes_eq n name) names ≡ Some v
place_named names v name differ e =
    let inside : v < length names = slice_get_within names v name e in
    let before : (k : ℕ) → k < v → bytes_eq (get_or names k []) name ≡ false = λ k h. false_from_ne_true (bytes_eq (get_or names k []) name)
    (λ same. (let lower : k < length names = omega (arith, h, inside) in
    let equal : k ≡ v = differ k v name (slice_get-get_or names k [] lower ∙ ap Some ((bytes_decides (get_or names k []) name).0 same)) e in
    absurd (omega (arith, h, equal)))) in
    let there : bytes_eq (get_or names v []) name ≡ true = (bytes_decides (get_or names v []) name).1 (get_or_from_slice_get names v name [] e) in
    let place = position_or_len_is (λ n. bytes_eq n name) names v [] (omega (arith, inside)) before (λ h. there) in
    ap (λ k. (if nat_lt k (length names) then Some k else None)) place ∙ ap (λ b. (if b then Some v else None)) (lt-ltb v (length names) inside)

-- values of enums
printed_choice : (enums : List EnumNames) (number v : ℕ) → printed enums (value.Enum number v) ≡ printed_enum enums number v
printed_choice enums number v = ap (printed enums) (sym (value.rolls-Enum number v)) ∙ fold-roll-Value (List ℕ) (printing_step enums) (shape.Enum number v)

choice_text : (enums : List EnumNames) (number v : ℕ) (names : EnumNames) (name : List ℕ) → slice_get enums number ≡ Some names → slice_get names.values v ≡ Some name → printed enums (value.Enum number v) ≡ names.name ++ 46 ∷ name
choice_text enums number v names name e f = printed_choice enums number v ∙ ap (λ o. enum_name o v) e ∙ ap (value_name names) f

choice_read : (enums : List EnumNames) (number v : ℕ) (names : EnumNames) (name : List ℕ) → slice_get enums number ≡ Some names → IsEnum names → slice_get names.values v ≡ Some name → v < 2 ^ 32 → pair_in enums names.name name (out-Ty (ty.Enum number)) ≡ Some (value.Enum number v)
choice_read enums number v names name e is f h =
    ap (pair_in enums names.name name) (ty.outs-Enum number) ∙ ap (named_in names.name name number) e
    ∙ ap (λ b. (if b then value_named number name (Some names) else None)) ((bytes_decides names.name names.name).1 refl)
    ∙ ap (λ o. option_and_then (value_at number) o) (place_named names.values v name is.values_differ f)
    ∙ ap (λ b. (if b then Some (value.Enum number v) else None)) (lt-ltb v 4294967296 (omega (arith, h)))

choice_there : (first second rest : List ℕ) (qs : List Part) → is_name first ≡ true → is_name second ≡ true → Stops rest → AreParts rest qs → AreParts ((first ++ 46 ∷ second) ++ rest) (part.Word first ∷ part.Mark 46 ∷ part.Word second ∷ qs)
choice_there first second rest qs f g s is =
    subst (λ t. AreParts t (part.Word first ∷ part.Mark 46 ∷ part.Word second ∷ qs)) (sym (append_assoc first (46 ∷ second) rest))
    (word_there first (46 ∷ (second ++ rest)) (part.Mark 46 ∷ part.Word second ∷ qs) f refl (more 46 (second ++ rest) (second ++ rest) (part.Mark 46) (part.Word second ∷ qs) (refl, refl) (word_there second rest qs g (word_stops rest s) is)))

choice_printed : (enums : List EnumNames) (number v : ℕ) (names : EnumNames) (name : List ℕ) → slice_get enums number ≡ Some names → IsEnum names → slice_get names.values v ≡ Some name → v < 2 ^ 32 → IsPrinted enums (ty.Enum number) (printed enums (value.Enum number v)) (value.Enum number v)
choice_printed enums number v names name e is f h = as_text enums (ty.Enum number) _ (names.name ++ 46 ∷ name) (value.Enum number v) (choice_text enums number v names name e f) (record {
  parts = part.Word names.name ∷ part.Mark 46 ∷ part.Word name ∷ [];
  splits = λ rest qs s h. choice_there names.name name rest qs is.named (is.values_named v name f) s h;
  written = a_pair (ty.Enum number) names.name name (value.Enum number v) (choice_read enums number v names name e is f h);
})

-- texts with `, ` between them
listed_more : (t u rest : List ℕ) (us : List (List ℕ)) → listed (t ∷ u ∷ us) ++ rest ≡ t ++ 44 ∷ 32 ∷ (listed (u ∷ us) ++ rest)
listed_more t u rest us = append_assoc t (44 ∷ 32 ∷ listed (u ∷ us)) rest

listed_one : (t rest : List ℕ) → listed (t ∷ []) ++ rest ≡ t ++ rest
listed_one t rest = ap (λ x. x ++ rest) (append-nil t)

-- parts that are parts of each text behind which a printed value may stop
abbrev Splits : List ℕ → List Part → Type 0
Splits text parts = (rest : List ℕ) (qs : List Part) → Stops rest → AreParts rest qs → AreParts (text ++ rest) (parts ++ qs)

splits_one : (t : List ℕ) (ps : List Part) → Splits t ps → Splits (listed (t ∷ [])) ps
splits_one t ps h = λ rest qs s is. subst (λ x. AreParts x (ps ++ qs)) (sym (listed_one t rest)) (h rest qs s is)

splits_more : (t u : List ℕ) (us : List (List ℕ)) (ps more_ps : List Part) → Splits t ps → Splits (listed (u ∷ us)) more_ps → Splits (listed (t ∷ u ∷ us)) (ps ++ part.Mark 44 ∷ more_ps)
splits_more t u us ps more_ps h k = λ rest qs s is.
    (let behind : List ℕ = listed (u ∷ us) ++ rest in
    subst (λ x. AreParts x ((ps ++ part.Mark 44 ∷ more_ps) ++ qs)) (sym (listed_more t u rest us)) (subst (AreParts (t ++ 44 ∷ 32 ∷ behind)) (sym (append_assoc ps (part.Mark 44 ∷ more_ps) qs))
    (h (44 ∷ 32 ∷ behind) (part.Mark 44 ∷ (more_ps ++ qs)) (at_comma (32 ∷ behind)) (more 44 (32 ∷ behind) (32 ∷ behind) (part.Mark 44) (more_ps ++ qs) (refl, refl) (space behind (more_ps ++ qs) (k rest qs s is))))))

-- items
record ArePrinted (enums : List EnumNames) (item : Ty) (vs : List Value) : Type 0 where
  parts : List Part
  splits : Splits (listed (map (printed enums) vs)) parts
  written : IsItems enums item parts vs

items_more : (enums : List EnumNames) (item : Ty) (v : Value) (vs : List Value) → IsPrinted enums item (printed enums v) v → ArePrinted enums item vs → ArePrinted enums item (v ∷ vs)
items_more enums item v [] h k = record { parts = h.parts; splits = splits_one (printed enums v) h.parts h.splits; written = last_item item h.parts v h.written }
items_more enums item v (w ∷ ws) h k = record {
  parts = h.parts ++ part.Mark 44 ∷ k.parts;
  splits = splits_more (printed enums v) (printed enums w) (map (printed enums) ws) h.parts k.parts h.splits k.splits;
  written = more_items item h.parts k.parts v (w ∷ ws) h.written k.written;
}

array_text : (enums : List EnumNames) (vs : List Value) → printed enums (value.Array vs) ≡ printed_array (map (printed enums) vs)
array_text enums vs = ap (printed enums) (sym (value.rolls-Array vs)) ∙ fold-roll-Value (List ℕ) (printing_step enums) (shape.Array vs)

array_there : (inside rest : List ℕ) (ps qs : List Part) → Splits inside ps → AreParts rest qs → AreParts ((91 ∷ (inside ++ 93 ∷ [])) ++ rest) ((part.Mark 91 ∷ (ps ++ part.Mark 93 ∷ [])) ++ qs)
array_there inside rest ps qs h is =
    subst (λ t. AreParts (91 ∷ t) (part.Mark 91 ∷ ((ps ++ part.Mark 93 ∷ []) ++ qs))) (sym (append_assoc inside (93 ∷ []) rest)) (subst (λ xs. AreParts (91 ∷ (inside ++ 93 ∷ rest)) (part.Mark 91 ∷ xs)) (sym (append_assoc ps (part.Mark 93 ∷ []) qs))
    (more 91 (inside ++ 93 ∷ rest) (inside ++ 93 ∷ rest) (part.Mark 91) (ps ++ part.Mark 93 ∷ qs) (refl, refl) (h (93 ∷ rest) (part.Mark 93 ∷ qs) (at_bracket rest) (more 93 rest rest (part.Mark 93) qs (refl, refl) is))))

array_printed : (enums : List EnumNames) (item : Ty) (vs : List Value) → ArePrinted enums item vs → IsPrinted enums (ty.Array item) (printed enums (value.Array vs)) (value.Array vs)
array_printed enums item vs k = as_text enums (ty.Array item) _ (printed_array (map (printed enums) vs)) (value.Array vs) (array_text enums vs) (record {
  parts = part.Mark 91 ∷ (k.parts ++ part.Mark 93 ∷ []);
  splits = λ rest qs s is. array_there (listed (map (printed enums) vs)) rest k.parts qs k.splits is;
  written = an_array (ty.Array item) item k.parts vs (ty.outs-Array item) k.written;
})

-- fields
abbrev pub printed_pair : List EnumNames → List ℕ × Value → List ℕ × List ℕ
printed_pair enums field = (field.0, printed enums field.1)

record FieldsPrinted (enums : List EnumNames) (fields : List (List ℕ × Ty)) (before vs : List (List ℕ × Value)) : Type 0 where
  parts : List Part
  splits : Splits (listed (map printed_field (map (printed_pair enums) vs))) parts
  written : IsFields enums fields before parts vs

field_splits : (name text : List ℕ) (ps : List Part) → is_name name ≡ true → Splits text ps → Splits (name ++ 58 ∷ 32 ∷ text) (part.Word name ∷ part.Mark 58 ∷ ps)
field_splits name text ps h k = λ rest qs s is.
    subst (λ t. AreParts t (part.Word name ∷ part.Mark 58 ∷ (ps ++ qs))) (sym (append_assoc name (58 ∷ 32 ∷ text) rest))
    (word_there name (58 ∷ 32 ∷ (text ++ rest)) (part.Mark 58 ∷ (ps ++ qs)) h refl (more 58 (32 ∷ (text ++ rest)) (32 ∷ (text ++ rest)) (part.Mark 58) (ps ++ qs) (refl, refl) (space (text ++ rest) (ps ++ qs) (k rest qs s is))))

fields_more : (enums : List EnumNames) (fields : List (List ℕ × Ty)) (before : List (List ℕ × Value)) (name : List ℕ) (t : Ty) (v : Value) (vs : List (List ℕ × Value)) → is_name name ≡ true → field_named name before ≡ None → field_named name fields ≡ Some t
    → IsPrinted enums t (printed enums v) v → FieldsPrinted enums fields (before ++ (name, v) ∷ []) vs → FieldsPrinted enums fields before ((name, v) ∷ vs)
fields_more enums fields before name t v [] h new known p k = record {
  parts = part.Word name ∷ part.Mark 58 ∷ p.parts;
  splits = splits_one (name ++ 58 ∷ 32 ∷ printed enums v) (part.Word name ∷ part.Mark 58 ∷ p.parts) (field_splits name (printed enums v) p.parts h p.splits);
  written = last_field fields before name t p.parts v new known p.written;
}
fields_more enums fields before name t v (w ∷ ws) h new known p k = record {
  parts = part.Word name ∷ part.Mark 58 ∷ (p.parts ++ part.Mark 44 ∷ k.parts);
  splits = splits_more (name ++ 58 ∷ 32 ∷ printed enums v) (printed_field (printed_pair enums w)) (map printed_field (map (printed_pair enums) ws)) (part.Word name ∷ part.Mark 58 ∷ p.parts) k.parts (field_splits name (printed enums v) p.parts h p.splits) k.splits;
  written = more_fields fields before name t p.parts k.parts v (w ∷ ws) new known p.written k.written;
}

-- a name among fields and one more
among_more : {X : Type 0} (n name : List ℕ) (before : List (List ℕ × X)) (v : X) → field_named n (before ++ (name, v) ∷ []) ≡ None → (field_named n before ≡ None) × (bytes_eq n name ≡ false)
among_more {X} n name [] v e = (refl, apart (bytes_eq n name) e)
  where
    apart : (b : Bool) → (if b then Some v else None) ≡ None → b ≡ false
    apart true f = absurd (cc)
    apart false f = refl
among_more {X} n name (f ∷ fs) v e =
    let rest = behind (bytes_eq n f.0) (field_named n (fs ++ (name, v) ∷ [])) e in
    let others = among_more n name fs v rest.1 in
    (ap (λ b. (if b then Some f.1 else field_named n fs)) rest.0 ∙ others.0, others.1)
  where
    behind : (b : Bool) (o : Option X) → (if b then Some f.1 else o) ≡ None → (b ≡ false) × (o ≡ None)
    behind true o g = absurd (cc)
    behind false o g = (refl, g)

among_behind : {X : Type 0} (n : List ℕ) (xs ys : List (List ℕ × X)) → field_named n xs ≡ None → field_named n (xs ++ ys) ≡ field_named n ys
among_behind n [] ys e = refl
among_behind {X} n (f ∷ fs) ys e =
    let rest = behind (bytes_eq n f.0) (field_named n fs) e in
    ap (λ b. (if b then Some f.1 else field_named n (fs ++ ys))) rest.0 ∙ among_behind n fs ys rest.1
  where
    behind : (b : Bool) (o : Option X) → (if b then Some f.1 else o) ≡ None → (b ≡ false) × (o ≡ None)
    behind true o g = absurd (cc)
    behind false o g = (refl, g)

among_first : {X : Type 0} (name : List ℕ) (v : X) (fs : List (List ℕ × X)) → field_named name ((name, v) ∷ fs) ≡ Some v
among_first name v fs = ap (λ b. (if b then Some v else field_named name fs)) ((bytes_decides name name).1 refl)

among_later : {X : Type 0} (n name : List ℕ) (v : X) (fs : List (List ℕ × X)) → bytes_eq n name ≡ false → field_named n ((name, v) ∷ fs) ≡ field_named n fs
among_later n name v fs e = ap (λ b. (if b then Some v else field_named n fs)) e

-- values that stand for all fields of a type fill it
fills : (enums : List EnumNames) (before : List (List ℕ × Value)) (fields : List (List ℕ × Ty)) (vs : List (List ℕ × Value)) → FieldsHaveType enums before fields vs → map (filled_field (before ++ vs)) fields ≡ vs
fills enums _ _ _ (no_fields_typed before) = refl
fills enums _ _ _ (more_fields_typed before name t v fields vs h new is later) =
    let found : field_named name (before ++ (name, v) ∷ vs) ≡ Some v = among_behind name before ((name, v) ∷ vs) new ∙ among_first name v vs in
    let others : map (filled_field (before ++ (name, v) ∷ vs)) fields ≡ vs = ap (λ xs. map (filled_field xs) fields) (sym (append_assoc before ((name, v) ∷ []) vs)) ∙ fills enums (before ++ (name, v) ∷ []) fields vs later in
    ap (λ o. (name, unwrap_or o (default_value t)) ∷ map (filled_field (before ++ (name, v) ∷ vs)) fields) found ∙ ap (λ xs. (name, v) ∷ xs) others

struct_text : (enums : List EnumNames) (vs : List (List ℕ × Value)) → printed enums (value.Struct vs) ≡ printed_struct (map (printed_pair enums) vs)
struct_text enums vs = ap (printed enums) (sym (value.rolls-Struct vs)) ∙ fold-roll-Value (List ℕ) (printing_step enums) (shape.Struct vs)

struct_there : (inside rest : List ℕ) (ps qs : List Part) → Splits inside ps → AreParts rest qs → AreParts ((123 ∷ 32 ∷ (inside ++ 32 ∷ 125 ∷ [])) ++ rest) ((part.Mark 123 ∷ (ps ++ part.Mark 125 ∷ [])) ++ qs)
struct_there inside rest ps qs h is =
    let behind : List ℕ = inside ++ 32 ∷ 125 ∷ rest in
    subst (λ t. AreParts (123 ∷ 32 ∷ t) (part.Mark 123 ∷ ((ps ++ part.Mark 125 ∷ []) ++ qs))) (sym (append_assoc inside (32 ∷ 125 ∷ []) rest)) (subst (λ xs. AreParts (123 ∷ 32 ∷ behind) (part.Mark 123 ∷ xs)) (sym (append_assoc ps (part.Mark 125 ∷ []) qs))
    (more 123 (32 ∷ behind) (32 ∷ behind) (part.Mark 123) (ps ++ part.Mark 125 ∷ qs) (refl, refl) (space behind (ps ++ part.Mark 125 ∷ qs) (h (32 ∷ 125 ∷ rest) (part.Mark 125 ∷ qs) (at_space (125 ∷ rest)) (space (125 ∷ rest) (part.Mark 125 ∷ qs) (more 125 rest rest (part.Mark 125) qs (refl, refl) is))))))

struct_splits : (enums : List EnumNames) (vs : List (List ℕ × Value)) (ps : List Part) → Splits (listed (map printed_field (map (printed_pair enums) vs))) ps → (vs ≡ [] → ps ≡ []) → Splits (printed_struct (map (printed_pair enums) vs)) (part.Mark 123 ∷ (ps ++ part.Mark 125 ∷ []))
struct_splits enums [] ps h e = λ rest qs s is.
    subst (λ xs. AreParts (123 ∷ 32 ∷ 125 ∷ rest) (part.Mark 123 ∷ ((xs ++ part.Mark 125 ∷ []) ++ qs))) (sym (e refl))
    (more 123 (32 ∷ 125 ∷ rest) (32 ∷ 125 ∷ rest) (part.Mark 123) (part.Mark 125 ∷ qs) (refl, refl) (space (125 ∷ rest) (part.Mark 125 ∷ qs) (more 125 rest rest (part.Mark 125) qs (refl, refl) is)))
struct_splits enums (v ∷ vs) ps h e = λ rest qs s is. struct_there (listed (map printed_field (map (printed_pair enums) (v ∷ vs)))) rest ps qs h is

no_parts_inside : (enums : List EnumNames) (fields : List (List ℕ × Ty)) (before : List (List ℕ × Value)) (ps : List Part) (vs : List (List ℕ × Value)) → IsFields enums fields before ps vs → vs ≡ [] → ps ≡ []
no_parts_inside enums _ _ _ _ (no_fields fields before) e = refl
no_parts_inside enums _ _ _ _ (last_field fields before name t ps v new known is) e = cc
no_parts_inside enums _ _ _ _ (more_fields fields before name t ps rest v found new known is later) e = cc

struct_printed : (enums : List EnumNames) (fields : List (List ℕ × Ty)) (vs : List (List ℕ × Value)) → FieldsHaveType enums [] fields vs → FieldsPrinted enums fields [] vs → IsPrinted enums (ty.Struct fields) (printed enums (value.Struct vs)) (value.Struct vs)
struct_printed enums fields vs h k = as_text enums (ty.Struct fields) _ (printed_struct (map (printed_pair enums) vs)) (value.Struct vs) (struct_text enums vs) (record {
  parts = part.Mark 123 ∷ (k.parts ++ part.Mark 125 ∷ []);
  splits = struct_splits enums vs k.parts k.splits (no_parts_inside enums fields [] k.parts vs k.written);
  written = subst (λ xs. IsValue enums (ty.Struct fields) (part.Mark 123 ∷ (k.parts ++ part.Mark 125 ∷ [])) (value.Struct xs)) (fills enums [] fields vs h) (a_struct (ty.Struct fields) fields k.parts vs (ty.outs-Struct fields) k.written);
})

mutual
  value_printed : (enums : List EnumNames) (t : Ty) (v : Value) → HasType enums t v → IsPrinted enums t (printed enums v) v
  value_printed enums _ _ (int_typed n h) = int_printed enums n h
  value_printed enums _ _ (float_typed n h) = float_printed enums n h
  value_printed enums _ _ (percent_typed n h) = percent_printed enums n h
  value_printed enums _ _ (bool_typed b) = truth_printed enums b
  value_printed enums _ _ (string_typed t u h) = str_printed enums t u h
  value_printed enums _ _ (color_typed c h) = color_printed enums c h
  value_printed enums _ _ (length_typed n h) = length_printed enums n h
  value_printed enums _ _ (duration_typed n h) = duration_printed enums n h
  value_printed enums _ _ (angle_typed n h) = angle_printed enums n h
  value_printed enums _ _ (image_typed path u h) = image_printed enums path u h
  value_printed enums _ _ (enum_typed number v names name e is f h) = choice_printed enums number v names name e is f h
  value_printed enums _ _ (array_typed item vs h) = array_printed enums item vs (items_printed enums item vs h)
  value_printed enums _ _ (struct_typed fields vs h) = struct_printed enums fields vs h (fields_printed enums [] fields vs h fields (λ n e. refl))

  items_printed : (enums : List EnumNames) (item : Ty) (vs : List Value) → HaveType enums item vs → ArePrinted enums item vs
  items_printed enums _ _ (none_typed item) = record { parts = []; splits = λ rest qs s is. is; written = no_items item }
  items_printed enums _ _ (more_typed item v vs h hs) = items_more enums item v vs (value_printed enums item v h) (items_printed enums item vs hs)

  fields_printed : (enums : List EnumNames) (before : List (List ℕ × Value)) (fields : List (List ℕ × Ty)) (vs : List (List ℕ × Value)) → FieldsHaveType enums before fields vs → (whole : List (List ℕ × Ty)) → ((n : List ℕ) → field_named n before ≡ None → field_named n whole ≡ field_named n fields)
      → FieldsPrinted enums whole before vs
  fields_printed enums _ _ _ (no_fields_typed before) whole known = record { parts = []; splits = λ rest qs s is. is; written = no_fields whole before }
  fields_printed enums _ _ _ (more_fields_typed before name t v fields vs h new is later) whole known =
      fields_more enums whole before name t v vs h new (known name new ∙ among_first name t fields) (value_printed enums t v is)
      (fields_printed enums (before ++ (name, v) ∷ []) fields vs later whole (λ n e. (let both_ways = among_more n name before v e in known n both_ways.0 ∙ among_later n name t fields both_ways.1)))

pub printed_reads : (enums : List EnumNames) (t : Ty) (v : Value) → HasType enums t v → Reads enums t (printed enums v) v
printed_reads enums t v h =
    let p = value_printed enums t v h in
    (p.parts, subst (λ text. AreParts text p.parts) (append-nil (printed enums v)) (subst (AreParts (printed enums v ++ [])) (append-nil p.parts) (p.splits [] [] at_end none)), p.written)
