-- What the forms of types come to: a struct type comes to what its fields come to.
use Rattle.std.proofs.Common.{◌≡◌, ℕ, ◌+◌, ◌<◌, ◌≤◌, List, [], ◌∷◌, ◌++◌, Option, Result, Ok, Err, OnOk, IfOk, length, get_or, map, take, refl, sym, ap, ◌∙◌, append_assoc}
use Rattle.std.specs.List.{flat_map}
use Rattle.std.proofs.lemmas.List.{append-nil, take_all}
use Rattle.std.proofs.lemmas.List.Folds.{flat_map-map}
use Rattle.slint_base.specs.declared.faults.Fault.{Fault}
use Rattle.slint_base.specs.declared.faults.Span.{Span}
use Rattle.syntax_tree.specs.declared.types.Field.{Field, fold-roll-Field, out-Field, roll-out-Field}
use Rattle.syntax_tree.specs.declared.types.TypeName.{TypeName, fold-roll-TypeName}
use Rattle.syntax_tree.specs.declared.types.TypeName.TheOpen.{TypeName-F}
use Rattle.syntax_tree.specs.declared.types.TypeName.TheVariants as types
use Rattle.syntax_tree.specs.declared.words.Ident.{Ident}
use Rattle.fault_order.specs.Order.{earlier_of, first_of}
use Rattle.declaration_rules.specs.Repeats as repeats
use Rattle.declaration_rules.specs.Words as words
use Rattle.declaration_rules.proofs.Gathering.{flat_map-one, front-next}
use Rattle.declaration_rules.proofs.Telling.{joined}

-- ---- the names of types

struct_words : (fields : List Field) (span : Span) → words.words_of_type (types.Struct fields span) ≡ flat_map words.words_of_field fields
struct_words fields span =
    ap words.words_of_type (sym (types.rolls-Struct fields span))
    ∙ (fold-roll-TypeName (List Ident) (List Ident) words.type_layer words.field_layer (TypeName-F.Struct fields span) ∙ flat_map-map words.same_words words.words_of_field fields)

pub struct-arm : {A E : Type 0} (r : Result A E) (ty : TypeName) (fields slice : List Field) (span : Span) (old new : List Ident) → ty ≡ types.Struct fields span → slice ≡ fields
    → OnOk r (new ≡ old ++ flat_map words.words_of_field slice) → OnOk r (new ≡ old ++ words.words_of_type ty)
struct-arm (Ok x) ty fields slice span old new is same pushed =
    pushed ∙ ap (λ ws. old ++ ws) (ap (flat_map words.words_of_field) same ∙ (sym (struct_words fields span) ∙ ap words.words_of_type (sym is)))
struct-arm (Err e) ty fields slice span old new is same pushed = tt

-- ---- equal names of fields

struct_repeats : (fields : List Field) (span : Span) → repeats.repeated_in_type (types.Struct fields span) ≡ repeats.repeated_in_fields fields
struct_repeats fields span =
    ap repeats.repeated_in_type (sym (types.rolls-Struct fields span)) ∙ fold-roll-TypeName (List Fault) repeats.FieldFaults repeats.type_layer repeats.field_layer (TypeName-F.Struct fields span)

pub repeats-arm : {E : Type 0} (r : Result (Option Fault) E) (ty : TypeName) (fields slice : List Field) (span : Span) → ty ≡ types.Struct fields span → slice ≡ fields
    → IfOk r (λ fault. fault ≡ first_of (repeats.repeated_in_fields slice)) → IfOk r (λ fault. fault ≡ first_of (repeats.repeated_in_type ty))
repeats-arm (Ok x) ty fields slice span is same told = told ∙ ap first_of (ap repeats.repeated_in_fields same ∙ (sym (struct_repeats fields span) ∙ ap repeats.repeated_in_type (sym is)))
repeats-arm (Err e) ty fields slice span is same told = tt

field_is : (field : Field) → repeats.of_field field ≡ (repeats.field_name field, repeats.repeated_in_type (out-Field field).ty)
field_is field = ap repeats.of_field (sym (roll-out-Field field)) ∙ fold-roll-Field (List Fault) repeats.FieldFaults repeats.type_layer repeats.field_layer (out-Field field)

names_are : (fields : List Field) → map repeats.field_word (map repeats.of_field fields) ≡ map repeats.field_name fields
names_are [] = refl
names_are (field ∷ fields) =
    ap (λ name. name ∷ map repeats.field_word (map repeats.of_field fields)) (ap repeats.field_word (field_is field)) ∙ ap (λ names. repeats.field_name field ∷ names) (names_are fields)

-- the names of fields, and what stands inside them
pub fields_are : (fields : List Field) → repeats.repeated (map repeats.field_name fields) ++ flat_map repeats.inner_of fields ≡ repeats.repeated_in_fields fields
fields_are fields =
    ap (λ names. repeats.repeated names ++ flat_map repeats.inner_of fields) (sym (names_are fields))
    ∙ ap (λ inner. repeats.repeated (map repeats.field_word (map repeats.of_field fields)) ++ inner) (sym (flat_map-map repeats.inner_faults repeats.of_field fields))

-- ---- the loop over the fields of a struct type

pub inner-init : (names : List Fault) (first : Option Fault) → first ≡ first_of names → first ≡ first_of (names ++ [])
inner-init names first told = told ∙ ap first_of (sym (append-nil names))

pub inner-next : (names : List Fault) (fields : List Field) (i : ℕ) (field : Field) (first more later : Option Fault) → i < length fields → field ≡ get_or fields i field
    → first ≡ first_of (names ++ flat_map repeats.inner_of (take i fields)) → more ≡ first_of (repeats.inner_of field) → later ≡ earlier_of first more
    → later ≡ first_of (names ++ flat_map repeats.inner_of (take (i + 1) fields))
inner-next names fields i field first more later within is held told joins =
    joined (names ++ flat_map repeats.inner_of (take i fields)) (repeats.inner_of field) first more later held told joins
    ∙ ap first_of (append_assoc names (flat_map repeats.inner_of (take i fields)) (repeats.inner_of field)
    ∙ ap (λ inner. names ++ inner) (sym (flat_map-one repeats.inner_of (take i fields) field) ∙ ap (flat_map repeats.inner_of) (sym (front-next fields i field within is))))

pub inner-all : (fields : List Field) (i : ℕ) (first : Option Fault) → length fields ≤ i → first ≡ first_of (repeats.repeated (map repeats.field_name fields) ++ flat_map repeats.inner_of (take i fields))
    → first ≡ first_of (repeats.repeated_in_fields fields)
inner-all fields i first past held =
    held ∙ ap first_of (ap (λ front. repeats.repeated (map repeats.field_name fields) ++ flat_map repeats.inner_of front) (take_all i fields past) ∙ fields_are fields)
