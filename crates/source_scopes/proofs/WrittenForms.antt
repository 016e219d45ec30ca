-- A type as it is written, one form after the other.
use Rattle.std.specs.Prelude.{ℕ, List, [], ◌∷◌, ◌++◌, map, length, Option, Some, None}
use Rattle.std.specs.Option.{option_map}
use Rattle.std.proofs.Common.{◌≡◌, ◌≤◌, refl, sym, ◌∙◌, ap, append_assoc}
use Rattle.std.proofs.lemmas.List.{append-nil}
use Rattle.std.proofs.Math.ListN.{drop}
use Rattle.slint_base.specs.declared.faults.Span.{Span}
use Rattle.slint_base.specs.Options.{all_of, onto_all}
use Rattle.syntax_tree.specs.declared.types.Field.{Field, out-Field, roll-out-Field, fold-roll-Field}
use Rattle.syntax_tree.specs.declared.types.TypeName.{TypeName, fold-roll-TypeName}
use Rattle.syntax_tree.specs.declared.types.TypeName.TheOpen.{TypeName-F}
use Rattle.syntax_tree.specs.declared.types.TypeName.TheVariants as type_name
use Rattle.syntax_tree.specs.declared.words.Ident.{Ident}
use Rattle.value_types.specs.declared.types.Ty.{Ty}
use Rattle.value_types.specs.declared.types.Ty.TheVariants as ty
use Rattle.source_scopes.specs.Types.{MaybeField, field_by, field_layer, fields_by, struct_ty, type_by, type_layer}
use Rattle.source_scopes.proofs.Lookups.{none_left}

pub written_named : (known : List ℕ → Option Ty) (ident : Ident) → known ident.name ≡ type_by known (type_name.Named ident)
written_named known ident = sym (ap (type_by known) (sym (type_name.rolls-Named ident)) ∙ fold-roll-TypeName (Option Ty) MaybeField (type_layer known) field_layer (TypeName-F.Named ident))

pub written_array : (known : List ℕ → Option Ty) (item : TypeName) (span : Span) → option_map ty.Array (type_by known item) ≡ type_by known (type_name.Array item span)
written_array known item span = sym (ap (type_by known) (sym (type_name.rolls-Array item span)) ∙ fold-roll-TypeName (Option Ty) MaybeField (type_layer known) field_layer (TypeName-F.Array item span))

all_mapped : {A B : Type 0} (g : A → Option B) (xs : List A) → all_of (λ f. f) (map g xs) ≡ all_of g xs
all_mapped g [] = refl
all_mapped g (x ∷ xs) = ap (onto_all (g x)) (all_mapped g xs)

pub written_struct : (known : List ℕ → Option Ty) (fields : List Field) (span : Span) → fields_by known fields ≡ type_by known (type_name.Struct fields span)
written_struct known fields span =
    sym (ap (type_by known) (sym (type_name.rolls-Struct fields span)) ∙ fold-roll-TypeName (Option Ty) MaybeField (type_layer known) field_layer (TypeName-F.Struct fields span)
    ∙ ap (option_map struct_ty) (all_mapped (field_by known) fields))

-- ---- fields

field_is : (known : List ℕ → Option Ty) (f : Field) → field_by known f ≡ option_map (λ t. ((out-Field f).name.name, t)) (type_by known (out-Field f).ty)
field_is known f = ap (field_by known) (sym (roll-out-Field f)) ∙ fold-roll-Field (Option Ty) MaybeField (type_layer known) field_layer (out-Field f)

-- a field with a type, and one without
with_type : (known : List ℕ → Option Ty) (f : Field) (t : Ty) → Some t ≡ type_by known (out-Field f).ty → field_by known f ≡ Some ((out-Field f).name.name, t)
with_type known f t e = field_is known f ∙ ap (option_map (λ u. ((out-Field f).name.name, u))) (sym e)

without_type : (known : List ℕ → Option Ty) (f : Field) → None ≡ type_by known (out-Field f).ty → field_by known f ≡ None
without_type known f e = field_is known f ∙ ap (option_map (λ u. ((out-Field f).name.name, u))) (sym e)

moved : {A : Type 0} (made : List A) (x : A) (r : Option (List A)) → option_map (λ rest. made ++ rest) (onto_all (Some x) r) ≡ option_map (λ rest. (made ++ x ∷ []) ++ rest) r
moved made x None = refl
moved made x (Some xs) = ap Some (sym (append_assoc made (x ∷ []) xs))

pub fields_step : (known : List ℕ → Option Ty) (whole : Option (List (List ℕ × Ty))) (made new : List (List ℕ × Ty)) (rest rest' : List Field) (f : Field) (t : Ty)
    → rest ≡ f ∷ rest' → Some t ≡ type_by known (out-Field f).ty → new ≡ made ++ ((out-Field f).name.name, t) ∷ []
    → whole ≡ option_map (λ xs. made ++ xs) (all_of (field_by known) rest) → whole ≡ option_map (λ xs. new ++ xs) (all_of (field_by known) rest')
fields_step known whole made new rest rest' f t is typed grown e = rw grown
    (e ∙ ap (λ r. option_map (λ xs. made ++ xs) (all_of (field_by known) r)) is
    ∙ ap (λ o. option_map (λ xs. made ++ xs) (onto_all o (all_of (field_by known) rest'))) (with_type known f t typed)
    ∙ moved made ((out-Field f).name.name, t) (all_of (field_by known) rest'))

pub fields_stop : (known : List ℕ → Option Ty) (fields : List Field) (made : List (List ℕ × Ty)) (rest rest' : List Field) (f : Field) → rest ≡ f ∷ rest' → None ≡ type_by known (out-Field f).ty
    → all_of (field_by known) fields ≡ option_map (λ xs. made ++ xs) (all_of (field_by known) rest) → None ≡ fields_by known fields
fields_stop known fields made rest rest' f is untyped e = sym (ap (option_map struct_ty)
    (e ∙ ap (λ r. option_map (λ xs. made ++ xs) (all_of (field_by known) r)) is
    ∙ ap (λ o. option_map (λ xs. made ++ xs) (onto_all o (all_of (field_by known) rest'))) (without_type known f untyped)))

pub fields_end : (known : List ℕ → Option Ty) (fields : List Field) (made : List (List ℕ × Ty)) (i : ℕ) → length fields ≤ i
    → all_of (field_by known) fields ≡ option_map (λ xs. made ++ xs) (all_of (field_by known) (drop i fields)) → Some (struct_ty made) ≡ fields_by known fields
fields_end known fields made i past e = sym (ap (option_map struct_ty)
    (e ∙ ap (λ r. option_map (λ xs. made ++ xs) (all_of (field_by known) r)) (none_left fields i past)
    ∙ ap Some (append-nil made)))
