-- The faults that are told of types, field by field.
use Rattle.std.specs.List.{flat_map}
use Rattle.std.proofs.Common.{◌≡◌, List, [], ◌∷◌, map, sym, ap, subst}
use Rattle.slint_base.specs.declared.faults.Fault.{Fault}
use Rattle.slint_base.specs.declared.faults.Span.{Span}
use Rattle.syntax_tree.specs.declared.types.Field.{Field, roll-Field, fold-Field, fold-roll-Field, map-Field, ind-Field}
use Rattle.syntax_tree.specs.declared.types.TypeName.{TypeName, roll-TypeName, fold-TypeName, fold-roll-TypeName, map-TypeName, ind-TypeName}
use Rattle.syntax_tree.specs.declared.types.TypeName.TheOpen.{TypeName-F, Field-F}
use Rattle.syntax_tree.specs.declared.words.Ident.{Ident}
use Rattle.source_faults.proofs.Others.{AllOther, both, none}

abbrev pub FieldFaults : Type 0
FieldFaults = Ident × List Fault

abbrev pub inner : FieldFaults → List Fault
inner f = f.1

abbrev field_layer : Field-F (List Fault) FieldFaults → FieldFaults
field_layer f = (f.name, f.ty)

module _ (layer : TypeName-F (List Fault) FieldFaults → List Fault)
    (named : (ident : Ident) → AllOther (layer (TypeName-F.Named ident)))
    (array : (item : List Fault) (span : Span) → AllOther item → AllOther (layer (TypeName-F.Array item span)))
    (struct : (fields : List FieldFaults) (span : Span) → AllOther (flat_map inner fields) → AllOther (layer (TypeName-F.Struct fields span))) where
  abbrev faults_in : TypeName → List Fault
  faults_in = fold-TypeName (List Fault) FieldFaults layer field_layer

  abbrev of_field : Field → FieldFaults
  of_field = fold-Field (List Fault) FieldFaults layer field_layer

  abbrev OfType : TypeName → Type 0
  OfType t = AllOther (faults_in t)

  abbrev OfField : Field → Type 0
  OfField f = AllOther (inner (of_field f))

  abbrev KnownType : Type 0
  KnownType = (t : TypeName) × OfType t

  abbrev KnownField : Type 0
  KnownField = (f : Field) × OfField f

  abbrev InLayer : TypeName-F TypeName Field → Type 0
  InLayer z = AllOther (layer (map-TypeName TypeName Field (List Fault) FieldFaults faults_in of_field z))

  fields_known : (fs : List KnownField) → AllOther (flat_map inner (map of_field (map (λ f. f.0) fs)))
  fields_known [] = none
  fields_known (f ∷ fs) = both f.1 (fields_known fs)

  layer_known : (y : TypeName-F KnownType KnownField) → InLayer (map-TypeName KnownType KnownField TypeName Field (λ e. e.0) (λ f. f.0) y)
  layer_known (TypeName-F.Named ident) = named ident
  layer_known (TypeName-F.Array item span) = array (faults_in item.0) span item.1
  layer_known (TypeName-F.Struct fs span) = struct (map of_field (map (λ f. f.0) fs)) span (fields_known fs)

  type_step : (x : TypeName-F TypeName Field) (y : TypeName-F KnownType KnownField) → map-TypeName KnownType KnownField TypeName Field (λ e. e.0) (λ f. f.0) y ≡ x → OfType (roll-TypeName x)
  type_step x y is = subst AllOther (sym (fold-roll-TypeName (List Fault) FieldFaults layer field_layer x)) (subst (λ z. InLayer z) is (layer_known y))

  abbrev InField : Field-F TypeName Field → Type 0
  InField z = AllOther (faults_in z.ty)

  field_step : (x : Field-F TypeName Field) (y : Field-F KnownType KnownField) → map-Field KnownType KnownField TypeName Field (λ e. e.0) (λ f. f.0) y ≡ x → OfField (roll-Field x)
  field_step x y is = subst AllOther (sym (ap inner (fold-roll-Field (List Fault) FieldFaults layer field_layer x))) (subst (λ z. InField z) is y.ty.1)

  pub type_other : (t : TypeName) → AllOther (faults_in t)
  type_other = ind-TypeName OfType OfField (λ x y is. type_step x y is) (λ x y is. field_step x y is)

  pub field_other : (f : Field) → AllOther (inner (of_field f))
  field_other = ind-Field OfType OfField (λ x y is. type_step x y is) (λ x y is. field_step x y is)

  pub fields_other : (fs : List Field) → AllOther (flat_map inner (map of_field fs))
  fields_other [] = none
  fields_other (f ∷ fs) = both (field_other f) (fields_other fs)
