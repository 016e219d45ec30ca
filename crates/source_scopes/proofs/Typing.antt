-- How the types of structs are made one after the other.
use Rattle.std.specs.Prelude.{ℕ, zero, suc, List, [], ◌∷◌, map, length, slice_get, slice_set, replicate, Option, Some, None}
use Rattle.std.specs.Option.{option_map}
use Rattle.std.proofs.Common.{◌≡◌, ◌+◌, ◌≤◌, refl, sym, ◌∙◌, ap, subst, add-one, arith}
use Rattle.std.proofs.lemmas.List.{length-replicate}
use Rattle.slint_base.specs.Options.{all_of, onto_all}
use Rattle.syntax_tree.specs.declared.types.Field.{Field, roll-Field, fold-roll-Field, map-Field, ind-Field}
use Rattle.syntax_tree.specs.declared.types.TypeName.{TypeName, roll-TypeName, fold-roll-TypeName, map-TypeName, ind-TypeName}
use Rattle.syntax_tree.specs.declared.types.TypeName.TheOpen.{TypeName-F, Field-F}
use Rattle.value_types.specs.declared.types.Ty.{Ty}
use Rattle.value_types.specs.declared.types.Ty.TheVariants as ty
use Rattle.import_resolver.specs.Loaded.{FileRow}
use Rattle.source_scopes.specs.declared.meanings.Entry.{Entry}
use Rattle.source_scopes.specs.declared.meanings.Meaning.{Meaning}
use Rattle.source_scopes.specs.declared.meanings.Meaning.TheVariants as meaning
use Rattle.source_scopes.specs.Declarations.{FileStruct, structs_of}
use Rattle.source_scopes.specs.Entries.{entry_named, entry_of, scope_of}
use Rattle.source_scopes.specs.Structs.{AllStay, AreStructTypes, AreTyped, IsTyped, StaysOut, type_at, type_in, type_known}
use Rattle.source_scopes.specs.Types.{MaybeField, field_by, field_layer, fields_by, struct_at, struct_ty, struct_type, struct_within, type_by, type_found, type_layer, type_meant, type_named, type_written}
use Rattle.source_scopes.proofs.Lookups.{length-set_each, replicate_each, set_each}

-- ---- where more names have types, what had a type has it still

abbrev Within : {A B : Type 0} → (A → Option B) → (A → Option B) → Type 0
Within f g = (a : _) (b : _) → f a ≡ Some b → g a ≡ Some b

abbrev pub More : {B : Type 0} → Option B → Option B → Type 0
More o p = (b : _) → o ≡ Some b → p ≡ Some b

mapped : {A B : Type 0} (f : A → B) (o p : Option A) → More o p → More (option_map f o) (option_map f p)
mapped f None p more b e = cc
mapped f (Some a) p more b e = rw (more a refl) e

joined : {A : Type 0} (o p : Option A) (r s : Option (List A)) → More o p → More r s → More (onto_all o r) (onto_all p s)
joined None p r s more rest b e = cc
joined (Some a) p None s more rest b e = cc
joined (Some a) p (Some xs) s more rest b e = rw (more a refl, rest xs refl) e

module _ (known later : List ℕ → Option Ty) (grows : (name : List ℕ) → More (known name) (later name)) where
  abbrev OfType : TypeName → Type 0
  OfType e = More (type_by known e) (type_by later e)

  abbrev OfField : Field → Type 0
  OfField f = More (field_by known f) (field_by later f)

  abbrev KnownType : Type 0
  KnownType = (e : TypeName) × OfType e

  abbrev KnownField : Type 0
  KnownField = (f : Field) × OfField f

  abbrev layer_by : (List ℕ → Option Ty) → TypeName-F TypeName Field → Option Ty
  layer_by names z = type_layer names (map-TypeName TypeName Field (Option Ty) MaybeField (type_by names) (field_by names) z)

  fields_known : (fs : List KnownField) → More (all_of (λ f. f) (map (field_by known) (map (λ f. f.0) fs))) (all_of (λ f. f) (map (field_by later) (map (λ f. f.0) fs)))
  fields_known [] b e = e
  fields_known (f ∷ fs) b e = joined (field_by known f.0) (field_by later f.0) (all_of (λ f. f) (map (field_by known) (map (λ f. f.0) fs))) (all_of (λ f. f) (map (field_by later) (map (λ f. f.0) fs))) f.1 (fields_known fs) b e

  abbrev InLayer : TypeName-F TypeName Field → Type 0
  InLayer z = More (layer_by known z) (layer_by later z)

  layer_known : (y : TypeName-F KnownType KnownField) → InLayer (map-TypeName KnownType KnownField TypeName Field (λ e. e.0) (λ f. f.0) y)
  layer_known (TypeName-F.Named ident) = grows ident.name
  layer_known (TypeName-F.Array item span) = mapped ty.Array (type_by known item.0) (type_by later item.0) item.1
  layer_known (TypeName-F.Struct fs span) = mapped struct_ty (all_of (λ f. f) (map (field_by known) (map (λ f. f.0) fs))) (all_of (λ f. f) (map (field_by later) (map (λ f. f.0) fs))) (fields_known fs)

  unrolled : (names : List ℕ → Option Ty) (x : TypeName-F TypeName Field) → type_by names (roll-TypeName x) ≡ layer_by names x
  unrolled names x = fold-roll-TypeName (Option Ty) MaybeField (type_layer names) field_layer x

  type_step : (x : TypeName-F TypeName Field) (y : TypeName-F KnownType KnownField) → map-TypeName KnownType KnownField TypeName Field (λ e. e.0) (λ f. f.0) y ≡ x → OfType (roll-TypeName x)
  type_step x y is b e = unrolled later x ∙ subst (λ z. InLayer z) is (layer_known y) b (sym (unrolled known x) ∙ e)

  abbrev field_layer_by : (List ℕ → Option Ty) → Field-F TypeName Field → MaybeField
  field_layer_by names z = option_map (λ t. (z.name.name, t)) (type_by names z.ty)

  unrolled_field : (names : List ℕ → Option Ty) (x : Field-F TypeName Field) → field_by names (roll-Field x) ≡ field_layer_by names x
  unrolled_field names x = fold-roll-Field (Option Ty) MaybeField (type_layer names) field_layer x

  abbrev InField : Field-F TypeName Field → Type 0
  InField z = More (field_layer_by known z) (field_layer_by later z)

  field_known : (y : Field-F KnownType KnownField) → InField (map-Field KnownType KnownField TypeName Field (λ e. e.0) (λ f. f.0) y)
  field_known y = mapped (λ t. (y.name.name, t)) (type_by known y.ty.0) (type_by later y.ty.0) y.ty.1

  field_step : (x : Field-F TypeName Field) (y : Field-F KnownType KnownField) → map-Field KnownType KnownField TypeName Field (λ e. e.0) (λ f. f.0) y ≡ x → OfField (roll-Field x)
  field_step x y is b e = unrolled_field later x ∙ subst (λ z. InField z) is (field_known y) b (sym (unrolled_field known x) ∙ e)

  field_grows : (f : Field) → OfField f
  field_grows = ind-Field OfType OfField (λ x y is. type_step x y is) (λ x y is. field_step x y is)

  all_grow : (fields : List Field) → More (all_of (field_by known) fields) (all_of (field_by later) fields)
  all_grow [] b e = e
  all_grow (f ∷ fs) b e = joined (field_by known f) (field_by later f) (all_of (field_by known) fs) (all_of (field_by later) fs) (field_grows f) (all_grow fs) b e

  pub type_grows : (e : TypeName) → OfType e
  type_grows = ind-TypeName OfType OfField (λ x y is. type_step x y is) (λ x y is. field_step x y is)

  pub fields_grow : (fields : List Field) → More (fields_by known fields) (fields_by later fields)
  fields_grow fields = mapped struct_ty (all_of (field_by known) fields) (all_of (field_by later) fields) (all_grow fields)

-- names of the same types give the same types
by_more : {B : Type 0} (o p : Option B) → More o p → More p o → o ≡ p
by_more None None f g = refl
by_more None (Some b) f g = g b refl
by_more (Some a) p f g = sym (f a refl)

same_types : (f g : List ℕ → Option Ty) → ((name : List ℕ) → f name ≡ g name) → (e : TypeName) → type_by f e ≡ type_by g e
same_types f g same e = by_more (type_by f e) (type_by g e) (type_grows f g (λ name b h. sym (same name) ∙ h) e) (type_grows g f (λ name b h. same name ∙ h) e)

meant_same : (f g : ℕ → Option Ty) → ((s : ℕ) → f s ≡ g s) → (m : Option Meaning) → type_meant f m ≡ type_meant g m
meant_same f g same None = refl
meant_same f g same (Some (meaning.Component n)) = refl
meant_same f g same (Some (meaning.Global n)) = refl
meant_same f g same (Some (meaning.Enum n)) = refl
meant_same f g same (Some (meaning.Struct s)) = same s

found_same : (f g : ℕ → Option Ty) → ((s : ℕ) → f s ≡ g s) → (name : List ℕ) (o : Option Entry) → type_found f name o ≡ type_found g name o
found_same f g same name None = refl
found_same f g same name (Some entry) = meant_same f g same entry.meaning

known_same : (rows : List FileRow) (types : List (Option Ty)) (k : ℕ) (es : List Entry) → AreStructTypes rows types → es ≡ scope_of rows k
    → (name : List ℕ) → type_known types es name ≡ type_named (struct_type rows) rows k name
known_same rows types k es are is name = ap (λ s. type_found (type_at types) name (entry_named name s)) is ∙ found_same (type_at types) (struct_type rows) are name (entry_of rows k name)

pub written_same : (rows : List FileRow) (types : List (Option Ty)) (k : ℕ) (es : List Entry) (e : TypeName) → AreStructTypes rows types → es ≡ scope_of rows k
    → type_by (type_known types es) e ≡ type_written rows k e
written_same rows types k es e are is = same_types (type_known types es) (type_named (struct_type rows) rows k) (known_same rows types k es are is) e

-- ---- the same of structs

meant_grows : (f g : ℕ → Option Ty) → ((s : ℕ) → More (f s) (g s)) → (m : Option Meaning) → More (type_meant f m) (type_meant g m)
meant_grows f g grows None b e = cc
meant_grows f g grows (Some (meaning.Component n)) b e = cc
meant_grows f g grows (Some (meaning.Global n)) b e = cc
meant_grows f g grows (Some (meaning.Enum n)) b e = e
meant_grows f g grows (Some (meaning.Struct s)) b e = grows s b e

found_grows : (f g : ℕ → Option Ty) → ((s : ℕ) → More (f s) (g s)) → (name : List ℕ) (o : Option Entry) → More (type_found f name o) (type_found g name o)
found_grows f g grows name None b e = e
found_grows f g grows name (Some entry) b e = meant_grows f g grows entry.meaning b e

struct_grows : (f g : ℕ → Option Ty) → ((s : ℕ) → More (f s) (g s)) → (rows : List FileRow) (o : Option FileStruct) → More (struct_at f rows o) (struct_at g rows o)
struct_grows f g grows rows None b e = cc
struct_grows f g grows rows (Some s) b e = fields_grow (type_named f rows s.file) (type_named g rows s.file) (λ name. found_grows f g grows name (entry_of rows s.file name)) s.decl.fields b e

-- further steps keep the types that there are
deeper : (rows : List FileRow) (n m s : ℕ) → n ≤ m → More (struct_within n rows s) (struct_within m rows s)
deeper rows zero m s le b e = cc
deeper rows (suc n) zero s le b e = absurd (omega (arith, le))
deeper rows (suc n) (suc m) s le b e = struct_grows (struct_within n rows) (struct_within m rows) (λ r. deeper rows n m r (omega (arith, le))) rows (slice_get (structs_of rows) s) b e

-- ---- one struct more

typed_by : (rows : List FileRow) (done n s : ℕ) → done ≤ n → (o : Option Ty) → IsTyped rows done s o → More o (struct_within n rows s)
typed_by rows done n s le None is b e = cc
typed_by rows done n s le (Some t) is b e = is n le ∙ e

later : (rows : List FileRow) (done s : ℕ) (o : Option Ty) → IsTyped rows done s o → IsTyped rows (suc done) s o
later rows done s None is = tt
later rows done s (Some t) is = λ n le. is n (omega (arith, le))

new_typed : (rows : List FileRow) (types : List (Option Ty)) (done k : ℕ) → AreTyped rows done types → (o : Option Ty) → o ≡ struct_at (type_at types) rows (slice_get (structs_of rows) k) → IsTyped rows (suc done) k o
new_typed rows types done k are None e = tt
new_typed rows types done k are (Some t) e = by
  where
    by : (n : ℕ) → suc done ≤ n → struct_within n rows k ≡ Some t
    by zero le = absurd (omega (arith, le))
    by (suc n) le = struct_grows (type_at types) (struct_within n rows) (λ s. typed_by rows done n s (omega (arith, le)) (type_at types s) (are.each s)) rows (slice_get (structs_of rows) k) t (sym e)

pub typed_next : (rows : List FileRow) (types : List (Option Ty)) (done k : ℕ) (o : Option Ty) → AreTyped rows done types → o ≡ struct_at (type_at types) rows (slice_get (structs_of rows) k)
    → AreTyped rows (suc done) (slice_set types k o)
typed_next rows types done k o are e = record {
  sized = length-set_each types k o ∙ are.sized;
  each = set_each (λ s t. IsTyped rows (suc done) s (type_in t)) types k o (λ s. later rows done s (type_at types s) (are.each s)) (new_typed rows types done k are o e);
}

-- a struct that isn't there changes nothing
pub typed_still : (rows : List FileRow) (types : List (Option Ty)) (done : ℕ) → AreTyped rows done types → AreTyped rows (suc done) types
typed_still rows types done are = record { sized = are.sized; each = λ s. later rows done s (type_at types s) (are.each s) }

-- no struct's type
abbrev pub nothing : Option Ty
nothing = None

no_types : (rows : List FileRow) (n : ℕ) → n ≡ length (structs_of rows) → AreTyped rows 0 (replicate n nothing)
no_types rows n sized = record {
  sized = length-replicate n nothing ∙ sized;
  each = replicate_each (λ s t. IsTyped rows 0 s (type_in t)) nothing (λ s. tt) (λ s. tt) n;
}

pub types_begin : (rows : List FileRow) (n : ℕ) (types : List (Option Ty)) → n ≡ length (structs_of rows) → types ≡ replicate n nothing → AreTyped rows 0 types
types_begin rows n types sized are = subst (λ ts. AreTyped rows 0 ts) (sym are) (no_types rows n sized)

pub types_turn : (rows : List FileRow) (done : ℕ) (types : List (Option Ty)) → AreTyped rows (suc done) types → AreTyped rows (done + 1) types
types_turn rows done types are = subst (λ n. AreTyped rows n types) (sym (add-one done)) are

-- ---- all structs

module _ (rows : List FileRow) (types : List (Option Ty)) (done : ℕ) (are : AreTyped rows done types) (stay : AllStay rows types) where
  same_type : (n s : ℕ) (t u : Ty) → struct_within n rows s ≡ Some t → IsTyped rows done s (Some u) → Some u ≡ Some t
  same_type n s t u e is = sym (is (done + n) (omega arith)) ∙ deeper rows n (done + n) s (omega arith) t e

  step : (n s : ℕ) (t : Ty) (o : Option Ty) → struct_within n rows s ≡ Some t → struct_at (type_at types) rows (slice_get (structs_of rows) s) ≡ Some t → IsTyped rows done s o → StaysOut rows types s o → o ≡ Some t
  step n s t None e by is stays = absurd (let two : None ≡ Some t = sym stays ∙ by in cc)
  step n s t (Some u) e by is stays = same_type n s t u e is

  found : (n s : ℕ) → More (struct_within n rows s) (type_at types s)
  found zero s t e = cc
  found (suc n) s t e = step (suc n) s t (type_at types s) e
      (struct_grows (struct_within n rows) (type_at types) (λ r. found n r) rows (slice_get (structs_of rows) s) t e) (are.each s) (stay s)

  none_by : (s : ℕ) (o p : Option Ty) → More p o → o ≡ None → o ≡ p
  none_by s o None more e = e
  none_by s o (Some t) more e = more t refl

  all_by : (s : ℕ) → done ≤ length (structs_of rows) → (o : Option Ty) → type_at types s ≡ o → IsTyped rows done s o → type_at types s ≡ struct_type rows s
  all_by s le None e is = none_by s (type_at types s) (struct_type rows s) (found (length (structs_of rows)) s) e
  all_by s le (Some t) e is = e ∙ sym (is (length (structs_of rows)) le)

  pub all_typed : done ≤ length (structs_of rows) → AreStructTypes rows types
  all_typed le = λ s. all_by s le (type_at types s) refl (are.each s)
