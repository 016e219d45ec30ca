-- Types are the same exactly where they are equal.
use Rattle.std.proofs.Common.{◌≡◌, ℕ, Bool, true, false, List, [], ◌∷◌, map, sym, ◌∙◌, ap, refl, subst}
use Rattle.std.proofs.lemmas.Bool.Decides.{Decides-eqb}
use Rattle.std.specs.Prelude.{◌&&◌}
use Rattle.std.specs.Bool.{Decides}
use Rattle.std.specs.Str.{bytes_eq}
use Rattle.std.proofs.lemmas.Slice.Eq.{bytes_eq-Decides}
use Rattle.value_types.specs.declared.types.Ty.{Ty, out-Ty}
use Rattle.value_types.specs.declared.types.Ty.TheOpen as form
use Rattle.value_types.specs.declared.types.Ty.TheFolds.{map-Ty, fold-roll-Ty, ind-Ty}
use Rattle.value_types.specs.declared.types.Ty.TheViews.{roll-Ty, roll-out-Ty, out-roll-Ty}
use Rattle.value_types.specs.Conversions.{Form}
use Rattle.type_rules.specs.Conversions.{being, same_fields, same_type}
use Rattle.type_rules.proofs.FieldLemmas.{tested}

-- whether a type is another one decides whether they are equal
abbrev Is : Ty → Type 0
Is t = (b : Ty) → Decides (same_type t b) (t ≡ b)

abbrev Known : Type 0
Known = (t : Ty) × ((b : Ty) → Decides (same_type t b) (t ≡ b))

abbrev known_of : List ℕ × Known → List ℕ × Ty
known_of f = (f.0, f.1.0)

-- two tests, of a pair and of what stands behind it
both : {A B C : Type 0} (p : Bool) (q : Bool) (r : Bool) (a b : A) (x y : B) (m n : C) → Decides p (a ≡ b) → Decides q (x ≡ y) → Decides r (m ≡ n)
    → Decides (p && (q && r)) ((a ≡ b) × (x ≡ y) × (m ≡ n))
both true true true a b x y m n d e f = (λ h. (d.0 refl, e.0 refl, f.0 refl), λ g. refl)
both true true false a b x y m n d e f = (λ h. cc, λ g. f.1 g.2)
both true false r a b x y m n d e f = (λ h. cc, λ g. (let k : false ≡ true = e.1 g.1 in cc))
both false q r a b x y m n d e f = (λ h. cc, λ g. d.1 g.0)

fields_decide : (fs : List (List ℕ × Known)) (gs : List (List ℕ × Ty)) → Decides (same_fields (tested (map known_of fs)) gs) (map known_of fs ≡ gs)
fields_decide [] [] = (λ h. refl, λ e. refl)
fields_decide [] (g ∷ gs) = (λ h. cc, λ e. cc)
fields_decide (f ∷ fs) [] = (λ h. cc, λ e. cc)
fields_decide (f ∷ fs) (g ∷ gs) =
    let d = both (bytes_eq f.0 g.0) (same_type f.1.0 g.1) (same_fields (tested (map known_of fs)) gs) f.0 g.0 f.1.0 g.1 (map known_of fs) gs (bytes_eq-Decides f.0 g.0) (f.1.1 g.1) (fields_decide fs gs) in
    (λ h. equal (d.0 h), λ e. d.1 (ap first e, ap second e, ap rest e))
  where
    equal : (f.0 ≡ g.0) × (f.1.0 ≡ g.1) × (map known_of fs ≡ gs) → (f.0, f.1.0) ∷ map known_of fs ≡ g ∷ gs
    equal e = ap (λ (n : List ℕ). (n, f.1.0) ∷ map known_of fs) e.0 ∙ ap (λ (t : Ty). (g.0, t) ∷ map known_of fs) e.1 ∙ ap (λ (xs : List (List ℕ × Ty)). g ∷ xs) e.2

    first : List (List ℕ × Ty) → List ℕ
    first [] = []
    first (x ∷ xs) = x.0

    second : List (List ℕ × Ty) → Ty
    second [] = g.1
    second (x ∷ xs) = x.1

    rest : List (List ℕ × Ty) → List (List ℕ × Ty)
    rest [] = []
    rest (x ∷ xs) = xs

decide : (y : form.Ty-F ((t : Ty) × ((b : Ty) → Decides (same_type t b) (t ≡ b)))) (other : Form)
    → Decides (being (map-Ty Ty (Ty → Bool) same_type (map-Ty ((t : Ty) × ((b : Ty) → Decides (same_type t b) (t ≡ b))) Ty (λ e. e.0) y)) other)
    (map-Ty ((t : Ty) × ((b : Ty) → Decides (same_type t b) (t ≡ b))) Ty (λ e. e.0) y ≡ other)
decide form.Void form.Void = (λ h. refl, λ e. refl)
decide form.Void other = (λ h. cc, λ e. cc)
decide form.Zero form.Zero = (λ h. refl, λ e. refl)
decide form.Zero other = (λ h. cc, λ e. cc)
decide form.Int form.Int = (λ h. refl, λ e. refl)
decide form.Int other = (λ h. cc, λ e. cc)
decide form.Float form.Float = (λ h. refl, λ e. refl)
decide form.Float other = (λ h. cc, λ e. cc)
decide form.Percent form.Percent = (λ h. refl, λ e. refl)
decide form.Percent other = (λ h. cc, λ e. cc)
decide form.Bool form.Bool = (λ h. refl, λ e. refl)
decide form.Bool other = (λ h. cc, λ e. cc)
decide form.Str form.Str = (λ h. refl, λ e. refl)
decide form.Str other = (λ h. cc, λ e. cc)
decide form.Color form.Color = (λ h. refl, λ e. refl)
decide form.Color other = (λ h. cc, λ e. cc)
decide form.Length form.Length = (λ h. refl, λ e. refl)
decide form.Length other = (λ h. cc, λ e. cc)
decide form.Duration form.Duration = (λ h. refl, λ e. refl)
decide form.Duration other = (λ h. cc, λ e. cc)
decide form.Angle form.Angle = (λ h. refl, λ e. refl)
decide form.Angle other = (λ h. cc, λ e. cc)
decide form.Image form.Image = (λ h. refl, λ e. refl)
decide form.Image other = (λ h. cc, λ e. cc)
decide form.Empty form.Empty = (λ h. refl, λ e. refl)
decide form.Empty other = (λ h. cc, λ e. cc)
decide (form.Enum n) (form.Enum m) = (λ h. ap form.Enum ((Decides-eqb n m).0 h), λ e. (let k : n ≡ m = cc in (Decides-eqb n m).1 k))
decide (form.Enum n) other = (λ h. cc, λ e. cc)
decide (form.Struct fields) (form.Struct others) = (λ h. ap form.Struct ((fields_decide fields others).0 h), λ e. (let k : map known_of fields ≡ others = cc in (fields_decide fields others).1 k))
decide (form.Struct fields) other = (λ h. cc, λ e. cc)
decide (form.Array item) (form.Array other) = (λ h. ap form.Array ((item.1 other).0 h), λ e. (let k : item.0 ≡ other = cc in (item.1 other).1 k))
decide (form.Array item) other = (λ h. cc, λ e. cc)

pub same_is : (a b : Ty) → Decides (same_type a b) (a ≡ b)
same_is = ind-Ty Is (λ x y is b.
    let d = subst (λ z. Decides (being (map-Ty Ty (Ty → Bool) same_type z) (out-Ty b)) (z ≡ out-Ty b)) is (decide y (out-Ty b)) in
    let step : same_type (roll-Ty x) b ≡ being (map-Ty Ty (Ty → Bool) same_type x) (out-Ty b) = ap (λ (test : Ty → Bool). test b) (fold-roll-Ty (Ty → Bool) (λ t other. being t (out-Ty other)) x) in
    (λ h. ap roll-Ty (d.0 (sym step ∙ h)) ∙ roll-out-Ty b, λ e. step ∙ d.1 (sym (out-roll-Ty x) ∙ ap out-Ty e)))
