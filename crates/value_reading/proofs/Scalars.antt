-- What values without parts are converted to, by the form of the type.
use Rattle.std.proofs.Common.{◌≡◌, ℕ, zero, suc, ◌<◌, Bool, true, false, List, sym, ◌∙◌, ap, refl, subst, arith, Option, Some, None}
use Rattle.std.specs.Prelude.{ℤ}
use Rattle.slint_literals.specs.declared.numbers.Number.{Number}
use Rattle.slint_literals.specs.declared.numbers.Number.TheVariants as number
use Rattle.value_types.specs.declared.enums.EnumNames.{EnumNames}
use Rattle.value_types.specs.declared.types.Ty.{Ty, out-Ty}
use Rattle.value_types.specs.declared.types.Ty.TheOpen as form
use Rattle.value_types.specs.declared.values.Value.{Value}
use Rattle.value_types.specs.declared.values.Value.TheVariants as value
use Rattle.value_types.specs.declared.values.Value.TheOpen as shape
use Rattle.value_types.specs.declared.values.Value.TheFolds.{fold-roll-Value}
use Rattle.value_types.specs.Conversions.{Form, converted, converting_step, int_in, float_in, percent_in, length_in, angle_in, duration_in, text_in, image_in, color_in}
use Rattle.value_reading.specs.Words.{number_as, negative_as, word_in, pair_in}

pub converted_int : (n : ℤ) (ty : Ty) → converted (value.Int n) ty ≡ int_in n (out-Ty ty)
converted_int n ty = ap (λ v. converted v ty) (sym (value.rolls-Int n)) ∙ ap (λ (f : Ty → Option Value). f ty) (fold-roll-Value (Ty → Option Value) converting_step (shape.Int n))

pub converted_float : (n : ℤ) (ty : Ty) → converted (value.Float n) ty ≡ float_in n (out-Ty ty)
converted_float n ty = ap (λ v. converted v ty) (sym (value.rolls-Float n)) ∙ ap (λ (f : Ty → Option Value). f ty) (fold-roll-Value (Ty → Option Value) converting_step (shape.Float n))

pub converted_percent : (n : ℤ) (ty : Ty) → converted (value.Percent n) ty ≡ percent_in n (out-Ty ty)
converted_percent n ty = ap (λ v. converted v ty) (sym (value.rolls-Percent n)) ∙ ap (λ (f : Ty → Option Value). f ty) (fold-roll-Value (Ty → Option Value) converting_step (shape.Percent n))

pub converted_length : (n : ℤ) (ty : Ty) → converted (value.Length n) ty ≡ length_in n (out-Ty ty)
converted_length n ty = ap (λ v. converted v ty) (sym (value.rolls-Length n)) ∙ ap (λ (f : Ty → Option Value). f ty) (fold-roll-Value (Ty → Option Value) converting_step (shape.Length n))

pub converted_duration : (n : ℤ) (ty : Ty) → converted (value.Duration n) ty ≡ duration_in n (out-Ty ty)
converted_duration n ty = ap (λ v. converted v ty) (sym (value.rolls-Duration n)) ∙ ap (λ (f : Ty → Option Value). f ty) (fold-roll-Value (Ty → Option Value) converting_step (shape.Duration n))

pub converted_angle : (n : ℤ) (ty : Ty) → converted (value.Angle n) ty ≡ angle_in n (out-Ty ty)
converted_angle n ty = ap (λ v. converted v ty) (sym (value.rolls-Angle n)) ∙ ap (λ (f : Ty → Option Value). f ty) (fold-roll-Value (Ty → Option Value) converting_step (shape.Angle n))

pub converted_color : (c : ℕ) (ty : Ty) → converted (value.Color c) ty ≡ color_in c (out-Ty ty)
converted_color c ty = ap (λ v. converted v ty) (sym (value.rolls-Color c)) ∙ ap (λ (f : Ty → Option Value). f ty) (fold-roll-Value (Ty → Option Value) converting_step (shape.Color c))

pub converted_text : (t : List ℕ) (ty : Ty) → converted (value.Str t) ty ≡ text_in t (out-Ty ty)
converted_text t ty = ap (λ v. converted v ty) (sym (value.rolls-Str t)) ∙ ap (λ (f : Ty → Option Value). f ty) (fold-roll-Value (Ty → Option Value) converting_step (shape.Str t))

pub converted_image : (path : List ℕ) (ty : Ty) → converted (value.Image path) ty ≡ image_in path (out-Ty ty)
converted_image path ty = ap (λ v. converted v ty) (sym (value.rolls-Image path)) ∙ ap (λ (f : Ty → Option Value). f ty) (fold-roll-Value (Ty → Option Value) converting_step (shape.Image path))

-- a type that is neither an array nor a struct
abbrev pub is_plain : Form → Bool
is_plain (form.Array item) = false
is_plain (form.Struct fields) = false
is_plain _ = true

none_some : {X : Type 0} (o : Option X) (x : X) (P : Type 0) → o ≡ None → o ≡ Some x → P
none_some o x P e f = let g : None ≡ Some x = sym e ∙ f in absurd (cc)

plain_by : (g : Form → Option Value) (f : Form) (v : Value) → ((item : Ty) → g (form.Array item) ≡ None) → ((fields : List (List ℕ × Ty)) → g (form.Struct fields) ≡ None) → g f ≡ Some v → is_plain f ≡ true
plain_by g (form.Array item) v a s e = none_some (g (form.Array item)) v (is_plain (form.Array item) ≡ true) (a item) e
plain_by g (form.Struct fields) v a s e = none_some (g (form.Struct fields)) v (is_plain (form.Struct fields) ≡ true) (s fields) e
plain_by g _ v a s e = refl

plain_int : (n : ℤ) (ty : Ty) (v : Value) → converted (value.Int n) ty ≡ Some v → is_plain (out-Ty ty) ≡ true
plain_int n ty v e = plain_by (int_in n) (out-Ty ty) v (λ item. refl) (λ fields. refl) (sym (converted_int n ty) ∙ e)

plain_float : (n : ℤ) (ty : Ty) (v : Value) → converted (value.Float n) ty ≡ Some v → is_plain (out-Ty ty) ≡ true
plain_float n ty v e = plain_by (float_in n) (out-Ty ty) v (λ item. refl) (λ fields. refl) (sym (converted_float n ty) ∙ e)

plain_percent : (n : ℤ) (ty : Ty) (v : Value) → converted (value.Percent n) ty ≡ Some v → is_plain (out-Ty ty) ≡ true
plain_percent n ty v e = plain_by (percent_in n) (out-Ty ty) v (λ item. refl) (λ fields. refl) (sym (converted_percent n ty) ∙ e)

plain_length : (n : ℤ) (ty : Ty) (v : Value) → converted (value.Length n) ty ≡ Some v → is_plain (out-Ty ty) ≡ true
plain_length n ty v e = plain_by (length_in n) (out-Ty ty) v (λ item. refl) (λ fields. refl) (sym (converted_length n ty) ∙ e)

plain_duration : (n : ℤ) (ty : Ty) (v : Value) → converted (value.Duration n) ty ≡ Some v → is_plain (out-Ty ty) ≡ true
plain_duration n ty v e = plain_by (duration_in n) (out-Ty ty) v (λ item. refl) (λ fields. refl) (sym (converted_duration n ty) ∙ e)

plain_angle : (n : ℤ) (ty : Ty) (v : Value) → converted (value.Angle n) ty ≡ Some v → is_plain (out-Ty ty) ≡ true
plain_angle n ty v e = plain_by (angle_in n) (out-Ty ty) v (λ item. refl) (λ fields. refl) (sym (converted_angle n ty) ∙ e)

-- what a part that is no list reads as, reads so by no type of lists
pub number_plain : (n : Number) (ty : Ty) (v : Value) → converted (number_as n) ty ≡ Some v → is_plain (out-Ty ty) ≡ true
number_plain number.Zero ty v e = plain_int _ ty v e
number_plain (number.Int n) ty v e = plain_int n ty v e
number_plain (number.Float n) ty v e = plain_float n ty v e
number_plain (number.Percent n) ty v e = plain_percent n ty v e
number_plain (number.Length n) ty v e = plain_length n ty v e
number_plain (number.Duration n) ty v e = plain_duration n ty v e
number_plain (number.Angle n) ty v e = plain_angle n ty v e

pub negative_plain : (n : Number) (ty : Ty) (v : Value) → converted (negative_as n) ty ≡ Some v → is_plain (out-Ty ty) ≡ true
negative_plain number.Zero ty v e = plain_int _ ty v e
negative_plain (number.Int n) ty v e = plain_int _ ty v e
negative_plain (number.Float n) ty v e = plain_float _ ty v e
negative_plain (number.Percent n) ty v e = plain_percent _ ty v e
negative_plain (number.Length n) ty v e = plain_length _ ty v e
negative_plain (number.Duration n) ty v e = plain_duration _ ty v e
negative_plain (number.Angle n) ty v e = plain_angle _ ty v e

pub color_plain : (c : ℕ) (ty : Ty) (v : Value) → converted (value.Color c) ty ≡ Some v → is_plain (out-Ty ty) ≡ true
color_plain c ty v e = plain_by (color_in c) (out-Ty ty) v (λ item. refl) (λ fields. refl) (sym (converted_color c ty) ∙ e)

pub text_plain : (t : List ℕ) (ty : Ty) (v : Value) → converted (value.Str t) ty ≡ Some v → is_plain (out-Ty ty) ≡ true
text_plain t ty v e = plain_by (text_in t) (out-Ty ty) v (λ item. refl) (λ fields. refl) (sym (converted_text t ty) ∙ e)

pub image_plain : (path : List ℕ) (ty : Ty) (v : Value) → converted (value.Image path) ty ≡ Some v → is_plain (out-Ty ty) ≡ true
image_plain path ty v e = plain_by (image_in path) (out-Ty ty) v (λ item. refl) (λ fields. refl) (sym (converted_image path ty) ∙ e)

pub word_plain : (enums : List EnumNames) (w : List ℕ) (ty : Ty) (v : Value) → word_in enums w (out-Ty ty) ≡ Some v → is_plain (out-Ty ty) ≡ true
word_plain enums w ty v e = plain_by (word_in enums w) (out-Ty ty) v (λ item. refl) (λ fields. refl) e

pub pair_plain : (enums : List EnumNames) (w x : List ℕ) (ty : Ty) (v : Value) → pair_in enums w x (out-Ty ty) ≡ Some v → is_plain (out-Ty ty) ≡ true
pair_plain enums w x ty v e = plain_by (pair_in enums w x) (out-Ty ty) v (λ item. refl) (λ fields. refl) e
