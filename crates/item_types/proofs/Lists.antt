-- Turns of loops over lists: of parts, of parameters and of types.
use Rattle.std.proofs.Common.{◌≡◌, ℕ, zero, suc, ◌+◌, ◌<◌, ◌≤◌, Bool, true, false, List, [], ◌∷◌, ◌++◌, length, take, drop, get_or, Option, Some, None, Result, Ok, Err, refl, sym, ap, ◌∙◌, subst, append_assoc, arith}
use Rattle.std.specs.Prelude.{◌&&◌, slice_get}
use Rattle.std.proofs.Math.Bool.{and-false}
use Rattle.std.proofs.lemmas.List.{append-nil, take_all}
use Rattle.std.proofs.lemmas.Option.{get_or_from_slice_get, slice_get_within, slice_get-get_or}
use Rattle.slint_base.specs.declared.faults.Fault.{Fault}
use Rattle.syntax_tree.specs.declared.types.Field.{Field, out-Field}
use Rattle.syntax_tree.specs.declared.words.Ident.{Ident}
use Rattle.value_types.specs.declared.types.Ty.{Ty}
use Rattle.value_types.proofs.ConversionLemmas.{left_at}
use Rattle.type_rules.specs.Conversions.{same_type}
use Rattle.typed_tree.specs.declared.scopes.Local.{Local}
use Rattle.expr_types.proofs.Turns.{front_next}
use Rattle.item_types.specs.Judging.{Judging, each, Tells, added}
use Rattle.item_types.specs.Items.{same_types}
use Rattle.item_types.specs.Members.{locals, field_names}
use Rattle.item_types.proofs.Telling.{Sound, told_at, each_none, each_more}

-- ---- parts

pub each_of : {A X : Type 0} (part : A → Judging X) {xs ys : List A} {v : Result (List X) Fault} → xs ≡ ys → Tells (each part xs) v → Tells (each part ys) v
each_of {A} {X} part {v = v} e t = let P : List A → Type 0 = λ z. Tells (each part z) v in subst P e t

pub each_empty : {A X : Type 0} (part : A → Judging X) {xs : List X} → xs ≡ [] → Tells (each part []) (Ok xs)
each_empty part e = told_at (each part []) (ap Ok (sym e)) (each_none part)

pub each_turn : {A X : Type 0} (part : A → Judging X) → ((a : A) → Sound (part a)) → (xs : List A) (i : ℕ) (a : A) {seen all : Result (List X) Fault} {v : Result X Fault} → a ≡ get_or xs i a → i < length xs → all ≡ added seen v
    → Tells (each part (take i xs)) seen → Tells (part a) v → Tells (each part (take (i + 1) xs)) all
each_turn part s xs i a k h e t u = each_of part (sym (front_next xs i a k h)) (told_at (each part (take i xs ++ a ∷ [])) (sym e) (each_more part s (take i xs) a t u))

pub each_end : {A X : Type 0} (part : A → Judging X) (xs : List A) (i : ℕ) {v : Result (List X) Fault} → length xs ≤ i → Tells (each part (take i xs)) v → Tells (each part xs) v
each_end part xs i h t = each_of part (take_all i xs h) t

-- ---- parameters

abbrev pub local_of : Ident → Ty → Local
local_of x t = record { name = x.name; ty = t }

pub locals_step : (made longer whole : List Local) (x : Ident) (t : Ty) (xs : List Ident) (ts : List Ty) → longer ≡ made ++ local_of x t ∷ [] → made ++ locals (x ∷ xs) (t ∷ ts) ≡ whole → longer ++ locals xs ts ≡ whole
locals_step made longer whole x t xs ts e h = ap (λ z. z ++ locals xs ts) e ∙ append_assoc made (local_of x t ∷ []) (locals xs ts) ∙ h

types_left : (ts : List Ty) (i : ℕ) (t : Ty) → Some t ≡ slice_get ts i → drop i ts ≡ t ∷ drop (i + 1) ts
types_left ts i t e = left_at ts i t (slice_get_within ts i t (sym e)) (sym (get_or_from_slice_get ts i t t (sym e)))

pub name_turn : (xs : List Ident) (ts : List Ty) (i : ℕ) (x : Ident) (t : Ty) (made longer whole : List Local) → i < length xs → x ≡ get_or xs i x → Some t ≡ slice_get ts i → longer ≡ made ++ local_of x t ∷ []
    → made ++ locals (drop i xs) (drop i ts) ≡ whole → longer ++ locals (drop (i + 1) xs) (drop (i + 1) ts) ≡ whole
name_turn xs ts i x t made longer whole h k at e w = locals_step made longer whole x t (drop (i + 1) xs) (drop (i + 1) ts) e
    (ap (λ z. made ++ locals z (t ∷ drop (i + 1) ts)) (sym (left_at xs i x h k)) ∙ ap (λ z. made ++ locals (drop i xs) z) (sym (types_left ts i t at)) ∙ w)

pub field_turn : (fs : List Field) (ts : List Ty) (i : ℕ) (f : Field) (t : Ty) (made longer whole : List Local) → i < length fs → f ≡ get_or fs i f → Some t ≡ slice_get ts i → longer ≡ made ++ local_of (out-Field f).name t ∷ []
    → made ++ locals (field_names (drop i fs)) (drop i ts) ≡ whole → longer ++ locals (field_names (drop (i + 1) fs)) (drop (i + 1) ts) ≡ whole
field_turn fs ts i f t made longer whole h k at e w = locals_step made longer whole (out-Field f).name t (field_names (drop (i + 1) fs)) (drop (i + 1) ts) e
    (ap (λ z. made ++ locals (field_names z) (t ∷ drop (i + 1) ts)) (sym (left_at fs i f h k)) ∙ ap (λ z. made ++ locals (field_names (drop i fs)) z) (sym (types_left ts i t at)) ∙ w)

no_types : (xs : List Ident) → locals xs [] ≡ []
no_types [] = refl
no_types (x ∷ xs) = refl

none_left : (ts : List Ty) (i : ℕ) → None ≡ slice_get ts i → drop i ts ≡ []
none_left [] zero e = refl
none_left [] (suc i) e = refl
none_left (t ∷ ts) zero e = cc
none_left (t ∷ ts) (suc i) e = none_left ts i e

-- no type is left for further names, or no name is left
pub types_over : (xs : List Ident) (ts : List Ty) (i : ℕ) (made whole : List Local) → None ≡ slice_get ts i → made ++ locals xs (drop i ts) ≡ whole → made ≡ whole
types_over xs ts i made whole e w = sym (append-nil made) ∙ ap (λ z. made ++ z) (sym (no_types xs)) ∙ ap (λ z. made ++ locals xs z) (sym (none_left ts i e)) ∙ w

all_dropped : {A : Type 0} (xs : List A) (i : ℕ) → length xs ≤ i → drop i xs ≡ []
all_dropped [] zero h = refl
all_dropped [] (suc i) h = refl
all_dropped (x ∷ xs) zero h = absurd (omega arith)
all_dropped (x ∷ xs) (suc i) h = all_dropped xs i (omega arith)

pub names_over : (xs : List Ident) (ts : List Ty) (i : ℕ) (made whole : List Local) → length xs ≤ i → made ++ locals (drop i xs) (drop i ts) ≡ whole → made ≡ whole
names_over xs ts i made whole h w = sym (append-nil made) ∙ ap (λ z. made ++ locals z (drop i ts)) (sym (all_dropped xs i h)) ∙ w

pub fields_over : (fs : List Field) (ts : List Ty) (i : ℕ) (made whole : List Local) → length fs ≤ i → made ++ locals (field_names (drop i fs)) (drop i ts) ≡ whole → made ≡ whole
fields_over fs ts i made whole h w = sym (append-nil made) ∙ ap (λ z. made ++ locals (field_names z) (drop i ts)) (sym (all_dropped fs i h)) ∙ w

-- ---- types

pub lengths_differ : (ts us : List Ty) → (length ts ≡ length us → ⊥) → same_types ts us ≡ false
lengths_differ [] [] h = absurd (h refl)
lengths_differ [] (u ∷ us) h = refl
lengths_differ (t ∷ ts) [] h = refl
lengths_differ (t ∷ ts) (u ∷ us) h = ap (λ b. same_type t u && b) (lengths_differ ts us (λ e. h (ap suc e))) ∙ and-false (same_type t u)

pub no_place : (ts us : List Ty) (i : ℕ) (u : Ty) → length ts ≡ length us → i < length ts → None ≡ slice_get us i → ⊥
no_place ts us i u e within none = let there : slice_get us i ≡ Some (get_or us i u) = slice_get-get_or us i u (omega (arith, e)) in cc

types_at : (ts us : List Ty) (i : ℕ) (t u : Ty) (whole : Bool) → i < length ts → t ≡ get_or ts i t → Some u ≡ slice_get us i → whole ≡ same_types (drop i ts) (drop i us) → whole ≡ (same_type t u && same_types (drop (i + 1) ts) (drop (i + 1) us))
types_at ts us i t u whole h k at e = e ∙ ap (λ z. same_types z (drop i us)) (left_at ts i t h k) ∙ ap (λ z. same_types (t ∷ drop (i + 1) ts) z) (types_left us i u at)

pub types_differ : (ts us : List Ty) (i : ℕ) (t u : Ty) (whole : Bool) → i < length ts → t ≡ get_or ts i t → Some u ≡ slice_get us i → whole ≡ same_types (drop i ts) (drop i us) → same_type t u ≡ false → false ≡ whole
types_differ ts us i t u whole h k at e n = sym (types_at ts us i t u whole h k at e ∙ ap (λ b. b && same_types (drop (i + 1) ts) (drop (i + 1) us)) n)

pub types_same : (ts us : List Ty) (i : ℕ) (t u : Ty) (whole : Bool) → i < length ts → t ≡ get_or ts i t → Some u ≡ slice_get us i → whole ≡ same_types (drop i ts) (drop i us) → same_type t u ≡ true → whole ≡ same_types (drop (i + 1) ts) (drop (i + 1) us)
types_same ts us i t u whole h k at e n = types_at ts us i t u whole h k at e ∙ ap (λ b. b && same_types (drop (i + 1) ts) (drop (i + 1) us)) n
