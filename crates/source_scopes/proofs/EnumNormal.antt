-- The names of the built-in enums are spelled as names are.
use Rattle.std.specs.Prelude.{ℕ, List, [], ◌∷◌, map}
use Rattle.std.specs.Borrow.{Bor}
use Rattle.std.specs.Str.{chars}
use Rattle.std.proofs.Common.{◌≡◌, refl, ◌∙◌, ap}
use Rattle.std.proofs.Math.Utf8.{encode}
use Rattle.slint_base.specs.Names.{normal_name}
use Rattle.element_tables.specs.declared.types.BuiltInEnum.{BuiltInEnum}
use Rattle.element_tables.specs.declared.types.BuiltInEnum.TheVariants.{TextHorizontalAlignment, TextVerticalAlignment, TextWrap, TextOverflow, ImageFit, EventResult, LayoutAlignment}
use Rattle.element_tables.specs.Rows.{texts_of}
use Rattle.element_tables.specs.Types.{values_of}
use Rattle.typed_tree.specs.BuiltIns.{enum_name}
use Rattle.source_scopes.specs.Shown.{normal_of}

pub normal_enum : (of : BuiltInEnum) → normal_name (enum_name of) ≡ enum_name of
unfolding chars encode
normal_enum TextHorizontalAlignment = refl
normal_enum TextVerticalAlignment = refl
normal_enum TextWrap = refl
normal_enum TextOverflow = refl
normal_enum ImageFit = refl
normal_enum EventResult = refl
normal_enum LayoutAlignment = refl

normal_values : (of : BuiltInEnum) → map normal_name (values_of of) ≡ values_of of
unfolding chars encode
normal_values TextHorizontalAlignment = refl
normal_values TextVerticalAlignment = refl
normal_values TextWrap = refl
normal_values TextOverflow = refl
normal_values ImageFit = refl
normal_values EventResult = refl
normal_values LayoutAlignment = refl

spelled : (texts : List (Bor (List ℕ))) → map normal_of texts ≡ map normal_name (texts_of texts)
spelled [] = refl
spelled (text ∷ texts) = ap (λ rest. normal_name text.now ∷ rest) (spelled texts)

pub values_spelled : (of : BuiltInEnum) (texts : List (Bor (List ℕ))) → texts_of texts ≡ values_of of → map normal_of texts ≡ values_of of
values_spelled of texts e = spelled texts ∙ ap (map normal_name) e ∙ normal_values of
