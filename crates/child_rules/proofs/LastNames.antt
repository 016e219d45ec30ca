-- The last of a path's names, and its stretch.
use Rattle.std.proofs.Common.{◌≡◌, ◌<◌, ℕ, zero, suc, ◌-◌, List, [], ◌∷◌, length, slice_get, Some, sym, ap, arith}
use Rattle.std.proofs.lemmas.Option.{slice_get_within}
use Rattle.slint_base.specs.declared.faults.Span.{Span}
use Rattle.syntax_tree.specs.declared.words.Ident.{Ident}
use Rattle.name_lookup.specs.Leads.{last_span}
use Rattle.child_rules.specs.Children.{last_name}

last_at : (names : List Ident) (place : ℕ) (name before : Ident) → length names ≡ suc place → slice_get names place ≡ Some name → name ≡ last_name before names
last_at [] place name before count is = absurd (omega arith)
last_at (x ∷ []) zero name before count is = cc
last_at (x ∷ []) (suc place) name before count is = absurd (omega arith)
last_at (x ∷ y ∷ ys) zero name before count is = absurd (omega arith)
last_at (x ∷ y ∷ ys) (suc place) name before count is = last_at (y ∷ ys) place name x (omega arith) is

span_at : (names : List Ident) (place : ℕ) (name : Ident) (before : Span) → length names ≡ suc place → slice_get names place ≡ Some name → name.span ≡ last_span before names
span_at [] place name before count is = absurd (omega arith)
span_at (x ∷ []) zero name before count is = let same : x ≡ name = cc in ap (λ (y : Ident). y.span) (sym same)
span_at (x ∷ []) (suc place) name before count is = absurd (omega arith)
span_at (x ∷ y ∷ ys) zero name before count is = absurd (omega arith)
span_at (x ∷ y ∷ ys) (suc place) name before count is = span_at (y ∷ ys) place name x.span (omega arith) is

-- what lies at the last place is the last one
pub last_name_is : (before : Ident) (names : List Ident) (name : Ident) → slice_get names (length names - 1) ≡ Some name → name ≡ last_name before names
last_name_is before names name is =
    let within : length names - 1 < length names = slice_get_within names (length names - 1) name is in
    last_at names (length names - 1) name before (omega arith) is

pub last_span_is : (before : Span) (names : List Ident) (name : Ident) → slice_get names (length names - 1) ≡ Some name → name.span ≡ last_span before names
last_span_is before names name is =
    let within : length names - 1 < length names = slice_get_within names (length names - 1) name is in
    span_at names (length names - 1) name before (omega arith) is
