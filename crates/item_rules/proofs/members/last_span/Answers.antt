use Rattle.std.proofs.Common.{◌≡◌, ◌<◌, ℕ, zero, suc, ◌-◌, List, [], ◌∷◌, length, Some, ap, arith, sym}
use Rattle.std.specs.List.{slice_get}
use Rattle.std.proofs.lemmas.Option.{slice_get_within}
use Rattle.slint_base.specs.declared.faults.Span.{Span}
use Rattle.syntax_tree.specs.declared.words.Ident.{Ident}
use Rattle.name_lookup.specs.Leads.{last_span}
use Rattle.item_rules.proofs.members.last_span.Goals as goal

-- the item at the last place has the last stretch
last_at : (names : List Ident) (place : ℕ) (name : Ident) (before : Span) → length names ≡ suc place → slice_get names place ≡ Some name → name.span ≡ last_span before names
last_at [] place name before count is = absurd (omega arith)
last_at (x ∷ []) zero name before count is = let same : x ≡ name = cc in ap (λ (y : Ident). y.span) (sym same)
last_at (x ∷ []) (suc place) name before count is = absurd (omega arith)
last_at (x ∷ y ∷ ys) zero name before count is = absurd (omega arith)
last_at (x ∷ y ∷ ys) (suc place) name before count is = last_at (y ∷ ys) place name x.span (omega arith) is

pub returns-in-Some : goal.returns-in-Some
returns-in-Some c =
    let is : slice_get c.args.names.now (length c.args.names.now - 1) ≡ Some c.in-Some.name.now = sym c.in-Some.ensures.value in
    let within : length c.args.names.now - 1 < length c.args.names.now = slice_get_within c.args.names.now (length c.args.names.now - 1) c.in-Some.name.now is in
    last_at c.args.names.now (length c.args.names.now - 1) c.in-Some.name.now c.args.before (omega arith) is
