-- Names that stand twice among names that have to differ.
use Rattle.std.specs.Prelude.{ℕ, Bool, true, false, List, [], ◌∷◌, ◌++◌}
use Rattle.std.specs.List.{list_any}
use Rattle.std.specs.Str.{bytes_eq}
use Rattle.slint_base.specs.declared.faults.Fault.{Fault}
use Rattle.slint_base.specs.declared.faults.Span.{Span}
use Rattle.slint_base.specs.declared.rules.Rule.TheVariants as rules
use Rattle.syntax_tree.specs.declared.words.Ident.{Ident}

abbrev pub is_there : List (List ℕ) → List ℕ → Bool
is_there names name = list_any (λ x. bytes_eq x name) names

-- the fault of a name that is there already
abbrev pub twice_if : Bool → Span → List Fault
twice_if false span = []
twice_if true span = record { rule = rules.NameTwice; span = span } ∷ []

-- the later ones of equal names, where some names stand before them all
abbrev pub twice_behind : List (List ℕ) → List Ident → List Fault
twice_behind before [] = []
twice_behind before (x ∷ xs) = twice_if (is_there before x.name) x.span ++ twice_behind (before ++ x.name ∷ []) xs

abbrev pub twice_in : List Ident → List Fault
twice_in names = twice_behind [] names
