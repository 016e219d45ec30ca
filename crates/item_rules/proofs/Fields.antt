-- Fields as they are written, and as they are told.
use Rattle.std.proofs.Common.{◌≡◌, List, [], ◌∷◌, ◌++◌, map, Option, refl, ap, ◌∙◌}
use Rattle.std.specs.List.{filter_map, flat_map}
use Rattle.slint_base.specs.declared.faults.Fault.{Fault}
use Rattle.syntax_tree.specs.declared.types.Field.{Field}
use Rattle.fault_order.specs.Order.{earlier_of, first_of}
use Rattle.item_rules.specs.Twice.{twice_in}
use Rattle.item_rules.specs.Types.{faults_told, field_faults, field_name, field_told, fields_faults, name_told}
use Rattle.fault_order.proofs.Told.{both_told}

names_alike : (fields : List Field) → filter_map field_name fields ≡ map name_told (map field_told fields)
names_alike [] = refl
names_alike (f ∷ fs) = ap (λ names. name_told (field_told f) ∷ names) (names_alike fs)

faults_alike : (fields : List Field) → flat_map field_faults fields ≡ flat_map faults_told (map field_told fields)
faults_alike [] = refl
faults_alike (f ∷ fs) = ap (λ faults. field_faults f ++ faults) (faults_alike fs)

pub fields_told : (fields : List Field) {twice inner told : Option Fault} → told ≡ earlier_of twice inner → twice ≡ first_of (twice_in (filter_map field_name fields)) → inner ≡ first_of (flat_map field_faults fields)
    → told ≡ first_of (fields_faults fields)
fields_told fields is p q = both_told (twice_in (map name_told (map field_told fields))) (flat_map faults_told (map field_told fields)) is
    (p ∙ ap (λ names. first_of (twice_in names)) (names_alike fields)) (q ∙ ap first_of (faults_alike fields))
