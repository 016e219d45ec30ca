-- The numbers of a file's imports are those of the files that they mean.
use Rattle.std.proofs.Common.{◌≡◌, ℕ, true, List, [], ◌∷◌, map, Option, Some, None, refl, sym, ap, ◌∙◌}
use Rattle.std.specs.Prelude.{slice_get, position}
use Rattle.std.specs.Option.{option_map}
use Rattle.std.specs.Str.{bytes_eq}
use Rattle.std.proofs.lemmas.Option.{slice_get-map}
use Rattle.file_exports.specs.Imports.{Import, imports_among}
use Rattle.file_exports.specs.Roots.{has_name}
use Rattle.import_paths.specs.Paths.{file_meant}
use Rattle.import_resolver.specs.Loads.{World, Seen, State, Goes, LoadsMain, Resolve}
use Rattle.import_resolver.specs.Loaded.{ImportsLead, if_placed, number_meant, numbers_meant, place_among, seen_names}
use Rattle.import_resolver.proofs.Numbering.{place_is, place_there}
use Rattle.import_resolver.proofs.Resolved.{AllMean, EachMeans, Means, all_mean}

placed : (names : List (List ℕ)) (name : List ℕ) (found : Option ℕ) → found ≡ position (λ other. bytes_eq other name) names → has_name names name ≡ true → slice_get names (if_placed found) ≡ Some name
placed names name None is there = absurd (place_there names name is there)
placed names name (Some place) is there = place_is names name (Some place) place is refl

seen_at : (seen : List Seen) (number : ℕ) (path : Option (List ℕ)) (name : List ℕ) (found : Option Seen) → slice_get seen number ≡ found → option_map (λ (file : Seen). file.name) found ≡ Some name → path ≡ Some name
    → (other : Seen) × (slice_get seen number ≡ Some other) × (path ≡ Some other.name)
seen_at seen number path name None is named meant = cc
seen_at seen number path name (Some file) is named meant = (file, is, meant ∙ sym named)

leads : (main : List ℕ) (seen : List Seen) (file : Seen) (import : Import) → Means main seen file import
    → (other : Seen) × (slice_get seen (number_meant main (seen_names seen) file.name import.path.text) ≡ Some other) × (file_meant main file.name import.path.text ≡ Some other.name)
leads main seen file import (name, meant, there) =
    let number = number_meant main (seen_names seen) file.name import.path.text in
    let place : slice_get (seen_names seen) number ≡ Some name =
    ap (λ (p : Option (List ℕ)). slice_get (seen_names seen) (place_among (seen_names seen) p)) meant ∙ placed (seen_names seen) name (position (λ other. bytes_eq other name) (seen_names seen)) refl there in
    seen_at seen number (file_meant main file.name import.path.text) name (slice_get seen number) refl (sym (slice_get-map (λ (f : Seen). f.name) seen number) ∙ place) meant

each_leads : (main : List ℕ) (seen : List Seen) (file : Seen) (imports : List Import) → EachMeans main seen file imports → Resolve main seen file imports (numbers_meant main (seen_names seen) file.name imports)
each_leads main seen file [] mean = tt
each_leads main seen file (import ∷ imports) mean = (leads main seen file import mean.0, each_leads main seen file imports mean.1)

all_lead : (main : List ℕ) (seen files : List Seen) → AllMean main seen files → ImportsLead main seen files
all_lead main seen [] mean = tt
all_lead main seen (file ∷ files) mean = (each_leads main seen file (imports_among file.tree.items) mean.0, all_lead main seen files mean.1)

pub imports_lead : {w : World} {main : List ℕ} {s : State} → LoadsMain w main (Goes s) → ImportsLead main s.seen s.seen
imports_lead {main = main} {s = s} load = all_lead main s.seen s.seen (all_mean load)
