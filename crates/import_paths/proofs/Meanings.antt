-- What a path means, from what was found of it.
use Rattle.std.proofs.Common.{◌≡◌, ◌||◌, ℕ, Bool, true, false, List, ◌++◌, Option, None, sym, ap, ◌∙◌}
use Rattle.std.specs.Prelude.{if◌then◌else◌}
use Rattle.std.specs.Option.{option_map}
use Rattle.std.specs.List.{join_with_byte, list_any, slice_split}
use Rattle.import_paths.specs.Paths.{begins_outside, file_meant, folder_of, folder_segments, is_foreign, is_slash, leads_outside, walk}

-- a path that begins inside
pub outside_by : (path bytes : List ℕ) (begins foreign : Bool) → bytes ≡ path → begins ≡ begins_outside bytes → begins ≡ false → foreign ≡ list_any is_foreign bytes → foreign ≡ leads_outside path
outside_by path bytes begins foreign same is stays found =
    let none : begins_outside path ≡ false = ap begins_outside (sym same) ∙ (sym is ∙ stays) in
    found ∙ (ap (list_any is_foreign) same ∙ ap (λ t. t || list_any is_foreign path) (sym none))

-- the name that a walk's end has
abbrev named : List ℕ → List (List ℕ) → List ℕ
named root segments = root ++ join_with_byte 47 segments

-- where a path may lead inside
abbrev inside : List ℕ → List ℕ → List ℕ → Option (List ℕ)
inside main importer path = option_map (named (folder_of main)) (walk (folder_segments (folder_of main) importer) (slice_split is_slash path))

abbrev unless_outside : List ℕ → List ℕ → List ℕ → Bool → Option (List ℕ)
unless_outside main importer path outside = if outside then None else inside main importer path

pub meant_outside : (main importer path : List ℕ) (outside : Bool) → outside ≡ leads_outside path → outside ≡ true → None ≡ file_meant main importer path
meant_outside main importer path outside is leaves = ap (unless_outside main importer path) (sym (sym is ∙ leaves))

pub meant_by : (main importer path root : List ℕ) (folder : List (List ℕ)) (outside : Bool) (found : Option (List (List ℕ))) → outside ≡ leads_outside path → outside ≡ false → root ≡ folder_of main
    → folder ≡ folder_segments root importer → found ≡ walk folder (slice_split is_slash path) → option_map (named root) found ≡ file_meant main importer path
meant_by main importer path root folder outside found is stays root_is folder_is found_is =
    let from : folder ≡ folder_segments (folder_of main) importer = folder_is ∙ ap (λ r. folder_segments r importer) root_is in
    let walked : found ≡ walk (folder_segments (folder_of main) importer) (slice_split is_slash path) = found_is ∙ ap (λ s. walk s (slice_split is_slash path)) from in
    ap (λ r. option_map (named r) found) root_is ∙ (ap (option_map (named (folder_of main))) walked ∙ ap (unless_outside main importer path) (sym (sym is ∙ stays)))
