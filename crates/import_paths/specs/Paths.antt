-- Which file the path of an import means.
use Rattle.std.specs.Prelude.{◌≡◌, ℕ, ◌-◌, Bool, true, List, [], ◌∷◌, ◌++◌, length, take, drop, ◌==◌, ◌||◌, Option, None, Some, if◌then◌else◌, codes}
use Rattle.std.specs.List.{after_last, join_with_byte, list_any, slice_split}
use Rattle.std.specs.Option.{option_and_then, option_map}
use Rattle.std.specs.Str.{bytes_eq}

abbrev pub is_slash : ℕ → Bool
is_slash b = b == 47

-- a name up to its last slash, as it is written
abbrev pub folder_of : List ℕ → List ℕ
folder_of name = take (length name - length (after_last is_slash name)) name

-- the name begins with that folder
abbrev pub IsBelow : List ℕ → List ℕ → Type 0
IsBelow folder name = (rest : List ℕ) × (name ≡ folder ++ rest)

-- all segments but the last
abbrev pub without_last : List (List ℕ) → List (List ℕ)
without_last segments = take (length segments - 1) segments

-- where a segment leads from a folder: an empty one and `.` stay there, `..` takes one segment back, and there is none to be taken back in
-- the main file's folder
abbrev pub step_from : List (List ℕ) → List ℕ → Option (List (List ℕ))
step_from folder segment =
    if (length segment == 0) || bytes_eq segment (codes ".") then Some folder else
    if bytes_eq segment (codes "..") then (if length folder == 0 then None else Some (without_last folder)) else
    Some (folder ++ segment ∷ [])

-- the segments of a path, taken from a folder on in order
abbrev pub walk : List (List ℕ) → List (List ℕ) → Option (List (List ℕ))
walk folder [] = Some folder
walk folder (segment ∷ segments) = option_and_then (λ next. walk next segments) (step_from folder segment)

-- a path that is empty or begins with a slash or an at sign
abbrev pub begins_outside : List ℕ → Bool
begins_outside [] = true
begins_outside (b ∷ bs) = (b == 47) || (b == 64)

-- a backslash or a colon
abbrev pub is_foreign : ℕ → Bool
is_foreign b = (b == 92) || (b == 58)

abbrev pub leads_outside : List ℕ → Bool
leads_outside path = begins_outside path || list_any is_foreign path

-- the segments of the folder of a file below the main file's folder
abbrev pub folder_segments : List ℕ → List ℕ → List (List ℕ)
folder_segments root name = without_last (slice_split is_slash (drop (length root) name))

-- the name of the file that a path in the file of that name means, both below the main file's folder; none where the path leads outside
abbrev pub file_meant : List ℕ → List ℕ → List ℕ → Option (List ℕ)
file_meant main importer path =
    if leads_outside path then None else
    option_map (λ segments. folder_of main ++ join_with_byte 47 segments) (walk (folder_segments (folder_of main) importer) (slice_split is_slash path))
