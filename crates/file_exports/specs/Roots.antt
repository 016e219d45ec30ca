-- Which of a file's components is the root of the source.
use Rattle.std.specs.Prelude.{ℕ, ◌+◌, Bool, true, false, List, [], ◌∷◌, ◌++◌, ◌||◌, map, if◌then◌else◌, Option, None, Some}
use Rattle.std.specs.List.{list_any}
use Rattle.std.specs.Option.{option_map}
use Rattle.std.specs.Str.{bytes_eq}
use Rattle.syntax_tree.specs.declared.files.Alias.{Alias}
use Rattle.syntax_tree.specs.declared.files.Decl.TheVariants as decls
use Rattle.syntax_tree.specs.declared.files.FileItem.{FileItem}
use Rattle.syntax_tree.specs.declared.files.FileItem.TheVariants as items

-- a name is among these
abbrev pub has_name : List (List ℕ) → List ℕ → Bool
has_name names name = list_any (λ other. bytes_eq other name) names

-- the name by which a file itself knows what it lists for export
abbrev pub inner_name : Alias → List ℕ
inner_name alias = alias.name.name

abbrev pub listed_by : FileItem → List (List ℕ)
listed_by (items.Export list) = map inner_name list.names
listed_by _ = []

-- the names that a file's items list for export, as the file itself knows them
abbrev pub listed_among : List FileItem → List (List ℕ)
listed_among [] = []
listed_among (item ∷ rest) = listed_by item ++ listed_among rest

abbrev pub is_component : FileItem → Bool
is_component (items.Decl marked (decls.Component component)) = true
is_component _ = false

-- a component that is marked or listed for export
abbrev pub is_exported : List (List ℕ) → FileItem → Bool
is_exported listed (items.Decl marked (decls.Component component)) = marked || has_name listed component.name.name
is_exported listed _ = false

abbrev pub is_component_named : List ℕ → FileItem → Bool
is_component_named name (items.Decl marked (decls.Component component)) = bytes_eq component.name.name name
is_component_named name _ = false

abbrev pub one_later : Option ℕ → Option ℕ
one_later = option_map (λ place. place + 1)

-- the place of the first item of a kind
abbrev pub first_place : (FileItem → Bool) → List FileItem → Option ℕ
first_place test [] = None
first_place test (item ∷ rest) = if test item then Some 0 else one_later (first_place test rest)

abbrev pub or_else : Option ℕ → Option ℕ → Option ℕ
or_else (Some place) other = Some place
or_else None other = other

-- the place of the last item of a kind
abbrev pub last_place : (FileItem → Bool) → List FileItem → Option ℕ
last_place test [] = None
last_place test (item ∷ rest) = or_else (one_later (last_place test rest)) (if test item then Some 0 else None)

-- the place of the root among a file's items: the last exported component, else the last one; or the first one of the name that is asked for
abbrev pub root_place : Option (List ℕ) → List FileItem → Option ℕ
root_place None items = or_else (last_place (is_exported (listed_among items)) items) (last_place is_component items)
root_place (Some name) items = first_place (is_component_named name) items
