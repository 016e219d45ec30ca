-- What is true of the indexes of an outline.
use Rattle.std.specs.Prelude.{◌≡◌, ℕ, ◌<◌, ◌^◌, List, [], map, length, slice_get, Option, Some, None}
use Rattle.syntax_tree.specs.declared.words.Ident.{Ident}
use Rattle.typed_tree.specs.declared.members.Member.{Member}
use Rattle.typed_tree.specs.declared.name_lists.NameLists.{NameLists}
use Rattle.typed_tree.specs.declared.outlines.ElementOutline.{ElementOutline}
use Rattle.typed_tree.specs.declared.outlines.FileOutline.{FileOutline}
use Rattle.typed_tree.specs.declared.outlines.Outline.{Outline}
use Rattle.typed_tree.specs.Files.{values_in}

-- each enum has so few values that they can be numbered
abbrev pub AreFew : Outline → Type 0
AreFew outline = (k : ℕ) → length (values_in (slice_get outline.enums k)) < 2 ^ 32

-- the names that a file, members and elements declare; an element without an id has an empty name
abbrev pub names_of_file : FileOutline → List (List ℕ)
names_of_file file = map (λ n. n.name) file.names

abbrev pub member_names : List Member → List (List ℕ)
member_names members = map (λ m. m.name.name) members

abbrev pub id_text : Option Ident → List ℕ
id_text None = []
id_text (Some id) = id.name

abbrev pub ids_of : List ElementOutline → List (List ℕ)
ids_of elements = map (λ e. id_text e.id) elements

-- the lists of names are those of an outline
pub record AreNames (outline : Outline) (lists : NameLists) : Type 0 where
  pub files : lists.files ≡ map names_of_file outline.files
  pub globals : lists.globals ≡ map (λ g. member_names g.members) outline.globals
  pub values : lists.values ≡ map (λ names. names.values) outline.enums
  pub ids : lists.ids ≡ map (λ comp. ids_of comp.elements) outline.comps
