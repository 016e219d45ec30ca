-- What files declare: the names of their scopes, and the values of enums.
use Rattle.std.specs.Prelude.{ℕ, List, [], ◌∷◌, slice_get, position, if◌then◌else◌, Option, Some, None}
use Rattle.std.specs.Str.{bytes_eq}
use Rattle.value_types.specs.declared.enums.EnumNames.{EnumNames}
use Rattle.typed_tree.specs.declared.outlines.ComponentOutline.{ComponentOutline}
use Rattle.typed_tree.specs.declared.outlines.Declared.{Declared}
use Rattle.typed_tree.specs.declared.outlines.FileName.{FileName}
use Rattle.typed_tree.specs.declared.outlines.FileOutline.{FileOutline}
use Rattle.typed_tree.specs.declared.outlines.GlobalOutline.{GlobalOutline}
use Rattle.typed_tree.specs.declared.outlines.Outline.{Outline}
use Rattle.typed_tree.specs.declared.scopes.Site.{Site}
use Rattle.typed_tree.specs.declared.scopes.Site.TheVariants as site

-- what a name of a file's scope stands for
abbrev pub declared_among : List ℕ → List FileName → Option Declared
declared_among name [] = None
declared_among name (f ∷ fs) = if bytes_eq f.name name then Some f.declared else declared_among name fs

abbrev pub names_in : Option FileOutline → List FileName
names_in None = []
names_in (Some file) = file.names

-- the file in which a body stands
abbrev pub file_of_comp : Option ComponentOutline → ℕ
file_of_comp None = 0
file_of_comp (Some comp) = comp.file

abbrev pub file_of_global : Option GlobalOutline → ℕ
file_of_global None = 0
file_of_global (Some g) = g.file

abbrev pub file_of : Outline → Site → ℕ
file_of outline (site.Element c e) = file_of_comp (slice_get outline.comps c)
file_of outline (site.Global g) = file_of_global (slice_get outline.globals g)

-- the number of an enum's value
abbrev pub values_in : Option EnumNames → List (List ℕ)
values_in None = []
values_in (Some names) = names.values

abbrev pub value_number : List EnumNames → ℕ → List ℕ → Option ℕ
value_number enums k name = position (λ v. bytes_eq v name) (values_in (slice_get enums k))
