-- How the files of a source are loaded, depth first from the main file, and the first fault that is met.
use Rattle.std.specs.Prelude.{◌≡◌, ℕ, Bool, true, false, List, [], ◌∷◌, ◌++◌, length, nat_le, ◌==◌, if◌then◌else◌, Option, None, Some, Ok, Err, slice_get}
use Rattle.std.specs.List.{list_any}
use Rattle.std.specs.Str.{bytes_eq}
use Rattle.slint_base.specs.declared.faults.Fault.{Fault}
use Rattle.slint_base.specs.declared.faults.Span.{Span}
use Rattle.slint_base.specs.declared.places.Place.{Place}
use Rattle.slint_base.specs.declared.refusals.Refusal.{Refusal}
use Rattle.slint_base.specs.declared.rules.Rule.{Rule}
use Rattle.slint_base.specs.declared.rules.Rule.TheVariants as rules
use Rattle.slint_base.specs.Refusals.{refusal_of}
use Rattle.syntax_tree.specs.declared.files.File.{File}
use Rattle.syntax_tree.specs.declared.words.Ident.{Ident}
use Rattle.file_exports.specs.Imports.{Import, imports_among, exported_among, taken_over_among}
use Rattle.file_exports.specs.Roots.{has_name}
use Rattle.import_paths.specs.Paths.{file_meant}
use Rattle.source_reader.specs.Sources.{IsRead}
use Rattle.source_lines.specs.Starts.{line_starts, place_by}

-- the files that there are: the bytes under each name
abbrev pub World : Type 0
World = List ℕ → Option (List ℕ)

-- the most files of a source
abbrev pub most_files : ℕ
most_files = 64

-- a file that was read: its number is that of its place among those that were
pub record Seen : Type 0 where
  pub name : List ℕ
  pub tree : File
  pub starts : List ℕ

-- a file that is loaded whole, and the numbers of the files whose own exports are its exports: itself, and those of the files that it takes over
pub record Done : Type 0 where
  pub name : List ℕ
  pub reached : List ℕ

-- what a load has come to: the files read, in the order in which they were first met, and those that are loaded whole
pub record State : Type 0 where
  pub seen : List Seen
  pub done : List Done

-- ---- places and refusals

-- where a file is asked for
pub record Asked : Type 0 where
  pub file : List ℕ
  pub from : Place
  pub to : Place

-- a stretch of a file that was read
abbrev pub asked_at : Seen → Span → Asked
asked_at importer span = record { file = importer.name; from = place_by importer.starts span.start; to = place_by importer.starts span.end }

-- the main file is asked for at its own start
abbrev pub asked_first : List ℕ → Asked
asked_first main = record { file = main; from = record { line = 1; column = 1 }; to = record { line = 1; column = 1 } }

abbrev pub refused : Rule → Asked → Refusal
refused rule asked = record { rule = rule; file = asked.file; from = asked.from; to = asked.to }

-- ---- exports

abbrev pub has_number : List ℕ → ℕ → Bool
has_number numbers number = list_any (λ other. other == number) numbers

-- numbers, and one that is put behind them unless it is there
abbrev pub with_number : List ℕ → ℕ → List ℕ
with_number numbers number = if has_number numbers number then numbers else numbers ++ number ∷ []

abbrev pub with_numbers : List ℕ → List ℕ → List ℕ
with_numbers numbers [] = numbers
with_numbers numbers (number ∷ more) = with_numbers (with_number numbers number) more

-- the numbers that the file of that name reaches, where it is loaded whole
abbrev pub reached_named : List Done → List ℕ → List ℕ
reached_named [] name = []
reached_named (file ∷ files) name = if bytes_eq file.name name then file.reached else reached_named files name

abbrev pub reached_meant : List Done → Option (List ℕ) → List ℕ
reached_meant done None = []
reached_meant done (Some name) = reached_named done name

-- the numbers, and those that the files reach that these paths mean
abbrev pub reached_over : List ℕ → List Done → List ℕ → List ℕ → List (List ℕ) → List ℕ
reached_over main done importer numbers [] = numbers
reached_over main done importer numbers (path ∷ paths) = reached_over main done importer (with_numbers numbers (reached_meant done (file_meant main importer path))) paths

-- the numbers that a file of this number reaches once the files that it takes over are loaded whole
abbrev pub reached_by : List ℕ → List Done → ℕ → Seen → List ℕ
reached_by main done number file = reached_over main done file.name (number ∷ []) (taken_over_among file.tree.items)

-- a file exports a name by itself
abbrev pub exports_itself : Option Seen → List ℕ → Bool
exports_itself None name = false
exports_itself (Some file) name = has_name (exported_among file.tree.items) name

-- one of the files of these numbers exports a name by itself
abbrev pub is_exported : List Seen → List ℕ → List ℕ → Bool
is_exported seen reached name = list_any (λ number. exports_itself (slice_get seen number) name) reached

-- the first of the names that none of the files of these numbers exports
abbrev pub first_missing : List Seen → List ℕ → List Ident → Option Ident
first_missing seen reached [] = None
first_missing seen reached (ident ∷ idents) = if is_exported seen reached ident.name then first_missing seen reached idents else Some ident

-- ---- what is to be loaded, and what it comes to

-- a file that is asked for somewhere, an import of a file, or imports of it one after the other
pub data Job : Type 0 where
  Whole : Asked → List ℕ → Job
  One : Seen → Import → Job
  Every : Seen → List Import → Job

pub data Outcome : Type 0 where
  Goes : State → Outcome
  Stops : Refusal → Outcome

abbrev pub is_done : List Done → List ℕ → Bool
is_done done name = list_any (λ file. bytes_eq file.name name) done

-- what a file is that is asked for: loaded whole already, one too many, or to be read
pub data Next : Type 0 where
  Known : Next
  TooMany : Next
  Fresh : Next

abbrev pub next_by : Bool → Bool → Next
next_by true full = Known
next_by false true = TooMany
next_by false false = Fresh

abbrev pub next_of : State → List ℕ → Next
next_of s name = next_by (is_done s.done name) (nat_le most_files (length s.seen))

-- what an import means: nothing, as its path leads outside; a file that is being loaded; or one that is to be loaded
pub data Target : Type 0 where
  Outside : Target
  Loop : Target
  To : List ℕ → Target

abbrev pub target_by : List (List ℕ) → Option (List ℕ) → Target
target_by loading None = Outside
target_by loading (Some name) = if has_name loading name then Loop else To name

abbrev pub target_of : List ℕ → List (List ℕ) → Seen → Import → Target
target_of main loading importer import = target_by loading (file_meant main importer.name import.path.text)

abbrev pub seen_of : List ℕ → List ℕ → File → Seen
seen_of name bytes tree = record { name = name; tree = tree; starts = line_starts bytes }

abbrev pub begun : State → Seen → State
begun s file = record { seen = s.seen ++ file ∷ []; done = s.done }

-- the file of that number is loaded whole, once its imports are
abbrev pub closed : List ℕ → ℕ → Seen → State → State
closed main number file s = record { seen = s.seen; done = s.done ++ record { name = file.name; reached = reached_by main s.done number file } ∷ [] }

-- a file of that number, after its imports
abbrev pub after_imports : List ℕ → ℕ → Seen → Outcome → Outcome
after_imports main number file (Goes s) = Goes (closed main number file s)
after_imports main number file (Stops refusal) = Stops refusal

abbrev pub if_missing : Seen → State → Option Ident → Outcome
if_missing importer s None = Goes s
if_missing importer s (Some ident) = Stops (refused rules.NotExported (asked_at importer ident.span))

-- an import, after the file of that name that it means
abbrev pub after_file : Seen → Import → List ℕ → Outcome → Outcome
after_file importer import name (Goes s) = if_missing importer s (first_missing s.seen (reached_named s.done name) import.names)
after_file importer import name (Stops refusal) = Stops refusal

-- loading, while the files of these names are being loaded
pub data Loads (w : World) (main : List ℕ) : List (List ℕ) → Job → State → Outcome → Type 0 where
  -- a file: it is loaded already; or it is one too many, missing, or broken itself; or its imports are loaded, and then it is loaded whole
  known : {loading : List (List ℕ)} {asked : Asked} {name : List ℕ} {s : State} → next_of s name ≡ Known → Loads w main loading (Whole asked name) s (Goes s)
  too_many : {loading : List (List ℕ)} {asked : Asked} {name : List ℕ} {s : State} → next_of s name ≡ TooMany
      → Loads w main loading (Whole asked name) s (Stops (refused rules.TooManyFiles asked))
  missing : {loading : List (List ℕ)} {asked : Asked} {name : List ℕ} {s : State} → next_of s name ≡ Fresh → w name ≡ None
      → Loads w main loading (Whole asked name) s (Stops (refused rules.FileMissing asked))
  broken : {loading : List (List ℕ)} {asked : Asked} {name : List ℕ} {s : State} {bytes : List ℕ} {fault : Fault} → next_of s name ≡ Fresh → w name ≡ Some bytes
      → IsRead (length s.seen) bytes (Err fault) → Loads w main loading (Whole asked name) s (Stops (refusal_of name bytes fault))
  read : {loading : List (List ℕ)} {asked : Asked} {name : List ℕ} {s : State} {bytes : List ℕ} {tree : File} {o p : Outcome} → next_of s name ≡ Fresh → w name ≡ Some bytes
      → IsRead (length s.seen) bytes (Ok tree)
      → Loads w main (loading ++ name ∷ []) (Every (seen_of name bytes tree) (imports_among tree.items)) (begun s (seen_of name bytes tree)) o
      → p ≡ after_imports main (length s.seen) (seen_of name bytes tree) o → Loads w main loading (Whole asked name) s p
  -- an import: its path leads outside, or to a file that is being loaded; or that file is loaded, and then its names are looked for
  outside : {loading : List (List ℕ)} {importer : Seen} {import : Import} {s : State} → target_of main loading importer import ≡ Outside
      → Loads w main loading (One importer import) s (Stops (refused rules.PathOutside (asked_at importer import.path.span)))
  looped : {loading : List (List ℕ)} {importer : Seen} {import : Import} {s : State} → target_of main loading importer import ≡ Loop
      → Loads w main loading (One importer import) s (Stops (refused rules.ImportLoop (asked_at importer import.path.span)))
  taken : {loading : List (List ℕ)} {importer : Seen} {import : Import} {s : State} {name : List ℕ} {o p : Outcome} → target_of main loading importer import ≡ To name
      → Loads w main loading (Whole (asked_at importer import.path.span) name) s o → p ≡ after_file importer import name o
      → Loads w main loading (One importer import) s p
  -- imports in the order of the text
  no_more : {loading : List (List ℕ)} {importer : Seen} {s : State} → Loads w main loading (Every importer []) s (Goes s)
  first_stops : {loading : List (List ℕ)} {importer : Seen} {import : Import} {imports : List Import} {s : State} {refusal : Refusal} → Loads w main loading (One importer import) s (Stops refusal)
      → Loads w main loading (Every importer (import ∷ imports)) s (Stops refusal)
  then_rest : {loading : List (List ℕ)} {importer : Seen} {import : Import} {imports : List Import} {s t : State} {o : Outcome} → Loads w main loading (One importer import) s (Goes t)
      → Loads w main loading (Every importer imports) t o → Loads w main loading (Every importer (import ∷ imports)) s o

-- nothing is read yet
abbrev pub at_first : State
at_first = record { seen = []; done = [] }

-- the load of the source whose main file has this name
abbrev pub LoadsMain : World → List ℕ → Outcome → Type 0
LoadsMain w main o = Loads w main [] (Whole (asked_first main) main) at_first o

-- ---- the files of a source that is loaded

-- the imports of a file that was read mean files of these numbers
abbrev pub Resolve : List ℕ → List Seen → Seen → List Import → List ℕ → Type 0
Resolve main seen file [] [] = Unit {0}
Resolve main seen file (import ∷ imports) (number ∷ numbers) =
    ((other : Seen) × (slice_get seen number ≡ Some other) × (file_meant main file.name import.path.text ≡ Some other.name)) × Resolve main seen file imports numbers
Resolve main seen file _ _ = ⊥
