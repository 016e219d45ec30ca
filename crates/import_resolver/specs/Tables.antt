-- What the load has come to, as the definitions see it, and what each of its steps answers.
use Rattle.std.specs.Prelude.{◌≡◌, ℕ, ◌+◌, ◌-◌, ◌<◌, ◌≤◌, ◌^◌, ⊤, Bool, true, false, List, [], ◌∷◌, ◌++◌, ◌||◌, ◌⊎◌, length, map, take, Option, None, Some, IfSome, Result, Ok, Err, slice_get, string_bytes}
use Rattle.std.specs.HashSet.{contains_text}
use Rattle.std.specs.Option.{option_map}
use Rattle.slint_base.specs.declared.faults.Fault.{Fault}
use Rattle.slint_base.specs.declared.faults.Span.{Span}
use Rattle.slint_base.specs.declared.refusals.Refusal.{Refusal}
use Rattle.slint_base.specs.declared.rules.Rule.TheVariants as rules
use Rattle.slint_base.specs.Refusals.{refusal_of}
use Rattle.io_edge.specs.Files.{FileList, bytes_named, most_read}
use Rattle.syntax_tree.specs.declared.files.File.{File}
use Rattle.syntax_tree.specs.declared.words.Ident.{Ident}
use Rattle.syntax_tree.specs.declared.words.Quoted.{Quoted}
use Rattle.file_exports.specs.Imports.{Import, imports_among, exported_among}
use Rattle.file_exports.specs.Roots.{has_name}
use Rattle.import_paths.specs.Paths.{folder_of, IsBelow, file_meant}
use Rattle.source_lines.specs.Starts.{line_starts}
use Rattle.source_reader.specs.Sources.{IsRead}
use Rattle.import_resolver.specs.declared.ends.LoadEnd.{LoadEnd}
use Rattle.import_resolver.specs.declared.ends.LoadEnd.TheVariants as ends
use Rattle.import_resolver.specs.declared.tables.SeenFile.{SeenFile}
use Rattle.import_resolver.specs.declared.tables.DoneFile.{DoneFile}
use Rattle.import_resolver.specs.declared.tables.Table.{Table}
use Rattle.import_resolver.specs.declared.tables.Site.{Site}
use Rattle.import_resolver.specs.declared.tables.Site.TheVariants as sites
use Rattle.import_resolver.specs.declared.steps.ToLoad.{ToLoad}
use Rattle.import_resolver.specs.Loads.{World, Seen, Done, State, Asked, Job, Whole, One, Every, Outcome, Goes, Stops, Outside, Loop, To, asked_first, asked_at, refused, is_done, target_of, first_missing, reached_named, reached_meant, with_numbers, Loads}

-- ---- a table as a state

abbrev pub seen_of_file : SeenFile → Seen
seen_of_file file = record { name = file.name; tree = file.tree; starts = file.starts.items }

abbrev pub done_of_file : DoneFile → Done
done_of_file file = record { name = file.name; reached = file.reached.items }

abbrev pub state_of : Table → State
state_of table = record { seen = map seen_of_file table.files; done = map done_of_file table.done }

-- where a file is asked for; a site in the table always has a file
abbrev pub asked_in : List ℕ → Option SeenFile → Span → Asked
asked_in main None span = asked_first main
asked_in main (Some file) span = asked_at (seen_of_file file) span

abbrev pub asked_of : List ℕ → Table → Site → Asked
asked_of main table sites.Main = asked_first main
asked_of main table (sites.Import importer span) = asked_in main (slice_get table.files importer) span

-- a site is in one of these files
abbrev pub SiteWithin : Table → Site → Type 0
SiteWithin table sites.Main = ⊤
SiteWithin table (sites.Import importer span) = importer < length table.files

-- ---- worlds that have what was seen

-- a world has this front of a file under a name, or none
abbrev pub Has : World → List ℕ → Option (List ℕ) → Type 0
Has w name front = option_map (take most_read) (w name) ≡ front

-- a file of this number was read from these bytes
pub record IsSeen (number : ℕ) (bytes : List ℕ) (file : SeenFile) : Type 0 where
  pub short : length bytes ≤ most_read
  pub read : IsRead number bytes (Ok file.tree)
  pub starts : file.starts.items ≡ line_starts bytes

-- files, from a number on, that a world has
abbrev pub FitsFrom : World → ℕ → List SeenFile → Type 0
FitsFrom w number [] = ⊤
FitsFrom w number (file ∷ files) = ((bytes : List ℕ) × IsSeen number bytes file × Has w file.name (Some bytes)) × FitsFrom w (number + 1) files

abbrev pub Fits : World → List SeenFile → Type 0
Fits w files = FitsFrom w 0 files

-- what was looked at last, where it isn't among the files: a name, and nothing under it, or bytes that have a fault
abbrev pub Look : Type 0
Look = Option (List ℕ × Option (List ℕ))

abbrev pub FitsLook : World → Look → Type 0
FitsLook w None = ⊤
FitsLook w (Some look) = Has w look.0 look.1

-- such a look is at a name that no file has, and what is there is no longer than what is read of a file
abbrev pub IsNewLook : List SeenFile → Look → Type 0
IsNewLook files None = ⊤
IsNewLook files (Some look) = (has_name (map (λ (file : SeenFile). file.name) files) look.0 ≡ false) × IfSome look.1 (λ bytes. length bytes ≤ most_read)

-- ---- tables that are right

abbrev pub names_of : List SeenFile → List (List ℕ)
names_of files = map (λ (file : SeenFile). file.name) files

-- some list of files has those that were read, and no other
pub record IsFitting (files : List SeenFile) : Type 0 where
  pub held : FileList
  pub fits : Fits (bytes_named held) files
  pub no_more : (name : List ℕ) → has_name (names_of files) name ≡ false → bytes_named held name ≡ None

-- the set of a file's own exports has these, and no others
abbrev pub OwnsExports : SeenFile → Type 0
OwnsExports file = (name : List ℕ) → contains_text file.own name ≡ has_name (exported_among file.tree.items) name

-- a file has fewer lines than a place can count
abbrev pub IsShort : SeenFile → Type 0
IsShort file = length file.starts.items < 2 ^ 32

-- what holds of a file at each place
abbrev pub AtEach : List SeenFile → (ℕ → SeenFile → Type 0) → Type 0
AtEach files P = (k : ℕ) (file : SeenFile) → slice_get files k ≡ Some file → P k file

pub record IsRight (main : List ℕ) (table : Table) : Type 0 where
  pub fitted : IsFitting table.files
  pub owned : AtEach table.files (λ k file. OwnsExports file)
  pub below : AtEach table.files (λ k file. IsBelow (folder_of main) file.name)
  -- a file that was read is loaded whole or being loaded, and its name is there once
  pub covered : AtEach table.files (λ k file. (is_done (map done_of_file table.done) file.name || has_name table.loading file.name) ≡ true)
  pub once : AtEach table.files (λ k file. has_name (names_of (take k table.files)) file.name ≡ false)
  pub few : length table.files ≤ 64

-- ---- what a step of the load answers

pub record Went (main : List ℕ) (held : Option FileList) (old : Table) (job : Job) (new : Table) : Type 0 where
  pub grown : (more : List SeenFile) × (new.files ≡ old.files ++ more)
  pub loading : new.loading ≡ old.loading
  pub right : IsRight main new
  pub told : IfSome held (λ files. Fits (bytes_named files) old.files → Fits (bytes_named files) new.files)
  pub loads : (w : World) → Fits w new.files → Loads w main old.loading job (state_of old) (Goes (state_of new))

pub record Halted (main : List ℕ) (held : Option FileList) (old : Table) (job : Job) (new : Table) (refusal : Refusal) : Type 0 where
  pub grown : (more : List SeenFile) × (new.files ≡ old.files ++ more)
  pub look : Look
  pub told : IfSome held (λ files. Fits (bytes_named files) old.files → Fits (bytes_named files) new.files × FitsLook (bytes_named files) look)
  -- some list of files has all that was seen, and this
  pub fitted : (list : FileList) × Fits (bytes_named list) new.files × FitsLook (bytes_named list) look
  pub loads : (w : World) → Fits w new.files → FitsLook w look → Loads w main old.loading job (state_of old) (Stops refusal)

abbrev pub Ended : List ℕ → Option FileList → Table → Job → Result ⊤ LoadEnd → Table → Type 0
Ended main held old job (Ok done) new = Went main held old job new
Ended main held old job (Err (ends.Refused refusal)) new = Halted main held old job new refusal
Ended main held old job (Err ends.ReadFault) new = ⊤
Ended main held old job (Err ends.Memory) new = ⊤

-- ---- the steps outside the recursion

-- a file that isn't in the table yet, and may be put there
pub record NextReads (held : Option FileList) (table : Table) (name : List ℕ) (file : SeenFile) : Type 0 where
  pub bytes : List ℕ
  pub named : file.name ≡ name
  pub seen : IsSeen (length table.files) bytes file
  pub owned : OwnsExports file
  pub room : length table.files < 64
  pub told : IfSome held (λ files. Has (bytes_named files) name (Some bytes))

-- a file that is one too many, missing, or broken itself
pub record NextStops (main : List ℕ) (held : Option FileList) (table : Table) (asked : Asked) (name : List ℕ) (refusal : Refusal) : Type 0 where
  pub look : Look
  pub fresh : IsNewLook table.files look
  pub told : IfSome held (λ files. FitsLook (bytes_named files) look)
  pub loads : (w : World) → FitsLook w look → Loads w main table.loading (Whole asked name) (state_of table) (Stops refusal)

abbrev pub NextAs : List ℕ → Option FileList → Table → Asked → List ℕ → Result SeenFile LoadEnd → Type 0
NextAs main held table asked name (Ok file) = NextReads held table name file
NextAs main held table asked name (Err (ends.Refused refusal)) = NextStops main held table asked name refusal
NextAs main held table asked name (Err ends.ReadFault) = ⊤
NextAs main held table asked name (Err ends.Memory) = ⊤

-- a file of that name, of these bytes and their tree
pub record IsSeenAs (name bytes : List ℕ) (tree : File) (file : SeenFile) : Type 0 where
  pub named : file.name ≡ name
  pub parsed : file.tree ≡ tree
  pub starts : file.starts.items ≡ line_starts bytes
  pub owned : OwnsExports file

-- a file that was read is of that name, and its bytes have that tree; or the refusal is that of the fault of its bytes
abbrev pub ReadsFile : ℕ → List ℕ → List ℕ → Result SeenFile LoadEnd → Type 0
ReadsFile number name bytes (Ok file) = (file.name ≡ name) × (IsSeen number bytes file × OwnsExports file)
ReadsFile number name bytes (Err (ends.Refused refusal)) = (fault : Fault) × (IsRead number bytes (Err fault) × (refusal ≡ refusal_of name bytes fault))
ReadsFile number name bytes (Err ends.ReadFault) = ⊥
ReadsFile number name bytes (Err ends.Memory) = ⊤

abbrev pub path_of : Import → Quoted
path_of import = import.path

-- an import of a file asks for that name at its path; or its path leads outside, or to a file that is being loaded
abbrev pub AsksFor : List ℕ → Table → ℕ → SeenFile → Import → Result (Option ToLoad) LoadEnd → Type 0
AsksFor main table importer file import (Ok (Some target)) =
    (target_of main table.loading (seen_of_file file) import ≡ To (string_bytes target.name)) × (target.site ≡ sites.Import importer import.path.span)
AsksFor main table importer file import (Ok None) = ⊥
AsksFor main table importer file import (Err (ends.Refused refusal)) =
    ((target_of main table.loading (seen_of_file file) import ≡ Outside) × (refusal ≡ refused rules.PathOutside (asked_at (seen_of_file file) import.path.span)))
    ⊎ ((target_of main table.loading (seen_of_file file) import ≡ Loop) × (refusal ≡ refused rules.ImportLoop (asked_at (seen_of_file file) import.path.span)))
AsksFor main table importer file import (Err ends.ReadFault) = ⊥
AsksFor main table importer file import (Err ends.Memory) = ⊤

-- an item that is no import asks for nothing
abbrev pub AsksAs : List ℕ → Table → ℕ → SeenFile → Option Import → Result (Option ToLoad) LoadEnd → Type 0
AsksAs main table importer file (Some import) result = AsksFor main table importer file import result
AsksAs main table importer file None (Ok None) = ⊤
AsksAs main table importer file None (Err ends.Memory) = ⊤
AsksAs main table importer file None _ = ⊥

-- numbers, and those that are reached by way of a path that is taken over, where there is one
abbrev pub reached_onto : List ℕ → List Done → List ℕ → List ℕ → Option (List ℕ) → List ℕ
reached_onto main done importer numbers None = numbers
reached_onto main done importer numbers (Some path) = with_numbers numbers (reached_meant done (file_meant main importer path))

abbrev pub span_of : Ident → Span
span_of ident = ident.span

-- the first of an import's names that isn't exported by the file of that name
abbrev pub missing_of : Table → List ℕ → Import → Option Ident
missing_of table name import = first_missing (map seen_of_file table.files) (reached_named (map done_of_file table.done) name) import.names
