-- The load of a source, from the table of no files on.
use Rattle.std.proofs.Common.{◌≡◌, ℕ, zero, suc, ◌-◌, ◌||◌, true, false, List, [], ◌∷◌, length, take, drop, map, slice_get, option_map, Option, None, Some, IfSome, Ok, Err, refl, sym, ap, ◌∙◌, subst, arith, take-append-drop}
use Rattle.std.proofs.lemmas.Option.{slice_get-map}
use Rattle.std.specs.List.{after_last}
use Rattle.io_edge.specs.Files.{FileList, bytes_named}
use Rattle.file_exports.specs.Imports.{Import, imports_among}
use Rattle.file_exports.specs.Roots.{has_name}
use Rattle.import_paths.specs.Paths.{IsBelow, folder_of, is_slash}
use Rattle.import_resolver.specs.declared.ends.LoadEnd.{LoadEnd}
use Rattle.import_resolver.specs.declared.ends.LoadEnd.TheVariants as ends
use Rattle.import_resolver.specs.declared.loaded.Loaded.{Loaded}
use Rattle.import_resolver.specs.declared.tables.SeenFile.{SeenFile}
use Rattle.import_resolver.specs.declared.tables.Table.{Table}
use Rattle.import_resolver.specs.Loaded.{LoadsSome, rows_of, rows_seen}
use Rattle.import_resolver.specs.Loads.{World, Seen, Done, State, Whole, Outcome, Goes, Stops, Loads, LoadsMain, asked_first, at_first, is_done}
use Rattle.import_resolver.specs.Numbers.{AllMeant, IsMeant}
use Rattle.import_resolver.specs.Tables.{AtEach, Ended, Fits, Halted, IsFitting, IsRight, OwnsExports, Went, done_of_file, names_of, seen_of_file, state_of}
use Rattle.import_resolver.proofs.Parts.{none_some}
use Rattle.import_resolver.proofs.Resolved.{imports_resolved, names_of as seen_names_of}

-- a table of no files
pub record IsEmpty (table : Table) : Type 0 where
  pub files : table.files ≡ []
  pub done : table.done ≡ []
  pub loading : table.loading ≡ []

each-none : (P : ℕ → SeenFile → Type 0) → AtEach [] P
each-none P = λ k file at. absurd (none_some at)

pub right-empty : (main : List ℕ) (table : Table) → IsEmpty table → IsRight main table
right-empty main table empty = record {
  fitted = subst IsFitting (sym empty.files) (record { held = []; fits = tt; no_more = λ name none. refl });
  owned = subst (λ (fs : List SeenFile). AtEach fs (λ k x. OwnsExports x)) (sym empty.files) (each-none (λ k x. OwnsExports x));
  below = subst (λ (fs : List SeenFile). AtEach fs (λ k x. IsBelow (folder_of main) x.name)) (sym empty.files) (each-none (λ k x. IsBelow (folder_of main) x.name));
  covered = subst (λ (fs : List SeenFile). AtEach fs (λ k x. (is_done (map done_of_file table.done) x.name || has_name table.loading x.name) ≡ true)) (sym empty.files)
      (each-none (λ k x. (is_done (map done_of_file table.done) x.name || has_name table.loading x.name) ≡ true));
  once = subst (λ (fs : List SeenFile). AtEach fs (λ k x. has_name (names_of (take k fs)) x.name ≡ false)) (sym empty.files)
      (each-none (λ k x. has_name (names_of (take k [])) x.name ≡ false));
  few = omega (arith, ap length empty.files);
}

-- the main file lies in its own folder
pub main-below : (main : List ℕ) → IsBelow (folder_of main) main
main-below main = let n = length main - length (after_last is_slash main) in (drop n main, sym (take-append-drop n main))

pub unopened-empty : (table : Table) (name : List ℕ) → IsEmpty table → has_name table.loading name ≡ false
unopened-empty table name empty = ap (λ loading. has_name loading name) empty.loading

from-empty : (w : World) (main : List ℕ) (table : Table) (o : Outcome) → IsEmpty table → Loads w main table.loading (Whole (asked_first main) main) (state_of table) o → LoadsMain w main o
from-empty w main table o empty loads =
    let state : List Seen → List Done → State = λ seen done. record { seen = seen; done = done } in
    let first : state_of table ≡ at_first =
    ap (λ files. state (map seen_of_file files) (map done_of_file table.done)) empty.files ∙ ap (λ done. state [] (map done_of_file done)) empty.done in
    let by_loading = subst (λ (l : List (List ℕ)). Loads w main l (Whole (asked_first main) main) (state_of table) o) empty.loading loads in
    subst (λ (s : State). Loads w main [] (Whole (asked_first main) main) s o) first by_loading

fits-empty : (w : World) (table : Table) → IsEmpty table → Fits w table.files
fits-empty w table empty = subst (Fits w) (sym empty.files) tt

-- a load that stops
pub load-ended : (held : Option FileList) (main : List ℕ) (table new : Table) (stop : LoadEnd) → IsEmpty table → Ended main held table (Whole (asked_first main) main) (Err stop) new → LoadsSome held main (Err stop)
load-ended None main table new (ends.Refused refusal) empty halted =
    let list = halted.fitted in
    (list.0, tt, from-empty (bytes_named list.0) main table (Stops refusal) empty (halted.loads (bytes_named list.0) list.1 list.2))
load-ended (Some told) main table new (ends.Refused refusal) empty halted =
    let fits = halted.told (fits-empty (bytes_named told) table empty) in
    (told, refl, from-empty (bytes_named told) main table (Stops refusal) empty (halted.loads (bytes_named told) fits.0 fits.1))
load-ended None main table new ends.ReadFault empty halted = ([], tt, tt)
load-ended (Some told) main table new ends.ReadFault empty halted = (told, refl, tt)
load-ended None main table new ends.Memory empty halted = ([], tt, tt)
load-ended (Some told) main table new ends.Memory empty halted = (told, refl, tt)

-- a load that goes to its end
pub load-went : (held : Option FileList) (main : List ℕ) (table new : Table) (loaded : Loaded) → IsEmpty table → Went main held table (Whole (asked_first main) main) new
    → rows_of loaded ≡ rows_seen main (map seen_of_file new.files) → LoadsSome held main (Ok loaded)
load-went None main table new loaded empty went shows =
    let list = went.right.fitted in
    (list.held, tt, (state_of new, from-empty (bytes_named list.held) main table (Goes (state_of new)) empty (went.loads (bytes_named list.held) list.fits), shows))
load-went (Some told) main table new loaded empty went shows =
    let fits = went.told (fits-empty (bytes_named told) table empty) in
    (told, refl, (state_of new, from-empty (bytes_named told) main table (Goes (state_of new)) empty (went.loads (bytes_named told) fits), shows))

-- where a load went to its end, each import of a file means a file that was read
names-seen : (files : List SeenFile) → seen_names_of (map seen_of_file files) ≡ names_of files
names-seen [] = refl
names-seen (file ∷ files) = ap (λ names. file.name ∷ names) (names-seen files)

all-meant : (main : List ℕ) (names : List (List ℕ)) (importer : List ℕ) (imports : List Import)
    → ((j : ℕ) (import : Import) → slice_get imports j ≡ Some import → IsMeant main names importer import.path.text) → AllMeant main names importer imports
all-meant main names importer [] each = tt
all-meant main names importer (import ∷ imports) each = (each zero import refl, all-meant main names importer imports (λ j i at. each (suc j) i at))

pub load-meant : (held : Option FileList) (main : List ℕ) (table new : Table) → IsEmpty table → Went main held table (Whole (asked_first main) main) new
    → AtEach new.files (λ k file. AllMeant main (names_of new.files) file.name (imports_among file.tree.items))
load-meant held main table new empty went = λ k file at.
    let list = went.right.fitted in
    let loads = from-empty (bytes_named list.held) main table (Goes (state_of new)) empty (went.loads (bytes_named list.held) list.fits) in
    let there : slice_get (map seen_of_file new.files) k ≡ Some (seen_of_file file) = slice_get-map seen_of_file new.files k ∙ ap (option_map seen_of_file) at in
    all-meant main (names_of new.files) file.name (imports_among file.tree.items)
    (λ j import its. let means = imports_resolved loads k (seen_of_file file) there j import its in
    record { name = means.0; meant = means.1; there = ap (λ names. has_name names means.0) (sym (names-seen new.files)) ∙ means.2 })

-- a load that wants memory
pub load-memory : (held : Option FileList) (main : List ℕ) → LoadsSome held main (Err ends.Memory)
load-memory None main = ([], tt, tt)
load-memory (Some told) main = (told, refl, tt)
