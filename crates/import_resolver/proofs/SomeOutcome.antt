-- Each load comes to something.
use Rattle.std.proofs.Common.{◌≡◌, ℕ, ◌+◌, ◌<◌, ◌≤◌, Bool, true, false, zero, suc, List, [], ◌∷◌, ◌++◌, length, nat_le, Option, None, Some, Result, Ok, Err, refl, arith, length-append}
use Rattle.slint_base.specs.declared.faults.Fault.{Fault}
use Rattle.slint_base.specs.declared.rules.Rule.TheVariants as rules_of
use Rattle.slint_base.specs.Refusals.{refusal_of}
use Rattle.syntax_tree.specs.declared.files.File.{File}
use Rattle.syntax_tree.specs.declared.words.Ident.{Ident}
use Rattle.file_exports.specs.Imports.{Import, imports_among}
use Rattle.source_reader.specs.Sources.{IsRead}
use Rattle.import_resolver.specs.Loads.{World, Seen, State, Asked, Next, Known, TooMany, Fresh, Target, Outside, Loop, To, Job, Whole, One, Every, Outcome, Goes, Stops, most_files, at_first, asked_at, asked_first, refused, is_done, next_by, next_of, target_of, seen_of, begun, after_imports, if_missing, after_file, first_missing, reached_named, Loads, LoadsMain, known, too_many, missing, broken, read, outside, looped, taken, no_more, first_stops, then_rest}

-- each file has a reading
abbrev pub SomeReading : Type 0
SomeReading = (file : ℕ) (bytes : List ℕ) → (reading : Result File Fault) × IsRead file bytes reading

-- where the load goes on, no fewer files were read than before
abbrev Grows : State → Outcome → Type 0
Grows s (Goes t) = length s.seen ≤ length t.seen
Grows s (Stops refusal) = Unit {0}

-- what a job comes to
record Comes (w : World) (main : List ℕ) (loading : List (List ℕ)) (job : Job) (s : State) : Type 0 where
  outcome : Outcome
  loads : Loads w main loading job s outcome
  grows : Grows s outcome

-- a file with room for it is one of less than the most
room_by : (is_known is_full : Bool) → next_by is_known is_full ≡ Fresh → is_full ≡ false
room_by true is_full e = absurd (cc)
room_by false true e = absurd (cc)
room_by false false e = refl

module _ (some_reading : SomeReading) (w : World) (main : List ℕ) where
  -- files, imports, lists of imports, where at most that many files more can be read
  abbrev WholeAt : ℕ → Type 0
  WholeAt fuel = (loading : List (List ℕ)) (asked : Asked) (name : List ℕ) (s : State) → most_files ≤ fuel + length s.seen → Comes w main loading (Whole asked name) s

  abbrev OneAt : ℕ → Type 0
  OneAt fuel = (loading : List (List ℕ)) (importer : Seen) (import : Import) (s : State) → most_files ≤ fuel + length s.seen → Comes w main loading (One importer import) s

  abbrev EveryAt : ℕ → Type 0
  EveryAt fuel = (loading : List (List ℕ)) (importer : Seen) (imports : List Import) (s : State) → most_files ≤ fuel + length s.seen → Comes w main loading (Every importer imports) s

  -- ---- one import

  grows_missing : (importer : Seen) (s t : State) (ident : Option Ident) → length s.seen ≤ length t.seen → Grows s (if_missing importer t ident)
  grows_missing importer s t None more = more
  grows_missing importer s t (Some ident) more = tt

  grows_file : (importer : Seen) (import : Import) (name : List ℕ) (s : State) (o : Outcome) → Grows s o → Grows s (after_file importer import name o)
  grows_file importer import name s (Goes t) more = grows_missing importer s t (first_missing t.seen (reached_named t.done name) import.names) more
  grows_file importer import name s (Stops refusal) more = tt

  one_by : (fuel : ℕ) → WholeAt fuel → (loading : List (List ℕ)) (importer : Seen) (import : Import) (s : State) → most_files ≤ fuel + length s.seen
      → (target : Target) → target_of main loading importer import ≡ target → Comes w main loading (One importer import) s
  one_by fuel whole loading importer import s enough Outside e = record { outcome = Stops (refused rules_of.PathOutside (asked_at importer import.path.span)); loads = outside e; grows = tt }
  one_by fuel whole loading importer import s enough Loop e = record { outcome = Stops (refused rules_of.ImportLoop (asked_at importer import.path.span)); loads = looped e; grows = tt }
  one_by fuel whole loading importer import s enough (To name) e =
      let file = whole loading (asked_at importer import.path.span) name s enough in
      record { outcome = after_file importer import name file.outcome; loads = taken e file.loads refl; grows = grows_file importer import name s file.outcome file.grows }

  one_at : (fuel : ℕ) → WholeAt fuel → OneAt fuel
  one_at fuel whole loading importer import s enough = one_by fuel whole loading importer import s enough (target_of main loading importer import) refl

  -- ---- imports one after the other

  grows_on : (s t : State) (o : Outcome) → length s.seen ≤ length t.seen → Grows t o → Grows s o
  grows_on s t (Goes u) more further = omega (arith, more, further)
  grows_on s t (Stops refusal) more further = tt

  every_by : (fuel : ℕ) (loading : List (List ℕ)) (importer : Seen) (import : Import) (imports : List Import) (s : State) → most_files ≤ fuel + length s.seen
      → ((t : State) → most_files ≤ fuel + length t.seen → Comes w main loading (Every importer imports) t)
      → (o : Outcome) → Loads w main loading (One importer import) s o → Grows s o → Comes w main loading (Every importer (import ∷ imports)) s
  every_by fuel loading importer import imports s enough others (Goes t) first more =
      let rest = others t (omega (arith, enough, more)) in
      record { outcome = rest.outcome; loads = then_rest first rest.loads; grows = grows_on s t rest.outcome more rest.grows }
  every_by fuel loading importer import imports s enough others (Stops refusal) first more = record { outcome = Stops refusal; loads = first_stops first; grows = tt }

  every_at : (fuel : ℕ) → OneAt fuel → EveryAt fuel
  every_at fuel one loading importer [] s enough = record { outcome = Goes s; loads = no_more; grows = omega arith }
  every_at fuel one loading importer (import ∷ imports) s enough =
      let first = one loading importer import s enough in
      every_by fuel loading importer import imports s enough (λ t more. every_at fuel one loading importer imports t more) first.outcome first.loads first.grows

  -- ---- a file

  grows_imports : (n : ℕ) (file : Seen) (s : State) (o : Outcome) → Grows (begun s file) o → Grows s (after_imports main n file o)
  grows_imports n file s (Goes t) more = omega (arith, length-append s.seen (file ∷ []), more)
  grows_imports n file s (Stops refusal) more = tt

  -- a file for which there is room
  abbrev FreshAt : ℕ → Type 0
  FreshAt fuel = (loading : List (List ℕ)) (asked : Asked) (name : List ℕ) (s : State) → most_files ≤ fuel + length s.seen → next_of s name ≡ Fresh → Comes w main loading (Whole asked name) s

  has_room : (s : State) (name : List ℕ) → next_of s name ≡ Fresh → length s.seen < most_files
  has_room s name e = let full = room_by (is_done s.done name) (nat_le most_files (length s.seen)) e in grind (arith, full)

  reads_by : (fuel : ℕ) → EveryAt fuel → (loading : List (List ℕ)) (asked : Asked) (name : List ℕ) (s : State) → most_files ≤ suc fuel + length s.seen → next_of s name ≡ Fresh
      → (bytes : List ℕ) → w name ≡ Some bytes → (reading : Result File Fault) → IsRead (length s.seen) bytes reading → Comes w main loading (Whole asked name) s
  reads_by fuel every loading asked name s enough e bytes there (Err fault) is_read = record { outcome = Stops (refusal_of name bytes fault); loads = broken e there is_read; grows = tt }
  reads_by fuel every loading asked name s enough e bytes there (Ok tree) is_read =
      let file = seen_of name bytes tree in
      let imports = every (loading ++ name ∷ []) file (imports_among tree.items) (begun s file) (omega (arith, enough, length-append s.seen (file ∷ []))) in
      record { outcome = after_imports main (length s.seen) file imports.outcome; loads = read e there is_read imports.loads refl; grows = grows_imports (length s.seen) file s imports.outcome imports.grows }

  found_by : (fuel : ℕ) → EveryAt fuel → (loading : List (List ℕ)) (asked : Asked) (name : List ℕ) (s : State) → most_files ≤ suc fuel + length s.seen → next_of s name ≡ Fresh
      → (found : Option (List ℕ)) → w name ≡ found → Comes w main loading (Whole asked name) s
  found_by fuel every loading asked name s enough e None there = record { outcome = Stops (refused rules_of.FileMissing asked); loads = missing e there; grows = tt }
  found_by fuel every loading asked name s enough e (Some bytes) there =
      let reading = some_reading (length s.seen) bytes in reads_by fuel every loading asked name s enough e bytes there reading.0 reading.1

  whole_by : (fuel : ℕ) → FreshAt fuel → (loading : List (List ℕ)) (asked : Asked) (name : List ℕ) (s : State) → most_files ≤ fuel + length s.seen
      → (next : Next) → next_of s name ≡ next → Comes w main loading (Whole asked name) s
  whole_by fuel fresh loading asked name s enough Known e = record { outcome = Goes s; loads = known e; grows = omega arith }
  whole_by fuel fresh loading asked name s enough TooMany e = record { outcome = Stops (refused rules_of.TooManyFiles asked); loads = too_many e; grows = tt }
  whole_by fuel fresh loading asked name s enough Fresh e = fresh loading asked name s enough e

  whole_at : (fuel : ℕ) → WholeAt fuel
  whole_at zero = λ loading asked name s enough.
      whole_by zero (λ loading asked name s enough e. absurd (omega (arith, enough, has_room s name e))) loading asked name s enough (next_of s name) refl
  whole_at (suc fuel) = λ loading asked name s enough.
      whole_by (suc fuel) (λ loading asked name s enough e. found_by fuel (every_at fuel (one_at fuel (whole_at fuel))) loading asked name s enough e (w name) refl) loading asked name s enough (next_of s name) refl

  pub some_load : (o : Outcome) × LoadsMain w main o
  some_load = let load = whole_at most_files [] (asked_first main) main at_first (omega arith) in (load.outcome, load.loads)
