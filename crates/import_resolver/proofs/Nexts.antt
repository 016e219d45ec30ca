-- The file that is asked for and isn't in a table yet.
use Rattle.std.proofs.Common.{◌≡◌, ◌<◌, ◌≤◌, ℕ, Bool, true, false, List, length, Option, None, Some, Result, Ok, Err, map, take, refl, sym, ap, ◌∙◌, subst, rules, le-leb}
use Rattle.std.specs.Prelude.{IfSome, IsTrue, nat_le}
use Rattle.std.specs.Option.{option_map}
use Rattle.std.proofs.lemmas.Bool.{lt-leb}
use Rattle.std.proofs.lemmas.List.{length-map}
use Rattle.slint_base.specs.declared.faults.Fault.{Fault}
use Rattle.slint_base.specs.declared.refusals.Refusal.{Refusal}
use Rattle.slint_base.specs.declared.rules.Rule.{Rule}
use Rattle.slint_base.specs.declared.rules.Rule.TheVariants as rules_of
use Rattle.slint_base.specs.Refusals.{refusal_of}
use Rattle.io_edge.specs.Files.{FileList, bytes_named, most_read}
use Rattle.syntax_tree.specs.declared.files.File.{File}
use Rattle.file_exports.specs.Roots.{has_name}
use Rattle.source_reader.specs.Sources.{IsRead, is_reading_rule}
use Rattle.import_resolver.specs.declared.ends.LoadEnd.{LoadEnd}
use Rattle.import_resolver.specs.declared.ends.LoadEnd.TheVariants as ends
use Rattle.import_resolver.specs.declared.tables.SeenFile.{SeenFile}
use Rattle.import_resolver.specs.declared.tables.Table.{Table}
use Rattle.import_resolver.specs.Ends.{IsRefusal, LoadCount}
use Rattle.import_resolver.specs.Loads.{Asked, Loads, Stops, Whole, World, broken, is_done, missing, next_by, next_of, refused, too_many}
use Rattle.import_resolver.specs.Tables.{FitsLook, Has, NextAs, NextStops, ReadsFile, done_of_file, names_of, seen_of_file, state_of}

-- ---- parts

if-some : {A : Type 0} (o : Option A) (P : A → Type 0) → ((x : A) → P x) → IfSome o P
if-some None P f = tt
if-some (Some x) P f = f x

if-some-map : {A : Type 0} (o : Option A) (P Q : A → Type 0) → ((x : A) → P x → Q x) → IfSome o P → IfSome o Q
if-some-map None P Q f p = tt
if-some-map (Some x) P Q f p = f x p

-- a front of nothing is nothing
no-front : (most : ℕ) (o : Option (List ℕ)) → option_map (take most) o ≡ None → o ≡ None
no-front most None e = refl
no-front most (Some full) e = absurd (search (rules, e))

-- bytes that are a front of something
front-of : (most : ℕ) (o : Option (List ℕ)) (bytes : List ℕ) → option_map (take most) o ≡ Some bytes → (full : List ℕ) × ((o ≡ Some full) × (take most full ≡ bytes))
front-of most None bytes e = absurd (search (rules, e))
front-of most (Some full) bytes e = (full, (refl, search (rules, e)))

-- what a file is that is asked for
next-at : (table : Table) (name : List ℕ) (known full : Bool) → is_done (map done_of_file table.done) name ≡ known → nat_le 64 (length table.files) ≡ full → next_of (state_of table) name ≡ next_by known full
next-at table name known full done test =
    ap (λ d. next_by d (nat_le 64 (length (map seen_of_file table.files)))) done ∙ ap (next_by known) (ap (nat_le 64) (length-map table.files seen_of_file) ∙ test)

-- what the laws say of fronts
abbrev pub FrontsAlike : Type 0
FrontsAlike = (number : ℕ) (full : List ℕ) (reading : Result File Fault) → IsRead number (take most_read full) reading → IsRead number full reading

abbrev pub FrontsRefused : Type 0
FrontsRefused = (number : ℕ) (name full : List ℕ) (fault : Fault) → IsRead number (take most_read full) (Err fault) → refusal_of name (take most_read full) fault ≡ refusal_of name full fault

abbrev pub ReadingRules : Type 0
ReadingRules = (number : ℕ) (bytes : List ℕ) (fault : Fault) → IsRead number bytes (Err fault) → IsTrue (is_reading_rule fault.rule)

-- ---- one too many

stops-full : (main : List ℕ) (held : Option FileList) (table : Table) (asked : Asked) (name : List ℕ) → is_done (map done_of_file table.done) name ≡ false → 64 ≤ length table.files
    → NextStops main held table asked name (refused rules_of.TooManyFiles asked)
stops-full main held table asked name fresh full = record {
  look = None;
  fresh = tt;
  told = if-some held (λ files. FitsLook (bytes_named files) None) (λ files. tt);
  loads = λ w fits. too_many (next-at table name false true fresh (le-leb 64 (length table.files) full));
}

pub next-full : (main : List ℕ) (held : Option FileList) (table : Table) (asked : Asked) (name : List ℕ) (end : LoadEnd) → is_done (map done_of_file table.done) name ≡ false → 64 ≤ length table.files
    → IsRefusal (refused rules_of.TooManyFiles asked) end → NextAs main held table asked name (Err end)
next-full main held table asked name (ends.Refused refusal) fresh full is = subst (NextStops main held table asked name) (sym is) (stops-full main held table asked name fresh full)
next-full main held table asked name ends.ReadFault fresh full is = tt
next-full main held table asked name ends.Memory fresh full is = tt

-- ---- a missing file

stops-missing : (main : List ℕ) (held : Option FileList) (table : Table) (asked : Asked) (name : List ℕ) → is_done (map done_of_file table.done) name ≡ false → length table.files < 64
    → has_name (names_of table.files) name ≡ false → IfSome held (λ files. bytes_named files name ≡ None) → NextStops main held table asked name (refused rules_of.FileMissing asked)
stops-missing main held table asked name fresh few new found = record {
  look = Some (name, None);
  fresh = (new, tt);
  told = if-some-map held (λ files. bytes_named files name ≡ None) (λ files. FitsLook (bytes_named files) (Some (name, None))) (λ files e. ap (option_map (take most_read)) e) found;
  loads = λ w fits. missing (next-at table name false false fresh (lt-leb 64 (length table.files) few)) (no-front most_read (w name) fits);
}

pub next-missing : (main : List ℕ) (held : Option FileList) (table : Table) (asked : Asked) (name : List ℕ) (end : LoadEnd) → is_done (map done_of_file table.done) name ≡ false → length table.files < 64
    → has_name (names_of table.files) name ≡ false → IfSome held (λ files. bytes_named files name ≡ None) → IsRefusal (refused rules_of.FileMissing asked) end → NextAs main held table asked name (Err end)
next-missing main held table asked name (ends.Refused refusal) fresh few new found is = subst (NextStops main held table asked name) (sym is) (stops-missing main held table asked name fresh few new found)
next-missing main held table asked name ends.ReadFault fresh few new found is = tt
next-missing main held table asked name ends.Memory fresh few new found is = tt

-- ---- a file that was read

-- the fault of the front of a file ends the load, as that of the whole
broken-loads : FrontsAlike → FrontsRefused → (w : World) (main : List ℕ) (table : Table) (asked : Asked) (name bytes full : List ℕ) (fault : Fault) → is_done (map done_of_file table.done) name ≡ false → length table.files < 64
    → IsRead (length table.files) bytes (Err fault) → w name ≡ Some full → take most_read full ≡ bytes → Loads w main table.loading (Whole asked name) (state_of table) (Stops (refusal_of name bytes fault))
broken-loads alike told w main table asked name bytes full fault fresh few read is front =
    let in_front : IsRead (length table.files) (take most_read full) (Err fault) = subst (λ (b : List ℕ). IsRead (length table.files) b (Err fault)) (sym front) read in
    let seen : IsRead (length (map seen_of_file table.files)) full (Err fault) =
    subst (λ (n : ℕ). IsRead n full (Err fault)) (sym (length-map table.files seen_of_file)) (alike (length table.files) full (Err fault) in_front) in
    let same : refusal_of name full fault ≡ refusal_of name bytes fault = sym (told (length table.files) name full fault in_front) ∙ ap (λ b. refusal_of name b fault) front in
    subst (λ (r : Refusal). Loads w main table.loading (Whole asked name) (state_of table) (Stops r)) same (broken (next-at table name false false fresh (lt-leb 64 (length table.files) few)) is seen)

stops-broken : FrontsAlike → FrontsRefused → (main : List ℕ) (held : Option FileList) (table : Table) (asked : Asked) (name bytes : List ℕ) (fault : Fault) → is_done (map done_of_file table.done) name ≡ false → length table.files < 64
    → has_name (names_of table.files) name ≡ false → length bytes ≤ most_read → IfSome held (λ files. Has (bytes_named files) name (Some bytes)) → IsRead (length table.files) bytes (Err fault)
    → NextStops main held table asked name (refusal_of name bytes fault)
stops-broken alike told main held table asked name bytes fault fresh few new short found read = record {
  look = Some (name, Some bytes);
  fresh = (new, short);
  told = found;
  loads = λ w fits. let front = front-of most_read (w name) bytes fits in broken-loads alike told w main table asked name bytes front.0 fault fresh few read front.1.0 front.1.1;
}

pub next-read : FrontsAlike → FrontsRefused → (main : List ℕ) (held : Option FileList) (table : Table) (asked : Asked) (name bytes : List ℕ) (result : Result SeenFile LoadEnd) → is_done (map done_of_file table.done) name ≡ false
    → length table.files < 64 → has_name (names_of table.files) name ≡ false → length bytes ≤ most_read → IfSome held (λ files. Has (bytes_named files) name (Some bytes)) → ReadsFile (length table.files) name bytes result
    → NextAs main held table asked name result
next-read alike told main held table asked name bytes (Ok file) fresh few new short found reads =
    record { bytes = bytes; named = reads.0; seen = reads.1.0; owned = reads.1.1; room = few; told = found }
next-read alike told main held table asked name bytes (Err (ends.Refused refusal)) fresh few new short found (fault, (read, is)) =
    subst (NextStops main held table asked name) (sym is) (stops-broken alike told main held table asked name bytes fault fresh few new short found read)
next-read alike told main held table asked name bytes (Err ends.ReadFault) fresh few new short found reads = tt
next-read alike told main held table asked name bytes (Err ends.Memory) fresh few new short found reads = tt

-- a fault of a file isn't that it is missing
not-missing : (fault : Fault) → IsTrue (is_reading_rule fault.rule) → fault.rule ≡ rules_of.FileMissing → ⊥
not-missing fault one is = let wrong : IsTrue (is_reading_rule rules_of.FileMissing) = subst (λ (r : Rule). IsTrue (is_reading_rule r)) is one in search (rules, wrong)

pub count-read : ReadingRules → (number : ℕ) (name bytes : List ℕ) (result : Result SeenFile LoadEnd) (faults faults_now misses misses_now : ℕ) → ReadsFile number name bytes result → faults_now ≡ faults → misses_now ≡ misses
    → LoadCount result faults faults_now misses misses_now
count-read law number name bytes (Ok file) faults faults_now misses misses_now reads f m = (f, m)
count-read law number name bytes (Err (ends.Refused refusal)) faults faults_now misses misses_now (fault, (read, is)) f m =
    (f, λ of_missing. absurd (not-missing fault (law number bytes fault read) (sym (ap (λ (r : Refusal). r.rule) is) ∙ of_missing)))
count-read law number name bytes (Err ends.ReadFault) faults faults_now misses misses_now reads f m = absurd reads
count-read law number name bytes (Err ends.Memory) faults faults_now misses misses_now reads f m = f
