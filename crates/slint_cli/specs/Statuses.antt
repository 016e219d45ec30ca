-- How a status, the bytes taken and the counts of the outside stand to the outcome of a run.
use Rattle.std.specs.Prelude.{◌≡◌, ℕ, ◌⊎◌, ⊤, List, ◌++◌, codes, Option, Some}
use Rattle.std.specs.Io.KnownBytes.{Appends}
use Rattle.io_edge.specs.Counts.{Rose}
use Rattle.io_edge.specs.Files.{FileList, bytes_named}
use Rattle.io_edge.specs.Streams.{TakesFront}
use Rattle.slint_meaning.specs.declared.endings.Ending.TheVariants.{Refused}
use Rattle.slint_meaning.specs.Endings.{ending_number}
use Rattle.slint_base.specs.declared.refusals.Refusal.{Refusal}
use Rattle.slint_base.specs.declared.rules.Rule.TheVariants.{FileMissing}
use Rattle.command_words.specs.Words.{WordsOf, words_of}
use Rattle.import_resolver.specs.Loads.{Stops, LoadsMain}
use Rattle.slint_meaning.specs.Runs.{Outcome, Runs}
use Rattle.slint_cli.specs.Running.{TakenAt, TakesSome, Tells}
use Rattle.slint_cli.specs.declared.status.Status.{Status}
use Rattle.slint_cli.specs.declared.status.Status.TheVariants.{Ended, Stopped}
use Rattle.slint_cli.specs.declared.status.Stop.{Stop}
use Rattle.slint_cli.specs.declared.status.Stop.TheVariants.{Memory, ReadFault, SinkFault}

-- the number that the process ends with where something stopped the run
abbrev pub stop_number : Stop → ℕ
stop_number Memory = 1
stop_number ReadFault = 6
stop_number SinkFault = 7

-- the number that the process ends with
abbrev pub status_number : Status → ℕ
status_number (Ended end) = ending_number end
status_number (Stopped stop) = stop_number stop

-- what a status says of an outcome that is written, and of the bytes taken before and now: it is the outcome's end and the
-- bytes are taken whole, or a front of them is; after a failed read none is
abbrev pub Writes : Status → Outcome → Option (List ℕ) → Option (List ℕ) → Type 0
Writes (Ended end) outcome taken now = (outcome.end ≡ end) × Appends taken now outcome.bytes
Writes (Stopped Memory) outcome taken now = TakesFront taken now outcome.bytes
Writes (Stopped ReadFault) outcome taken now = now ≡ taken
Writes (Stopped SinkFault) outcome taken now = TakesFront taken now outcome.bytes

-- the status and the bytes taken are what the run of the words over files and script comes to; it has one outcome
abbrev pub EndsAs : List (List ℕ) → FileList → List ℕ → Status → Option (List ℕ) → Option (List ℕ) → Type 0
EndsAs ws files script status taken now = (outcome : Outcome) × Runs ws files script outcome × Writes status outcome taken now

-- there are files and a script, those that are told, whose run this is
pub record EndsAsTold (ws : List (List ℕ)) (held : Option FileList) (left : Option (List ℕ)) (status : Status) (taken now : Option (List ℕ)) : Type 0 where
  pub files : FileList
  pub script : List ℕ
  pub files_told : Tells held files
  pub script_told : Tells left script
  pub ends : EndsAs ws files script status taken now

-- a refusal for a missing file, which its line tells by its rule, was written only where the count of misses rose, whichever file it was
abbrev pub MissedWhereRefused : Status → Option (List ℕ) → Option (List ℕ) → ℕ → ℕ → Type 0
MissedWhereRefused status taken now misses misses_now = (before line : List ℕ) → status ≡ Ended Refused
    → taken ≡ Some before → now ≡ Some (before ++ (codes "refused 20 " ++ line)) → Rose misses misses_now

-- and where files are told by which the source is refused for a missing file, such a refusal came only where it rose, whatever is known of
-- the bytes taken
abbrev pub MissedWhereNone : List (List ℕ) → Option FileList → Status → ℕ → ℕ → Type 0
MissedWhereNone ws held status misses misses_now = (files : FileList) (words : WordsOf) (refusal : Refusal) → held ≡ Some files → words_of ws ≡ Some words
    → LoadsMain (bytes_named files) words.file (Stops refusal) → refusal.rule ≡ FileMissing → status ≡ Ended Refused → Rose misses misses_now

-- each count of failures before and now: of the files, the script and the written bytes
pub record Faults : Type 0 where
  pub files : ℕ
  pub files_now : ℕ
  pub script : ℕ
  pub script_now : ℕ
  pub out : ℕ
  pub out_now : ℕ

-- no count moved
abbrev pub StandStill : Faults → Type 0
StandStill f = (f.files_now ≡ f.files) × (f.script_now ≡ f.script) × (f.out_now ≡ f.out)

-- which counts moved at a status: that of the one call that failed, and no other
abbrev pub FaultsFit : Status → Faults → Type 0
FaultsFit (Ended end) f = StandStill f
FaultsFit (Stopped Memory) f = StandStill f
FaultsFit (Stopped ReadFault) f =
    ((Rose f.files f.files_now × (f.script_now ≡ f.script)) ⊎ (Rose f.script f.script_now × (f.files_now ≡ f.files))) × (f.out_now ≡ f.out)
FaultsFit (Stopped SinkFault) f = (f.files_now ≡ f.files) × (f.script_now ≡ f.script) × Rose f.out f.out_now

-- no count rose, and none stands at its last value
abbrev pub IsUntroubled : Faults → Type 0
IsUntroubled f = (Rose f.files f.files_now → ⊥) × (Rose f.script f.script_now → ⊥) × (Rose f.out f.out_now → ⊥)

-- neither a read nor a write failed
abbrev pub IsOwnStatus : Status → Type 0
IsOwnStatus (Ended end) = ⊤
IsOwnStatus (Stopped Memory) = ⊤
IsOwnStatus (Stopped ReadFault) = ⊥
IsOwnStatus (Stopped SinkFault) = ⊥

-- what of the script is taken
abbrev pub TakesScript : Status → Option (List ℕ) → Option (List ℕ) → Type 0
TakesScript (Ended end) left now = TakenAt end left now
TakesScript (Stopped stop) left now = TakesSome left now

-- the count of failed writes rose where writing failed, and stands still otherwise; nothing was read
abbrev pub OutFits : Status → ℕ → ℕ → Type 0
OutFits (Ended end) before now = now ≡ before
OutFits (Stopped Memory) before now = now ≡ before
OutFits (Stopped ReadFault) before now = ⊥
OutFits (Stopped SinkFault) before now = Rose before now
