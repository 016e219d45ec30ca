-- What each stage of a run gives, and does to the files and the script.
use Rattle.std.specs.Prelude.{◌≡◌, ℕ, ◌<◌, ◌⊎◌, List, ◌++◌, length, codes, Option, Some, IfSome, Result, Ok, Err}
use Rattle.std.specs.Io.KnownBytes.{Consumes, IsAtEnd}
use Rattle.io_edge.specs.declared.whole.SourceEnd.{SourceEnd}
use Rattle.io_edge.specs.declared.whole.SourceEnd.TheVariants as source_ends
use Rattle.io_edge.specs.Counts.{Rose}
use Rattle.io_edge.specs.Files.{FileList, bytes_named}
use Rattle.slint_base.specs.declared.refusals.Refusal.{Refusal}
use Rattle.slint_base.specs.declared.rules.Rule.TheVariants.{FileMissing}
use Rattle.command_words.specs.Words.{WordsOf}
use Rattle.import_resolver.specs.Loads.{Stops, LoadsMain}
use Rattle.first_evaluator.specs.declared.trees.FirstFile.{FirstFile}
use Rattle.slint_meaning.specs.declared.endings.Ending.{Ending}
use Rattle.slint_meaning.specs.declared.endings.Ending.TheVariants.{Done, Words, Refused, ScriptLong}
use Rattle.slint_meaning.specs.Runs.{Outcome, RunsWords, most_script, run_script}
use Rattle.slint_cli.specs.declared.status.Stop.{Stop}
use Rattle.slint_cli.specs.declared.status.Stop.TheVariants.{Memory, ReadFault, SinkFault}
use Rattle.slint_cli.specs.declared.replies.Output.{Output}

-- what stops a run where the script could not be read
abbrev pub stop_of_source : SourceEnd → Stop
stop_of_source source_ends.Failed = ReadFault
stop_of_source source_ends.Memory = Memory

-- what is told is this
abbrev pub Tells : {A : Type 0} → Option A → A → Type 0
Tells told x = IfSome told (λ y. y ≡ x)

-- the outcome of a component over some script, the one that is left where it is told
abbrev pub RanScript : FirstFile → Option (List ℕ) → Outcome → Type 0
RanScript file left outcome = (script : List ℕ) × Tells left script × (outcome ≡ run_script file script)

-- the outcome of what the words say over some files and some script, those that are told
abbrev pub RanWords : Option WordsOf → Option FileList → Option (List ℕ) → Outcome → Type 0
RanWords found held left outcome =
    (files : FileList) × (script : List ℕ) × Tells held files × Tells left script × RunsWords found files script outcome

-- what was taken of the script by an end that the program has of its own
abbrev pub TakenAt : Ending → Option (List ℕ) → Option (List ℕ) → Type 0
TakenAt Done left now = IsAtEnd now
TakenAt Words left now = now ≡ left
TakenAt Refused left now = now ≡ left
TakenAt ScriptLong left now = (bytes : List ℕ) × Consumes left now bytes × (most_script < length bytes)

-- some bytes of the script were taken
abbrev pub TakesSome : Option (List ℕ) → Option (List ℕ) → Type 0
TakesSome left now = (bytes : List ℕ) × Consumes left now bytes

-- what was taken of the script by an answer
abbrev pub TakenBy : Result Output Stop → Option (List ℕ) → Option (List ℕ) → Type 0
TakenBy (Ok output) left now = TakenAt output.end left now × TakesSome left now
TakenBy (Err stop) left now = TakesSome left now

-- the script's count of failures rose where the answer is a failed read, and stands still otherwise; nothing is written yet
abbrev pub ScriptFits : Result Output Stop → ℕ → ℕ → Type 0
ScriptFits (Ok output) before now = now ≡ before
ScriptFits (Err Memory) before now = now ≡ before
ScriptFits (Err ReadFault) before now = Rose before now
ScriptFits (Err SinkFault) before now = ⊥

-- and so do the two counts of the files and of the script, one of which rose
abbrev pub ReadsFit : Result Output Stop → ℕ → ℕ → ℕ → ℕ → Type 0
ReadsFit (Ok output) files files_now script script_now = (files_now ≡ files) × (script_now ≡ script)
ReadsFit (Err Memory) files files_now script script_now = (files_now ≡ files) × (script_now ≡ script)
ReadsFit (Err ReadFault) files files_now script script_now =
    (Rose files files_now × (script_now ≡ script)) ⊎ (Rose script script_now × (files_now ≡ files))
ReadsFit (Err SinkFault) files files_now script script_now = ⊥

-- a refusal for a missing file, which its line tells, was made only where the count of misses rose
abbrev pub MissedFile : ℕ → ℕ → Output → Type 0
MissedFile misses misses_now output =
    (line : List ℕ) → output.end ≡ Refused → output.bytes.items ≡ codes "refused 20 " ++ line → Rose misses misses_now

-- where the told files make the source refused for a missing file, the count of misses rose
abbrev pub MissedWhereMissing : Option WordsOf → Option FileList → ℕ → ℕ → Type 0
MissedWhereMissing found held misses misses_now = (files : FileList) (words : WordsOf) (refusal : Refusal) → held ≡ Some files → found ≡ Some words
    → LoadsMain (bytes_named files) words.file (Stops refusal) → refusal.rule ≡ FileMissing → Rose misses misses_now
