-- How a run ends, from what its parts answered.
use Rattle.std.proofs.Common.{◌≡◌, ℕ, List, ◌++◌, refl, sym, subst, append-nil, Option, None, Some, Err}
use Rattle.std.specs.Prelude.{codes}
use Rattle.std.specs.Io.KnownBytes.{Appends}
use Rattle.std.proofs.lemmas.List.{append_cancel_left}
use Rattle.io_edge.specs.Counts.{Rose}
use Rattle.io_edge.specs.Files.{FileList}
use Rattle.slint_meaning.specs.Runs.{Outcome, Runs}
use Rattle.io_edge.specs.Streams.{TakesFront}
use Rattle.slint_meaning.specs.declared.endings.Ending.TheVariants.{Refused}
use Rattle.slint_cli.specs.declared.replies.Output.{Output}
use Rattle.slint_cli.specs.declared.status.Status.{Status}
use Rattle.slint_cli.specs.declared.status.Status.TheVariants.{Ended, Stopped}
use Rattle.slint_cli.specs.declared.status.Stop.{Stop}
use Rattle.slint_cli.specs.declared.status.Stop.TheVariants.{Memory, ReadFault, SinkFault}
use Rattle.slint_cli.specs.Statuses.{EndsAs, EndsAsTold, FaultsFit, Writes}
use Rattle.slint_cli.specs.Outputs.{outcome_of}
use Rattle.slint_cli.specs.Running.{MissedFile, ReadsFit}
use Rattle.slint_cli.proofs.Sources.{some_files, some_script}

-- each run has an outcome
abbrev pub SomeOutcome : Type 0
SomeOutcome = (ws : List (List ℕ)) (files : FileList) (script : List ℕ) → (outcome : Outcome) × Runs ws files script outcome

-- where nothing was written, a front of everything was
nothing_taken : (taken : Option (List ℕ)) (bytes : List ℕ) → TakesFront taken taken bytes
nothing_taken None bytes = (0, tt)
nothing_taken (Some before) bytes = (0, sym (append-nil before))

-- a run that was stopped before it wrote
pub stopped_ends : SomeOutcome → (stop : Stop) (ws : List (List ℕ)) (files : FileList) (script : List ℕ) (taken : Option (List ℕ)) → EndsAs ws files script (Stopped stop) taken taken
stopped_ends some Memory ws files script taken = let o = some ws files script in (o.0, o.1, nothing_taken taken o.0.bytes)
stopped_ends some ReadFault ws files script taken = let o = some ws files script in (o.0, o.1, refl)
stopped_ends some SinkFault ws files script taken = let o = some ws files script in (o.0, o.1, nothing_taken taken o.0.bytes)

-- the same over some files and some script
pub stopped_ends_told : SomeOutcome → (stop : Stop) (ws : List (List ℕ)) (held : Option FileList) (left taken : Option (List ℕ)) → EndsAsTold ws held left (Stopped stop) taken taken
stopped_ends_told some stop ws held left taken =
    let f = some_files held in let s = some_script left in
    record { files = f.0; script = s.0; files_told = f.1; script_told = s.1; ends = stopped_ends some stop ws f.0 s.0 taken }

-- the counts where a run was stopped before it wrote
pub stopped_fits : (stop : Stop) (files files_now script script_now out : ℕ) → ReadsFit (Err stop) files files_now script script_now
    → FaultsFit (Stopped stop) (record { files = files; files_now = files_now; script = script; script_now = script_now; out = out; out_now = out })
stopped_fits Memory files files_now script script_now out fits = (fits.0, fits.1, refl)
stopped_fits ReadFault files files_now script script_now out fits = (fits, refl)
stopped_fits SinkFault files files_now script script_now out fits = absurd fits

-- the line of a missing file was made where it was written
pub missed_written : (status : Status) (output : Output) (taken now : Option (List ℕ)) (misses misses_now : ℕ) (before line : List ℕ)
    → MissedFile misses misses_now output → Writes status (outcome_of output) taken now
    → status ≡ Ended Refused → taken ≡ Some before → now ≡ Some (before ++ (codes "refused 20 " ++ line)) → Rose misses misses_now
missed_written status output taken now misses misses_now before line missed writes refused had has =
    let W : Status → Type 0 = λ s. Writes s (outcome_of output) taken now in
    let A : Option (List ℕ) → Type 0 = λ t. Appends t now output.bytes.items in
    let B : Option (List ℕ) → Type 0 = λ t. Appends (Some before) t output.bytes.items in
    let written = subst W refused writes in
    let grown = subst B has (subst A had written.1) in
    missed line written.0 (sym (append_cancel_left before (codes "refused 20 " ++ line) output.bytes.items grown))
