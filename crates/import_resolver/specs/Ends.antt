-- What ends a load where a file can't be read, and what a load's answers do to the counts of the files.
use Rattle.std.specs.Prelude.{◌≡◌, ℕ, ⊤, Result, Ok, Err}
use Rattle.io_edge.specs.declared.file_map.FilesEnd.{FilesEnd}
use Rattle.io_edge.specs.declared.file_map.FilesEnd.TheVariants as file_ends
use Rattle.io_edge.specs.Counts.{Rose}
use Rattle.slint_base.specs.declared.refusals.Refusal.{Refusal}
use Rattle.slint_base.specs.declared.rules.Rule.TheVariants as rules
use Rattle.import_resolver.specs.declared.ends.LoadEnd.{LoadEnd}
use Rattle.import_resolver.specs.declared.ends.LoadEnd.TheVariants as ends

abbrev pub end_of_files : FilesEnd → LoadEnd
end_of_files file_ends.Failed = ends.ReadFault
end_of_files file_ends.Memory = ends.Memory

-- the counts of faults and of misses, each before and now: a failed read, and no other answer, raised the first; a missing file is told only where the second rose
abbrev pub LoadCount : {A : Type 0} → Result A LoadEnd → ℕ → ℕ → ℕ → ℕ → Type 0
LoadCount (Ok done) faults faults_now misses misses_now = (faults_now ≡ faults) × (misses_now ≡ misses)
LoadCount (Err (ends.Refused refusal)) faults faults_now misses misses_now = (faults_now ≡ faults) × (refusal.rule ≡ rules.FileMissing → Rose misses misses_now)
LoadCount (Err ends.ReadFault) faults faults_now misses misses_now = Rose faults faults_now
LoadCount (Err ends.Memory) faults faults_now misses misses_now = faults_now ≡ faults

-- the answer is this refusal, unless memory ran out
abbrev pub IsRefusal : Refusal → LoadEnd → Type 0
IsRefusal refusal (ends.Refused told) = told ≡ refusal
IsRefusal refusal ends.ReadFault = ⊥
IsRefusal refusal ends.Memory = ⊤
