-- Objects in memory: what they hold, and which of their calls fail.
use Rattle.std.specs.Prelude.{◌≡◌, ℕ, ◌+◌, List, ◌++◌, length, min, take, drop, Contains, Result, Ok, Err}
use Rattle.io_edge.specs.declared.byte_source.Failed.{Failed as SourceFailed}
use Rattle.io_edge.specs.declared.byte_sink.SinkEnd.{SinkEnd}
use Rattle.io_edge.specs.declared.byte_sink.SinkEnd.TheVariants as sink_ends
use Rattle.io_edge.specs.declared.file_map.Found.{Found}
use Rattle.io_edge.specs.declared.file_map.Found.TheVariants.{Bytes, Missing}
use Rattle.io_edge.specs.declared.file_map.FilesEnd.{FilesEnd}
use Rattle.io_edge.specs.declared.file_map.FilesEnd.TheVariants as files_ends
use Rattle.io_edge.specs.Counts.{last_count}
use Rattle.io_edge.specs.Files.{FileList}

-- the numbers of the calls that fail, from 0; how many calls there were, and how many of them failed
pub record Plan : Type 0 where
  pub fail : List ℕ
  pub made : ℕ
  pub faults : ℕ

-- before the first call
abbrev pub planned : List ℕ → Plan
planned fail = record { fail = fail; made = 0; faults = 0 }

-- the next call fails
abbrev pub FailsNext : Plan → Type 0
FailsNext plan = Contains plan.fail plan.made

-- a count one higher, or at its last value
abbrev pub counted : ℕ → ℕ
counted count = min (count + 1) last_count

-- after a call that didn't fail
abbrev pub passed : Plan → Plan
passed plan = record { fail = plan.fail; made = counted plan.made; faults = plan.faults }

-- after a call that failed
abbrev pub failed : Plan → Plan
failed plan = record { fail = plan.fail; made = counted plan.made; faults = counted plan.faults }

-- the bytes that are left of a source or that a sink took, the most that one call moves, and the plan
pub record Stream : Type 0 where
  pub bytes : List ℕ
  pub piece : ℕ
  pub plan : Plan

-- files, how many reads found nothing, and the plan
pub record Folder : Type 0 where
  pub files : FileList
  pub misses : ℕ
  pub plan : Plan

-- what a read of a buffer does: as many bytes as are left, fit and one call moves, but where the plan has it fail
abbrev pub ReadsAsPlanned : Stream → List ℕ → Result ℕ SourceFailed → List ℕ → Stream → Type 0
ReadsAsPlanned old buf (Ok n) filled new =
    (FailsNext old.plan → ⊥) × (n ≡ min (min (length old.bytes) (length buf)) old.piece) × (take n filled ≡ take n old.bytes)
    × (new ≡ record { bytes = drop n old.bytes; piece = old.piece; plan = passed old.plan })
ReadsAsPlanned old buf (Err _) filled new = FailsNext old.plan × (new ≡ record { bytes = old.bytes; piece = old.piece; plan = failed old.plan })

-- what a write of some bytes does: it takes as many as one call moves, but where the plan has it fail, or memory runs out
abbrev pub WritesAsPlanned : Stream → List ℕ → Result ℕ SinkEnd → Stream → Type 0
WritesAsPlanned old buf (Ok n) new =
    (FailsNext old.plan → ⊥) × (n ≡ min (length buf) old.piece) × (new ≡ record { bytes = old.bytes ++ take n buf; piece = old.piece; plan = passed old.plan })
WritesAsPlanned old buf (Err sink_ends.Failed) new = FailsNext old.plan × (new ≡ record { bytes = old.bytes; piece = old.piece; plan = failed old.plan })
WritesAsPlanned old buf (Err sink_ends.Memory) new =
    (FailsNext old.plan → ⊥) × (new ≡ record { bytes = old.bytes; piece = old.piece; plan = passed old.plan })

-- what a read of a file does to the counts: it fails exactly where the plan has it fail
abbrev pub FindsAsPlanned : Folder → Result Found FilesEnd → Folder → Type 0
FindsAsPlanned old (Ok (Bytes _)) new = (FailsNext old.plan → ⊥) × (new ≡ record { files = old.files; misses = old.misses; plan = passed old.plan })
FindsAsPlanned old (Ok Missing) new = (FailsNext old.plan → ⊥) × (new ≡ record { files = old.files; misses = counted old.misses; plan = passed old.plan })
FindsAsPlanned old (Err files_ends.Failed) new = FailsNext old.plan × (new ≡ record { files = old.files; misses = old.misses; plan = failed old.plan })
FindsAsPlanned old (Err files_ends.Memory) new =
    (FailsNext old.plan → ⊥) × (new ≡ record { files = old.files; misses = old.misses; plan = passed old.plan })
