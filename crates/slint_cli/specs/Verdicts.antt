-- What an answer on a source says of its verdict.
use Rattle.std.specs.Prelude.{◌≡◌, ◌<◌, ◌^◌, ⊤, List, ℕ, length, slice_get, Option, Some, Result, Ok, Err}
use Rattle.slint_base.specs.declared.endings.End.{End}
use Rattle.slint_base.specs.declared.endings.End.TheVariants as checks
use Rattle.slint_base.specs.declared.faults.Fault.{Fault}
use Rattle.slint_base.specs.declared.rules.Rule.TheVariants.{FileMissing}
use Rattle.io_edge.specs.Files.{FileList, bytes_named}
use Rattle.command_words.specs.Words.{WordsOf}
use Rattle.import_resolver.specs.declared.ends.LoadEnd.{LoadEnd}
use Rattle.import_resolver.specs.declared.ends.LoadEnd.TheVariants as ends
use Rattle.import_resolver.specs.Loaded.{FileRow}
use Rattle.import_resolver.specs.Loads.{World}
use Rattle.first_evaluator.specs.declared.trees.FirstFile.{FirstFile}
use Rattle.slint_meaning.specs.Verdicts.{accepted, rejected, FilesHave, HasVerdict, IsSound, SourceFault}
use Rattle.slint_cli.specs.Running.{Tells}

-- loaded files have no fault of names, types or purity, or this is the one that is told, unless memory ran out
abbrev pub Checks : List FileRow → Option (List ℕ) → Result (Unit {0}) (End Fault) → Type 0
Checks rows named (Ok done) = IsSound rows named
Checks rows named (Err (checks.Fault f)) = SourceFault rows named f
Checks rows named (Err checks.Memory) = ⊤

-- each file has fewer lines than the number of a line can count
abbrev pub FewLines : List FileRow → Type 0
FewLines rows = (n : ℕ) (row : FileRow) → slice_get rows n ≡ Some row → length row.starts < 2 ^ 32

-- the answer is no refusal for a missing file, and nothing was read
abbrev pub IsNoMiss : LoadEnd → Type 0
IsNoMiss (ends.Refused refusal) = refusal.rule ≡ FileMissing → ⊥
IsNoMiss ends.ReadFault = ⊥
IsNoMiss ends.Memory = ⊤

-- what is answered is the verdict on loaded files, unless memory ran out; nothing was read
abbrev pub Says : List ℕ → Option (List ℕ) → List FileRow → Result FirstFile LoadEnd → Type 0
Says main named rows (Ok file) = FilesHave main named rows (accepted file)
Says main named rows (Err (ends.Refused refusal)) = FilesHave main named rows (rejected refusal)
Says main named rows (Err ends.ReadFault) = ⊥
Says main named rows (Err ends.Memory) = ⊤

-- what is answered is the verdict on the source that the words name, given the files that there are, unless memory ran out or a read failed
abbrev pub JudgesIn : World → WordsOf → Result FirstFile LoadEnd → Type 0
JudgesIn w words (Ok file) = HasVerdict w words.file words.component (accepted file)
JudgesIn w words (Err (ends.Refused refusal)) = HasVerdict w words.file words.component (rejected refusal)
JudgesIn w words (Err ends.ReadFault) = ⊤
JudgesIn w words (Err ends.Memory) = ⊤

-- the same of some files, those that are told
abbrev pub Judges : Option FileList → WordsOf → Result FirstFile LoadEnd → Type 0
Judges held words result = (files : FileList) × Tells held files × JudgesIn (bytes_named files) words result
