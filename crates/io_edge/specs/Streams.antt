-- What reads of a source and writes to a sink do to the bytes that are told, and to the counts of failures.
use Rattle.std.specs.Prelude.{◌≡◌, ℕ, ◌<◌, List, take, Option, Result, Ok, Err}
use Rattle.std.specs.Io.KnownBytes.{Appends, IsAtEnd}
use Rattle.io_edge.specs.declared.byte_source.Failed.{Failed as SourceFailed}
use Rattle.io_edge.specs.declared.byte_sink.SinkEnd.{SinkEnd}
use Rattle.io_edge.specs.declared.byte_sink.SinkEnd.TheVariants.{Failed, Memory}
use Rattle.io_edge.specs.Counts.{Rose}

-- what is behind a stream: its bytes, where the reader or writer tells them, and how many calls failed
pub record Carried : Type 0 where
  pub bytes : Option (List ℕ)
  pub faults : ℕ

-- a read gave n bytes with room for some: none only where no byte is left
abbrev pub EndsOnly : ℕ → ℕ → Option (List ℕ) → Type 0
EndsOnly n room left = n ≡ 0 → 0 < room → IsAtEnd left

-- a failed read is counted, and no other
abbrev pub SourceCount : Result ℕ SourceFailed → ℕ → ℕ → Type 0
SourceCount (Ok _) before now = now ≡ before
SourceCount (Err _) before now = Rose before now

-- what a write that ended so does to the count
abbrev pub SinkEndCount : SinkEnd → ℕ → ℕ → Type 0
SinkEndCount Failed before now = Rose before now
SinkEndCount Memory before now = now ≡ before

-- a failed write is counted, and so is one that took nothing of some bytes; no other is
abbrev pub SinkCount : Result ℕ SinkEnd → ℕ → ℕ → ℕ → Type 0
SinkCount (Ok n) len before now = (n ≡ 0 → 0 < len → Rose before now) × (0 < n → now ≡ before) × (len ≡ 0 → now ≡ before)
SinkCount (Err e) len before now = SinkEndCount e before now

-- what was taken grew by a front of these bytes
abbrev pub TakesFront : Option (List ℕ) → Option (List ℕ) → List ℕ → Type 0
TakesFront old new whole = (n : ℕ) × Appends old new (take n whole)
