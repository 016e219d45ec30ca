-- What it does to the counts of failures, and to what was taken, to write all or to read up to a limit.
use Rattle.std.specs.Prelude.{◌≡◌, ℕ, List, ◌++◌, length, Option, Result, Ok, Err}
use Rattle.std.specs.Io.KnownBytes.{Consumes}
use Rattle.io_edge.specs.declared.byte_sink.SinkEnd.{SinkEnd}
use Rattle.io_edge.specs.declared.whole.SourceEnd.{SourceEnd}
use Rattle.io_edge.specs.declared.whole.SourceEnd.TheVariants.{Failed, Memory}
use Rattle.io_edge.specs.Counts.{Rose}
use Rattle.io_edge.specs.Streams.{SinkEndCount}

-- the count rises only where writing failed
abbrev pub WriteCount : {T : Type 0} → Result T SinkEnd → ℕ → ℕ → Type 0
WriteCount (Ok _) before now = now ≡ before
WriteCount (Err e) before now = SinkEndCount e before now

-- the count rises only where a read failed
abbrev pub TakeCount : {T : Type 0} → Result T SourceEnd → ℕ → ℕ → Type 0
TakeCount (Ok _) before now = now ≡ before
TakeCount (Err Failed) before now = Rose before now
TakeCount (Err Memory) before now = now ≡ before

-- n bytes went from a source to the end of what is taken
abbrev pub TakesPiece : Option (List ℕ) → Option (List ℕ) → List ℕ → List ℕ → ℕ → Type 0
TakesPiece left left_now taken taken_now n =
    (bs : List ℕ) × (taken_now ≡ taken ++ bs) × (length bs ≡ n) × Consumes left left_now bs
