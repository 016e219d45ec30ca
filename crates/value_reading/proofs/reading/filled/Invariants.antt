use Rattle.std.proofs.Common.{◌≡◌, take}
use Rattle.value_reading.specs.Words.{filled}
use Rattle.value_reading.proofs.reading.filled.Given as goal

-- the fields so far
abbrev pub invariant-loop-field : goal.invariant-loop-field
invariant-loop-field l = l.made ≡ filled (take l.field-index l.fields) l.found
