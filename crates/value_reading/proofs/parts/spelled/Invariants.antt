use Rattle.std.proofs.Common.{◌≡◌, ◌++◌, map, take}
use Rattle.slint_base.specs.Names.{dashed}
use Rattle.value_reading.proofs.parts.spelled.Given as goal

-- the first byte, and the bytes so far as they count
abbrev pub invariant-loop-byte : goal.invariant-loop-byte
invariant-loop-byte l = l.made.items ≡ l.initial.made.items ++ map dashed (take l.byte-index l.others)
