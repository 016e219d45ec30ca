use Rattle.std.proofs.Common.{◌≡◌, take}
use Rattle.source_lines.specs.Starts.{line_starts as starts_of}
use Rattle.source_lines.proofs.lines.line_starts.Given as goal

-- the starts in the bytes so far
abbrev pub invariant-loop-at : goal.invariant-loop-at
invariant-loop-at l = l.starts.items ≡ starts_of (take l.at l.bytes)
