use Rattle.std.proofs.Common.{◌≡◌, ◌≤◌, drop}
use Rattle.source_lines.specs.Starts.{last_upto as last_of}
use Rattle.source_lines.proofs.lines.last_upto.Given as goal

-- the start found so far, and the starts that are left, give the same
abbrev pub invariant-loop-start : goal.invariant-loop-start
invariant-loop-start l = (last_of 0 l.starts l.at ≡ last_of l.found (drop l.start-index l.starts) l.at) × (l.found ≤ l.at)
