use Rattle.std.proofs.Common.{◌≡◌, ◌≤◌, length, take}
use Rattle.script_lines.specs.Lines.{whole_lines}
use Rattle.script_lines.proofs.splitting.whole_part.Given as goal

-- what was left out ends no line
abbrev pub invariant-loop-end : goal.invariant-loop-end
invariant-loop-end l = (l.end ≤ length l.text) × (whole_lines l.text ≡ whole_lines (take l.end l.text))

abbrev pub decreases-loop-end : goal.decreases-loop-end
decreases-loop-end l = l.end
