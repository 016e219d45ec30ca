use Rattle.std.proofs.Common.{◌-◌, length, string_bytes}
use Rattle.slint_literals.proofs.Runs.{Read}
use Rattle.slint_literals.proofs.strings.text_run.Given as goal

-- the bytes before this place spell the text so far
abbrev pub invariant-loop-text : goal.invariant-loop-text
invariant-loop-text l = Read l.bytes (string_bytes l.text) l.at

abbrev pub decreases-loop-text : goal.decreases-loop-text
decreases-loop-text l = length l.bytes - l.at
