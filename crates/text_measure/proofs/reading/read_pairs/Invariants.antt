use Rattle.std.proofs.Common.{◌≡◌, length}
use Rattle.text_measure.specs.Reading.{lines_in, pairs_from}
use Rattle.text_measure.proofs.Turns.{IsRead}
use Rattle.text_measure.proofs.reading.read_pairs.Given as goal

-- the pairs so far, and where the next line begins
abbrev pub invariant-loop-line : goal.invariant-loop-line
invariant-loop-line l = record {
  read : IsRead (pairs_from l.fn.lines.at 0 (lines_in l.fn.lines.cut l.fn.lines.bytes.now)) l.at (lines_in l.lines.cut l.lines.bytes.now) l.table.pairs;
  at : l.at ≡ l.lines.at;
  line : l.table.line ≡ l.height;
  default : l.table.default ≡ l.default;
}

-- the bytes that are left
abbrev pub decreases-loop-line : goal.decreases-loop-line
decreases-loop-line l = length l.lines.bytes.now
