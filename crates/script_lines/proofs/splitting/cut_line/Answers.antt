use Rattle.std.proofs.Common.{◌+◌, length, arith, add-one}
use Rattle.std.proofs.Math.Seq.{drop-length}
use Rattle.script_lines.proofs.LineCuts.{lines_of-first, lines_of-last, rest_from}
use Rattle.script_lines.proofs.splitting.cut_line.Goals as goal

pub returns-then-b-eq10-clause-lines : goal.returns-then-b-eq10-clause-lines
returns-then-b-eq10-clause-lines c =
    let text = c.args.text.now in let i = c.loop-i.i in
    rw (rest_from text (i + 1)) (rw add-one (lines_of-first text i (omega arith) c.if-b-eq10.true c.loop-i.invariant))

pub returns-clause-lines : goal.returns-clause-lines
returns-clause-lines c =
    let text = c.args.text.now in
    rw (rest_from text (length text)) (rw (drop-length text) (lines_of-last text c.requires (λ k within. c.loop-i.invariant k (omega arith))))
