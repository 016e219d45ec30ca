use Rattle.std.proofs.Common.{ℕ, List, ◌∷◌, sym, ap, ◌∙◌}
use Rattle.text_measure.specs.Reading.{lines_in}
use Rattle.text_measure.proofs.FrontLines.{lines_last, lines_cut, lines_none, none_there, some_there, behind}
use Rattle.text_measure.proofs.lines.first_line.Goals as goal
use Rattle.text_measure.proofs.lines.first_line.Goals.{then-cut-via-then-cut, then-cut-via-else-cut+then-is_empty}

pub returns-in-Some-clause-lines : goal.returns-in-Some-clause-lines
returns-in-Some-clause-lines c =
    behind c.args.cut c.args.bytes.now c.in-Some.end c.split_at.result.0.now c.split_at-in-Some.result.1.now (sym c.in-Some.ensures) c.split_at.ensures.front c.split_at-in-Some.ensures.back

pub returns-then-cut-clause-lines : goal.returns-then-cut-clause-lines
returns-then-cut-clause-lines c =
    elim c.then-cut.branch [
      | then-cut-via-then-cut w ↦ lines_cut c.args.cut c.args.bytes.now (sym c.in-None.ensures) w.if-cut.true
      | then-cut-via-else-cut+then-is_empty w ↦ lines_none c.args.cut c.args.bytes.now (none_there c.args.bytes.now w.is_empty.result w.is_empty.ensures w.if-is_empty.true)
    ]

pub returns-else-is_empty-clause-lines : goal.returns-else-is_empty-clause-lines
returns-else-is_empty-clause-lines c =
    lines_last c.args.cut c.args.bytes.now (sym c.in-None.ensures) c.if-cut.false (some_there c.args.bytes.now c.is_empty.result c.is_empty.ensures c.if-is_empty.false)
    ∙ ap (λ (rest : List ℕ). c.args.bytes.now ∷ lines_in c.args.cut rest) (sym c.split_at-in-None.ensures.back)
