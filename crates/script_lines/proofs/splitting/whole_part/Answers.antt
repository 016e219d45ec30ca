use Rattle.std.proofs.Common.{◌≡◌, ◌+◌, ◌-◌, ap, sym, ◌∙◌, take, arith}
use Rattle.script_lines.specs.Lines.{lines_of, whole_lines}
use Rattle.script_lines.proofs.LineCuts.{whole_lines-take, lines_of-take}
use Rattle.script_lines.proofs.splitting.whole_part.Goals as goal
use Rattle.script_lines.proofs.splitting.whole_part.Goals.{then-loop-end-test+else-text-end-ne10, else-loop-end-test}

pub loop-end-preserved : goal.loop-end-preserved
loop-end-preserved c =
    let text = c.args.text.now in
    let last : c.loop-end.end ≡ (c.loop-end.end - 1) + 1 = omega arith in
    (omega arith, c.loop-end.invariant.1 ∙ ap (λ n. whole_lines (take n text)) last ∙ whole_lines-take text (c.loop-end.end - 1) (omega arith) c.if-text-end-ne10.true)

pub returns : goal.returns
returns c =
    let text = c.args.text.now in
    elim c.loop-end-test.branch [
      | then-loop-end-test+else-text-end-ne10 w ↦
          let last : c.loop-end.end ≡ (c.loop-end.end - 1) + 1 = omega (arith, w.loop-end-test.true) in
          ap (λ n. lines_of (take n text)) last ∙ lines_of-take text (c.loop-end.end - 1) (omega (arith, w.loop-end-test.true)) w.if-text-end-ne10.false
          ∙ ap (λ n. whole_lines (take n text)) (sym last) ∙ sym c.loop-end.invariant.1
      | else-loop-end-test w ↦
          let none : c.loop-end.end ≡ 0 = omega (arith, w.loop-end-test.false) in
          ap (λ n. lines_of (take n text)) none ∙ ap (λ n. whole_lines (take n text)) (sym none) ∙ sym c.loop-end.invariant.1
    ]
