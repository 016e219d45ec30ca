use Rattle.std.proofs.Common.{◌≡◌, ap, subst, ◌∙◌, length, rules}
use Rattle.first_evaluator.specs.declared.trees.FirstFile.{FirstFile}
use Rattle.slint_meaning.specs.Commands.{does_line}
use Rattle.script_lines.specs.Lines.{lines_of}
use Rattle.slint_meaning.specs.Runs.{behind, run_lines}
use Rattle.slint_cli.specs.Turns.{Answers}
use Rattle.slint_cli.proofs.LineRuns.{lines_of-none, run_lines-answered}
use Rattle.slint_cli.proofs.script.answer_lines.Goals as goal

pub loop-rest-preserved : goal.loop-rest-preserved
loop-rest-preserved c =
    let file = c.args.evaluator.now.file in
    record {
      same_file = c.answer_line.ensures.same ∙ c.loop-rest.invariant.same_file;
      goes_on = λ world end shows.
          let before = c.loop-rest.invariant.goes_on world end shows in
          let answered = c.in_ok-answer_line.ensures.answered before.0 before.1 in
          let P : FirstFile → Type 0 = λ f. Answers (does_line f before.0 c.cut_line.result.0.now) c.loop-rest.out.items c.answer_line.new.out.items c.answer_line.new.evaluator in
          run_lines-answered file before.0 end _ (lines_of c.loop-rest.rest.now) (lines_of c.cut_line.result.1.now) c.cut_line.result.0.now c.loop-rest.out.items c.answer_line.new.out.items
          c.answer_line.new.evaluator before.2 c.cut_line.ensures.lines (subst P c.loop-rest.invariant.same_file answered);
    }

pub returns : goal.returns
returns c = λ world end shows.
    let before = c.loop-rest.invariant.goes_on world end shows in
    let none : length c.loop-rest.rest.now ≡ 0 = search rules in
    before.2 ∙ ap (λ lines. behind c.loop-rest.out.items (run_lines c.args.evaluator.now.file before.0 lines end)) (lines_of-none c.loop-rest.rest.now none)
