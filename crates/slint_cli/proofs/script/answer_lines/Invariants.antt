use Rattle.std.proofs.Common.{◌≡◌, length}
use Rattle.script_lines.specs.Lines.{lines_of}
use Rattle.slint_meaning.specs.Runs.{Outcome, behind, run_lines}
use Rattle.first_evaluator.specs.Values.{World}
use Rattle.first_evaluator.specs.Live.{Shows}
use Rattle.slint_cli.proofs.script.answer_lines.Given as goal

-- what is written and what the rest comes to is what all lines come to, whatever follows them
abbrev pub invariant-loop-rest : goal.invariant-loop-rest
invariant-loop-rest l = record {
  same_file : l.evaluator.file ≡ l.initial.evaluator.file;
  goes_on : (world : World) (end : Outcome) → Shows l.initial.evaluator world → (now : World) × Shows l.evaluator now
      × (behind l.initial.out.items (run_lines l.initial.evaluator.file world (lines_of l.text) end) ≡ behind l.out.items (run_lines l.initial.evaluator.file now (lines_of l.rest) end));
}

abbrev pub decreases-loop-rest : goal.decreases-loop-rest
decreases-loop-rest l = length l.rest
