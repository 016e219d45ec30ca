-- A run goes on by a line.
use Rattle.std.proofs.Common.{◌≡◌, ℕ, List, [], ◌∷◌, ◌++◌, length, refl, sym, ap, ◌∙◌, append_assoc, arith}
use Rattle.script_lines.specs.Lines.{lines_of}
use Rattle.first_evaluator.specs.declared.trees.FirstFile.{FirstFile}
use Rattle.slint_meaning.specs.Commands.{Turn, goes_on, halts, does_line}
use Rattle.slint_meaning.specs.Runs.{Outcome, behind, after_turn, run_lines}
use Rattle.first_evaluator.specs.Values.{World}
use Rattle.first_evaluator.specs.Live.{Live, Shows}
use Rattle.slint_cli.specs.Turns.{Answers}

-- bytes before an outcome, one list after the other
pub behind-append : (front answer : List ℕ) (outcome : Outcome) → behind front (behind answer outcome) ≡ behind (front ++ answer) outcome
behind-append front answer outcome =
    let f : List ℕ → Outcome = λ bs. record { end = outcome.end; bytes = bs } in ap f (sym (append_assoc front answer outcome.bytes))

-- what a turn answered stands behind what was written, and the run goes on from the world that is shown
pub after_turn-answered : (turn : Turn) (rest : World → Outcome) (written now : List ℕ) (live : Live) → Answers turn written now live
    → (next : World) × Shows live next × (behind written (after_turn turn rest) ≡ behind now (rest next))
after_turn-answered (goes_on answer next) rest written now live a =
    (next, a.1, behind-append written answer (rest next) ∙ ap (λ bs. behind bs (rest next)) (sym a.0))
after_turn-answered (halts answer end) rest written now live a = absurd a

-- a line more
pub run_lines-answered : (file : FirstFile) (world : World) (end whole : Outcome) (lines left : List (List ℕ)) (line : List ℕ) (written now : List ℕ) (live : Live)
    → whole ≡ behind written (run_lines file world lines end) → lines ≡ line ∷ left → Answers (does_line file world line) written now live
    → (next : World) × Shows live next × (whole ≡ behind now (run_lines file next left end))
run_lines-answered file world end whole lines left line written now live before cut answered =
    let after = after_turn-answered (does_line file world line) (λ next. run_lines file next left end) written now live answered in
    (after.0, after.1, before ∙ ap (λ ls. behind written (run_lines file world ls end)) cut ∙ after.2)

-- no text has no line
pub lines_of-none : (xs : List ℕ) → length xs ≡ 0 → lines_of xs ≡ []
lines_of-none [] h = refl
lines_of-none (x ∷ xs) h = absurd (omega arith)
