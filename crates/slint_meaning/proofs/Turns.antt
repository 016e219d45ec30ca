-- How lines follow one another: none halts, and a refused one leaves the world.
use Rattle.std.proofs.Common.{◌≡◌, ℕ, ℤ, List, [], ◌∷◌, ◌++◌, Option, Some, None, Result, Ok, Err, refl, sym, ap, ◌∙◌, append_assoc}
use Rattle.first_evaluator.specs.declared.trees.FirstFile.{FirstFile}
use Rattle.script_lines.specs.declared.commands.Command.{Command}
use Rattle.script_lines.specs.declared.commands.Command.TheVariants.{Get, Set}
use Rattle.script_lines.specs.declared.commands.BadLine.{BadLine}
use Rattle.script_lines.specs.declared.commands.BadLine.TheVariants as bad
use Rattle.slint_meaning.specs.declared.refusals.LineRefusal.{LineRefusal}
use Rattle.script_lines.specs.Ints.{int_reading}
use Rattle.slint_meaning.specs.Commands.{Turn, goes_on, Target, nothing, root, property, target_of, refusal_reply, does_get, does_assign, does_set, does_command, does_reading, does_line}
use Rattle.slint_meaning.specs.Laws.{turn_answer, turn_world, answer_of, world_after, answers}
use Rattle.script_lines.specs.Lines.{line_reading}
use Rattle.slint_meaning.specs.Runs.{Outcome, behind, after_turn, run_lines}
use Rattle.first_evaluator.specs.Values.{World}

-- a turn that goes on
abbrev pub GoesOn : World → Turn → Type 0
GoesOn world turn = turn ≡ goes_on (turn_answer turn) (turn_world world turn)

get_goes : (file : FirstFile) (world : World) (target : Target) → GoesOn world (does_get file world target)
get_goes file world nothing = refl
get_goes file world root = refl
get_goes file world (property name) = refl

assign_goes : (world : World) (name : List ℕ) (value : Option ℤ) → GoesOn world (does_assign world name value)
assign_goes world name None = refl
assign_goes world name (Some value) = refl

set_goes : (world : World) (target : Target) (text : List ℕ) → GoesOn world (does_set world target text)
set_goes world nothing text = refl
set_goes world root text = refl
set_goes world (property name) text = assign_goes world name (int_reading text)

command_goes : (file : FirstFile) (world : World) (command : Command) → GoesOn world (does_command file world command)
command_goes file world (Get path) = get_goes file world (target_of file path)
command_goes file world (Set path text) = set_goes world (target_of file path) text

reading_goes : (file : FirstFile) (world : World) (reading : Result (Option Command) BadLine) → GoesOn world (does_reading file world reading)
reading_goes file world (Ok None) = refl
reading_goes file world (Ok (Some command)) = command_goes file world command
reading_goes file world (Err bad.TooLong) = refl
reading_goes file world (Err bad.Unread) = refl

-- no line halts
pub line_goes : (file : FirstFile) (world : World) (line : List ℕ) → GoesOn world (does_line file world line)
line_goes file world line = reading_goes file world (line_reading line)

-- a turn that refuses leaves the world
abbrev pub Leaves : World → Turn → Type 0
Leaves world turn = (why : LineRefusal) → turn_answer turn ≡ refusal_reply why → turn_world world turn ≡ world

get_leaves : (file : FirstFile) (world : World) (target : Target) → Leaves world (does_get file world target)
get_leaves file world nothing why e = refl
get_leaves file world root why e = refl
get_leaves file world (property name) why e = refl

assign_leaves : (world : World) (name : List ℕ) (value : Option ℤ) → Leaves world (does_assign world name value)
assign_leaves world name None why e = refl
assign_leaves world name (Some value) why e = cc

set_leaves : (world : World) (target : Target) (text : List ℕ) → Leaves world (does_set world target text)
set_leaves world nothing text why e = refl
set_leaves world root text why e = refl
set_leaves world (property name) text why e = assign_leaves world name (int_reading text) why e

command_leaves : (file : FirstFile) (world : World) (command : Command) → Leaves world (does_command file world command)
command_leaves file world (Get path) why e = get_leaves file world (target_of file path) why e
command_leaves file world (Set path text) why e = set_leaves world (target_of file path) text why e

reading_leaves : (file : FirstFile) (world : World) (reading : Result (Option Command) BadLine) → Leaves world (does_reading file world reading)
reading_leaves file world (Ok None) why e = refl
reading_leaves file world (Ok (Some command)) why e = command_leaves file world command why e
reading_leaves file world (Err bad.TooLong) why e = refl
reading_leaves file world (Err bad.Unread) why e = refl

-- a refused line leaves the world
pub line_leaves : (file : FirstFile) (world : World) (line : List ℕ) → Leaves world (does_line file world line)
line_leaves file world line why e = reading_leaves file world (line_reading line) why e

-- bytes before bytes before an outcome
behind-append : (a b : List ℕ) (outcome : Outcome) → behind (a ++ b) outcome ≡ behind a (behind b outcome)
behind-append a b outcome = ap (λ (bs : List ℕ). record { end = outcome.end; bytes = bs }) (append_assoc a b outcome.bytes)

-- a line and the lines behind it
run_lines-cons : (file : FirstFile) (world : World) (line : List ℕ) (lines : List (List ℕ)) (end : Outcome)
    → run_lines file world (line ∷ lines) end ≡ behind (answer_of file world line) (run_lines file (turn_world world (does_line file world line)) lines end)
run_lines-cons file world line lines end = ap (λ turn. after_turn turn (λ next. run_lines file next lines end)) (line_goes file world line)

-- lines before lines
pub run_lines-append : (file : FirstFile) (world : World) (before after : List (List ℕ)) (end : Outcome)
    → run_lines file world (before ++ after) end ≡ behind (answers file world before) (run_lines file (world_after file world before) after end)
run_lines-append file world [] after end = refl
run_lines-append file world (line ∷ lines) after end =
    let next = turn_world world (does_line file world line) in
    run_lines-cons file world line (lines ++ after) end
    ∙ ap (λ outcome. behind (answer_of file world line) outcome) (run_lines-append file next lines after end)
    ∙ sym (behind-append (answer_of file world line) (answers file next lines) (run_lines file (world_after file next lines) after end))

-- a refused line leaves every other reply as it would be without that line
pub without_refused : (file : FirstFile) (world : World) (before after : List (List ℕ)) (line : List ℕ) (why : LineRefusal) (end : Outcome) → answer_of file (world_after file world before) line ≡ refusal_reply why
    → (later : Outcome) × (run_lines file world (before ++ line ∷ after) end ≡ behind (answers file world before ++ refusal_reply why) later)
    × (run_lines file world (before ++ after) end ≡ behind (answers file world before) later)
without_refused file world before after line why end refused =
    let here = world_after file world before in
    let later = run_lines file here after end in
    let same = line_leaves file here line why refused in
    let refusal : run_lines file here (line ∷ after) end ≡ behind (refusal_reply why) later =
    run_lines-cons file here line after end
    ∙ ap (λ next. behind (answer_of file here line) (run_lines file next after end)) same
    ∙ ap (λ answer. behind answer later) refused in (
      later,
      run_lines-append file world before (line ∷ after) end
          ∙ ap (λ outcome. behind (answers file world before) outcome) refusal
          ∙ sym (behind-append (answers file world before) (refusal_reply why) later),
      run_lines-append file world before after end,
    )
