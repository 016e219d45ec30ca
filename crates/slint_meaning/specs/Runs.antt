-- What a whole run writes and how it ends: a function of its words, the files and the script.
use Rattle.std.specs.Prelude.{◌≡◌, ℕ, List, [], ◌∷◌, ◌++◌, take, length, nat_le, if◌then◌else◌, codes, Option, None, Some}
use Rattle.slint_base.specs.Refusals.{refusal_line}
use Rattle.io_edge.specs.Files.{FileList, bytes_named}
use Rattle.command_words.specs.Words.{WordsOf, words_of}
use Rattle.first_evaluator.specs.declared.trees.FirstFile.{FirstFile}
use Rattle.first_evaluator.specs.Values.{World, opening_world}
use Rattle.slint_meaning.specs.declared.endings.Ending.{Ending}
use Rattle.slint_meaning.specs.declared.endings.Ending.TheVariants.{Done, Words, Refused, ScriptLong}
use Rattle.slint_meaning.specs.Verdicts.{Verdict, accepted, rejected, HasVerdict}
use Rattle.slint_meaning.specs.Commands.{Turn, goes_on, halts, written, does_line}
use Rattle.script_lines.specs.Lines.{lines_of, whole_lines}

-- how a run ended by itself, and all that it wrote
pub record Outcome : Type 0 where
  pub end : Ending
  pub bytes : List ℕ

-- the same end, with these bytes before all others
abbrev pub behind : List ℕ → Outcome → Outcome
behind front outcome = record { end = outcome.end; bytes = front ++ outcome.bytes }

-- what comes of a line's turn, where the rest of the run follows from the world
abbrev pub after_turn : Turn → (World → Outcome) → Outcome
after_turn (goes_on answer world) rest = behind answer (rest world)
after_turn (halts answer end) rest = record { end = end; bytes = answer }

-- the lines in order, each in the world that the one before it left, and then the end
abbrev pub run_lines : FirstFile → World → List (List ℕ) → Outcome → Outcome
run_lines file world [] end = end
run_lines file world (line ∷ lines) end = after_turn (does_line file world line) (λ next. run_lines file next lines end)

-- the most bytes of a script
abbrev pub most_script : ℕ
most_script = 16777216

-- the script was read to its end
abbrev pub ended : Outcome
ended = record { end = Done; bytes = [] }

-- the script has a byte too many
abbrev pub cut_off : Outcome
cut_off = record { end = ScriptLong; bytes = written (codes "stopped 8") }

-- all lines of a script; of one that is too long the lines that end within the limit
abbrev pub run_script : FirstFile → List ℕ → Outcome
run_script file script =
    if nat_le (length script) most_script
    then run_lines file opening_world (lines_of script) ended
    else run_lines file opening_world (whole_lines (take most_script script)) cut_off

-- a run whose source has this verdict
abbrev pub run_verdict : Verdict → List ℕ → Outcome
run_verdict (accepted file) script = run_script file script
run_verdict (rejected refusal) script = record { end = Refused; bytes = written (refusal_line refusal) }

-- the words can't be read
abbrev pub unreadable : Outcome
unreadable = record { end = Words; bytes = written (codes "words") }

-- the run of what the words say over files and script
abbrev pub RunsWords : Option WordsOf → FileList → List ℕ → Outcome → Type 0
RunsWords None files script outcome = outcome ≡ unreadable
RunsWords (Some words) files script outcome =
    (verdict : Verdict) × HasVerdict (bytes_named files) words.file words.component verdict × (outcome ≡ run_verdict verdict script)

-- this is the outcome of the words over files and script
abbrev pub Runs : List (List ℕ) → FileList → List ℕ → Outcome → Type 0
Runs ws files script outcome = RunsWords (words_of ws) files script outcome
