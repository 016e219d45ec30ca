-- What the laws speak of: the answers of lines, the world after them, and lines that assign or ask for a property.
use Rattle.std.specs.Prelude.{◌≡◌, ℕ, ℤ, List, [], ◌∷◌, ◌++◌, Some, Ok}
use Rattle.first_evaluator.specs.declared.trees.FirstFile.{FirstFile}
use Rattle.script_lines.specs.declared.commands.PathStep.{PathStep}
use Rattle.script_lines.specs.declared.commands.Command.TheVariants.{Get, Set}
use Rattle.script_lines.specs.Ints.{int_reading}
use Rattle.slint_meaning.specs.Commands.{Turn, goes_on, halts, does_line, property, target_of}
use Rattle.script_lines.specs.Lines.{line_reading}
use Rattle.first_evaluator.specs.Values.{World}

-- what a turn answers
abbrev pub turn_answer : Turn → List ℕ
turn_answer (goes_on answer world) = answer
turn_answer (halts answer end) = answer

-- the world after a turn in this world; one that halts leaves it
abbrev pub turn_world : World → Turn → World
turn_world world (goes_on answer next) = next
turn_world world (halts answer end) = world

-- what a line answers in a world
abbrev pub answer_of : FirstFile → World → List ℕ → List ℕ
answer_of file world line = turn_answer (does_line file world line)

-- the world after lines in order
abbrev pub world_after : FirstFile → World → List (List ℕ) → World
world_after file world [] = world
world_after file world (line ∷ lines) = world_after file (turn_world world (does_line file world line)) lines

-- what lines answer in order, one answer after the other
abbrev pub answers : FirstFile → World → List (List ℕ) → List ℕ
answers file world [] = []
answers file world (line ∷ lines) = answer_of file world line ++ answers file (turn_world world (does_line file world line)) lines

-- the line assigns this value to the property of this name
pub record Sets (file : FirstFile) (line name : List ℕ) (value : ℤ) : Type 0 where
  pub path : List PathStep
  pub text : List ℕ
  pub reads : line_reading line ≡ Ok (Some (Set path text))
  pub leads : target_of file path ≡ property name
  pub means : int_reading text ≡ Some value

-- the line asks for the value of the property of this name
pub record Gets (file : FirstFile) (line name : List ℕ) : Type 0 where
  pub path : List PathStep
  pub reads : line_reading line ≡ Ok (Some (Get path))
  pub leads : target_of file path ≡ property name

-- no value is assigned to the property of this name by the line
abbrev pub SetsNot : FirstFile → List ℕ → List ℕ → Type 0
SetsNot file name line = (value : ℤ) → Sets file line name value → ⊥
