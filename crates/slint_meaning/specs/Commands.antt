-- What each line of a script answers, and the world after it.
use Rattle.std.specs.Prelude.{ℕ, ℤ, List, [], ◌∷◌, ◌++◌, ◌&&◌, is_none, if◌then◌else◌, codes, Option, None, Some, Result, Ok, Err}
use Rattle.std.specs.Fmt.{decimal, signed_decimal}
use Rattle.std.specs.Str.{bytes_eq}
use Rattle.first_evaluator.specs.declared.trees.FirstFile.{FirstFile}
use Rattle.script_lines.specs.declared.commands.PathStep.{PathStep}
use Rattle.script_lines.specs.declared.commands.Command.{Command}
use Rattle.script_lines.specs.declared.commands.Command.TheVariants.{Get, Set}
use Rattle.script_lines.specs.declared.commands.BadLine.{BadLine}
use Rattle.script_lines.specs.declared.commands.BadLine.TheVariants as bad
use Rattle.slint_meaning.specs.declared.endings.Ending.{Ending}
use Rattle.slint_meaning.specs.declared.refusals.LineRefusal.{LineRefusal}
use Rattle.slint_meaning.specs.declared.refusals.LineRefusal.TheVariants as refusals
use Rattle.script_lines.specs.Ints.{int_reading}
use Rattle.script_lines.specs.Lines.{line_reading}
use Rattle.slint_meaning.specs.Refusals.{refusal_number}
use Rattle.first_evaluator.specs.Bindings.{has_name, names_of}
use Rattle.first_evaluator.specs.Values.{World, assign, property_value}

-- what a line does: it answers these bytes, and the run goes on in a world or halts
pub data Turn : Type 0 where
  goes_on : List ℕ → World → Turn
  halts : List ℕ → Ending → Turn

-- a written line
abbrev pub written : List ℕ → List ℕ
written text = text ++ 10 ∷ []

-- the reply of a refused line
abbrev pub refusal_reply : LineRefusal → List ℕ
refusal_reply why = written (codes "refused " ++ decimal (refusal_number why))

-- the reply of an assignment
abbrev pub ok_reply : List ℕ
ok_reply = written (codes "ok")

-- the reply that tells a value
abbrev pub value_reply : ℤ → List ℕ
value_reply value = written (signed_decimal value)

-- a refused line changes nothing
abbrev pub refuses : World → LineRefusal → Turn
refuses world why = goes_on (refusal_reply why) world

-- what a path leads to
pub data Target : Type 0 where
  nothing : Target
  root : Target
  property : List ℕ → Target

-- the path `root.NAME` leads to a property of the component, `root` to the component, and every other path to nothing
abbrev pub target_of : FirstFile → List PathStep → Target
target_of file [] = nothing
target_of file (first ∷ []) = if bytes_eq first.name (codes "root") then root else nothing
target_of file (first ∷ second ∷ []) =
    if bytes_eq first.name (codes "root") && (is_none second.row && has_name (names_of file.props) second.name) then property second.name else nothing
target_of file (first ∷ second ∷ third ∷ others) = nothing

-- `get`: the value, evaluated afresh
abbrev pub does_get : FirstFile → World → Target → Turn
does_get file world nothing = refuses world refusals.UnknownPath
does_get file world root = refuses world refusals.WrongKind
does_get file world (property name) = goes_on (value_reply (property_value file world name)) world

-- an assignment of a property, where the value could be read
abbrev pub does_assign : World → List ℕ → Option ℤ → Turn
does_assign world name None = refuses world refusals.BadValue
does_assign world name (Some value) = goes_on ok_reply (assign world name value)

-- `set`
abbrev pub does_set : World → Target → List ℕ → Turn
does_set world nothing text = refuses world refusals.UnknownPath
does_set world root text = refuses world refusals.WrongKind
does_set world (property name) text = does_assign world name (int_reading text)

-- a command
abbrev pub does_command : FirstFile → World → Command → Turn
does_command file world (Get path) = does_get file world (target_of file path)
does_command file world (Set path text) = does_set world (target_of file path) text

-- what was read in a line
abbrev pub does_reading : FirstFile → World → Result (Option Command) BadLine → Turn
does_reading file world (Ok None) = goes_on [] world
does_reading file world (Ok (Some command)) = does_command file world command
does_reading file world (Err bad.TooLong) = refuses world refusals.LineTooLong
does_reading file world (Err bad.Unread) = refuses world refusals.BadLine

-- a line
abbrev pub does_line : FirstFile → World → List ℕ → Turn
does_line file world line = does_reading file world (line_reading line)
