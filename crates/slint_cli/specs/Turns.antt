-- What a line left behind, as the turn that the definitions give.
use Rattle.std.specs.Prelude.{◌≡◌, ℕ, List, ◌++◌, Some, slice_get}
use Rattle.first_evaluator.specs.declared.trees.FirstFile.{FirstFile}
use Rattle.slint_meaning.specs.Commands.{Turn, goes_on, halts, Target, nothing, root, property}
use Rattle.first_evaluator.specs.Bindings.{names_of}
use Rattle.first_evaluator.specs.Live.{Live, Shows}
use Rattle.slint_cli.specs.declared.answers.Target.{Target as Found}
use Rattle.slint_cli.specs.declared.answers.Target.TheVariants.{Nothing, Root, Property}

-- what a line answered and left is that turn: its bytes at the end of what is written, and its world
abbrev pub Answers : Turn → List ℕ → List ℕ → Live → Type 0
Answers (goes_on answer next) written now live = (now ≡ written ++ answer) × Shows live next
Answers (halts answer end) written now live = ⊥

-- the code's target stands for the definition's: a property by its place
abbrev pub LeadsTo : FirstFile → Found → Target → Type 0
LeadsTo file Nothing target = target ≡ nothing
LeadsTo file Root target = target ≡ root
LeadsTo file (Property place) target = (name : List ℕ) × (target ≡ property name) × (slice_get (names_of file.props) place ≡ Some name)
