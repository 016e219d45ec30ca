-- What the evaluator holds, and the world that it stands for.
use Rattle.std.specs.Prelude.{◌≡◌, ℤ, List, map, Option}
use Rattle.first_evaluator.specs.declared.trees.FirstFile.{FirstFile}
use Rattle.first_evaluator.specs.Values.{World, assignment}

-- a component's tree, and for each property in the order of the text the value that was assigned last
pub record Live : Type 0 where
  pub file : FirstFile
  pub assigned : List (Option ℤ)

-- it stands for this world: each property has the world's assignment
abbrev pub Shows : Live → World → Type 0
Shows live world = live.assigned ≡ map (λ prop. assignment world prop.name) live.file.props
