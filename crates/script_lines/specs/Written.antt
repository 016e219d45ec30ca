-- How a path is written out, and which paths can be.
use Rattle.std.specs.Prelude.{◌≡◌, ℕ, ◌<◌, ◌^◌, List, [], ◌∷◌, ◌++◌, map, IsTrue, Option, None, Some, IfSome}
use Rattle.std.specs.List.{All, join_with_byte}
use Rattle.std.specs.Fmt.{decimal}
use Rattle.std.specs.Str.{IsUtf8}
use Rattle.slint_base.specs.Names.{normal_name}
use Rattle.script_lines.specs.declared.commands.PathStep.{PathStep}
use Rattle.script_lines.specs.Paths.{is_path_name}

-- the text has no line feed
abbrev pub HasNoFeed : List ℕ → Type 0
HasNoFeed text = All (λ b. b ≡ 10 → ⊥) text

-- a row number in brackets, where there is one
abbrev pub row_text : Option ℕ → List ℕ
row_text None = []
row_text (Some row) = 91 ∷ (decimal row ++ 93 ∷ [])

-- a step: its name, and its row number
abbrev pub step_text : PathStep → List ℕ
step_text step = step.name ++ row_text step.row

-- a path: its steps with a point between each two
abbrev pub path_text : List PathStep → List ℕ
path_text steps = join_with_byte 46 (map step_text steps)

-- a step that can be written: its name is a name of the language as names are compared, and its row number has at most nine digits
pub record IsStep (step : PathStep) : Type 0 where
  pub text : IsUtf8 step.name
  pub name : IsTrue (is_path_name step.name)
  pub normal : normal_name step.name ≡ step.name
  pub row : IfSome step.row (λ row. row < 10 ^ 9)

-- a path that can be written: a name alone, and then steps
pub record IsPath (first : PathStep) (others : List PathStep) : Type 0 where
  pub starts : IsStep first
  pub alone : first.row ≡ None
  pub follow : All IsStep others
