-- Walks of steps.
use Rattle.std.specs.Prelude.{◌≡◌, Option, Some}

-- a walk from x to y, each step as the function says
pub data Steps {X : Type 0} (step : X → Option X) : X → X → Type 0 where
  still : (x : X) → Steps step x x
  onward : (x y z : X) → step x ≡ Some y → Steps step y z → Steps step x z
