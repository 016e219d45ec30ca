-- How many cells a net has.
use Rattle.std.specs.Prelude.{ℕ}
use Rattle.cells_bench.specs.declared.shapes.Shape.{Shape}
use Rattle.cells_bench.specs.declared.shapes.Shape.TheVariants.{Chain, Fan, Grid}

abbrev pub count_of : Shape → ℕ
count_of Chain = 1000
count_of Fan = 1001
count_of Grid = 10000
