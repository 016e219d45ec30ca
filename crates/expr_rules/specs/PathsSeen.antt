-- The paths that the code keeps, as those of the definitions.
use Rattle.expr_rules.specs.declared.paths.Paths.{Paths as Kept}
use Rattle.expr_rules.specs.Paths.{Paths}

abbrev pub seen : Kept → Paths
seen p = record { gives = p.gives; returns = p.returns; bare = p.bare }
