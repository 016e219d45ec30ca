use Rattle.std.proofs.Common.{◌-◌}
use Rattle.slint_parser.proofs.grammar.+nested.Given as goal

abbrev pub decreases-nested : goal.decreases-nested
decreases-nested l = 102 - l.depth
