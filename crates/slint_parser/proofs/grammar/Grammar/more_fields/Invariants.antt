use Rattle.std.proofs.Common.{length}
use Rattle.slint_parser.proofs.Links.{FieldValuesSoFar}
use Rattle.slint_parser.proofs.grammar.Grammar.more_fields.Given as goal

abbrev pub invariant-fields : goal.invariant-fields
invariant-fields g l = FieldValuesSoFar l.self.depth l.initial.cursor l.cursor l.fn.all l.all

abbrev pub decreases-fields : goal.decreases-fields
decreases-fields g l = length l.cursor
