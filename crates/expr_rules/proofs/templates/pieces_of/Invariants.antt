use Rattle.std.proofs.Common.{◌≡◌, ◌++◌, length}
use denote.Shadow.{shadow}
use denote.Text.{Utf8}
use Rattle.expr_rules.specs.Literals.{pieces_of}
use Rattle.expr_rules.proofs.templates.pieces_of.Given as goal

-- the pieces are those so far and those of the rest
abbrev pub invariant-loop-piece : goal.invariant-loop-piece
invariant-loop-piece l = shadow (Utf8 l.rest) × (pieces_of l.text ≡ l.pieces ++ pieces_of l.rest)

abbrev pub decreases-loop-piece : goal.decreases-loop-piece
decreases-loop-piece l = length l.rest
