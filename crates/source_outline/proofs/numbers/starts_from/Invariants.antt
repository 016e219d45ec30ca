use Rattle.std.proofs.Common.{◌≡◌, ◌++◌, drop}
use Rattle.source_outline.specs.Following.{starts_from}
use Rattle.source_outline.proofs.numbers.starts_from.Given as goal

-- the starts so far and those that are left
abbrev pub invariant-loop-size : goal.invariant-loop-size
invariant-loop-size l = l.starts ++ starts_from l.start (drop l.size-index l.sizes) ≡ starts_from 0 l.sizes
