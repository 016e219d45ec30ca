use Rattle.std.proofs.Common.{◌≡◌, ◌++◌, drop, map}
use Rattle.std.specs.Option.{option_copied}
use Rattle.source_outline.specs.Members.{element_links}
use Rattle.source_outline.proofs.links.element_links.Given as goal

-- the links so far and those of the elements that are left
abbrev pub invariant-loop-one : goal.invariant-loop-one
invariant-loop-one l = map option_copied l.made ++ element_links (drop l.one-index l.written) ≡ element_links l.written
