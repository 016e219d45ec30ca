use Rattle.std.proofs.Common.{◌≡◌, ◌++◌, drop, map}
use Rattle.std.specs.Option.{option_copied}
use Rattle.source_outline.specs.Members.{body_links}
use Rattle.source_outline.proofs.links.push_links.Given as goal

-- the links so far and those of the items that are left
abbrev pub invariant-loop-item : goal.invariant-loop-item
invariant-loop-item l = map option_copied l.out ++ body_links (drop l.item-index l.items) ≡ map option_copied l.initial.out ++ body_links l.items
