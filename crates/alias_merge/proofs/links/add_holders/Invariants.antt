use Rattle.std.proofs.Common.{◌≡◌, ◌++◌, take}
use Rattle.std.specs.List.{flat_map}
use Rattle.alias_merge.specs.Links.{links_at}
use Rattle.alias_merge.proofs.links.add_holders.Given as goal

-- what there is so far
abbrev pub invariant-loop-holder : goal.invariant-loop-holder
invariant-loop-holder l = l.found ≡ l.initial.found ++ flat_map (links_at l.expanded l.numbers) (take l.holder-index l.holders)
