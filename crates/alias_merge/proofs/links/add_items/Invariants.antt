use Rattle.std.proofs.Common.{◌≡◌, ◌++◌, take}
use Rattle.std.specs.List.{flat_map}
use Rattle.alias_merge.specs.Links.{link_of}
use Rattle.alias_merge.proofs.links.add_items.Given as goal

-- what there is so far
abbrev pub invariant-loop-item : goal.invariant-loop-item
invariant-loop-item l = l.found ≡ l.initial.found ++ flat_map (link_of l.expanded l.numbers l.body) (take l.item-index l.items)
