use Rattle.std.proofs.Common.{◌≡◌, map, take}
use Rattle.alias_merge.specs.Homes.{home_of}
use Rattle.alias_merge.proofs.homes.homes_in.Given as goal

-- what there is so far
abbrev pub invariant-loop-seat : goal.invariant-loop-seat
invariant-loop-seat l = l.homes ≡ map home_of (take l.seat-index l.seats)
