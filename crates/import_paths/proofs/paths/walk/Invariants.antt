use Rattle.std.proofs.Common.{◌≡◌, map, Some}
use Rattle.import_paths.specs.Paths.{walk as walk_of}
use Rattle.import_paths.proofs.paths.walk.Given as goal

-- the folder so far is where the segments so far lead
abbrev pub invariant-loop-segment : goal.invariant-loop-segment
invariant-loop-segment l = walk_of l.initial.folder (map (λ segment. segment.now) l.yielded) ≡ Some l.folder
