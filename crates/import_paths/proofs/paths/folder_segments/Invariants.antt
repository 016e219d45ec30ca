use Rattle.std.proofs.Common.{◌≡◌, map}
use Rattle.import_paths.proofs.paths.folder_segments.Given as goal

-- the segments so far
abbrev pub invariant-loop-segment : goal.invariant-loop-segment
invariant-loop-segment l = l.folder ≡ map (λ segment. segment.now) l.yielded
