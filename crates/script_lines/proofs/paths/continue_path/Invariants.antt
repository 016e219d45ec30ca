use Rattle.std.proofs.Common.{◌≡◌, map, Some}
use Rattle.script_lines.proofs.Following.{longer}
use Rattle.script_lines.proofs.paths.continue_path.Given as goal

-- the path so far is the first path and the steps of the parts so far
abbrev pub invariant-loop-part : goal.invariant-loop-part
invariant-loop-part l = longer l.initial.path (map (λ part. part.now) l.yielded) ≡ Some l.path
