use Rattle.std.proofs.Common.{◌≡◌, ◌++◌, string_bytes, take}
use Rattle.std.specs.List.{join_with_byte}
use Rattle.import_paths.proofs.paths.joined.Given as goal

-- the root and the segments so far
abbrev pub invariant-loop-index : goal.invariant-loop-index
invariant-loop-index l = string_bytes l.name ≡ l.root ++ join_with_byte 47 (take l.index l.segment-items)
