use Rattle.std.proofs.Common.{◌≡◌, take, None}
use Rattle.file_exports.specs.Roots.{first_place, is_component_named}
use Rattle.file_exports.proofs.roots.place_named.Given as goal

-- no item so far is a component of that name
abbrev pub invariant-loop-place : goal.invariant-loop-place
invariant-loop-place l = first_place (is_component_named l.name) (take l.place l.items) ≡ None
