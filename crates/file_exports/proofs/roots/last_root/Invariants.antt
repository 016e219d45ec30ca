use Rattle.std.proofs.Common.{◌≡◌, take}
use Rattle.file_exports.specs.Roots.{is_component, is_exported, last_place, listed_among}
use Rattle.file_exports.proofs.roots.last_root.Given as goal

-- the last places among the items so far
abbrev pub invariant-loop-place : goal.invariant-loop-place
invariant-loop-place l = record {
  of_exported : l.exported ≡ last_place (is_exported (listed_among l.items)) (take l.place l.items);
  of_components : l.component ≡ last_place is_component (take l.place l.items);
}
