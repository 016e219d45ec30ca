use Rattle.std.proofs.Common.{◌≡◌, [], drop, length}
use Rattle.first_evaluator.specs.Resolved.{sums_behind, names_before, AreAt}
use Rattle.first_evaluator.proofs.AllOf.{behind_all}
use Rattle.first_evaluator.proofs.resolving.resolve.Given as goal

-- all sums are the sums so far and those of the properties that are left, and the map has the names so far
abbrev pub invariant-loop-prop : goal.invariant-loop-prop
invariant-loop-prop l = record {
  sums : sums_behind [] l.prop-items ≡ behind_all l.sums.items (sums_behind (names_before l.prop-items l.prop-index) (drop l.prop-index l.prop-items));
  count : length l.sums.items ≡ l.prop-index;
  at : AreAt l.places (names_before l.prop-items l.prop-index);
}
