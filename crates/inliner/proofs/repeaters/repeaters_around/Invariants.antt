use Rattle.std.proofs.Common.{◌≡◌, ◌+◌, ◌-◌, ◌≤◌, length}
use Rattle.typed_tree.specs.Elements.{repeaters_around}
use Rattle.inliner.proofs.Loops.{repeaters_of}
use Rattle.inliner.proofs.repeaters.repeaters_around.Given as goal

abbrev pub invariant-loop : goal.invariant-loop
invariant-loop l = record {
  sum : l.count + repeaters_of (l.end - l.counter) l.elements l.around ≡ length (repeaters_around l.elements l.fn.element);
  few : l.count ≤ l.counter;
}
