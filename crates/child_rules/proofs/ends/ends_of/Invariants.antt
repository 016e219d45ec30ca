use Rattle.std.proofs.Common.{map, ◌≡◌, length}
use Rattle.child_rules.specs.Ends.{AreKnown}
use Rattle.child_rules.proofs.KnownEnds.{AreEndsFor}
use Rattle.source_scopes.specs.Shown.{shown_component}
use Rattle.child_rules.proofs.ends.ends_of.Given as goal

abbrev pub invariant-loop-component : goal.invariant-loop-component
invariant-loop-component l = record {
  known : AreKnown (map shown_component l.declared) l.places.comps l.known;
  ends : AreEndsFor (map shown_component l.declared) l.places.comps l.ends;
  many : length l.ends ≡ l.component;
}
