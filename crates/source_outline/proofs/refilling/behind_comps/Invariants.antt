use Rattle.std.proofs.Common.{◌≡◌, drop}
use Rattle.source_outline.specs.Following.{behind_comps}
use Rattle.source_outline.proofs.refilling.behind_comps.Given as goal

-- what is left behind the components that are left
abbrev pub invariant-loop-comp : goal.invariant-loop-comp
invariant-loop-comp l = behind_comps l.rest (drop l.comp-index l.comps) ≡ behind_comps l.kinds l.comps
