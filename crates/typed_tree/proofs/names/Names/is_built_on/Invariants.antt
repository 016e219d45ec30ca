use Rattle.std.proofs.Common.{◌≡◌, ◌-◌}
use Rattle.typed_tree.specs.Elements.{is_among, lineage, lineage_within}
use Rattle.typed_tree.proofs.names.Names.is_built_on.Given as goal

-- whether the component is among those below the type at hand, with the steps that are left, is what is looked for
abbrev pub invariant-loop : goal.invariant-loop
invariant-loop l = is_among (lineage l.fn.self.comps l.fn.ty).comps l.component ≡ is_among (lineage_within (l.end - l.counter) l.fn.self.comps l.below).comps l.component
