use Rattle.std.proofs.Common.{◌≡◌, ◌-◌}
use Rattle.typed_tree.specs.Declarers.{first_declaring}
use Rattle.typed_tree.specs.Elements.{lineage, lineage_within}
use Rattle.typed_tree.proofs.names.Names.first_declaring.Given as goal

-- the first below the type at hand, with the steps that are left, is what is looked for
abbrev pub invariant-loop : goal.invariant-loop
invariant-loop l = first_declaring l.fn.self.comps l.name (lineage l.fn.self.comps l.fn.ty).comps ≡ first_declaring l.fn.self.comps l.name (lineage_within (l.end - l.counter) l.fn.self.comps l.below).comps
