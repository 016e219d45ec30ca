use Rattle.std.proofs.Common.{◌≡◌, ◌++◌, map, drop}
use Rattle.source_outline.specs.Following.{size_of_comp, size_of_global}
use Rattle.source_outline.proofs.numbers.sizes_of.Given as goal

-- the sizes so far and those of the components that are left
abbrev pub invariant-loop-comp : goal.invariant-loop-comp
invariant-loop-comp l = l.sizes ++ map size_of_comp (drop l.comp-index l.comp-items) ≡ map size_of_comp l.outline.comps

-- those of all components, and the globals'
abbrev pub invariant-loop-global : goal.invariant-loop-global
invariant-loop-global l = l.sizes ++ map size_of_global (drop l.global-index l.global-items) ≡ map size_of_comp l.outline.comps ++ map size_of_global l.outline.globals
