use Rattle.std.proofs.Common.{◌≡◌, ◌++◌, drop, map}
use Rattle.alias_merge.specs.Numbers.{element_size}
use Rattle.alias_merge.proofs.numbers.add_elements.Given as goal

-- with the sizes of what is left they become all
abbrev pub invariant-loop-element : goal.invariant-loop-element
invariant-loop-element l = l.sizes ++ map element_size (drop l.element-index l.elements) ≡ l.initial.sizes ++ map element_size l.elements
