use Rattle.std.proofs.Common.{◌≡◌, ◌++◌, drop, map}
use Rattle.alias_merge.specs.Numbers.{global_size}
use Rattle.alias_merge.proofs.numbers.add_globals.Given as goal

-- with the sizes of what is left they become all
abbrev pub invariant-loop-global : goal.invariant-loop-global
invariant-loop-global l = l.sizes ++ map global_size (drop l.global-index l.globals) ≡ l.initial.sizes ++ map global_size l.globals
