use Rattle.std.proofs.Common.{◌≡◌, map, take}
use Rattle.typed_tree.proofs.name_lists.names_of_file.Given as goal

-- the names so far
abbrev pub invariant-loop-declared : goal.invariant-loop-declared
invariant-loop-declared l = l.list ≡ map (λ n. n.name) (take l.declared-index l.names)
