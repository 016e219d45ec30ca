use Rattle.std.proofs.Common.{◌≡◌, drop}
use Rattle.name_lookup.specs.Names.{parameter_among}
use Rattle.name_lookup.proofs.near.parameter.Given as goal

-- the parameter is among those that are left, if there is one
abbrev pub invariant-loop-number : goal.invariant-loop-number
invariant-loop-number l = parameter_among 0 l.name l.parameters l.span ≡ parameter_among l.number l.name (drop l.number l.parameters) l.span
