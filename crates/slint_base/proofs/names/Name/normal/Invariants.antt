use Rattle.std.proofs.Common.{◌≡◌, ◌++◌, map, string_bytes}
use Rattle.std.specs.Prelude.{encode_utf8_all}
use Rattle.slint_base.specs.Names.{dashed}
use Rattle.slint_base.proofs.names.Name.normal.Given as goal

-- what was pushed is the first character and the characters so far as they count
abbrev pub invariant-loop-ch : goal.invariant-loop-ch
invariant-loop-ch l = string_bytes l.normal ≡ string_bytes l.initial.normal ++ encode_utf8_all (map dashed l.yielded)
