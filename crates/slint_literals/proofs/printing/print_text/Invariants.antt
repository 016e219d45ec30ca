use Rattle.std.proofs.Common.{◌≡◌, ◌++◌, take}
use Rattle.slint_literals.specs.Printed.{printed_text}
use Rattle.slint_literals.proofs.printing.print_text.Given as goal

-- the bytes so far are printed
abbrev pub invariant-loop-byte : goal.invariant-loop-byte
invariant-loop-byte l = l.out.items ≡ l.fn.out.items ++ printed_text (take l.byte-index l.text)
