use Rattle.std.proofs.Common.{◌≡◌, [], take}
use Rattle.fault_order.specs.Order.{first_of}
use Rattle.declaration_rules.specs.Declarations.{faults_behind}
use Rattle.declaration_rules.specs.Turns.{in_turn}
use Rattle.declaration_rules.proofs.declarations.files_fault.Given as goal

-- the first fault of the files so far is told
abbrev pub invariant-loop-file : goal.invariant-loop-file
invariant-loop-file l = l.first ≡ first_of (in_turn (faults_behind l.scopes) [] (take l.file l.scopes))
