use Rattle.std.proofs.Common.{◌∙◌, ap, arith}
use Rattle.std.specs.Prelude.{slice_get}
use Rattle.fault_order.specs.Order.{first_of}
use Rattle.declaration_rules.specs.Declarations.{faults_at, faults_behind}
use Rattle.declaration_rules.proofs.Filing.{file-next, file_count-is}
use Rattle.declaration_rules.proofs.Telling.{turn_tells-all}
use Rattle.declaration_rules.proofs.declarations.files_fault.Goals as goal

pub loop-file-preserved : goal.loop-file-preserved
loop-file-preserved c =
    file-next c.args.scopes.now c.args.scopes.now c.loop-file.file c.loop-file.first c.in_ok-fault.fault c.earlier-first.result
    (let e = file_count-is c.loaded-loaded.result.now c.args.scopes.now c.loaded-loaded.ensures in omega (arith, e, c.len-file-end.ensures.len, c.loop-file-test.true)) c.loop-file.invariant
    (c.in_ok-fault.ensures ∙ ap (λ all. first_of (faults_at c.args.scopes.now c.loop-file.file (slice_get all c.loop-file.file))) c.loaded-loaded.ensures) c.earlier-first.ensures

pub returns : goal.returns
returns c =
    turn_tells-all (faults_behind c.args.scopes.now) c.loop-file.first c.args.scopes.now c.loop-file.file
    (let e = file_count-is c.loaded-loaded.result.now c.args.scopes.now c.loaded-loaded.ensures in omega (arith, e, c.len-file-end.ensures.len, c.loop-file-test.false)) c.loop-file.invariant
