use Rattle.std.proofs.Common.{◌∷◌, ◌++◌, [], ap, ◌∙◌}
use Rattle.import_resolver.proofs.Numbering.{names-step}
use Rattle.import_resolver.proofs.loaded.file_names.Goals as goal

pub loop-file-preserved : goal.loop-file-preserved
loop-file-preserved c =
    names-step c.args.files.now c.loop-file.file-index c.file-item.result c.loop-file.names c.push.new.self c.loop-file-test.true c.file-item.is c.loop-file.invariant
    (c.in_ok-push.ensures.ok ∙ ap (λ name. c.loop-file.names ++ name ∷ []) c.in_ok-copy.ensures)
