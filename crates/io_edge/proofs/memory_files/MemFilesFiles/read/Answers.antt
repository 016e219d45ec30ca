use Rattle.std.proofs.Common.{ap, ◌∙◌}
use Rattle.io_edge.specs.FileList.{file_list}
use Rattle.io_edge.specs.Files.{most_read}
use Rattle.io_edge.proofs.Named.{front-of_named}
use Rattle.io_edge.proofs.memory_files.MemFilesFiles.read.Goals as goal

pub returns-in-Ok-clause-found : goal.returns-in-Ok-clause-found
returns-in-Ok-clause-found c =
    front-of_named most_read _ _ c.args.name.now c.in-Some.bytes.now.items c.deref-2.result.now c.in-Ok.copy.items
    (ap file_list c.deref.ensures.value ∙ ap (λ v. v.files) c.self.view_is) c.in-Some.ensures c.deref-2.ensures.value c.in-Ok.ensures
