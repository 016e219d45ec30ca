use Rattle.source_outline.proofs.FileTurns.{files_turn}
use Rattle.source_outline.proofs.outlines.file_outlines.Goals as goal

pub loop-file-preserved : goal.loop-file-preserved
loop-file-preserved c = files_turn c.args.scopes.now c.loop-file.file c.file_count-file-end.result c.loop-file.made c.push.new.self c.in_ok-names.names _ c.loop-file-test.true c.file_count-file-end.ensures c.in_ok-names.ensures c.in_ok-push.ensures.ok c.loop-file.invariant
