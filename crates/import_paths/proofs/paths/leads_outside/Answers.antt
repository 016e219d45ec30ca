use Rattle.import_paths.proofs.Meanings.{outside_by}
use Rattle.import_paths.proofs.paths.leads_outside.Goals as goal

pub returns-else-begins_outside : goal.returns-else-begins_outside
returns-else-begins_outside c =
    outside_by c.args.path.now c.as_bytes-bytes.result.now c.begins_outside.result c.holds_foreign.result c.as_bytes-bytes.ensures.value c.begins_outside.ensures c.if-begins_outside.false c.holds_foreign.ensures
