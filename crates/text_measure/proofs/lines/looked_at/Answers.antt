use Rattle.std.proofs.Common.{sym, take_all, rules}
use Rattle.text_measure.proofs.lines.looked_at.Goals as goal

pub returns-then-file-le-MOST_TABLE_BYTES : goal.returns-then-file-le-MOST_TABLE_BYTES
returns-then-file-le-MOST_TABLE_BYTES c = sym (take_all 262144 c.args.file.now (search rules))
