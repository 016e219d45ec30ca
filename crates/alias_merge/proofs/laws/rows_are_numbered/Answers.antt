use Rattle.alias_merge.proofs.RowNumbers.{row_at, rows_counted}
use Rattle.alias_merge.proofs.laws.rows_are_numbered.Goals as goal

pub returns-clause-numbered : goal.returns-clause-numbered
returns-clause-numbered c = row_at

pub returns-clause-counted : goal.returns-clause-counted
returns-clause-counted c = rows_counted
