use Rattle.std.proofs.Common.{◌≡◌, drop}
use Rattle.alias_merge.specs.ChoosingSteps.{grouped}
use Rattle.alias_merge.specs.Homes.{label_of_row, numbered_rows, seats_of, sit_row}
use Rattle.alias_merge.proofs.homes.seats.Given as goal

-- with the rows that are left the seats become those of all
abbrev pub invariant-loop-number : goal.invariant-loop-number
invariant-loop-number l = grouped sit_row (label_of_row l.labels) l.seats (numbered_rows l.number (drop l.number l.rows)) ≡ seats_of l.labels l.rows
