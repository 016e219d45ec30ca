use Rattle.std.proofs.Common.{Option, List, ap, ◌∙◌}
use Rattle.alias_merge.specs.declared.homes.Seat.{Seat}
use Rattle.alias_merge.specs.ChoosingSteps.{grouped}
use Rattle.alias_merge.specs.Homes.{label_of_row, numbered_rows, seats_of, sit_row}
use Rattle.alias_merge.proofs.Seating.{seats_all, seats_next}
use Rattle.alias_merge.proofs.homes.seats.Goals as goal

pub loop-number-init : goal.loop-number-init
loop-number-init c = ap (λ (now : List (Option Seat)). grouped sit_row (label_of_row c.args.labels.now) now (numbered_rows 0 c.args.rows.now)) c.in_ok-seats.ensures

pub loop-number-preserved : goal.loop-number-preserved
loop-number-preserved c =
    seats_next c.args.labels.now c.args.rows.now c.loop-number.number _ c.loop-number.seats c.note_row.new.seats (seats_of c.args.labels.now c.args.rows.now) c.copied-class.result c.loop-number-test.true
    (c.copied-class.ensures ∙ c.at.ensures) c.note_row.ensures c.loop-number.invariant

pub returns : goal.returns
returns c = seats_all c.args.labels.now c.args.rows.now c.loop-number.number c.loop-number.seats (seats_of c.args.labels.now c.args.rows.now) c.loop-number-test.false c.loop-number.invariant
