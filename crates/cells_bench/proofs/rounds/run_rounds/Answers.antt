use Rattle.std.proofs.Common.{inl, ◌-◌, arith, subst}
use Rattle.property_cells.specs.Net.{cell_in}
use Rattle.cells_bench.specs.Shapes.{count_of}
use Rattle.cells_bench.specs.Rest.{AtRest}
use Rattle.cells_bench.proofs.Rests.{idle_live, rest_added, rest_assigned}
use Rattle.cells_bench.proofs.rounds.run_rounds.Goals as goal

pub refresh-requires : goal.refresh-requires
refresh-requires c =
    subst (λ k. AtRest k c.add.new.self) c.count-count.ensures.count
    (rest_added c.new-cells.result c.add.new.self _ c.count-count.result c.new-cells.ensures c.in_ok-add.ensures.ok)

pub loop-round-init : goal.loop-round-init
loop-round-init c = record { rest = c.in_ok-refresh.ensures.rest; stand = c.in_ok-refresh.ensures.stand }

pub assign-requires-clause-live : goal.assign-requires-clause-live
assign-requires-clause-live c = idle_live (cell_in c.loop-round.cells 0) (c.loop-round.invariant.rest.idle 0 (omega arith))

pub assign-requires-clause-idle : goal.assign-requires-clause-idle
assign-requires-clause-idle c = inl c.loop-round.invariant.rest.running

pub refresh-requires-in-loop-round : goal.refresh-requires-in-loop-round
refresh-requires-in-loop-round c = rest_assigned (count_of c.args.shape) c.loop-round.cells c.assign.new.self 0 _ _ c.assign.ensures.assigns c.loop-round.invariant.rest

pub loop-round-preserved : goal.loop-round-preserved
loop-round-preserved c = record { rest = c.in_ok-refresh-2.ensures.rest; stand = c.in_ok-refresh-2.ensures.stand }

pub number_at-last-requires : goal.number_at-last-requires
number_at-last-requires c = c.loop-round.invariant.stand (c.count-count.result - 1) (omega arith)
