use Rattle.std.proofs.Common.{ap, ◌∙◌, sym, subst}
use Rattle.property_cells.specs.Net.{Net, cell_in, Stands, behind_first}
use Rattle.cells_bench.proofs.Runs.{if_begun, run_own, run_others}
use Rattle.cells_bench.proofs.rounds.run.Goals as goal

pub read-requires : goal.read-requires
read-requires c =
    if_begun c.args.cells.now c.begin_run.new.self c.args.cell c.args.first c.requires.invalid (ap (λ (n : Net). n.cells) c.begin_run.ensures.begun) c.requires.first

pub read-requires-2 : goal.read-requires-2
read-requires-2 c =
    if_begun c.args.cells.now c.read.new.cells c.args.cell c.args.second c.requires.invalid (c.in_ok-one.ensures.cells ∙ ap (λ (n : Net). n.cells) c.begin_run.ensures.begun) c.requires.second

pub end_run-requires : goal.end_run-requires
end_run-requires c =
    (c.args.cells.now.running, c.in_ok-other.ensures.running ∙ c.in_ok-one.ensures.running ∙ ap (λ (n : Net). n.running) c.begin_run.ensures.begun)

pub returns-clause-own : goal.returns-clause-own
returns-clause-own c =
    subst (λ (n : Net). Stands (cell_in n c.args.cell)) (sym c.end_run.ensures.ended)
    (run_own c.args.cells.now c.read-2.new.cells c.args.cell _ c.requires.invalid (c.in_ok-other.ensures.cells ∙ c.in_ok-one.ensures.cells ∙ ap (λ (n : Net). n.cells) c.begin_run.ensures.begun))

pub returns-clause-others : goal.returns-clause-others
returns-clause-others c =
    λ d n. ap (λ (m : Net). cell_in m d) c.end_run.ensures.ended
    ∙ run_others c.args.cells.now c.read-2.new.cells c.args.cell d _ (c.in_ok-other.ensures.cells ∙ c.in_ok-one.ensures.cells ∙ ap (λ (n : Net). n.cells) c.begin_run.ensures.begun) n

pub returns-clause-running : goal.returns-clause-running
returns-clause-running c =
    ap (λ (m : Net). m.running) c.end_run.ensures.ended
    ∙ ap behind_first (c.in_ok-other.ensures.running ∙ c.in_ok-one.ensures.running ∙ ap (λ (n : Net). n.running) c.begin_run.ensures.begun)
