use Rattle.std.proofs.Common.{◌≡◌, ℕ, inl, sym, ap, ◌∙◌, subst, arith}
use Rattle.property_cells.specs.Net.{Net, cell_in, Stands, no_cell}
use Rattle.cells_tests.proofs.Runs.{one_zero, two_zero, two_one, zero_one, zero_two, one_two, stands_live, assign_live, assign_own}
use Rattle.cells_tests.proofs.cells.changed.Goals as goal

pub run-requires-clause-invalid : goal.run-requires-clause-invalid
run-requires-clause-invalid c = c.in_ok-add.ensures.ok.added 0 (omega arith) (omega arith)

pub run-requires-2-clause-invalid : goal.run-requires-2-clause-invalid
run-requires-2-clause-invalid c = c.in_ok-run.ensures.others 1 one_zero ∙ c.in_ok-add.ensures.ok.added 1 (omega arith) (omega arith)

pub run-requires-2-clause-first : goal.run-requires-2-clause-first
run-requires-2-clause-first c = c.in_ok-run.ensures.own

pub run-requires-3-clause-invalid : goal.run-requires-3-clause-invalid
run-requires-3-clause-invalid c = c.in_ok-run-2.ensures.others 2 two_one ∙ c.in_ok-run.ensures.others 2 two_zero ∙ c.in_ok-add.ensures.ok.added 2 (omega arith) (omega arith)

pub run-requires-3-clause-first : goal.run-requires-3-clause-first
run-requires-3-clause-first c = c.in_ok-run-2.ensures.own

pub run-requires-3-clause-second : goal.run-requires-3-clause-second
run-requires-3-clause-second c = subst Stands (sym (c.in_ok-run-2.ensures.others 0 zero_one)) c.in_ok-run.ensures.own

pub assign-requires-clause-live : goal.assign-requires-clause-live
assign-requires-clause-live c =
    stands_live (cell_in c.run-3.new.cells 0) (subst Stands (sym (c.in_ok-run-3.ensures.others 0 zero_two ∙ c.in_ok-run-2.ensures.others 0 zero_one)) c.in_ok-run.ensures.own)

pub assign-requires-clause-idle : goal.assign-requires-clause-idle
assign-requires-clause-idle c =
    inl (c.in_ok-run-3.ensures.running ∙ c.in_ok-run-2.ensures.running ∙ c.in_ok-run.ensures.running ∙ c.in_ok-add.ensures.ok.running ∙ ap (λ (n : Net). n.running) c.new-cells.ensures)

pub state_of-requires : goal.state_of-requires
state_of-requires c = assign_own c.run-3.new.cells c.assign.new.self 0 _ _ c.assign.ensures.assigns

pub state_of-requires-2 : goal.state_of-requires-2
state_of-requires-2 c =
    assign_live c.run-3.new.cells c.assign.new.self 0 1 _ _ c.assign.ensures.assigns one_zero
    (stands_live (cell_in c.run-3.new.cells 1) (subst Stands (sym (c.in_ok-run-3.ensures.others 1 one_two)) c.in_ok-run-2.ensures.own))

pub state_of-requires-3 : goal.state_of-requires-3
state_of-requires-3 c =
    assign_live c.run-3.new.cells c.assign.new.self 0 2 _ _ c.assign.ensures.assigns two_zero (stands_live (cell_in c.run-3.new.cells 2) c.in_ok-run-3.ensures.own)

pub remove_block-requires-clause-idle : goal.remove_block-requires-clause-idle
remove_block-requires-clause-idle c =
    c.assign.ensures.assigns.running ∙ c.in_ok-run-3.ensures.running ∙ c.in_ok-run-2.ensures.running ∙ c.in_ok-run.ensures.running ∙ c.in_ok-add.ensures.ok.running ∙ ap (λ (n : Net). n.running) c.new-cells.ensures

pub remove_block-requires-clause-live : goal.remove_block-requires-clause-live
remove_block-requires-clause-live c = λ d a b.
    let e : d ≡ 1 = omega arith in
    subst (λ k. cell_in c.assign.new.self k ≡ no_cell → ⊥) (sym e)
    (assign_live c.run-3.new.cells c.assign.new.self 0 1 _ _ c.assign.ensures.assigns one_zero
    (stands_live (cell_in c.run-3.new.cells 1) (subst Stands (sym (c.in_ok-run-3.ensures.others 1 one_two)) c.in_ok-run-2.ensures.own)))
