use Rattle.std.proofs.Common.{get_or, None, sym, ap, ◌∙◌}
use Rattle.property_cells.specs.Marks.{state_at}
use Rattle.property_cells.specs.Net.{state_of}
use Rattle.property_cells.proofs.Seen.{seen_inside, seen_at, seen_live, state_running, state_valid, state_assigned, state_other}
use Rattle.property_cells.proofs.store.Store.state_of.Goals as goal

pub state-requires : goal.state-requires
state-requires c = seen_inside c.args.self.now c.requires.held c.args.cell c.requires.live

pub returns-in-Running : goal.returns-in-Running
returns-in-Running c =
    let s = c.args.self.now in
    ap state_of (seen_at s c.requires.held c.args.cell) ∙ state_running (state_at s.marks.cells.items c.args.cell) (get_or s.values.items c.args.cell None) (sym c.state.ensures ∙ c.in-Running.is)

pub returns-in-Valid : goal.returns-in-Valid
returns-in-Valid c =
    let s = c.args.self.now in
    ap state_of (seen_at s c.requires.held c.args.cell) ∙ state_valid (state_at s.marks.cells.items c.args.cell) (get_or s.values.items c.args.cell None) (sym c.state.ensures ∙ c.in-Valid.is) (c.requires.held.valued c.args.cell)

pub returns-in-Assigned : goal.returns-in-Assigned
returns-in-Assigned c =
    let s = c.args.self.now in
    ap state_of (seen_at s c.requires.held c.args.cell) ∙ state_assigned (state_at s.marks.cells.items c.args.cell) (get_or s.values.items c.args.cell None) (sym c.state.ensures ∙ c.in-Assigned.is) (c.requires.held.valued c.args.cell)

pub returns-in_default : goal.returns-in_default
returns-in_default c =
    let s = c.args.self.now in
    ap state_of (seen_at s c.requires.held c.args.cell)
    ∙ state_other (state_at s.marks.cells.items c.args.cell) (get_or s.values.items c.args.cell None) (seen_live s c.requires.held c.args.cell c.requires.live)
    (λ e. c.in_default.not-Running (c.state.ensures ∙ e)) (λ e. c.in_default.not-Valid (c.state.ensures ∙ e)) (λ e. c.in_default.not-Assigned (c.state.ensures ∙ e))
