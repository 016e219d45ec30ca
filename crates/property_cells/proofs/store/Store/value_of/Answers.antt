use Rattle.std.proofs.Common.{◌≡◌, List, Option, length, get_or, None, sym, ap, ◌∙◌, arith}
use Rattle.value_types.specs.declared.values.Value.{Value}
use Rattle.property_cells.specs.Marks.{state_at}
use Rattle.property_cells.specs.Net.{value_of}
use Rattle.property_cells.specs.Store.{cell_of}
use Rattle.property_cells.proofs.Seen.{seen_inside, seen_at}
use Rattle.property_cells.proofs.store.Store.value_of.Goals as goal

pub value_at-requires-clause-cell : goal.value_at-requires-clause-cell
value_at-requires-clause-cell c = seen_inside c.args.self.now c.requires.held c.args.cell c.requires.live

pub value_at-requires-clause-value : goal.value_at-requires-clause-value
value_at-requires-clause-value c =
    let h = seen_inside c.args.self.now c.requires.held c.args.cell c.requires.live in let r = c.requires.held.room.values in
    let e : length c.as_slice.result.now ≡ length c.args.self.now.values.items = ap (λ (l : List (Option Value)). length l) c.as_slice.ensures.value in omega (arith, h, r, e)

pub returns : goal.returns
returns c =
    c.value_at.ensures ∙ (λ i. value_of (cell_of (state_at c.args.self.now.marks.cells.items c.args.cell) (get_or (c.as_slice.ensures.value i) c.args.cell None))) ∙ ap value_of (sym (seen_at c.args.self.now c.requires.held c.args.cell))
