use Rattle.std.proofs.Common.{ap, refl, ◌∙◌}
use Rattle.item_rules.specs.Rows.{is_row_name, parent_in, rows_of_element}
use Rattle.item_rules.proofs.RowWalks.{row_found, rows_first, rows_go, rows_last}
use Rattle.item_rules.proofs.rows.is_around.Goals as goal

pub loop-preserved : goal.loop-preserved
loop-preserved c = rows_go c.args.name.now c.args.elements.now _ _ c.in-Some.number c.loop-test.true
    (c.is_row_of.ensures ∙ ap (λ w. is_row_name c.args.name.now (rows_of_element c.in-Some.number w)) c.at-found.ensures) c.if-is_row_of.false c.loop.invariant c.in-Some.is
    (c.parent_in-around.ensures ∙ ap parent_in c.at-found.ensures)

pub returns-then-is_row_of : goal.returns-then-is_row_of
returns-then-is_row_of c = row_found c.args.name.now c.args.elements.now _ _ c.in-Some.number c.loop-test.true
    (c.is_row_of.ensures ∙ ap (λ w. is_row_name c.args.name.now (rows_of_element c.in-Some.number w)) c.at-found.ensures) c.if-is_row_of.true c.loop.invariant c.in-Some.is

pub loop-init : goal.loop-init
loop-init c = rows_first c.args.name.now c.args.elements.now _ c.args.element refl

pub returns : goal.returns
returns c = rows_last c.args.name.now c.args.elements.now _ _ _ c.loop-test.false c.loop.invariant
