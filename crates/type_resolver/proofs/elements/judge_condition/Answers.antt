use Rattle.std.proofs.Common.{Err, sym, ap, ◌∙◌, subst}
use Rattle.item_types.specs.Judging.{Tells}
use Rattle.type_resolver.specs.Bodies.{while_holds}
use Rattle.type_resolver.proofs.Judged.{held, not_held}
use Rattle.type_resolver.proofs.elements.judge_condition.Goals as goal

pub returns-in-Err-Fault : goal.returns-in-Err-Fault
returns-in-Err-Fault c =
    subst (λ f. Tells (while_holds c.args.names.now c.args.around c.args.condition.now c.args.rows.now) (Err f)) (sym c.in-Err-Fault.fault-is)
    (not_held c.args.names.now c.args.around c.args.condition.now c.args.rows.now
    (record { one = c.one_condition.ensures.one c.args.names.now c.args.around c.args.rows.now c.args.condition.now; apart = c.one_condition.ensures.no_fault c.args.names.now c.args.around c.args.rows.now c.args.condition.now })
    (c.in-Err-Fault.is ∙ ap Err c.in-Err-Fault.field-0-is) c.type_condition.ensures)

pub returns-in_ok-rows-in-Ok : goal.returns-in_ok-rows-in-Ok
returns-in_ok-rows-in-Ok c =
    held c.args.names.now c.args.around c.args.condition.now c.args.rows.now
    (record { one = c.one_condition.ensures.one c.args.names.now c.args.around c.args.rows.now c.args.condition.now; apart = c.one_condition.ensures.no_fault c.args.names.now c.args.around c.args.rows.now c.args.condition.now })
    c.in-Ok.is c.type_condition.ensures c.in_ok-rows-in-Ok.ensures c.span-span.ensures
