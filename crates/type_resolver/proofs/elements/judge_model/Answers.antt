use Rattle.std.proofs.Common.{Err, sym, ap, ◌∙◌, subst}
use Rattle.item_types.specs.Judging.{Tells}
use Rattle.type_resolver.specs.Bodies.{for_each_row}
use Rattle.type_resolver.proofs.Judged.{not_rowed, rowed}
use Rattle.type_resolver.proofs.elements.judge_model.Goals as goal

pub returns-in-Err-Fault : goal.returns-in-Err-Fault
returns-in-Err-Fault c =
    subst (λ f. Tells (for_each_row c.args.names.now c.args.around c.args.e c.args.repeater.now c.args.rows.now) (Err f)) (sym c.in-Err-Fault.fault-is)
    (not_rowed c.args.names.now c.args.around c.args.e c.args.repeater.now c.args.rows.now
    (record { one = c.one_model.ensures.one c.args.names.now c.args.around c.args.rows.now c.args.repeater.now.model; apart = c.one_model.ensures.no_fault c.args.names.now c.args.around c.args.rows.now c.args.repeater.now.model })
    (c.in-Err-Fault.is ∙ ap Err c.in-Err-Fault.field-0-is) c.type_model.ensures)

pub returns-in_ok-inside-in-Ok : goal.returns-in_ok-inside-in-Ok
returns-in_ok-inside-in-Ok c =
    rowed c.args.names.now c.args.around c.args.e c.args.repeater.now c.args.rows.now
    (record { one = c.one_model.ensures.one c.args.names.now c.args.around c.args.rows.now c.args.repeater.now.model; apart = c.one_model.ensures.no_fault c.args.names.now c.args.around c.args.rows.now c.args.repeater.now.model })
    c.in-Ok.is c.type_model.ensures c.in_ok-inside-in-Ok.ensures
