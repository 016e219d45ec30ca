use Rattle.std.proofs.Common.{◌∙◌, sym, ap}
use Rattle.type_resolver.specs.Bodies.{site_around}
use Rattle.type_resolver.proofs.Walking.{failed_by, went_by}
use Rattle.type_resolver.proofs.elements.look_within.Goals as goal

pub returns-in_ok-looked-in-Ok-clause-told : goal.returns-in_ok-looked-in-Ok-clause-told
returns-in_ok-looked-in-Ok-clause-told c =
    went_by c.args.names.now c.args.component c.args.e c.args.written.now c.args.rows.now c.in-Ok.inside c.site_around-around.result _ c.body.result.now
    (c.site_around-around.ensures ∙ ap (site_around c.args.component) c.parent.ensures) c.repeating.ensures c.body.ensures c.in-Ok.is c.in_ok-inside.ensures c.in_ok-looked-in-Ok.ensures

pub returns-in-Err-clause-told : goal.returns-in-Err-clause-told
returns-in-Err-clause-told c =
    failed_by c.args.names.now c.args.component c.args.e c.args.written.now c.args.rows.now c.site_around-around.result _
    (c.site_around-around.ensures ∙ ap (site_around c.args.component) c.parent.ensures) c.repeating.ensures c.in-Err.is c.in_ok-inside.ensures
