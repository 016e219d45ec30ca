use Rattle.source_scopes.specs.Shown.{shown_component}
use Rattle.type_resolver.specs.Bodies.{component}
use Rattle.type_resolver.proofs.Counting.{each_all, each_first, each_next}
use Rattle.type_resolver.proofs.Sounding.{component_sound, parts_of}
use Rattle.type_resolver.proofs.sources.judge_components.Goals as goal

pub loop-number-init : goal.loop-number-init
loop-number-init c = each_first shown_component (component c.args.names.now) (component_sound (parts_of c.one_item.ensures.one c.one_item.ensures.no_fault c.one_condition.ensures.one c.one_condition.ensures.no_fault c.one_model.ensures.one c.one_model.ensures.no_fault) c.args.names.now) c.args.components.now c.new.result c.new.ensures

pub loop-number-preserved : goal.loop-number-preserved
loop-number-preserved c =
    each_next shown_component (component c.args.names.now) (component_sound (parts_of c.one_item.ensures.one c.one_item.ensures.no_fault c.one_condition.ensures.one c.one_condition.ensures.no_fault c.one_model.ensures.one c.one_model.ensures.no_fault) c.args.names.now) c.args.components.now c.loop-number.number c.index-components-number.result c.loop-number-test.true c.index-components-number.is c.loop-number.invariant c.in_ok-told.ensures c.in_ok-seen.ensures

pub returns : goal.returns
returns c = each_all shown_component (component c.args.names.now) (component_sound (parts_of c.one_item.ensures.one c.one_item.ensures.no_fault c.one_condition.ensures.one c.one_condition.ensures.no_fault c.one_model.ensures.one c.one_model.ensures.no_fault) c.args.names.now) c.args.components.now c.loop-number.number c.loop-number-test.false c.loop-number.invariant
