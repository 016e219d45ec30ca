use Rattle.source_scopes.specs.Shown.{shown_global}
use Rattle.type_resolver.specs.Bodies.{global}
use Rattle.type_resolver.proofs.Counting.{each_all, each_first, each_next, of_global}
use Rattle.type_resolver.proofs.Sounding.{global_sound, parts_of}
use Rattle.type_resolver.proofs.sources.judge_globals.Goals as goal

pub loop-number-init : goal.loop-number-init
loop-number-init c = each_first shown_global (global c.args.names.now) (global_sound (parts_of c.one_item.ensures.one c.one_item.ensures.no_fault c.one_condition.ensures.one c.one_condition.ensures.no_fault c.one_model.ensures.one c.one_model.ensures.no_fault) c.args.names.now) c.args.globals.now c.new.result c.new.ensures

pub loop-number-preserved : goal.loop-number-preserved
loop-number-preserved c =
    each_next shown_global (global c.args.names.now) (global_sound (parts_of c.one_item.ensures.one c.one_item.ensures.no_fault c.one_condition.ensures.one c.one_condition.ensures.no_fault c.one_model.ensures.one c.one_model.ensures.no_fault) c.args.names.now) c.args.globals.now c.loop-number.number c.index-globals-number.result c.loop-number-test.true c.index-globals-number.is c.loop-number.invariant
    (of_global c.args.names.now c.loop-number.number c.as_slice-items.result.now (shown_global c.index-globals-number.result) c.as_slice-items.ensures c.in_ok-told.ensures) c.in_ok-seen.ensures

pub returns : goal.returns
returns c = each_all shown_global (global c.args.names.now) (global_sound (parts_of c.one_item.ensures.one c.one_item.ensures.no_fault c.one_condition.ensures.one c.one_condition.ensures.no_fault c.one_model.ensures.one c.one_model.ensures.no_fault) c.args.names.now) c.args.globals.now c.loop-number.number c.loop-number-test.false c.loop-number.invariant
