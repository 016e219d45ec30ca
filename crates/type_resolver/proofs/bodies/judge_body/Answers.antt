use Rattle.std.proofs.Common.{take}
use Rattle.std.proofs.lemmas.List.{take_all}
use Rattle.type_resolver.proofs.Seeing.{seen_all, seen_next, seen_none}
use Rattle.type_resolver.proofs.Sounding.{parts_of}
use Rattle.type_resolver.proofs.bodies.judge_body.Goals as goal

pub loop-item-init : goal.loop-item-init
loop-item-init c = seen_none c.args.names.now c.args.here c.args.rows.now c.new.result c.new.ensures

pub loop-item-preserved : goal.loop-item-preserved
loop-item-preserved c =
    seen_next (parts_of c.one_item.ensures.one c.one_item.ensures.no_fault c.one_condition.ensures.one c.one_condition.ensures.no_fault c.one_model.ensures.one c.one_model.ensures.no_fault) c.args.names.now c.args.here c.args.rows.now c.args.items.now c.loop-item.item-index c.item-item.result c.loop-item.seen c.in_ok-seen.seen c.in_ok-told.told c.loop-item-test.true c.item-item.is c.loop-item.invariant c.in_ok-told.ensures c.in_ok-seen.ensures

pub returns : goal.returns
returns c = seen_all (parts_of c.one_item.ensures.one c.one_item.ensures.no_fault c.one_condition.ensures.one c.one_condition.ensures.no_fault c.one_model.ensures.one c.one_model.ensures.no_fault) c.args.names.now c.args.here c.args.rows.now c.args.items.now (take c.loop-item.item-index c.args.items.now) c.loop-item.seen (take_all c.loop-item.item-index c.args.items.now c.loop-item-test.false) c.loop-item.invariant
