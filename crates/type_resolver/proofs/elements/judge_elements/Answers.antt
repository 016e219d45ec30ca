use Rattle.std.specs.Option.{option_copied}
use Rattle.type_resolver.proofs.Sounding.{parts_of}
use Rattle.type_resolver.proofs.Walking.{walked_first, walked_next}
use Rattle.type_resolver.proofs.elements.judge_elements.Goals as goal

pub loop-e-init : goal.loop-e-init
loop-e-init c = walked_first (parts_of c.one_item.ensures.one c.one_item.ensures.no_fault c.one_condition.ensures.one c.one_condition.ensures.no_fault c.one_model.ensures.one c.one_model.ensures.no_fault) c.args.names.now c.args.component c.args.written.now c.new.result c.new-known.result c.new.ensures c.new-known.ensures

pub loop-e-preserved : goal.loop-e-preserved
loop-e-preserved c =
    walked_next (parts_of c.one_item.ensures.one c.one_item.ensures.no_fault c.one_condition.ensures.one c.one_condition.ensures.no_fault c.one_model.ensures.one c.one_model.ensures.no_fault) c.args.names.now c.args.component c.args.written.now c.loop-e.e c.index-written-e.result c.loop-e.seen c.in_ok-seen.seen c.loop-e.known c.as_slice.result.now c.push.new.self c.parent.result (option_copied c.rows_at-around.result) c.in_ok-looked.looked.told c.in_ok-looked.looked.rows
    c.requires c.loop-e-test.true c.index-written-e.is c.loop-e.invariant c.as_slice.ensures c.parent.ensures c.rows_at-around.ensures c.in_ok-looked.ensures.told c.in_ok-looked.ensures.skipped c.in_ok-push.ensures.ok c.in_ok-seen.ensures
