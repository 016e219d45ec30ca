use Rattle.std.proofs.Common.{◌+◌, drop}
use Rattle.file_exports.specs.Roots.{has_name, listed_among, listed_by}
use Rattle.file_exports.proofs.AddedNames.{completes-empty, completes-step, completes-all, listed-at, listed-end}
use Rattle.file_exports.proofs.names.listed_names.Goals as goal

pub loop-item-init : goal.loop-item-init
loop-item-init c = completes-empty c.new-names.result (listed_among c.args.items.now) c.new-names.ensures.empty

pub loop-item-preserved : goal.loop-item-preserved
loop-item-preserved c =
    completes-step c.loop-item.names c.add_listed.new.names (listed_among (drop c.loop-item.item-index c.args.items.now)) (listed_by c.item-item.result) (listed_among (drop (c.loop-item.item-index + 1) c.args.items.now))
    (has_name (listed_among c.args.items.now)) (listed-at c.args.items.now c.loop-item.item-index c.item-item.result c.loop-item-test.true c.item-item.is) c.in_ok-add_listed.ensures c.loop-item.invariant

pub returns : goal.returns
returns c =
    completes-all c.loop-item.names (listed_among (drop c.loop-item.item-index c.args.items.now)) (has_name (listed_among c.args.items.now))
    (listed-end c.args.items.now c.loop-item.item-index c.loop-item-test.false) c.loop-item.invariant
