use Rattle.source_scopes.specs.Entries.{exports_of}
use Rattle.declaration_rules.specs.Exports.{groups_among}
use Rattle.declaration_rules.proofs.Exporting.{groups-all, groups-next}
use Rattle.declaration_rules.proofs.exports.groups.Goals as goal

pub loop-item-preserved : goal.loop-item-preserved
loop-item-preserved c =
    groups-next (exports_of c.args.scopes.now) c.args.items.now c.loop-item.item-index c.item-item.result c.loop-item.numbers.now c.imports_behind-numbers.result.now c.loop-item.groups c.push_groups.new.out (groups_among (exports_of c.args.scopes.now) c.args.items.now c.args.imports.now)
    c.loop-item-test.true c.item-item.is c.loop-item.invariant c.in_ok-push_groups.ensures c.imports_behind-numbers.ensures

pub returns : goal.returns
returns c = groups-all (exports_of c.args.scopes.now) c.args.items.now c.loop-item.item-index c.loop-item.numbers.now c.loop-item.groups (groups_among (exports_of c.args.scopes.now) c.args.items.now c.args.imports.now) c.loop-item-test.false c.loop-item.invariant
