use Rattle.std.proofs.Common.{[]}
use Rattle.file_exports.specs.Imports.{onto_some}
use Rattle.import_resolver.proofs.Numbering.{meant_here, meant_behind, numbers-step}
use Rattle.import_resolver.proofs.loaded.import_numbers.Goals as goal

pub item_number-requires-clause-meant : goal.item_number-requires-clause-meant
item_number-requires-clause-meant c =
    rw c.as_str.ensures (meant_here c.args.main.now c.args.names.now c.args.file.now.name c.as_slice-item-items.result.now c.loop-item.item-index c.item-item.result c.loop-item-test.true c.item-item.is c.loop-item.invariant.meant)

pub loop-item-preserved : goal.loop-item-preserved
loop-item-preserved c =
    let more = rw c.as_str.ensures at c.in_ok-number.ensures in
    record {
      numbered = numbers-step c.args.main.now c.args.names.now c.args.file.now.name c.as_slice-item-items.result.now c.loop-item.item-index c.item-item.result c.loop-item.numbers.items (onto_some c.in_ok-number.number []) c.push_number.new.numbers.items c.loop-item-test.true c.item-item.is c.loop-item.invariant.numbered more c.in_ok-push_number.ensures;
      meant = meant_behind c.args.main.now c.args.names.now c.args.file.now.name c.as_slice-item-items.result.now c.loop-item.item-index c.item-item.result c.loop-item-test.true c.item-item.is c.loop-item.invariant.meant;
    }
