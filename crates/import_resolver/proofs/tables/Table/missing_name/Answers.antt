use Rattle.std.proofs.Common.{sym}
use Rattle.import_resolver.proofs.Lists.{missing-name}
use Rattle.import_resolver.proofs.tables.Table.missing_name.Goals as goal

pub returns : goal.returns
returns c = λ file its_item import there its_item_there is_import.
    missing-name c.args.self.now c.args.importer c.args.item c.args.name.now c.reached_named.result.now c.names_of_import.result.now c.in_ok-file.file.now file c.in_ok-item.item.now its_item import c.first_missing.result
    (sym c.in_ok-file.ensures.value) (sym c.in_ok-item.ensures.value) c.reached_named.ensures c.names_of_import.ensures c.first_missing.ensures there its_item_there is_import
