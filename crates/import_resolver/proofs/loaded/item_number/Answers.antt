use Rattle.import_resolver.proofs.Numbering.{meant_some, number_some, number_none}
use Rattle.file_exports.specs.Imports.{import_of}
use Rattle.import_resolver.proofs.loaded.item_number.Goals as goal

pub number_meant-requires-clause-meant : goal.number_meant-requires-clause-meant
number_meant-requires-clause-meant c =
    meant_some c.args.main.now c.args.names.now c.args.importer.now (import_of c.args.item.now) c.in-Some.path.now c.as_str.result.now c.in-Some.ensures c.as_str.ensures c.requires.meant

pub returns-in_ok-number-in-Some : goal.returns-in_ok-number-in-Some
returns-in_ok-number-in-Some c =
    number_some c.args.main.now c.args.names.now c.args.importer.now (import_of c.args.item.now) c.in-Some.path.now c.as_str.result.now c.in_ok-number-in-Some.number c.in-Some.ensures c.as_str.ensures c.in_ok-number-in-Some.ensures

pub returns-in-None : goal.returns-in-None
returns-in-None c = number_none c.args.main.now c.args.names.now c.args.importer.now (import_of c.args.item.now) c.in-None.ensures
