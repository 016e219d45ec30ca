use Rattle.std.proofs.Common.{◌≡◌, Some, map}
use Rattle.std.specs.Prelude.{slice_get}
use Rattle.import_resolver.specs.Tables.{done_of_file}
use Rattle.import_resolver.proofs.Lists.{made-done, seen-at}
use Rattle.import_resolver.proofs.tables.Table.done_file.Goals as goal

pub reached_by-requires : goal.reached_by-requires
reached_by-requires c =
    c.requires.below c.args.number c.index-as_slice-number.result
    (seen-at c.args.self.now.files c.as_slice.result.now c.args.number c.index-as_slice-number.result c.as_slice.ensures c.requires.within c.index-as_slice-number.is)

pub returns : goal.returns
returns c = λ file there.
    let is : slice_get c.args.self.now.files c.args.number ≡ Some c.index-as_slice-number.result =
    seen-at c.args.self.now.files c.as_slice.result.now c.args.number c.index-as_slice-number.result c.as_slice.ensures c.requires.within c.index-as_slice-number.is in
    made-done c.args.main.now (map done_of_file c.args.self.now.done) c.args.number c.args.self.now.files c.index-as_slice-number.result file c.in_ok-name.name c.in_ok-reached.reached.items is there c.in_ok-name.ensures c.in_ok-reached.ensures
