use Rattle.std.proofs.Common.{◌≡◌, ◌∙◌, Some, ap, rules}
use Rattle.std.specs.Prelude.{slice_get}
use Rattle.std.specs.Option.{option_map}
use Rattle.syntax_tree.specs.declared.files.FileItem.{FileItem}
use Rattle.file_exports.specs.Imports.{import_of}
use Rattle.import_resolver.specs.Tables.{path_of}
use Rattle.import_resolver.proofs.Asking.{asks-none, asks-some, item-read}
use Rattle.import_resolver.proofs.Lists.{seen-at}
use Rattle.import_resolver.proofs.steps.import_target.Goals as goal

pub returns-in-Some-path_of : goal.returns-in-Some-path_of
returns-in-Some-path_of c = λ file its_item there its_item_there.
    let is : slice_get c.args.table.now.files c.args.importer ≡ Some c.index-as_slice-importer.result =
    seen-at c.args.table.now.files c.as_slice.result.now c.args.importer c.index-as_slice-importer.result c.as_slice.ensures c.requires.there c.index-as_slice-importer.is in
    let read : Some c.in-Some.item.now ≡ Some its_item =
    item-read c.args.table.now c.args.importer c.args.item c.index-as_slice-importer.result file (Some c.in-Some.item.now) its_item is c.in-Some.ensures.value there its_item_there in
    let same : c.in-Some.item.now ≡ its_item = search (rules, read) in
    asks-some c.args.main.now c.args.table.now c.args.importer file c.in-Some-path_of.path.now c.path_target.result (import_of its_item)
    (c.in-Some-path_of.ensures ∙ ap (λ (item : FileItem). option_map path_of (import_of item)) same)
    (λ import same_path. c.path_target.ensures file import there same_path)

pub returns-in-None : goal.returns-in-None
returns-in-None c = λ file its_item there its_item_there.
    let is : slice_get c.args.table.now.files c.args.importer ≡ Some c.index-as_slice-importer.result =
    seen-at c.args.table.now.files c.as_slice.result.now c.args.importer c.index-as_slice-importer.result c.as_slice.ensures c.requires.there c.index-as_slice-importer.is in
    let read : Some c.in-Some.item.now ≡ Some its_item =
    item-read c.args.table.now c.args.importer c.args.item c.index-as_slice-importer.result file (Some c.in-Some.item.now) its_item is c.in-Some.ensures.value there its_item_there in
    let same : c.in-Some.item.now ≡ its_item = search (rules, read) in
    asks-none c.args.main.now c.args.table.now c.args.importer file (import_of its_item) (c.in-None.ensures ∙ ap (λ (item : FileItem). option_map path_of (import_of item)) same)
