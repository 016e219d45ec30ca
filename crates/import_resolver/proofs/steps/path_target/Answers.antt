use Rattle.std.proofs.Common.{◌≡◌, ◌∙◌, Some, ap, sym}
use Rattle.std.specs.Prelude.{slice_get, string_bytes}
use Rattle.std.specs.Option.{option_map}
use Rattle.file_exports.specs.Roots.{has_name}
use Rattle.import_resolver.proofs.Asking.{asks-loop, asks-outside, asks-to, meant-at}
use Rattle.import_resolver.proofs.Lists.{seen-at}
use Rattle.import_resolver.proofs.steps.path_target.Goals as goal

pub returns-in_default : goal.returns-in_default
returns-in_default c = λ file import there same_path.
    let is : slice_get c.args.table.now.files c.args.importer ≡ Some c.index-as_slice-importer.result =
    seen-at c.args.table.now.files c.as_slice.result.now c.args.importer c.index-as_slice-importer.result c.as_slice.ensures c.requires.there c.index-as_slice-importer.is in
    asks-outside c.args.main.now c.args.table.now c.args.importer file import c.args.path.now c.refused.result there same_path
    (meant-at c.args.main.now c.args.table.now c.args.importer c.index-as_slice-importer.result file import c.args.path.now c.as_str.result.now c.as_str-2.result.now _ is there same_path c.as_str.ensures c.as_str-2.ensures c.in_ok-name.ensures
    ∙ ap (option_map string_bytes) c.in_default.is)
    c.refused.ensures

pub returns-then-is_loading : goal.returns-then-is_loading
returns-then-is_loading c = λ file import there same_path.
    let is : slice_get c.args.table.now.files c.args.importer ≡ Some c.index-as_slice-importer.result =
    seen-at c.args.table.now.files c.as_slice.result.now c.args.importer c.index-as_slice-importer.result c.as_slice.ensures c.requires.there c.index-as_slice-importer.is in
    asks-loop c.args.main.now c.args.table.now c.args.importer file import c.args.path.now (string_bytes c.in-Some.name) c.refused-then-is_loading.result there same_path
    (meant-at c.args.main.now c.args.table.now c.args.importer c.index-as_slice-importer.result file import c.args.path.now c.as_str.result.now c.as_str-2.result.now _ is there same_path c.as_str.ensures c.as_str-2.ensures c.in_ok-name.ensures
    ∙ ap (option_map string_bytes) c.in-Some.is)
    (ap (has_name c.args.table.now.loading) (sym c.as_str-3.ensures.value) ∙ (sym c.is_loading.ensures ∙ c.if-is_loading.true))
    c.refused-then-is_loading.ensures

pub returns : goal.returns
returns c = λ file import there same_path.
    let is : slice_get c.args.table.now.files c.args.importer ≡ Some c.index-as_slice-importer.result =
    seen-at c.args.table.now.files c.as_slice.result.now c.args.importer c.index-as_slice-importer.result c.as_slice.ensures c.requires.there c.index-as_slice-importer.is in
    asks-to c.args.main.now c.args.table.now c.args.importer file import c.args.path.now (string_bytes c.in-Some.name) same_path
    (meant-at c.args.main.now c.args.table.now c.args.importer c.index-as_slice-importer.result file import c.args.path.now c.as_str.result.now c.as_str-2.result.now _ is there same_path c.as_str.ensures c.as_str-2.ensures c.in_ok-name.ensures
    ∙ ap (option_map string_bytes) c.in-Some.is)
    (ap (has_name c.args.table.now.loading) (sym c.as_str-3.ensures.value) ∙ (sym c.is_loading.ensures ∙ c.if-is_loading.false))
