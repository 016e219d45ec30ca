use Rattle.std.proofs.Common.{length, slice_get, ap, ◌∙◌}
use Rattle.std.proofs.lemmas.Option.{get_or_from_slice_get}
use Rattle.import_resolver.specs.declared.tables.SeenFile.{SeenFile}
use Rattle.import_resolver.proofs.loading.item_count.Goals as goal

pub returns : goal.returns
returns c = λ file at.
    let items = λ (f : SeenFile). length f.tree.items in
    c.len.ensures
    ∙ ap items (get_or_from_slice_get c.as_slice.result.now c.args.number file c.index-as_slice-number.result (ap (λ files. slice_get files c.args.number) c.as_slice.ensures ∙ at))
