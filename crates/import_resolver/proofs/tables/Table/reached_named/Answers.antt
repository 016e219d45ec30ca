use Rattle.std.proofs.Common.{◌≡◌, ◌∙◌, ap, map, sym}
use Rattle.std.specs.Str.{bytes_eq}
use Rattle.import_resolver.specs.Loads.{reached_named}
use Rattle.import_resolver.specs.Tables.{done_of_file}
use Rattle.import_resolver.proofs.Lists.{named-this, named-other, named-end}
use Rattle.import_resolver.proofs.tables.Table.reached_named.Goals as goal

pub loop-file-init : goal.loop-file-init
loop-file-init c = ap (λ items. reached_named (map done_of_file items) c.args.name.now) c.as_slice-file-items.ensures

pub loop-file-preserved : goal.loop-file-preserved
loop-file-preserved c =
    named-other c.as_slice-file-items.result.now c.loop-file.file-index c.file-item.result c.args.name.now c.loop-file-test.true c.file-item.is
    (ap (λ name. bytes_eq name c.args.name.now) (sym c.as_str.ensures) ∙ (sym c.eq.ensures ∙ c.if-eq.false))
    ∙ c.loop-file.invariant

pub returns : goal.returns
returns c = sym (named-end c.as_slice-file-items.result.now c.loop-file.file-index c.args.name.now c.loop-file-test.false) ∙ c.loop-file.invariant

pub returns-then-eq : goal.returns-then-eq
returns-then-eq c =
    let value : c.as_slice.result.now ≡ c.file-item.result.reached.items = c.as_slice.ensures.value in
    value ∙ (named-this c.as_slice-file-items.result.now c.loop-file.file-index c.file-item.result c.args.name.now c.loop-file-test.true c.file-item.is
    (ap (λ name. bytes_eq name c.args.name.now) (sym c.as_str.ensures) ∙ (sym c.eq.ensures ∙ c.if-eq.true))
    ∙ c.loop-file.invariant)
