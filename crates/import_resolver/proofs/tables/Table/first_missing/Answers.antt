use Rattle.std.proofs.Common.{◌∙◌, ap, map, refl, sym}
use Rattle.import_resolver.specs.Loads.{is_exported}
use Rattle.import_resolver.specs.Tables.{seen_of_file}
use Rattle.import_resolver.proofs.Lists.{missing-this, missing-other, missing-end}
use Rattle.import_resolver.proofs.tables.Table.first_missing.Goals as goal

pub loop-alias-init : goal.loop-alias-init
loop-alias-init c = refl

pub loop-alias-preserved : goal.loop-alias-preserved
loop-alias-preserved c =
    missing-other (map seen_of_file c.args.self.now.files) c.args.reached.now c.args.names.now c.loop-alias.alias-index c.alias-item.result c.loop-alias-test.true c.alias-item.is
    (ap (is_exported (map seen_of_file c.args.self.now.files) c.args.reached.now) (sym c.as_str.ensures) ∙ (sym c.is_exported.ensures ∙ c.if-not-is_exported.false))
    ∙ c.loop-alias.invariant

pub returns : goal.returns
returns c =
    sym (missing-end (map seen_of_file c.args.self.now.files) c.args.reached.now c.args.names.now c.loop-alias.alias-index c.loop-alias-test.false)
    ∙ c.loop-alias.invariant

pub returns-then-not-is_exported : goal.returns-then-not-is_exported
returns-then-not-is_exported c =
    missing-this (map seen_of_file c.args.self.now.files) c.args.reached.now c.args.names.now c.loop-alias.alias-index c.alias-item.result c.loop-alias-test.true c.alias-item.is
    (ap (is_exported (map seen_of_file c.args.self.now.files) c.args.reached.now) (sym c.as_str.ensures) ∙ (sym c.is_exported.ensures ∙ c.if-not-is_exported.true))
    ∙ c.loop-alias.invariant
