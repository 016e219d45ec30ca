use Rattle.std.proofs.Common.{ℕ, ◌∙◌, map, refl, sym}
use Rattle.std.specs.Prelude.{slice_get}
use Rattle.import_resolver.specs.Loads.{exports_itself}
use Rattle.import_resolver.specs.Tables.{seen_of_file}
use Rattle.import_resolver.proofs.Lists.{any-this, any-other, any-end}
use Rattle.import_resolver.proofs.tables.Table.is_exported.Goals as goal

pub loop-number-init : goal.loop-number-init
loop-number-init c = refl

pub loop-number-preserved : goal.loop-number-preserved
loop-number-preserved c =
    any-other (λ (number : ℕ). exports_itself (slice_get (map seen_of_file c.args.self.now.files) number) c.args.name.now) c.args.reached.now c.loop-number.number-index c.loop-number-test.true
    (sym c.exports_itself.ensures ∙ c.if-exports_itself.false)
    ∙ c.loop-number.invariant

pub returns : goal.returns
returns c =
    sym (any-end (λ (number : ℕ). exports_itself (slice_get (map seen_of_file c.args.self.now.files) number) c.args.name.now) c.args.reached.now c.loop-number.number-index c.loop-number-test.false)
    ∙ c.loop-number.invariant

pub returns-then-exports_itself : goal.returns-then-exports_itself
returns-then-exports_itself c =
    any-this (λ (number : ℕ). exports_itself (slice_get (map seen_of_file c.args.self.now.files) number) c.args.name.now) c.args.reached.now c.loop-number.number-index c.loop-number-test.true
    (sym c.exports_itself.ensures ∙ c.if-exports_itself.true)
    ∙ c.loop-number.invariant
