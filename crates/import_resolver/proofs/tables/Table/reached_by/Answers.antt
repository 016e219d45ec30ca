use Rattle.std.proofs.Common.{◌≡◌, ◌∙◌, [], ◌∷◌, ap, map, sym, rules}
use Rattle.file_exports.specs.Imports.{taken_over, taken_over_among}
use Rattle.import_resolver.specs.Loads.{reached_over}
use Rattle.import_resolver.specs.Tables.{done_of_file, reached_onto}
use Rattle.import_resolver.proofs.Lists.{reach-step, reach-end}
use Rattle.import_resolver.proofs.tables.Table.reached_by.Goals as goal

pub loop-item-init : goal.loop-item-init
loop-item-init c =
    let first : c.push.new.self.items ≡ c.args.number ∷ [] = search rules in
    ap (λ numbers. reached_over c.args.main.now (map done_of_file c.args.self.now.done) c.args.file.now.name numbers (taken_over_among c.as_slice-item-items.result.now)) first
    ∙ ap (λ items. reached_over c.args.main.now (map done_of_file c.args.self.now.done) c.args.file.now.name (c.args.number ∷ []) (taken_over_among items)) c.as_slice-item-items.ensures

pub loop-item-preserved : goal.loop-item-preserved
loop-item-preserved c =
    let next : c.reach.new.reached.items ≡ reached_onto c.args.main.now (map done_of_file c.args.self.now.done) c.args.file.now.name c.loop-item.reached.items (taken_over c.item-item.result) =
    c.in_ok-reach.ensures ∙ ap (λ importer. reached_onto c.args.main.now (map done_of_file c.args.self.now.done) importer c.loop-item.reached.items (taken_over c.item-item.result)) c.as_str.ensures in
    reach-step c.args.main.now (map done_of_file c.args.self.now.done) c.args.file.now.name c.loop-item.reached.items c.reach.new.reached.items c.as_slice-item-items.result.now c.loop-item.item-index c.item-item.result
    c.loop-item-test.true c.item-item.is next
    ∙ c.loop-item.invariant

pub returns : goal.returns
returns c =
    sym (reach-end c.args.main.now (map done_of_file c.args.self.now.done) c.args.file.now.name c.loop-item.reached.items c.as_slice-item-items.result.now c.loop-item.item-index c.loop-item-test.false)
    ∙ c.loop-item.invariant
