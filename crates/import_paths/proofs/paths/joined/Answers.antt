use Rattle.std.proofs.Common.{◌≡◌, ◌∙◌, ap, sym, get_or, string_bytes}
use Rattle.import_paths.proofs.Walks.{joined-step}
use Rattle.import_paths.proofs.paths.joined.Goals as goal

pub loop-index-preserved : goal.loop-index-preserved
loop-index-preserved c =
    let items = c.as_slice-segment-items.result.now in
    let same = c.as_str.ensures in
    let there : c.as_str.result.now ≡ get_or items c.loop-index.index c.as_str.result.now = same ∙ (c.segment-item.is ∙ ap (get_or items c.loop-index.index) (sym same)) in
    joined-step c.args.root.now (string_bytes c.loop-index.name) (string_bytes c.push_segment.new.name) c.as_str.result.now items c.loop-index.index c.loop-index-test.true there c.loop-index.invariant
    c.in_ok-push_segment.ensures.first c.in_ok-push_segment.ensures.further
