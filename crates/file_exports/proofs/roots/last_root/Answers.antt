use Rattle.file_exports.specs.Roots.{is_component, is_exported, listed_among}
use Rattle.file_exports.proofs.Places.{last_place-later}
use Rattle.file_exports.proofs.roots.last_root.Goals as goal

pub loop-place-preserved : goal.loop-place-preserved
loop-place-preserved c = record {
  of_exported =
      last_place-later (is_exported (listed_among c.args.items.now)) c.args.items.now c.loop-place.place c.index-items-place.result _ _ _ c.loop-place-test.true c.index-items-place.is
      (c.is_exported.ensures (listed_among c.args.items.now) c.requires) c.loop-place.invariant.of_exported c.later-exported.ensures;
  of_components =
      last_place-later is_component c.args.items.now c.loop-place.place c.index-items-place.result _ _ _ c.loop-place-test.true c.index-items-place.is
      c.is_component.ensures c.loop-place.invariant.of_components c.later-component.ensures;
}
