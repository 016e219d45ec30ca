use Rattle.std.proofs.Common.{◌++◌, [], ◌∷◌, ℕ, map, refl, ap, ◌∙◌}
use Rattle.alias_merge.specs.Numbers.{global_size}
use Rattle.alias_merge.proofs.Passes.{behind_end, mapped_turn}
use Rattle.alias_merge.proofs.numbers.add_globals.Goals as goal

pub loop-global-preserved : goal.loop-global-preserved
loop-global-preserved c =
    mapped_turn global_size c.loop-global.sizes c.push.new.self (c.args.sizes.now ++ map global_size c.args.globals.now) c.args.globals.now c.loop-global.global-index c.global-item.result c.loop-global-test.true c.loop-global.invariant
    (c.in_ok-push.ensures.ok ∙ ap (λ (n : ℕ). c.loop-global.sizes ++ n ∷ []) (c.len.ensures ∙ ap global_size c.global-item.is))

pub returns : goal.returns
returns c =
    behind_end (map global_size) c.loop-global.sizes (c.args.sizes.now ++ map global_size c.args.globals.now) c.args.globals.now c.loop-global.global-index refl c.loop-global-test.false c.loop-global.invariant
