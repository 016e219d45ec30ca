use Rattle.std.proofs.Common.{◌+◌, ◌||◌, ◌∷◌, [], drop, map}
use Rattle.std.specs.HashSet.{contains_text}
use Rattle.file_exports.specs.Roots.{has_name, inner_name}
use Rattle.file_exports.proofs.AddedNames.{completes-first, completes-step, completes-all, mapped-at, mapped-end}
use Rattle.file_exports.proofs.names.add_inner.Goals as goal

pub loop-alias-init : goal.loop-alias-init
loop-alias-init c = completes-first c.args.names.now (map inner_name c.args.list.now)

pub loop-alias-preserved : goal.loop-alias-preserved
loop-alias-preserved c =
    completes-step c.loop-alias.names c.add_name.new.names (map inner_name (drop c.loop-alias.alias-index c.args.list.now)) (inner_name c.alias-item.result ∷ []) (map inner_name (drop (c.loop-alias.alias-index + 1) c.args.list.now))
    (λ name. contains_text c.args.names.now name || has_name (map inner_name c.args.list.now) name)
    (mapped-at inner_name c.args.list.now c.loop-alias.alias-index c.alias-item.result c.loop-alias-test.true c.alias-item.is) c.in_ok-add_name.ensures c.loop-alias.invariant

pub returns : goal.returns
returns c =
    completes-all c.loop-alias.names (map inner_name (drop c.loop-alias.alias-index c.args.list.now)) (λ name. contains_text c.args.names.now name || has_name (map inner_name c.args.list.now) name)
    (mapped-end inner_name c.args.list.now c.loop-alias.alias-index c.loop-alias-test.false) c.loop-alias.invariant
