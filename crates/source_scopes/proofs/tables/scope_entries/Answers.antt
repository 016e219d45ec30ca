use Rattle.std.proofs.Common.{◌<◌, ◌≤◌, length, get_or, ◌∙◌, ap, subst}
use Rattle.source_scopes.proofs.Filling.{scope_done, scope_step}
use Rattle.source_scopes.proofs.Lookups.{left_at}
use Rattle.source_scopes.proofs.tables.scope_entries.Goals as goal

pub loop-item-preserved : goal.loop-item-preserved
loop-item-preserved c = λ exports known. scope_step exports _ c.loop-item.entries _ c.loop-item.before _ _ _ c.item-item.result c.loop-item.left.now _
    (left_at c.args.file.now.tree.items c.loop-item.item-index c.item-item.result (subst (λ xs. c.loop-item.item-index < length xs) c.as_slice-item-items.ensures c.loop-item-test.true)
    (c.item-item.is ∙ ap (λ xs. get_or xs c.loop-item.item-index c.item-item.result) c.as_slice-item-items.ensures))
    (c.in_ok-entries.ensures exports known) c.in_ok-before.ensures c.imports_behind-left.ensures (c.loop-item.invariant exports known)

pub returns : goal.returns
returns c = λ exports known. scope_done exports _ c.loop-item.entries c.loop-item.before c.args.file.now.tree.items c.loop-item.item-index c.loop-item.left.now
    (subst (λ xs. length xs ≤ c.loop-item.item-index) c.as_slice-item-items.ensures c.loop-item-test.false) (c.loop-item.invariant exports known)
