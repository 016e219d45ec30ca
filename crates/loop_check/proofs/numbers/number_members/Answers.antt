use Rattle.std.proofs.Common.{[], ◌∷◌, ◌++◌, None, ◌∙◌, ap}
use Rattle.loop_check.proofs.Numbering.{Things, all_numbered}
use Rattle.loop_check.proofs.numbers.number_members.Goals as goal

pub returns : goal.returns
returns c =
    all_numbered c.args.tree.now (record { comps = c.in_ok-comps.comps; globals = c.in_ok-globals.globals }) c.as_slice.result.now c.as_slice-2.result.now c.as_slice.ensures c.as_slice-2.ensures
    c.in_ok-comps.ensures c.in_ok-globals.ensures (c.in_ok-push.ensures.ok ∙ ap (λ (xs : Things). xs ++ None ∷ []) c.new-things.ensures)
