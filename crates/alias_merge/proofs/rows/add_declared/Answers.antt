use Rattle.std.proofs.Common.{◌∷◌, ◌++◌, [], ap, ◌∙◌}
use Rattle.alias_merge.specs.declared.rows.MemberRow.{MemberRow}
use Rattle.alias_merge.specs.Rows.{declared_row}
use Rattle.alias_merge.proofs.Listing.{number_turn}
use Rattle.alias_merge.proofs.rows.add_declared.Goals as goal

pub loop-number-preserved : goal.loop-number-preserved
loop-number-preserved c =
    number_turn (λ n m. declared_row c.args.expanded.now c.args.body n m ∷ []) c.args.members.now c.loop-number.number c.index-members-number.result c.args.rows.now c.loop-number.rows c.push.new.self c.loop-number-test.true
    c.index-members-number.is c.loop-number.invariant (c.in_ok-push.ensures.ok ∙ ap (λ (r : MemberRow). c.loop-number.rows ++ r ∷ []) c.declared_row.ensures)
