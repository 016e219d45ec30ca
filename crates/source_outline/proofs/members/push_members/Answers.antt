use Rattle.std.proofs.Common.{◌≡◌, [], ◌∷◌, ◌++◌, refl, sym, ◌∙◌, ap, drop, ◌+◌}
use Rattle.syntax_tree.specs.declared.items.Item.{out-Item}
use Rattle.source_outline.specs.Members.{body_members, in_front, member_by}
use Rattle.source_outline.proofs.Turns.{turn, ended, front}
use Rattle.source_outline.proofs.members.push_members.Goals as goal

pub loop-item-preserved : goal.loop-item-preserved
loop-item-preserved c = turn (λ _ xs. body_members c.args.scopes.now c.args.file c.args.element xs) (in_front (member_by c.args.scopes.now c.args.file c.args.element (out-Item c.item-item.result)) []) c.args.items.now c.loop-item.item-index c.item-item.result c.loop-item.out c.push_if.new.out _
    (sym (front (member_by c.args.scopes.now c.args.file c.args.element (out-Item c.item-item.result)) (body_members c.args.scopes.now c.args.file c.args.element (drop (c.loop-item.item-index + 1) c.args.items.now)))) c.item-item.is c.loop-item-test.true (c.in_ok-push_if.ensures ∙ ap (λ m. c.loop-item.out ++ in_front m []) c.in_ok-made.ensures) c.loop-item.invariant

pub returns : goal.returns
returns c = ended (λ _ xs. body_members c.args.scopes.now c.args.file c.args.element xs) c.args.items.now c.loop-item.item-index c.loop-item.out _ refl c.loop-item-test.false c.loop-item.invariant
