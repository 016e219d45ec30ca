use Rattle.std.proofs.Common.{[], ◌++◌, refl, sym, ◌∙◌, ap, map, drop, ◌+◌}
use Rattle.std.specs.Option.{option_copied}
use Rattle.syntax_tree.specs.declared.items.Item.{out-Item}
use Rattle.source_outline.specs.Members.{body_links, in_front, link_by}
use Rattle.source_outline.proofs.Turns.{turn, ended, front}
use Rattle.source_outline.proofs.links.push_links.Goals as goal

pub loop-item-preserved : goal.loop-item-preserved
loop-item-preserved c = turn (λ _ xs. body_links xs) (in_front (link_by (out-Item c.item-item.result)) []) c.args.items.now c.loop-item.item-index c.item-item.result (map option_copied c.loop-item.out) (map option_copied c.push_link.new.out) _
    (sym (front (link_by (out-Item c.item-item.result)) (body_links (drop (c.loop-item.item-index + 1) c.args.items.now)))) c.item-item.is c.loop-item-test.true (c.in_ok-push_link.ensures ∙ ap (λ m. map option_copied c.loop-item.out ++ in_front m []) c.link_by.ensures) c.loop-item.invariant

pub returns : goal.returns
returns c = ended (λ _ xs. body_links xs) c.args.items.now c.loop-item.item-index (map option_copied c.loop-item.out) _ refl c.loop-item-test.false c.loop-item.invariant
