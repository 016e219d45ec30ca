use Rattle.std.proofs.Common.{◌++◌, List, Option, ap, ◌∙◌}
use Rattle.std.specs.Option.{option_to_list}
use Rattle.typed_tree.specs.declared.trees.TypedItem.{TypedItem}
use Rattle.alias_merge.specs.declared.changes.StateList.{StateList}
use Rattle.alias_merge.specs.declared.holdings.Holding.{Holding}
use Rattle.alias_merge.specs.Candidates.{holding_of}
use Rattle.alias_merge.specs.ChangeLists.{list_of, lists_in}
use Rattle.alias_merge.proofs.Listing.{number_end, number_turn}
use Rattle.alias_merge.proofs.change_lists.add_lists.Goals as goal

pub loop-number-preserved : goal.loop-number-preserved
loop-number-preserved c =
    number_turn (λ i x. option_to_list (list_of c.of-holding.result i x)) c.items-items.result.now c.loop-number.number c.index-items-number.result c.args.found.now c.loop-number.found c.add_list.new.found
    c.loop-number-test.true c.index-items-number.is c.loop-number.invariant (c.in_ok-add_list.ensures ∙ ap (λ (o : Option StateList). c.loop-number.found ++ option_to_list o) c.list_of.ensures)

pub returns : goal.returns
returns c =
    number_end (λ i x. option_to_list (list_of c.of-holding.result i x)) c.items-items.result.now c.loop-number.number c.args.found.now c.loop-number.found c.loop-number-test.false c.loop-number.invariant
    ∙ (ap (λ (h : Holding). c.args.found.now ++ lists_in h c.items-items.result.now) c.of-holding.ensures
    ∙ ap (λ (xs : List TypedItem). c.args.found.now ++ lists_in (holding_of c.args.expanded.now c.args.holder) xs) c.items-items.ensures)
