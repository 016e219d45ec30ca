use Rattle.std.proofs.Common.{[], subst, List, sym}
use Rattle.alias_merge.specs.declared.changes.Change.{Change}
use Rattle.alias_merge.specs.Changes.{InOrder}
use Rattle.alias_merge.specs.ChangeLists.{changes_in_list}
use Rattle.alias_merge.proofs.InTurn.{changes_in_order}
use Rattle.alias_merge.proofs.Listing.{copied_turn, number_end}
use Rattle.alias_merge.proofs.change_lists.state_changes.Goals as goal

pub loop-number-init : goal.loop-number-init
loop-number-init c = c.new-found.ensures

pub loop-number-preserved : goal.loop-number-preserved
loop-number-preserved c =
    copied_turn (changes_in_list c.args.expanded.now c.args.numbers.now) c.args.lists.now c.loop-number.number _ [] c.loop-number.found c.add_list_changes.new.found c.loop-number-test.true c.loop-number.invariant
    c.in_ok-add_list_changes.ensures

pub returns-clause-all : goal.returns-clause-all
returns-clause-all c = number_end (changes_in_list c.args.expanded.now c.args.numbers.now) c.args.lists.now c.loop-number.number [] c.loop-number.found c.loop-number-test.false c.loop-number.invariant

pub returns-clause-in_order : goal.returns-clause-in_order
returns-clause-in_order c =
    subst (λ (cs : List Change). InOrder cs)
    (sym (number_end (changes_in_list c.args.expanded.now c.args.numbers.now) c.args.lists.now c.loop-number.number [] c.loop-number.found c.loop-number-test.false c.loop-number.invariant))
    (changes_in_order c.args.expanded.now c.args.numbers.now c.args.lists.now)
