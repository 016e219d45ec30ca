use Rattle.alias_merge.specs.ChangeLists.{changes_in_state}
use Rattle.alias_merge.proofs.Listing.{number_end, number_turn}
use Rattle.alias_merge.proofs.change_lists.add_states_changes.Goals as goal

pub loop-number-preserved : goal.loop-number-preserved
loop-number-preserved c =
    number_turn (λ s state. changes_in_state c.args.expanded.now c.args.numbers.now c.args.body c.args.list_number s state) c.args.states.now c.loop-number.number c.index-states-number.result c.args.found.now c.loop-number.found
    c.add_state_changes.new.found c.loop-number-test.true c.index-states-number.is c.loop-number.invariant c.in_ok-add_state_changes.ensures

pub returns : goal.returns
returns c =
    number_end (λ s state. changes_in_state c.args.expanded.now c.args.numbers.now c.args.body c.args.list_number s state) c.args.states.now c.loop-number.number c.args.found.now c.loop-number.found c.loop-number-test.false
    c.loop-number.invariant
