use Rattle.std.proofs.Common.{◌++◌, List, Option, ℕ, ap, ◌∙◌}
use Rattle.std.specs.Option.{option_to_list}
use Rattle.typed_tree.specs.declared.trees.TypedChange.{TypedChange}
use Rattle.alias_merge.specs.declared.changes.Change.{Change}
use Rattle.alias_merge.specs.Candidates.{numbered_all}
use Rattle.alias_merge.specs.ChangeLists.{change_at, change_of}
use Rattle.alias_merge.specs.Numbers.{number_in}
use Rattle.alias_merge.proofs.Listing.{number_end, number_turn}
use Rattle.alias_merge.proofs.change_lists.add_state_changes.Goals as goal

pub loop-number-preserved : goal.loop-number-preserved
loop-number-preserved c =
    number_turn (λ i t. option_to_list (change_of c.args.expanded.now c.args.numbers.now c.args.body c.args.list_number c.args.state_number i t)) c.as_slice-changes.result.now c.loop-number.number c.index-changes-number.result
    c.args.found.now c.loop-number.found c.add_change.new.found c.loop-number-test.true c.index-changes-number.is c.loop-number.invariant
    (c.in_ok-add_change.ensures ∙ ap (λ (o : Option Change). c.loop-number.found ++ option_to_list o) (c.change_at.ensures
    ∙ ap (λ (m : Option ℕ). change_at c.args.list_number c.args.state_number c.loop-number.number c.index-changes-number.result m) (c.number-member.ensures ∙ ap (number_in c.args.numbers.now) c.member_at.ensures)))

pub returns : goal.returns
returns c =
    number_end (λ i t. option_to_list (change_of c.args.expanded.now c.args.numbers.now c.args.body c.args.list_number c.args.state_number i t)) c.as_slice-changes.result.now c.loop-number.number c.args.found.now c.loop-number.found
    c.loop-number-test.false c.loop-number.invariant
    ∙ ap (λ (ts : List TypedChange). c.args.found.now ++ numbered_all (λ i t. option_to_list (change_of c.args.expanded.now c.args.numbers.now c.args.body c.args.list_number c.args.state_number i t)) 0 ts) c.as_slice-changes.ensures
