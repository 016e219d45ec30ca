use Rattle.std.proofs.Common.{List, [], ap, ◌∙◌}
use Rattle.std.specs.List.{flat_map}
use Rattle.expanded_tree.specs.declared.holders.Holder.{Holder}
use Rattle.alias_merge.specs.ChangeLists.{lists_at}
use Rattle.alias_merge.proofs.Listing.{flat_end, flat_turn}
use Rattle.alias_merge.proofs.change_lists.state_lists.Goals as goal

pub loop-holder-init : goal.loop-holder-init
loop-holder-init c = c.new-found.ensures

pub loop-holder-preserved : goal.loop-holder-preserved
loop-holder-preserved c =
    flat_turn (lists_at c.args.expanded.now) c.as_slice-holders.result.now c.loop-holder.holder-index _ [] c.loop-holder.found c.add_lists.new.found c.loop-holder-test.true c.loop-holder.invariant c.in_ok-add_lists.ensures

pub returns : goal.returns
returns c =
    flat_end (lists_at c.args.expanded.now) c.as_slice-holders.result.now c.loop-holder.holder-index [] c.loop-holder.found c.loop-holder-test.false c.loop-holder.invariant
    ∙ ap (λ (hs : List Holder). flat_map (lists_at c.args.expanded.now) hs) (c.as_slice-holders.ensures ∙ c.in_ok-holders.ensures)
