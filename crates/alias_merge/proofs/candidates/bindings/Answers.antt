use Rattle.std.proofs.Common.{List, [], ap, ◌∙◌}
use Rattle.std.specs.List.{flat_map}
use Rattle.expanded_tree.specs.declared.holders.Holder.{Holder}
use Rattle.expanded_tree.specs.Items.{holders_in_order}
use Rattle.alias_merge.specs.declared.numbers.MemberNumbers.{MemberNumbers}
use Rattle.alias_merge.specs.Candidates.{bindings_at}
use Rattle.alias_merge.proofs.Listing.{flat_end, flat_turn}
use Rattle.alias_merge.proofs.candidates.bindings.Goals as goal

pub loop-holder-init : goal.loop-holder-init
loop-holder-init c = c.new-found.ensures

pub loop-holder-preserved : goal.loop-holder-preserved
loop-holder-preserved c =
    flat_turn (bindings_at c.args.expanded.now c.args.numbers.now) c.as_slice-holders.result.now c.loop-holder.holder-index _ [] c.loop-holder.found c.add_bindings.new.found c.loop-holder-test.true c.loop-holder.invariant
    c.in_ok-add_bindings.ensures

pub returns : goal.returns
returns c =
    flat_end (bindings_at c.args.expanded.now c.args.numbers.now) c.as_slice-holders.result.now c.loop-holder.holder-index [] c.loop-holder.found c.loop-holder-test.false c.loop-holder.invariant
    ∙ (ap (λ (hs : List Holder). flat_map (bindings_at c.args.expanded.now c.args.numbers.now) hs) (c.as_slice-holders.ensures ∙ c.in_ok-holders.ensures)
    ∙ ap (λ (n : MemberNumbers). flat_map (bindings_at c.args.expanded.now n) (holders_in_order c.args.expanded.now)) c.requires)
