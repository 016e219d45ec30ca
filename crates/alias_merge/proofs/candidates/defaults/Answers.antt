use Rattle.std.proofs.Common.{List, [], ap, ◌∙◌}
use Rattle.expanded_tree.specs.declared.elements.ExpandedElement.{ExpandedElement}
use Rattle.alias_merge.specs.declared.numbers.MemberNumbers.{MemberNumbers}
use Rattle.alias_merge.specs.Candidates.{defaults_of, numbered_all}
use Rattle.alias_merge.proofs.Listing.{copied_turn, number_end}
use Rattle.alias_merge.proofs.candidates.defaults.Goals as goal

pub loop-number-init : goal.loop-number-init
loop-number-init c = c.new-found.ensures

pub loop-number-preserved : goal.loop-number-preserved
loop-number-preserved c =
    copied_turn (defaults_of c.args.expanded.now c.args.numbers.now) c.elements-elements.result.now c.loop-number.number _ [] c.loop-number.found c.add_defaults.new.found c.loop-number-test.true c.loop-number.invariant
    c.in_ok-add_defaults.ensures

pub returns : goal.returns
returns c =
    number_end (defaults_of c.args.expanded.now c.args.numbers.now) c.elements-elements.result.now c.loop-number.number [] c.loop-number.found c.loop-number-test.false c.loop-number.invariant
    ∙ (ap (λ (xs : List ExpandedElement). numbered_all (defaults_of c.args.expanded.now c.args.numbers.now) 0 xs) c.elements-elements.ensures
    ∙ ap (λ (n : MemberNumbers). numbered_all (defaults_of c.args.expanded.now n) 0 c.args.expanded.now.elements) c.requires)
