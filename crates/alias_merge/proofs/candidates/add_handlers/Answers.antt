use Rattle.std.proofs.Common.{◌++◌, List, Option, ap, ◌∙◌}
use Rattle.std.specs.Option.{option_to_list}
use Rattle.typed_tree.specs.declared.trees.TypedItem.{TypedItem}
use Rattle.alias_merge.specs.declared.candidate.Candidate.{Candidate}
use Rattle.alias_merge.specs.declared.holdings.Holding.{Holding}
use Rattle.alias_merge.specs.Candidates.{handler_at, handlers_in, holding_of}
use Rattle.alias_merge.proofs.Listing.{number_end, number_turn}
use Rattle.alias_merge.proofs.candidates.add_handlers.Goals as goal

pub loop-number-preserved : goal.loop-number-preserved
loop-number-preserved c =
    number_turn (λ i x. option_to_list (handler_at c.args.expanded.now c.args.numbers.now c.of-holding.result i x)) c.items-items.result.now c.loop-number.number c.index-items-number.result c.args.found.now c.loop-number.found c.add.new.found
    c.loop-number-test.true c.index-items-number.is c.loop-number.invariant (c.in_ok-add.ensures ∙ ap (λ (o : Option Candidate). c.loop-number.found ++ option_to_list o) c.handler_at.ensures)

pub returns : goal.returns
returns c =
    number_end (λ i x. option_to_list (handler_at c.args.expanded.now c.args.numbers.now c.of-holding.result i x)) c.items-items.result.now c.loop-number.number c.args.found.now c.loop-number.found c.loop-number-test.false c.loop-number.invariant
    ∙ (ap (λ (h : Holding). c.args.found.now ++ handlers_in c.args.expanded.now c.args.numbers.now h c.items-items.result.now) c.of-holding.ensures
    ∙ ap (λ (xs : List TypedItem). c.args.found.now ++ handlers_in c.args.expanded.now c.args.numbers.now (holding_of c.args.expanded.now c.args.holder) xs) c.items-items.ensures)
