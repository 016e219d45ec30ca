use Rattle.std.proofs.Common.{◌++◌, List, Option, ℕ, ap, ◌∙◌}
use Rattle.std.specs.List.{flat_map}
use Rattle.std.specs.Option.{option_to_list}
use Rattle.alias_merge.specs.declared.candidate.Candidate.{Candidate}
use Rattle.alias_merge.specs.Candidates.{default_of}
use Rattle.alias_merge.proofs.Listing.{flat_end, flat_turn}
use Rattle.alias_merge.proofs.candidates.add_defaults.Goals as goal

pub loop-member-preserved : goal.loop-member-preserved
loop-member-preserved c =
    flat_turn (λ i. option_to_list (default_of c.args.expanded.now c.args.numbers.now c.args.number c.args.element.now i)) c.defaulted-members.result.now c.loop-member.member-index 0 c.args.found.now c.loop-member.found c.add.new.found
    c.loop-member-test.true c.loop-member.invariant (c.in_ok-add.ensures ∙ ap (λ (o : Option Candidate). c.loop-member.found ++ option_to_list o) c.default_of.ensures)

pub returns : goal.returns
returns c =
    flat_end (λ i. option_to_list (default_of c.args.expanded.now c.args.numbers.now c.args.number c.args.element.now i)) c.defaulted-members.result.now c.loop-member.member-index c.args.found.now c.loop-member.found
    c.loop-member-test.false c.loop-member.invariant
    ∙ ap (λ (ns : List ℕ). c.args.found.now ++ flat_map (λ i. option_to_list (default_of c.args.expanded.now c.args.numbers.now c.args.number c.args.element.now i)) ns) c.defaulted-members.ensures
