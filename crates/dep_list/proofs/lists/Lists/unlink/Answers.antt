use Rattle.std.proofs.Common.{sym, ap, ◌∙◌}
use Rattle.dep_list.specs.declared.node.Ends.{Ends}
use Rattle.dep_list.specs.Lists.{state}
use Rattle.dep_list.proofs.DropLemmas.{first_there, DropsSoFar-more, DropsSoFar-all}
use Rattle.dep_list.proofs.lists.Lists.unlink.Goals as goal

pub remove-requires-clause-there : goal.remove-requires-clause-there
remove-requires-clause-there c =
    first_there c.args.side c.args.key (state c.loop-at.self) c.loop-at.invariant.held c.loop-at.invariant.inside c.in-Some.at (sym (ap (λ (e : Ends). e.first) c.ends.ensures) ∙ c.in-Some.is)

pub loop-at-preserved : goal.loop-at-preserved
loop-at-preserved c =
    DropsSoFar-more c.args.side c.args.key (state c.args.self.now) (state c.loop-at.self) (state c.remove.new.self) c.loop-at.invariant c.in-Some.at (sym (ap (λ (e : Ends). e.first) c.ends.ensures) ∙ c.in-Some.is)
    c.remove.ensures.held c.remove.ensures.pairs c.remove.ensures.room

pub returns-clause-pairs : goal.returns-clause-pairs
returns-clause-pairs c =
    DropsSoFar-all c.args.side c.args.key (state c.args.self.now) (state c.loop-at.self) c.loop-at.invariant (sym (ap (λ (e : Ends). e.first) c.ends.ensures) ∙ c.in_default.is)
