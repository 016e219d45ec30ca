use Rattle.std.proofs.Common.{sym, ap, ◌∙◌, List, subst}
use Rattle.finite_graphs.specs.declared.search.Group.{Group}
use Rattle.finite_graphs.specs.declared.search.Search.{Search}
use Rattle.finite_graphs.specs.Searching.{IsTop}
use Rattle.finite_graphs.proofs.Lists.{at_in}
use Rattle.finite_graphs.proofs.Searching.{close_step, popped_top}
use Rattle.finite_graphs.proofs.search.Search.close.Goals as goal

pub label_from-requires-clause-start : goal.label_from-requires-clause-start
label_from-requires-clause-start c = c.requires.state.path_within c.args.group (at_in c.requires.top.stands)

pub returns-clause-state : goal.returns-clause-state
returns-clause-state c =
    let groups = ap (λ (s : Search). s.groups) c.label_from.ensures.others in
    let top = subst (λ (xs : List Group). IsTop xs c.args.group) (sym groups) c.requires.top in
    close_step c.label_from.new.self.path c.label_from.new.self.ahead c.pop.new.self c.label_from.new.self.count c.requires.state c.requires.top c.requires.no_more c.label_from.ensures.places
    c.label_from.ensures.path (ap (λ (s : Search). s.ahead) c.label_from.ensures.others) (sym groups ∙ popped_top c.pop.new.self c.pop.result top c.pop.ensures) (ap (λ (s : Search). s.count) c.label_from.ensures.others)
