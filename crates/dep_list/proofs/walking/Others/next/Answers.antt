use Rattle.std.proofs.Common.{◌∷◌, Option, sym, ap, ◌∙◌, subst}
use Rattle.dep_list.specs.declared.node.Place.{Place}
use Rattle.dep_list.specs.declared.node.Link.{Link}
use Rattle.dep_list.specs.Lists.{state, row, rest, others, FoundIf}
use Rattle.dep_list.proofs.WalkLemmas.{found_node, step_of}
use Rattle.dep_list.proofs.walking.Others.next.Goals as goal

pub get-requires : goal.get-requires
get-requires c =
    let r = c.self.inside in let s = state r.lists.now in
    found_node s c.self.invariant.0 r.side r.key c.in-Some.at (subst (λ (o : Option Place). FoundIf o (row r.side r.key s.cells)) c.in-Some.is c.self.invariant.1)

pub invariant_of-self : goal.invariant_of-self
invariant_of-self c =
    let r = c.self.inside in let s = state r.lists.now in
    let step = step_of s c.self.invariant.0 r.side r.key c.in-Some.at (subst (λ (o : Option Place). FoundIf o (row r.side r.key s.cells)) c.in-Some.is c.self.invariant.1) c.get.result.now c.get.ensures in
    (c.self.invariant.0, subst (λ (l : Link). FoundIf l.next (row r.side r.key s.cells)) (sym c.step_of-other.ensures.link) step.next)

pub returns : goal.returns
returns c =
    let r = c.self.inside in let s = state r.lists.now in
    let step = step_of s c.self.invariant.0 r.side r.key c.in-Some.at (subst (λ (o : Option Place). FoundIf o (row r.side r.key s.cells)) c.in-Some.is c.self.invariant.1) c.get.result.now c.get.ensures in
    sym c.self.view_is ∙ ap (λ (o : Option Place). others (rest (row r.side r.key s.cells) o)) c.in-Some.is ∙ step.others
    ∙ sym (λ i. c.step_of-other.ensures.other i ∷ others (rest (row r.side r.key s.cells) (c.step_of-other.ensures.link i).next))
