use Rattle.std.proofs.Common.{◌≡◌, ◌+◌, Some, [], ◌∷◌, ◌++◌, sym, ◌∙◌, subst}
use Rattle.dep_list.specs.Cells.{take_out}
use Rattle.dep_list.specs.Lists.{state, Held, SamePairs}
use Rattle.dep_list.proofs.GrowLemmas.{grown, grown_held, same_pairs}
use Rattle.dep_list.proofs.lists.Lists.add_spare.Goals as goal

pub returns-clause-held : goal.returns-clause-held
returns-clause-held c =
    let s = state c.args.self.now in let p = c.adopt-at.result.ptr in let v = c.of.result.value in
    let w : c.renew.new.self.cells ≡ (grown s c.requires.held p v c.adopt-at.ensures.fresh).cells =
    c.renew.ensures ∙ (λ i. take_out (c.adopt-at.ensures.cells i) p ++ (p, c.spare_node-2.ensures i) ∷ []) in
    subst Held (λ i. record s { cells = sym w i; top = Some c.adopt-at.result; spare = s.spare + 1 }) (grown_held s c.requires.held p v c.adopt-at.ensures.fresh c.requires.small)

pub returns-clause-pairs : goal.returns-clause-pairs
returns-clause-pairs c =
    let s = state c.args.self.now in let p = c.adopt-at.result.ptr in let v = c.of.result.value in
    let w : c.renew.new.self.cells ≡ (grown s c.requires.held p v c.adopt-at.ensures.fresh).cells =
    c.renew.ensures ∙ (λ i. take_out (c.adopt-at.ensures.cells i) p ++ (p, c.spare_node-2.ensures i) ∷ []) in
    subst (SamePairs s) (λ i. record s { cells = sym w i; top = Some c.adopt-at.result; spare = s.spare + 1 }) (same_pairs s c.requires.held p v c.adopt-at.ensures.fresh)
