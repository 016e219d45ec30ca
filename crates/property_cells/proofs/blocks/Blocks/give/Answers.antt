use Rattle.std.proofs.Common.{◌≡◌, ◌<◌, ◌-◌, length, Some, None, ap, subst, arith}
use Rattle.std.proofs.Math.ListN.{set}
use Rattle.std.proofs.lemmas.List.{get_or_read}
use Rattle.dep_list.specs.Pairs.{In}
use Rattle.property_cells.specs.Blocks.{Free, sized, IsMore, chains}
use Rattle.property_cells.proofs.BlockLemmas.{chains_more}
use Rattle.property_cells.proofs.blocks.Blocks.give.Goals as goal

pub invariant_of-self : goal.invariant_of-self
invariant_of-self c =
    let b = c.self.inside in
    let cells : length b.next.items ≡ c.args.self.now.cells = ap (λ (f : Free). f.cells) c.self.view_is in
    let longer = c.self.invariant.longer in
    let l : c.args.size - 1 < length b.heads.items = omega (arith, cells, longer, c.requires.inside, c.requires.cell) in
    (chains_more b.heads.items b.next.items c.self.invariant c.args.size c.args.first c.index.result.now c.requires.cell (omega (arith, cells, longer, c.requires.inside)) (omega (arith, cells, c.requires.inside, c.requires.cell))
    (λ n i. c.requires.new n (subst (λ (f : Free). In c.args.first (sized f.blocks n)) c.self.view_is i)) (get_or_read b.heads.items (c.args.size - 1) c.index.result.now l c.index.ensures None)).0

pub returns-clause-block : goal.returns-clause-block
returns-clause-block c =
    let b = c.self.inside in
    let cells : length b.next.items ≡ c.args.self.now.cells = ap (λ (f : Free). f.cells) c.self.view_is in
    let longer = c.self.invariant.longer in
    let l : c.args.size - 1 < length b.heads.items = omega (arith, cells, longer, c.requires.inside, c.requires.cell) in
    subst (λ (f : Free). IsMore f.blocks c.args.size c.args.first (chains (set b.heads.items (c.args.size - 1) (Some c.args.first)) (set b.next.items c.args.first c.index.result.now))) c.self.view_is
    (chains_more b.heads.items b.next.items c.self.invariant c.args.size c.args.first c.index.result.now c.requires.cell (omega (arith, cells, longer, c.requires.inside)) (omega (arith, cells, c.requires.inside, c.requires.cell))
    (λ n i. c.requires.new n (subst (λ (f : Free). In c.args.first (sized f.blocks n)) c.self.view_is i)) (get_or_read b.heads.items (c.args.size - 1) c.index.result.now l c.index.ensures None)).1
