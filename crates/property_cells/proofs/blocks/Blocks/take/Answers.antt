use Rattle.std.proofs.Common.{◌≡◌, ◌<◌, ◌-◌, length, [], None, refl, sym, ◌∙◌, subst, arith}
use Rattle.std.proofs.Math.ListN.{set}
use Rattle.std.proofs.lemmas.List.{get_or_read}
use Rattle.property_cells.specs.Blocks.{Free, sized, IsMore, chains}
use Rattle.property_cells.proofs.BlockLemmas.{sized_past, sized_none, taken_inside, chains_less}
use Rattle.property_cells.proofs.blocks.Blocks.take.Goals as goal

pub returns-then-len-size-clause-block : goal.returns-then-len-size-clause-block
returns-then-len-size-clause-block c =
    let b = c.self.inside in
    let h : length b.heads.items < c.args.size = (let l = b.heads.ok.0 in omega arith) in
    (subst (λ (f : Free). sized f.blocks c.args.size ≡ []) c.self.view_is (sized_past b.heads.items b.next.items c.self.invariant c.args.size h), refl)

pub returns-in_err-first-clause-block : goal.returns-in_err-first-clause-block
returns-in_err-first-clause-block c =
    let b = c.self.inside in
    let l : c.args.size - 1 < length b.heads.items = (let k = b.heads.ok.0 in omega arith) in
    let e = sym (get_or_read b.heads.items (c.args.size - 1) c.index.result.now l c.index.ensures None) ∙ c.in_err-first.was in
    rw c.from_residual.ensures (subst (λ (f : Free). sized f.blocks c.args.size ≡ []) c.self.view_is (sized_none b.heads.items b.next.items c.self.invariant c.args.size (omega arith) e), refl)

pub index-requires-2 : goal.index-requires-2
index-requires-2 c =
    let b = c.self.inside in
    let l : c.args.size - 1 < length b.heads.items = (let k = b.heads.ok.0 in omega arith) in
    let e = sym (get_or_read b.heads.items (c.args.size - 1) c.index.result.now l c.index.ensures None) ∙ c.in_ok-first.was in
    let h = taken_inside b.heads.items b.next.items c.self.invariant c.args.size c.in_ok-first.first e in let n = b.next.ok.0 in omega (arith, h, n)

pub invariant_of-self : goal.invariant_of-self
invariant_of-self c =
    let b = c.self.inside in
    let l : c.args.size - 1 < length b.heads.items = (let k = b.heads.ok.0 in omega arith) in
    let e = sym (get_or_read b.heads.items (c.args.size - 1) c.index.result.now l c.index.ensures None) ∙ c.in_ok-first.was in
    let h = taken_inside b.heads.items b.next.items c.self.invariant c.args.size c.in_ok-first.first e in
    (chains_less b.heads.items b.next.items c.self.invariant c.args.size c.in_ok-first.first c.index-2.result.now (omega arith) (let k = b.heads.ok.0 in omega arith) e (get_or_read b.next.items c.in_ok-first.first c.index-2.result.now h c.index-2.ensures None)).0

pub returns-clause-block : goal.returns-clause-block
returns-clause-block c =
    let b = c.self.inside in
    let l : c.args.size - 1 < length b.heads.items = (let k = b.heads.ok.0 in omega arith) in
    let e = sym (get_or_read b.heads.items (c.args.size - 1) c.index.result.now l c.index.ensures None) ∙ c.in_ok-first.was in
    let h = taken_inside b.heads.items b.next.items c.self.invariant c.args.size c.in_ok-first.first e in
    subst (λ (f : Free). IsMore (chains (set b.heads.items (c.args.size - 1) c.index-2.result.now) b.next.items) c.args.size c.in_ok-first.first f.blocks) c.self.view_is
    (chains_less b.heads.items b.next.items c.self.invariant c.args.size c.in_ok-first.first c.index-2.result.now (omega arith) (let k = b.heads.ok.0 in omega arith) e (get_or_read b.next.items c.in_ok-first.first c.index-2.result.now h c.index-2.ensures None)).1
