use Rattle.std.proofs.Common.{◌≡◌, suc, length, ap, ◌∙◌, refl, arith}
use Rattle.dep_list.specs.Lists.{state}
use Rattle.dep_list.proofs.SeenLemmas.{spare_top_found, IsSpare-pop, length-take_out, IsSpare-none}
use Rattle.dep_list.proofs.lists.Lists.free_spare.Goals as goal

pub get-requires : goal.get-requires
get-requires c = spare_top_found (state c.loop-self.self) c.loop-self.invariant c.in-Some.at c.in-Some.is

pub loop-self-smaller : goal.loop-self-smaller
loop-self-smaller c =
    let there = spare_top_found (state c.loop-self.self) c.loop-self.invariant c.in-Some.at c.in-Some.is in
    let less : suc (length c.release.new.self.cells) ≡ length c.loop-self.self.nodes.cells =
    ap (λ cs. suc (length cs)) c.release.ensures.cells ∙ length-take_out c.in-Some.at.ptr c.loop-self.self.nodes.cells there in
    omega (arith, less)

pub loop-self-preserved : goal.loop-self-preserved
loop-self-preserved c =
    let s = state c.loop-self.self in
    let t = record s { cells = c.release.new.self.cells; top = c.get.result.now.by_reader.next } in
    IsSpare-pop s t c.loop-self.invariant c.in-Some.at c.in-Some.is c.get.result.now c.get.ensures c.release.ensures.cells refl

pub returns : goal.returns
returns c = IsSpare-none (state c.loop-self.self) c.loop-self.invariant c.in_default.is
