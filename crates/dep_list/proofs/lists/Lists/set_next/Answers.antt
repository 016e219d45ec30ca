use Rattle.std.proofs.Common.{◌≡◌, sym, ap, ◌∙◌}
use Rattle.dep_list.specs.Cells.{put}
use Rattle.dep_list.specs.Lists.{state, with_link, next_to, alter_if}
use Rattle.dep_list.proofs.Places.{put-alter}
use Rattle.dep_list.proofs.lists.Lists.set_next.Goals as goal

pub returns-in-Some : goal.returns-in-Some
returns-in-Some c =
    let s = state c.args.self.now in
    let g = with_link c.args.side (next_to c.args.to) in
    let written : c.set.new.self.cells ≡ alter_if g c.args.at s.cells =
    c.set.ensures ∙ ap (put s.cells c.in-Some.at.ptr) c.leading_on-node.ensures
    ∙ put-alter g c.in-Some.at.ptr s.cells c.get.result.now c.requires.apart c.get.ensures
    ∙ ap (λ at. alter_if g at s.cells) (sym c.in-Some.is) in
    λ i. record s { cells = written i }
