use Rattle.std.proofs.Common.{sym, subst}
use Rattle.dep_list.specs.Cells.{places, Apart}
use Rattle.dep_list.specs.Lists.{State, state, with_link, next_to, FoundIf}
use Rattle.dep_list.proofs.Rows.{places-alter_if}
use Rattle.dep_list.proofs.Selections.{found_alter_if}
use Rattle.dep_list.proofs.lists.Lists.cut_out.Goals as goal

pub set_prev-requires-clause-apart : goal.set_prev-requires-clause-apart
set_prev-requires-clause-apart c =
    let s = state c.args.self.now in let l = c.args.link in
    subst (λ (t : State). Apart (places t.cells)) (sym c.set_next.ensures) (subst Apart (sym (places-alter_if (with_link c.args.side (next_to l.next)) l.prev s.cells)) c.requires.apart)

pub set_prev-requires-clause-there : goal.set_prev-requires-clause-there
set_prev-requires-clause-there c =
    let s = state c.args.self.now in let l = c.args.link in
    subst (λ (t : State). FoundIf l.next t.cells) (sym c.set_next.ensures) (found_alter_if (with_link c.args.side (next_to l.next)) l.prev s.cells l.next c.requires.next)
