use Rattle.std.proofs.Common.{◌≡◌, List, length, refl, sym, ap, subst, arith}
use Rattle.property_cells.specs.declared.points.Entry.{Entry}
use Rattle.property_cells.specs.Points.{name_at}
use Rattle.property_cells.specs.Store.{NamedOnce}
use Rattle.property_cells.proofs.AddHeld.{held_grown}
use Rattle.property_cells.proofs.store.Store.admit_threads.Goals as goal

pub returns-clause-held : goal.returns-clause-held
returns-clause-held c =
    let s = c.args.self.now in let a = c.in_ok-admit.ensures in
    let e : length c.admit.new.self.entries.items ≡ length s.points.entries.items = ap (λ (es : List Entry). length es) a.points in
    held_grown s _ c.requires refl refl (omega arith) (let r = c.requires.room.points in omega (arith, e, r)) (λ p h. ap (λ (es : List Entry). name_at es p) a.points) (omega (arith, e))
    (subst (λ (es : List Entry). NamedOnce es) (sym a.points) c.requires.named_once) (let m = a.cells in omega (arith, m)) a.threaded c.in_ok-admit-2.ensures.list (let m = c.in_ok-admit-2.ensures.cells in omega (arith, m)) (λ d. refl) (omega arith)
    c.admit-3.ensures.blocks c.admit-3.ensures.grown
