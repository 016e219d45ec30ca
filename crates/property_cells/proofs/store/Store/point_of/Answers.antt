use Rattle.std.proofs.Common.{◌≤◌, length, refl, arith}
use Rattle.property_cells.specs.declared.store.Store.{Store}
use Rattle.property_cells.proofs.AddHeld.{held_grown, seen_grown, once_added}
use Rattle.property_cells.proofs.store.Store.point_of.Goals as goal

pub returns-clause-held : goal.returns-clause-held
returns-clause-held c =
    let s = c.args.self.now in let a = c.in_ok-point.ensures in let r = c.in_ok-reserve_ends.ensures in
    let more = a.ok.1.more in let es = s.points.entries.items in
    let new = c.in_default.ensures in
    let room : length c.add.new.self.entries.items ≤ c.reserve_ends.new.self.points = (let h = r.points in let l = c.len.ensures in let n = c.in-Some-checked_add.ensures.1 in omega (arith, h, l, n, more)) in
    held_grown s _ c.requires.held refl r.kept.pairs r.kept.readers room a.ok.1.kept (omega (arith, more)) (once_added es c.add.new.self.entries.items (c.args.cell, c.args.facet) c.requires.held.named_once new a.ok.1)
    (let e = a.cells in omega (arith, e)) a.threaded refl (omega arith) (λ d. refl) (omega arith) (λ k. refl) (omega arith)

pub returns-clause-seen : goal.returns-clause-seen
returns-clause-seen c =
    let s = c.args.self.now in let a = c.in_ok-point.ensures in let r = c.in_ok-reserve_ends.ensures in
    let more = a.ok.1.more in let es = s.points.entries.items in
    let new = c.in_default.ensures in
    let room : length c.add.new.self.entries.items ≤ c.reserve_ends.new.self.points = (let h = r.points in let l = c.len.ensures in let n = c.in-Some-checked_add.ensures.1 in omega (arith, h, l, n, more)) in
    let n : Store = record s { deps = c.reserve_ends.new.self; points = c.add.new.self } in
    seen_grown s n c.requires.held refl r.kept.pairs r.kept.readers room a.ok.1.kept (omega (arith, more)) (once_added es c.add.new.self.entries.items (c.args.cell, c.args.facet) c.requires.held.named_once new a.ok.1)
    (let e = a.cells in omega (arith, e)) a.threaded refl (omega arith) (λ d. refl) (omega arith) (λ k. refl) (omega arith) (returns-clause-held c) refl
