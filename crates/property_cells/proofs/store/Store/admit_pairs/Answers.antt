use Rattle.std.proofs.Common.{refl, arith}
use Rattle.property_cells.specs.declared.store.Store.{Store}
use Rattle.property_cells.proofs.AddHeld.{held_grown, seen_grown}
use Rattle.property_cells.proofs.store.Store.admit_pairs.Goals as goal

pub returns-in_err-admit_values-clause-seen : goal.returns-in_err-admit_values-clause-seen
returns-in_err-admit_values-clause-seen c =
    let s = c.args.self.now in let a = c.admit_values.ensures in let n : Store = record s { values = c.admit_values.new.values } in let K = c.requires.held in
    seen_grown s n K refl refl (omega arith) K.room.points (λ p h. refl) (omega arith) K.named_once (omega arith) K.threaded refl (omega arith) a.values a.grown (λ k. refl) (omega arith)
    (held_grown s n K refl refl (omega arith) K.room.points (λ p h. refl) (omega arith) K.named_once (omega arith) K.threaded refl (omega arith) a.values a.grown (λ k. refl) (omega arith)) refl

pub returns-clause-seen : goal.returns-clause-seen
returns-clause-seen c =
    let s = c.args.self.now in let a = c.admit_values.ensures in let r = c.reserve_ends.ensures.kept in let n : Store = record s { values = c.admit_values.new.values; deps = c.reserve_ends.new.self } in let K = c.requires.held in
    seen_grown s n K refl r.pairs r.readers (let p = K.room.points in let q = r.points in omega (arith, p, q)) (λ p h. refl) (omega arith) K.named_once (omega arith) K.threaded refl (omega arith) a.values a.grown (λ k. refl) (omega arith)
    (held_grown s n K refl r.pairs r.readers (let p = K.room.points in let q = r.points in omega (arith, p, q)) (λ p h. refl) (omega arith) K.named_once (omega arith) K.threaded refl (omega arith) a.values a.grown (λ k. refl) (omega arith)) refl
