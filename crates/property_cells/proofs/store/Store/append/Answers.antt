use Rattle.std.proofs.Common.{◌≡◌, ◌+◌, ◌-◌, ◌++◌, ℕ, length, replicate, refl, sym, ap, ◌∙◌, subst, arith}
use Rattle.property_cells.specs.declared.store.Store.{Store}
use Rattle.property_cells.specs.Marks.{fresh}
use Rattle.property_cells.specs.Net.{Net, Adds}
use Rattle.property_cells.specs.Store.{seen, HasTables, HasEnds}
use Rattle.property_cells.proofs.AddHeld.{held_new, adds_new}
use Rattle.property_cells.proofs.store.Store.append.Goals as goal

pub returns-clause-held : goal.returns-clause-held
returns-clause-held c =
    let t = c.admit_pairs.new.self in
    let same = c.in_ok-admit_pairs.ensures.cells ∙ c.in_ok-admit_threads.ensures.cells in
    let long : length t.marks.cells.items ≡ c.len-first.result = (λ i. length (same i).cells.items) ∙ sym c.len-first.ensures in
    let sum = c.in-Some.ensures.1 in
    let cells : c.in-Some.cells ≡ length t.marks.cells.items + c.args.count = omega (arith, long, sum) in
    let left : c.in-Some.cells - length t.marks.cells.items ≡ c.args.count = omega (arith, cells) in
    held_new t _ c.in_ok-admit_pairs.ensures.held c.args.count (c.in_ok-append.ensures.ok ∙ ap (λ k. t.marks.cells.items ++ replicate k fresh) left) c.in_ok-append.ensures.head refl refl refl refl refl refl
    (subst (λ k. HasTables k t) cells c.in_ok-admit_pairs.ensures.tables) (subst (λ k. HasEnds k t) cells c.in_ok-admit_pairs.ensures.ok)

pub returns-clause-ok : goal.returns-clause-ok
returns-clause-ok c =
    let t = c.admit_pairs.new.self in let n : Store = record t { marks = c.append.new.self } in
    let same = c.in_ok-admit_pairs.ensures.cells ∙ c.in_ok-admit_threads.ensures.cells in
    let long : length t.marks.cells.items ≡ c.len-first.result = (λ i. length (same i).cells.items) ∙ sym c.len-first.ensures in
    let sum = c.in-Some.ensures.1 in
    let cells : c.in-Some.cells ≡ length t.marks.cells.items + c.args.count = omega (arith, long, sum) in
    let left : c.in-Some.cells - length t.marks.cells.items ≡ c.args.count = omega (arith, cells) in
    let before = c.in_ok-admit_pairs.ensures.seen ∙ c.in_ok-admit_threads.ensures.seen in
    subst (λ (x : Net × ℕ). Adds x.0 (seen n) x.1 c.args.count) (λ i. (before i, long i))
    (adds_new t n c.in_ok-admit_pairs.ensures.held c.args.count (c.in_ok-append.ensures.ok ∙ ap (λ k. t.marks.cells.items ++ replicate k fresh) left) c.in_ok-append.ensures.head refl refl refl refl refl refl
    (subst (λ k. HasTables k t) cells c.in_ok-admit_pairs.ensures.tables) (subst (λ k. HasEnds k t) cells c.in_ok-admit_pairs.ensures.ok) (returns-clause-held c))
