use Rattle.std.specs.Prelude.{slice_get, filter}
use Rattle.std.specs.List.{list_all}
use Rattle.std.proofs.Common.{◌≡◌, ℕ, Bool, List, ◌∷◌, sym, ◌∙◌}
use Rattle.typed_tree.specs.Elements.{is_among, outwards, repeated_in}
use Rattle.typed_tree.proofs.Walks.{not_looked_at, passing, seen_goes}
use Rattle.typed_tree.proofs.elements.sees.Goals as goal
use Rattle.typed_tree.proofs.elements.sees.Goals.{else-is_repeated-via-then-is_repeated+else-not-is_around, else-is_repeated-via-else-is_repeated}

pub loop-preserved : goal.loop-preserved
loop-preserved c =
    let test : ℕ → Bool = λ d. is_among (outwards c.args.elements.now c.args.from) d in
    let looked : ℕ → Bool = λ d. repeated_in (slice_get c.args.elements.now d) in
    let same : (es : List ℕ) → list_all test (filter looked (c.in-Some.outer ∷ es)) ≡ list_all test (filter looked es) =
    λ es. elim c.else-is_repeated.branch [
      | else-is_repeated-via-then-is_repeated+else-not-is_around w ↦ passing test looked c.in-Some.outer es (sym c.is_repeated.ensures ∙ w.if-is_repeated.true) (sym w.is_around.ensures ∙ w.if-not-is_around.false)
      | else-is_repeated-via-else-is_repeated w ↦ not_looked_at test looked c.in-Some.outer es (sym c.is_repeated.ensures ∙ w.if-is_repeated.false)
    ] in
    seen_goes c.args.elements.now test looked _ _ _ c.loop-test.true same c.loop.invariant c.in-Some.is c.parent_of-around.ensures
