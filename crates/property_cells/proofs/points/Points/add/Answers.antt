use Rattle.std.proofs.Common.{◌≡◌, ℕ, List, [], ◌∷◌, ◌++◌, length, get_or, Some, None, sym, ◌∙◌, subst}
use Rattle.std.specs.Prelude.{slice_set}
use Rattle.std.proofs.lemmas.List.{get_or_read}
use Rattle.property_cells.specs.declared.points.Entry.{Entry}
use Rattle.property_cells.specs.Points.{IsThreaded}
use Rattle.property_cells.proofs.PointLemmas.{added, threaded_more}
use Rattle.property_cells.proofs.points.Points.add.Goals as goal

pub returns-clause-threaded : goal.returns-clause-threaded
returns-clause-threaded c =
    let es = c.args.self.now.entries.items in let ends = c.args.self.now.lasts.items in let cell = c.args.cell in
    let next : c.index-next.result.now ≡ get_or ends cell None = get_or_read ends cell c.index-next.result.now c.requires.inside c.index-next.ensures None in
    let entries : c.push.new.self.items ≡ es ++ added es ends cell c.args.facet c.requires.threaded c.requires.inside ∷ [] =
    c.in_ok-push.ensures.items ∙ (λ i. es ++ record { cell = cell; facet = c.args.facet; next = next i } ∷ []) in
    let point : c.len-point.result ≡ length es = c.len-point.ensures ∙ c.args.self.now.entries.ok.0 in
    subst (λ (x : List Entry × ℕ). IsThreaded x.0 (slice_set ends cell (Some x.1))) (λ i. (sym entries i, sym point i)) (threaded_more es ends cell c.args.facet c.requires.threaded c.requires.inside)
