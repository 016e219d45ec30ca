use Rattle.std.proofs.Common.{◌++◌, ◌∷◌, [], ap, refl, sym, ◌∙◌}
use Rattle.std.specs.Prelude.{slice_set}
use Rattle.std.proofs.lemmas.Option.{slice_get_read}
use Rattle.inliner.specs.Children.{row_in}
use Rattle.inliner.proofs.children.add_at.Goals as goal

pub returns : goal.returns
returns c =
    ap (λ row. slice_set c.args.rows.now.items c.args.at row) (c.in_ok-push.ensures.ok
    ∙ ap (λ row. row ++ c.args.child ∷ []) (sym (ap row_in (slice_get_read c.args.rows.now.items _ c.args.at c.index_mut.result.now refl c.requires c.index_mut.ensures.value))))
