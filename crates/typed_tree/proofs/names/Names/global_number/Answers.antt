use Rattle.std.specs.Prelude.{position, slice_get}
use Rattle.std.specs.Str.{bytes_eq}
use Rattle.std.proofs.Common.{◌∙◌, ap}
use Rattle.typed_tree.specs.Members.{global_members_in}
use Rattle.typed_tree.proofs.Listed.{global_place}
use Rattle.typed_tree.proofs.names.Names.global_number.Goals as goal

pub returns : goal.returns
returns c = c.first_in.ensures ∙ global_place c.self.inside.outline.globals c.as_slice.result.now c.args.global c.args.name.now (c.as_slice.ensures ∙ c.self.invariant.names.globals)
    ∙ ap (λ o. position (λ m. bytes_eq m.name.name c.args.name.now) (global_members_in (slice_get o.globals c.args.global))) c.self.view_is
