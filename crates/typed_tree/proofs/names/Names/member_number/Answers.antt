use Rattle.std.specs.Prelude.{position, slice_get}
use Rattle.std.proofs.Common.{◌∙◌, ap}
use Rattle.typed_tree.specs.MemberIndexes.{is_named, number_in}
use Rattle.typed_tree.specs.Members.{members_in}
use Rattle.typed_tree.proofs.names.Names.member_number.Goals as goal

pub returns : goal.returns
returns c = c.number_in.ensures ∙ ap (λ indexes. number_in (slice_get indexes c.args.component) c.args.element c.args.name.now) c.as_slice.ensures
    ∙ c.self.invariant.finds c.args.component c.args.element c.args.name.now
    ∙ ap (λ o. position (is_named c.args.element c.args.name.now) (members_in (slice_get o.comps c.args.component))) c.self.view_is
