use Rattle.std.proofs.Common.{◌∙◌, ap}
use Rattle.typed_tree.specs.Elements.{lineage}
use Rattle.typed_tree.proofs.BaseWalks.{kind_is}
use Rattle.typed_tree.proofs.names.Names.kind_of_type.Goals as goal

pub returns : goal.returns
returns c = c.kind.ensures ∙ kind_is c.self.inside.outline.comps c.self.inside.bases c.args.ty c.self.invariant.based ∙ ap (λ o. (lineage o.comps c.args.ty).kind) c.self.view_is
