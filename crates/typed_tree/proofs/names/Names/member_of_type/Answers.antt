use Rattle.std.proofs.Common.{sym, ◌∙◌, ap}
use Rattle.typed_tree.specs.Elements.{lineage}
use Rattle.typed_tree.specs.Members.{built_in_of}
use Rattle.typed_tree.proofs.Given.{given_of_base, given_of_kind}
use Rattle.typed_tree.proofs.Numbered.{told_as}
use Rattle.typed_tree.proofs.names.Names.member_of_type.Goals as goal

pub returns-in-Some : goal.returns-in-Some
returns-in-Some c =
    told_as _ _ _ (given_of_base c.args.self.now.comps c.args.element c.args.name.now (lineage c.args.self.now.comps c.args.ty) c.in-Some.base (sym c.declaring_base.ensures ∙ c.in-Some.is)) c.declared_member.ensures

pub returns-in-None : goal.returns-in-None
returns-in-None c =
    told_as _ _ _ (ap (λ kind. built_in_of c.args.element kind c.args.name.now) c.kind_of_type.ensures
    ∙ given_of_kind c.args.self.now.comps c.args.element c.args.name.now (lineage c.args.self.now.comps c.args.ty) (sym c.declaring_base.ensures ∙ c.in-None.is)) c.built_in_of.ensures
