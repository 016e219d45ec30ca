use Rattle.std.specs.Option.{is_some}
use Rattle.std.proofs.Common.{sym, ◌∙◌, ap}
use Rattle.element_tables.specs.Members.{members}
use Rattle.element_tables.specs.Rows.{named}
use Rattle.typed_tree.specs.Elements.{lineage, type_of}
use Rattle.typed_tree.specs.Members.{given_by}
use Rattle.typed_tree.proofs.Given.{is_built_in, is_given}
use Rattle.typed_tree.proofs.names.Names.has_given_member.Goals as goal

pub returns-in-Some : goal.returns-in-Some
returns-in-Some c =
    is_given c.args.self.now.comps c.args.element c.args.name.now (lineage c.args.self.now.comps c.type_of-ty.result) c.in-Some.field-0 (sym c.declaring_base.ensures ∙ c.in-Some.is)
    ∙ ap (λ t. is_some (given_by c.args.self.now.comps c.args.element c.args.name.now (lineage c.args.self.now.comps t)))
    (c.type_of-ty.ensures ∙ ap (λ comps. type_of comps c.args.component c.args.element) (c.as_slice.ensures ∙ ap (λ o. o.comps) c.self.view_is))

pub returns-in-None : goal.returns-in-None
returns-in-None c =
    c.is_some.ensures ∙ ap is_some (c.member_named.ensures ∙ ap (λ name. named name (members c.kind_of_type.result)) c.as_str.ensures ∙ ap (λ kind. named c.args.name.now (members kind)) c.kind_of_type.ensures)
    ∙ is_built_in c.args.self.now.comps c.args.element c.args.name.now (lineage c.args.self.now.comps c.type_of-ty.result) (sym c.declaring_base.ensures ∙ c.in-None.is)
    ∙ ap (λ t. is_some (given_by c.args.self.now.comps c.args.element c.args.name.now (lineage c.args.self.now.comps t)))
    (c.type_of-ty.ensures ∙ ap (λ comps. type_of comps c.args.component c.args.element) (c.as_slice.ensures ∙ ap (λ o. o.comps) c.self.view_is))
