use Rattle.std.proofs.Common.{sym, ◌∙◌}
use Rattle.typed_tree.proofs.Numbered.{declared_is, told_as, undeclared}
use Rattle.typed_tree.proofs.names.Names.declared_member.Goals as goal

pub returns-in_default : goal.returns-in_default
returns-in_default c = undeclared c.args.element c.args.component c.args.inside c.args.name.now _ (sym c.member_number.ensures ∙ c.in_default.is)

pub returns : goal.returns
returns c = told_as _ _ _ (declared_is c.args.element c.args.component c.args.inside c.args.name.now _ _ c.in-Some.number _ c.at-found.ensures c.members_of.ensures (sym c.member_number.ensures ∙ c.in-Some.is)) c.declared_found.ensures
