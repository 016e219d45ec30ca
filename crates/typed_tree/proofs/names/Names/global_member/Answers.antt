use Rattle.std.proofs.Common.{sym, ◌∙◌}
use Rattle.typed_tree.proofs.Numbered.{global_is, no_global, told_as}
use Rattle.typed_tree.proofs.names.Names.global_member.Goals as goal

pub returns-in_default : goal.returns-in_default
returns-in_default c = no_global c.args.global c.args.name.now _ (sym c.global_number.ensures ∙ c.in_default.is)

pub returns : goal.returns
returns c = told_as _ _ _ (global_is c.args.global c.args.name.now _ _ c.in-Some.number _ c.at-found.ensures c.members_of_global.ensures (sym c.global_number.ensures ∙ c.in-Some.is)) c.declared_found.ensures
