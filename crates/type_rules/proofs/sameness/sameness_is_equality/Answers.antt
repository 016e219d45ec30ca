use Rattle.std.proofs.Common.{sym, ◌∙◌}
use Rattle.type_rules.proofs.SameIs.{same_is}
use Rattle.type_rules.proofs.sameness.sameness_is_equality.Goals as goal

pub returns : goal.returns
returns c =
    let decides = same_is c.args.a.now c.args.b.now in
    (λ h. decides.0 (sym c.same_type.ensures ∙ h), λ e. c.same_type.ensures ∙ decides.1 e)
