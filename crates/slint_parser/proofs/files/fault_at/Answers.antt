use Rattle.slint_parser.proofs.TopFault.{fault_at_end, fault_at_token, fault_at_none}
use Rattle.slint_parser.proofs.files.fault_at.Goals as goal

pub returns-in_default : goal.returns-in_default
returns-in_default c = fault_at_end c.args.file c.args.len c.args.tokens.now c.args.stop c.in_default.not-At

pub returns-in-Some : goal.returns-in-Some
returns-in-Some c =
    fault_at_token c.args.file c.args.len c.args.tokens.now c.args.stop c.in-At.rule c.in-At.left c.saturating_sub.result c.in-Some.token.now c.in-At.is c.saturating_sub.ensures c.in-Some.ensures

pub returns-in-None : goal.returns-in-None
returns-in-None c =
    fault_at_none c.args.file c.args.len c.args.tokens.now c.args.stop c.in-At.rule c.in-At.left c.saturating_sub.result _ c.in-At.is c.saturating_sub.ensures c.in-None.ensures
