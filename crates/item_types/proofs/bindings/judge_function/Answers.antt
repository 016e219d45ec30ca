use Rattle.std.proofs.Common.{ap, ◌∙◌}
use Rattle.item_types.specs.Items.{function_body}
use Rattle.item_types.specs.Members.{function_found}
use Rattle.item_types.proofs.Telling.{if_going, going_in_err}
use Rattle.item_types.proofs.bindings.judge_function.Goals as goal

pub returns-in-Ok : goal.returns-in-Ok
returns-in-Ok c = if_going (function_body c.args.scope.now c.args.function.now) c.in-Ok.is (c.function_found-found.ensures ∙ ap (λ z. function_found c.args.function.now.name.span z) c.in_ok-member.ensures) c.function_body.result c.function_body.ensures

pub returns-in-Err : goal.returns-in-Err
returns-in-Err c = going_in_err (function_body c.args.scope.now c.args.function.now) c.in-Err.is (c.function_found-found.ensures ∙ ap (λ z. function_found c.args.function.now.name.span z) c.in_ok-member.ensures)
