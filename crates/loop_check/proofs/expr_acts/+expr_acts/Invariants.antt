use Rattle.std.proofs.Common.{◌≡◌, ◌++◌, take}
use Rattle.std.specs.List.{flat_map}
use Rattle.loop_check.specs.Acts.{acts_in_expr, acts_in_field, acts_in_hole, acts_in_operand, acts_in_step}
use Rattle.loop_check.proofs.expr_acts.+expr_acts.Given as goal

-- the acts so far
abbrev pub invariant-add_exprs-loop-expr : goal.invariant-add_exprs-loop-expr
invariant-add_exprs-loop-expr l = l.acts ≡ l.initial.acts ++ flat_map acts_in_expr (take l.expr-index l.exprs)

abbrev pub invariant-add_operands-loop-operand : goal.invariant-add_operands-loop-operand
invariant-add_operands-loop-operand l = l.acts ≡ l.initial.acts ++ flat_map acts_in_operand (take l.operand-index l.operands)

abbrev pub invariant-add_steps-loop-step : goal.invariant-add_steps-loop-step
invariant-add_steps-loop-step l = l.acts ≡ l.initial.acts ++ flat_map acts_in_step (take l.step-index l.steps)

abbrev pub invariant-add_fields-loop-field : goal.invariant-add_fields-loop-field
invariant-add_fields-loop-field l = l.acts ≡ l.initial.acts ++ flat_map acts_in_field (take l.field-index l.fields)

abbrev pub invariant-add_holes-loop-hole : goal.invariant-add_holes-loop-hole
invariant-add_holes-loop-hole l = l.acts ≡ l.initial.acts ++ flat_map acts_in_hole (take l.hole-index l.holes)
