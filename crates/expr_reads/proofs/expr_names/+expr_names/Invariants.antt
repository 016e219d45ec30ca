use Rattle.std.proofs.Common.{◌≡◌, ◌++◌, take}
use Rattle.std.specs.List.{flat_map}
use Rattle.expr_reads.specs.Names.{named, named_field, named_hole, named_operand, named_step}
use Rattle.expr_reads.proofs.expr_names.+expr_names.Given as goal

-- the names so far
abbrev pub invariant-add_exprs-loop-expr : goal.invariant-add_exprs-loop-expr
invariant-add_exprs-loop-expr l = l.found ≡ l.initial.found ++ flat_map named (take l.expr-index l.exprs)

abbrev pub invariant-add_operands-loop-operand : goal.invariant-add_operands-loop-operand
invariant-add_operands-loop-operand l = l.found ≡ l.initial.found ++ flat_map named_operand (take l.operand-index l.operands)

abbrev pub invariant-add_steps-loop-step : goal.invariant-add_steps-loop-step
invariant-add_steps-loop-step l = l.found ≡ l.initial.found ++ flat_map named_step (take l.step-index l.steps)

abbrev pub invariant-add_fields-loop-field : goal.invariant-add_fields-loop-field
invariant-add_fields-loop-field l = l.found ≡ l.initial.found ++ flat_map named_field (take l.field-index l.fields)

abbrev pub invariant-add_holes-loop-hole : goal.invariant-add_holes-loop-hole
invariant-add_holes-loop-hole l = l.found ≡ l.initial.found ++ flat_map named_hole (take l.hole-index l.holes)
