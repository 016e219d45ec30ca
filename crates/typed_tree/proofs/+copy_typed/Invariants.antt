use Rattle.std.proofs.Common.{◌≡◌, take}
use Rattle.typed_tree.proofs.+copy_typed.Given as goal

-- the expressions so far
abbrev pub invariant-copying::copy_exprs-loop-expr : goal.invariant-copying::copy_exprs-loop-expr
invariant-copying::copy_exprs-loop-expr l = l.made ≡ take l.expr-index l.exprs

-- the operands so far
abbrev pub invariant-copying::copy_operands-loop-operand : goal.invariant-copying::copy_operands-loop-operand
invariant-copying::copy_operands-loop-operand l = l.made ≡ take l.operand-index l.operands

-- the steps so far
abbrev pub invariant-copying::copy_steps-loop-step : goal.invariant-copying::copy_steps-loop-step
invariant-copying::copy_steps-loop-step l = l.made ≡ take l.step-index l.steps

-- the fields so far
abbrev pub invariant-copying::copy_fields-loop-field : goal.invariant-copying::copy_fields-loop-field
invariant-copying::copy_fields-loop-field l = l.made ≡ take l.field-index l.fields

-- the holes so far
abbrev pub invariant-copying::copy_holes-loop-hole : goal.invariant-copying::copy_holes-loop-hole
invariant-copying::copy_holes-loop-hole l = l.made ≡ take l.hole-index l.holes
