use Rattle.std.proofs.Common.{[], ◌∷◌, ◌++◌, ◌∙◌, ap}
use Rattle.std.specs.List.{flat_map}
use Rattle.loop_check.specs.declared.acts.Act.{Act}
use Rattle.loop_check.specs.Acts.{acts_in_expr, acts_in_field, acts_in_hole, acts_in_kind, acts_in_operand, acts_in_step, call}
use Rattle.loop_check.proofs.Forms.{added, added_behind, kind_array, kind_call, kind_chain, kind_choice, kind_math, kind_part, kind_struct, kind_template, two}
use Rattle.loop_check.proofs.expr_acts.+expr_acts.Goals as goal

pub add_kind-returns-in-Struct : goal.add_kind-returns-in-Struct
add_kind-returns-in-Struct t c =
    added c.add_fields.result c.args.acts.now c.add_fields.new.acts (flat_map acts_in_field c.as_slice-in-Struct.result.now) (acts_in_kind c.args.kind.now c.args.span)
    (kind_struct c.args.kind.now c.args.span c.in-Struct.fields c.as_slice-in-Struct.result.now c.in-Struct.is c.as_slice-in-Struct.ensures) c.add_fields.ensures

pub add_kind-returns-in-Array : goal.add_kind-returns-in-Array
add_kind-returns-in-Array t c =
    added c.add_exprs.result c.args.acts.now c.add_exprs.new.acts (flat_map acts_in_expr c.as_slice-in-Array.result.now) (acts_in_kind c.args.kind.now c.args.span)
    (kind_array c.args.kind.now c.args.span c.in-Array.items c.as_slice-in-Array.result.now c.in-Array.is c.as_slice-in-Array.ensures) c.add_exprs.ensures

pub add_kind-returns-in-Math : goal.add_kind-returns-in-Math
add_kind-returns-in-Math t c =
    added c.add_exprs-in-Math.result c.args.acts.now c.add_exprs-in-Math.new.acts (flat_map acts_in_expr c.as_slice-in-Math.result.now) (acts_in_kind c.args.kind.now c.args.span)
    (kind_math c.args.kind.now c.args.span c.in-Math.field-0 c.in-Math.values c.as_slice-in-Math.result.now c.in-Math.is c.as_slice-in-Math.ensures) c.add_exprs-in-Math.ensures

pub add_kind-returns-in-Template : goal.add_kind-returns-in-Template
add_kind-returns-in-Template t c =
    added c.add_holes.result c.args.acts.now c.add_holes.new.acts (flat_map acts_in_hole c.as_slice-in-Template.result.now) (acts_in_kind c.args.kind.now c.args.span)
    (kind_template c.args.kind.now c.args.span c.in-Template.field-0 c.in-Template.holes c.as_slice-in-Template.result.now c.in-Template.is c.as_slice-in-Template.ensures) c.add_holes.ensures

pub add_kind-returns-in_ok-add_expr-in-Part : goal.add_kind-returns-in_ok-add_expr-in-Part
add_kind-returns-in_ok-add_expr-in-Part t c =
    added_behind c.add_steps.result c.args.acts.now c.add_expr-in-Part.new.acts c.add_steps.new.acts (acts_in_expr c.in-Part.base) (flat_map acts_in_step c.as_slice.result.now) (acts_in_kind c.args.kind.now c.args.span)
    c.in_ok-add_expr-in-Part.ensures (kind_part c.args.kind.now c.args.span c.in-Part.base c.in-Part.steps c.as_slice.result.now c.in-Part.is c.as_slice.ensures) c.add_steps.ensures

pub add_kind-returns-in_ok-add_expr-in-Chain : goal.add_kind-returns-in_ok-add_expr-in-Chain
add_kind-returns-in_ok-add_expr-in-Chain t c =
    added_behind c.add_operands.result c.args.acts.now c.add_expr-in-Chain.new.acts c.add_operands.new.acts (acts_in_expr c.in-Chain.first) (flat_map acts_in_operand c.as_slice-in-Chain.result.now) (acts_in_kind c.args.kind.now c.args.span)
    c.in_ok-add_expr-in-Chain.ensures (kind_chain c.args.kind.now c.args.span c.in-Chain.first c.in-Chain.operands c.as_slice-in-Chain.result.now c.in-Chain.is c.as_slice-in-Chain.ensures) c.add_operands.ensures

pub add_kind-returns-in_ok-add_expr-in-Choice-2 : goal.add_kind-returns-in_ok-add_expr-in-Choice-2
add_kind-returns-in_ok-add_expr-in-Choice-2 t c =
    added_behind c.add_expr-in-Choice-3.result c.args.acts.now c.add_expr-in-Choice-2.new.acts c.add_expr-in-Choice-3.new.acts (acts_in_expr c.in-Choice.condition ++ acts_in_expr c.in-Choice.yes) (acts_in_expr c.in-Choice.no)
    (acts_in_kind c.args.kind.now c.args.span)
    (two c.args.acts.now c.add_expr-in-Choice.new.acts c.add_expr-in-Choice-2.new.acts (acts_in_expr c.in-Choice.condition) (acts_in_expr c.in-Choice.yes) c.in_ok-add_expr-in-Choice.ensures c.in_ok-add_expr-in-Choice-2.ensures)
    (kind_choice c.args.kind.now c.args.span c.in-Choice.condition c.in-Choice.yes c.in-Choice.no c.in-Choice.is) c.add_expr-in-Choice-3.ensures

pub add_kind-returns-in_ok-push-in-Call : goal.add_kind-returns-in_ok-push-in-Call
add_kind-returns-in_ok-push-in-Call t c =
    added_behind c.add_exprs-in-Call.result c.args.acts.now c.push.new.self c.add_exprs-in-Call.new.acts (call c.in-Call.callee c.args.span ∷ []) (flat_map acts_in_expr c.as_slice-in-Call.result.now)
    (acts_in_kind c.args.kind.now c.args.span) (c.in_ok-push-in-Call.ensures.ok ∙ ap (λ (x : Act). c.args.acts.now ++ x ∷ []) c.call.ensures)
    (kind_call c.args.kind.now c.args.span c.in-Call.callee c.in-Call.values c.as_slice-in-Call.result.now c.in-Call.is c.as_slice-in-Call.ensures) c.add_exprs-in-Call.ensures
