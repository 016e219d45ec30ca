use Rattle.std.proofs.Common.{[], ◌∷◌, ◌++◌}
use Rattle.std.specs.List.{flat_map}
use Rattle.expr_reads.specs.declared.names.Named.TheVariants as names
use Rattle.expr_reads.specs.Names.{named, named_field, named_hole, named_kind, named_operand, named_step, called}
use Rattle.expr_reads.proofs.Forms.{added, added_behind, kind_array, kind_call, kind_chain, kind_choice, kind_item, kind_math, kind_part, kind_struct, kind_template, two}
use Rattle.expr_reads.proofs.expr_names.+expr_names.Goals as goal

pub add_kind-returns-in-Struct : goal.add_kind-returns-in-Struct
add_kind-returns-in-Struct t c =
    added c.add_fields.result c.args.found.now c.add_fields.new.found (flat_map named_field c.as_slice-in-Struct.result.now) (named_kind c.args.kind.now c.args.span)
    (kind_struct c.args.kind.now c.args.span c.in-Struct.fields c.as_slice-in-Struct.result.now c.in-Struct.is c.as_slice-in-Struct.ensures) c.add_fields.ensures

pub add_kind-returns-in-Array : goal.add_kind-returns-in-Array
add_kind-returns-in-Array t c =
    added c.add_exprs.result c.args.found.now c.add_exprs.new.found (flat_map named c.as_slice-in-Array.result.now) (named_kind c.args.kind.now c.args.span)
    (kind_array c.args.kind.now c.args.span c.in-Array.items c.as_slice-in-Array.result.now c.in-Array.is c.as_slice-in-Array.ensures) c.add_exprs.ensures

pub add_kind-returns-in-Math : goal.add_kind-returns-in-Math
add_kind-returns-in-Math t c =
    added c.add_exprs-in-Math.result c.args.found.now c.add_exprs-in-Math.new.found (flat_map named c.as_slice-in-Math.result.now) (named_kind c.args.kind.now c.args.span)
    (kind_math c.args.kind.now c.args.span c.in-Math.field-0 c.in-Math.values c.as_slice-in-Math.result.now c.in-Math.is c.as_slice-in-Math.ensures) c.add_exprs-in-Math.ensures

pub add_kind-returns-in-Template : goal.add_kind-returns-in-Template
add_kind-returns-in-Template t c =
    added c.add_holes.result c.args.found.now c.add_holes.new.found (flat_map named_hole c.as_slice-in-Template.result.now) (named_kind c.args.kind.now c.args.span)
    (kind_template c.args.kind.now c.args.span c.in-Template.field-0 c.in-Template.holes c.as_slice-in-Template.result.now c.in-Template.is c.as_slice-in-Template.ensures) c.add_holes.ensures

pub add_kind-returns-in_ok-named_in_expr-in-Part : goal.add_kind-returns-in_ok-named_in_expr-in-Part
add_kind-returns-in_ok-named_in_expr-in-Part t c =
    added_behind c.add_steps.result c.args.found.now c.named_in_expr-in-Part.new.found c.add_steps.new.found (named c.in-Part.base) (flat_map named_step c.as_slice.result.now) (named_kind c.args.kind.now c.args.span)
    c.in_ok-named_in_expr-in-Part.ensures (kind_part c.args.kind.now c.args.span c.in-Part.base c.in-Part.steps c.as_slice.result.now c.in-Part.is c.as_slice.ensures) c.add_steps.ensures

pub add_kind-returns-in_ok-named_in_expr-in-Chain : goal.add_kind-returns-in_ok-named_in_expr-in-Chain
add_kind-returns-in_ok-named_in_expr-in-Chain t c =
    added_behind c.add_operands.result c.args.found.now c.named_in_expr-in-Chain.new.found c.add_operands.new.found (named c.in-Chain.first) (flat_map named_operand c.as_slice-in-Chain.result.now) (named_kind c.args.kind.now c.args.span)
    c.in_ok-named_in_expr-in-Chain.ensures (kind_chain c.args.kind.now c.args.span c.in-Chain.first c.in-Chain.operands c.as_slice-in-Chain.result.now c.in-Chain.is c.as_slice-in-Chain.ensures) c.add_operands.ensures

pub add_kind-returns-in_ok-named_in_expr-in-Choice-2 : goal.add_kind-returns-in_ok-named_in_expr-in-Choice-2
add_kind-returns-in_ok-named_in_expr-in-Choice-2 t c =
    added_behind c.named_in_expr-in-Choice-3.result c.args.found.now c.named_in_expr-in-Choice-2.new.found c.named_in_expr-in-Choice-3.new.found (named c.in-Choice.condition ++ named c.in-Choice.yes) (named c.in-Choice.no)
    (named_kind c.args.kind.now c.args.span)
    (two c.args.found.now c.named_in_expr-in-Choice.new.found c.named_in_expr-in-Choice-2.new.found (named c.in-Choice.condition) (named c.in-Choice.yes) c.in_ok-named_in_expr-in-Choice.ensures c.in_ok-named_in_expr-in-Choice-2.ensures)
    (kind_choice c.args.kind.now c.args.span c.in-Choice.condition c.in-Choice.yes c.in-Choice.no c.in-Choice.is) c.named_in_expr-in-Choice-3.ensures

pub add_kind-returns-in_ok-named_in_expr-in-PropertyItem : goal.add_kind-returns-in_ok-named_in_expr-in-PropertyItem
add_kind-returns-in_ok-named_in_expr-in-PropertyItem t c =
    added_behind c.add-in-PropertyItem.result c.args.found.now c.named_in_expr.new.found c.add-in-PropertyItem.new.found (named c.in-PropertyItem.at) (names.Property c.in-PropertyItem.member ∷ [])
    (named_kind c.args.kind.now c.args.span) c.in_ok-named_in_expr-in-PropertyItem.ensures (kind_item c.args.kind.now c.args.span c.in-PropertyItem.member c.in-PropertyItem.at c.in-PropertyItem.is) c.add-in-PropertyItem.ensures

pub add_kind-returns-in_ok-add_exprs-in-Call : goal.add_kind-returns-in_ok-add_exprs-in-Call
add_kind-returns-in_ok-add_exprs-in-Call t c =
    added_behind c.add_callee.result c.args.found.now c.add_exprs-in-Call.new.found c.add_callee.new.found (flat_map named c.as_slice-in-Call.result.now) (called c.in-Call.callee c.args.span)
    (named_kind c.args.kind.now c.args.span) c.in_ok-add_exprs-in-Call.ensures
    (kind_call c.args.kind.now c.args.span c.in-Call.callee c.in-Call.values c.as_slice-in-Call.result.now c.in-Call.is c.as_slice-in-Call.ensures) c.add_callee.ensures
