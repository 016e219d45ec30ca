use Rattle.std.proofs.Common.{◌∙◌, ap, refl}
use Rattle.std.specs.Option.{option_copied}
use Rattle.expr_types.specs.Nodes.{argument_nodes}
use Rattle.syntax_tree.specs.declared.expressions.Expr.TheOpen.{Suffix-F}
use Rattle.expr_rules.specs.Denotations.{denoted}
use Rattle.expr_rules.specs.Targets.{argument_places}
use Rattle.expr_types.proofs.Telling.{empty_seen, seen_of}
use Rattle.expr_types.proofs.Turns.{each_turn, hole_turn, argument_turn, field_turn, names_turn, start_later, no_later, call_later, uncalled_later}
use Rattle.syntax_tree.specs.declared.expressions.Suffix.{out-Suffix}
use Rattle.syntax_tree.specs.declared.expressions.Suffix.TheVariants as suffixes
use Rattle.expr_types.proofs.expressions.+judging.Goals as goal

pub see_choice-returns : goal.see_choice-returns
see_choice-returns t c = c.in_ok-second.ensures _ (c.in_ok-first.ensures _ c.in_ok-before.ensures)

pub see_each-loop-e-init : goal.see_each-loop-e-init
see_each-loop-e-init t c = empty_seen c.new.ensures

pub see_each-loop-e-preserved : goal.see_each-loop-e-preserved
see_each-loop-e-preserved t c = each_turn (option_copied c.args.place) c.args.es.now c.loop-e.e-index c.e-item.result c.e-item.is c.loop-e-test.true (c.in_ok-seen.ensures _ c.loop-e.invariant)

pub see_fields-loop-field-init : goal.see_fields-loop-field-init
see_fields-loop-field-init t c = (empty_seen c.new.ensures, c.new-before.ensures)

pub see_fields-loop-field-preserved : goal.see_fields-loop-field-preserved
see_fields-loop-field-preserved t c = (
  field_turn (option_copied c.args.place) c.args.fields.now c.loop-field.field-index c.field-item.result c.loop-field.before _ c.field-item.is c.loop-field-test.true c.loop-field.invariant.1 c.field_place-wanted.ensures
      (c.in_ok-seen.ensures _ (c.in_ok-named.ensures c.args.scope.now _ c.loop-field.invariant.0)),
  names_turn c.args.fields.now c.loop-field.field-index c.field-item.result c.loop-field.before _ c.field-item.is c.loop-field-test.true c.loop-field.invariant.1 c.in_ok-push.ensures,
)

pub see_holes-loop-hole-init : goal.see_holes-loop-hole-init
see_holes-loop-hole-init t c = empty_seen c.new.ensures

pub see_holes-loop-hole-preserved : goal.see_holes-loop-hole-preserved
see_holes-loop-hole-preserved t c = hole_turn c.args.holes.now c.loop-hole.hole-index c.hole-item.result c.hole-item.is c.loop-hole-test.true (c.in_ok-seen.ensures _ c.loop-hole.invariant)

pub see_passed-loop-number-init : goal.see_passed-loop-number-init
see_passed-loop-number-init t c = empty_seen c.new.ensures

pub see_passed-loop-number-preserved : goal.see_passed-loop-number-preserved
see_passed-loop-number-preserved t c = argument_turn c.as_slice-wanted.result.now c.args.arguments.now c.loop-number.number c.index-arguments-number.result _ c.index-arguments-number.is c.loop-number-test.true c.at.ensures (c.in_ok-seen.ensures _ c.loop-number.invariant)

pub see_suffixed-loop-at-init : goal.see_suffixed-loop-at-init
see_suffixed-loop-at-init t c = c.in_ok-front.ensures c.in_ok-start.ensures (start_later c.args.first.now c.in_ok-start.start (empty_seen c.new.ensures))

pub see_arguments-returns-in-Member : goal.see_arguments-returns-in-Member
see_arguments-returns-in-Member t c = λ e before. no_later e before c.args.suffix.now c.args.parts.now (Suffix-F.Member c.in-Member.field-0) (ap out-Suffix c.in-Member.is ∙ suffixes.outs-Member c.in-Member.field-0) (λ xs. refl) c.in_ok-none.ensures

pub see_arguments-returns-in-Index : goal.see_arguments-returns-in-Index
see_arguments-returns-in-Index t c = λ e before. no_later e before c.args.suffix.now c.args.parts.now (Suffix-F.Index c.in-Index.field-0 c.in-Index.field-1) (ap out-Suffix c.in-Index.is ∙ suffixes.outs-Index c.in-Index.field-0 c.in-Index.field-1) (λ xs. refl) c.in_ok-none.ensures

pub see_arguments-returns : goal.see_arguments-returns
see_arguments-returns t c = λ e before. call_later e before c.args.suffix.now c.args.parts.now c.in-Call.arguments c.in-Call.field-1 c.in-Some.called.now (ap out-Suffix c.in-Call.is ∙ suffixes.outs-Call c.in-Call.arguments c.in-Call.field-1) c.in-Some.ensures
    (seen_of (ap (argument_nodes (argument_places (denoted c.in-Some.called.now).meaning)) c.as_slice-arguments.ensures) c.in_ok-later.ensures)

pub see_arguments-returns-in_default : goal.see_arguments-returns-in_default
see_arguments-returns-in_default t c = λ e before. uncalled_later e before c.args.suffix.now c.args.parts.now c.in-Call.arguments c.in-Call.field-1 (ap out-Suffix c.in-Call.is ∙ suffixes.outs-Call c.in-Call.arguments c.in-Call.field-1) c.in_default.ensures c.in_ok-none.ensures
