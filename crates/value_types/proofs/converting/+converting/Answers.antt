use Rattle.std.proofs.Common.{rules, sym, ◌∙◌}
use Rattle.value_types.specs.Conversions.{converted, field_in}
use Rattle.value_types.proofs.ConversionLemmas.{all_more, all_none, field_none, field_some, fields_apart, fields_alike, with_values}
use Rattle.value_types.proofs.converting.+converting.Goals as goal

pub fields_in-returns-in_default : goal.fields_in-returns-in_default
fields_in-returns-in_default t c =
    let none = field_none c.wanted-item.result c.args.fields.now _ _ c.field_named.ensures c.in_ok-value.ensures c.in_default.is in
    all_none (λ wanted. field_in (with_values converted c.args.fields.now) wanted) c.args.to.now c.loop-wanted.wanted-index c.wanted-item.result c.loop-wanted.made _ (search rules) (search rules) none c.loop-wanted.invariant

pub fields_in-loop-wanted-preserved : goal.fields_in-loop-wanted-preserved
fields_in-loop-wanted-preserved t c =
    let some = field_some c.wanted-item.result c.args.fields.now _ _ c.in_ok-copy.field-0 c.in-Some.value c.field_named.ensures c.in_ok-value.ensures c.in-Some.is c.in_ok-copy.ensures in
    all_more (λ wanted. field_in (with_values converted c.args.fields.now) wanted) c.args.to.now c.loop-wanted.wanted-index c.wanted-item.result (c.in_ok-copy.field-0, c.in-Some.value) c.loop-wanted.made c.push.new.self _ (search rules) (search rules) some c.in_ok-push.ensures.ok c.loop-wanted.invariant

pub struct_of-returns-then-not-is_wider_or_narrower : goal.struct_of-returns-then-not-is_wider_or_narrower
struct_of-returns-then-not-is_wider_or_narrower t c = fields_apart c.args.fields.now c.args.wanted.now c.is_wider_or_narrower.result c.is_wider_or_narrower.ensures c.if-not-is_wider_or_narrower.true

pub struct_of-returns-in-Some : goal.struct_of-returns-in-Some
struct_of-returns-in-Some t c = fields_alike c.args.fields.now c.args.wanted.now c.is_wider_or_narrower.result c.in-Some.made c.is_wider_or_narrower.ensures c.if-not-is_wider_or_narrower.false (sym c.in-Some.is ∙ c.in_ok-made.ensures)
