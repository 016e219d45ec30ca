use Rattle.std.proofs.Common.{rules, sym, ap, ◌∙◌, List, ℕ}
use Rattle.value_types.specs.CommonTypes.{named, common}
use Rattle.value_types.specs.declared.types.Ty.{Ty}
use Rattle.value_types.proofs.CommonLemmas.{field_read, itself_is, left_none, right_none, right_some, structs_left, structs_right, structs_none}
use Rattle.value_types.proofs.common_types.+common.Goals as goal

pub array_with-returns-in_ok-new-in-Empty : goal.array_with-returns-in_ok-new-in-Empty
array_with-returns-in_ok-new-in-Empty t c = search (rules, itself_is c.args.item.now)

pub left_type-returns-in_ok-copy-in-None : goal.left_type-returns-in_ok-copy-in-None
left_type-returns-in_ok-copy-in-None t c = search (rules, left_none (c.args.name.now, c.args.field.now) c.args.others.now (search rules))

pub right_type-returns-in_ok-found-in-Some : goal.right_type-returns-in_ok-found-in-Some
right_type-returns-in_ok-found-in-Some t c =
    let read = field_read c.args.name.now c.args.fields.now c.in-Some.place c.index-as_slice-place.result c.in-Some.ensures.within (search rules) c.in-Some.ensures.field in
    ap (named c.args.name.now) c.in_ok-found-in-Some.ensures ∙ (ap (λ (g : List ℕ × Ty). named c.args.name.now (common g.1 c.args.other.now)) (sym c.index-as_slice-place.is) ∙ sym (right_some c.args.fields.now (c.args.name.now, c.args.other.now) c.index-as_slice-place.result.1 read))

pub right_type-returns-in_ok-copy-in-None : goal.right_type-returns-in_ok-copy-in-None
right_type-returns-in_ok-copy-in-None t c = search (rules, right_none c.args.fields.now (c.args.name.now, c.args.other.now) (search rules))

pub structs_with-returns-then-fields_within : goal.structs_with-returns-then-fields_within
structs_with-returns-then-fields_within t c = structs_left c.args.fields.now c.args.others.now c.fields_within.result _ c.fields_within.ensures c.if-fields_within.true c.in_ok-found.ensures

pub structs_with-returns-then-fields_within-2 : goal.structs_with-returns-then-fields_within-2
structs_with-returns-then-fields_within-2 t c = structs_right c.args.fields.now c.args.others.now c.fields_within.result c.fields_within-2.result _ c.fields_within.ensures c.if-fields_within.false c.fields_within-2.ensures c.if-fields_within-2.true c.in_ok-found-2.ensures

pub structs_with-returns : goal.structs_with-returns
structs_with-returns t c = structs_none c.args.fields.now c.args.others.now c.fields_within.result c.fields_within-2.result c.fields_within.ensures c.if-fields_within.false c.fields_within-2.ensures c.if-fields_within-2.false
