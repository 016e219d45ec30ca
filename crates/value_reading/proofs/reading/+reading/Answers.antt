use Rattle.std.proofs.Common.{arith, refl, sym, ap, ◌∙◌, ◌-◌, ◌≡◌}
use Rattle.std.specs.Option.{option_copied}
use Rattle.value_reading.specs.Reading.{read_to, field_read}
use Rattle.value_reading.proofs.ReadingLemmas.{read_none, read_more, items_out, items_end, items_stop, items_last, items_lost, items_more, fields_out, fields_end, fields_wordless, fields_stop, fields_last, fields_lost, fields_more}
use Rattle.value_reading.proofs.reading.+reading.Goals as goal

pub read-returns-then-depth-eq0 : goal.read-returns-then-depth-eq0
read-returns-then-depth-eq0 t c = read_none c.args.enums.now c.args.parts.now c.args.depth c.args.ty.now c.args.place c.if-depth-eq0.true

pub read-returns : goal.read-returns
read-returns t c = read_more c.args.enums.now c.args.parts.now c.args.depth (c.args.depth - 1) c.args.ty.now c.args.place _ c.if-depth-eq0.false refl c.in_ok-found.ensures

pub items_read-returns : goal.items_read-returns
items_read-returns t c = let none : c.loop-left.left ≡ 0 = omega (arith, c.loop-left-test.false) in items_out (read_to c.args.enums.now c.args.parts.now c.args.depth c.args.item.now) c.args.parts.now c.loop-left.left c.loop-left.values c.loop-left.place _ none c.loop-left.invariant

pub items_read-returns-then-is_mark_at : goal.items_read-returns-then-is_mark_at
items_read-returns-then-is_mark_at t c = items_end (read_to c.args.enums.now c.args.parts.now c.args.depth c.args.item.now) c.args.parts.now c.loop-left.left c.loop-left.values c.loop-left.place _ c.loop-left-test.true (sym c.is_mark_at.ensures.value ∙ c.if-is_mark_at.true) c.loop-left.invariant

pub items_read-returns-in_default : goal.items_read-returns-in_default
items_read-returns-in_default t c = items_stop (read_to c.args.enums.now c.args.parts.now c.args.depth c.args.item.now) c.args.parts.now c.loop-left.left (c.loop-left.left - 1) c.loop-left.values c.loop-left.place _ c.in_ok-found.field-0 c.loop-left-test.true refl (sym c.is_mark_at.ensures.value ∙ c.if-is_mark_at.false) c.in_ok-found.ensures c.in_default.is c.loop-left.invariant

pub items_read-returns-then-is_mark_at-2 : goal.items_read-returns-then-is_mark_at-2
items_read-returns-then-is_mark_at-2 t c = items_last (read_to c.args.enums.now c.args.parts.now c.args.depth c.args.item.now) c.args.parts.now c.loop-left.left (c.loop-left.left - 1) c.loop-left.values c.push.new.self c.loop-left.place _ c.in_ok-found.field-0 c.in-Some.found c.loop-left-test.true refl (sym c.is_mark_at.ensures.value ∙ c.if-is_mark_at.false) c.in_ok-found.ensures c.in-Some.is c.in_ok-push.ensures.ok (sym c.is_mark_at-in-loop-left.ensures.value ∙ c.if-is_mark_at-2.true) c.loop-left.invariant

pub items_read-returns-then-not-is_mark_at : goal.items_read-returns-then-not-is_mark_at
items_read-returns-then-not-is_mark_at t c = items_lost (read_to c.args.enums.now c.args.parts.now c.args.depth c.args.item.now) c.args.parts.now c.loop-left.left (c.loop-left.left - 1) c.loop-left.values c.loop-left.place _ c.in_ok-found.field-0 c.in-Some.found c.loop-left-test.true refl (sym c.is_mark_at.ensures.value ∙ c.if-is_mark_at.false) c.in_ok-found.ensures c.in-Some.is (sym c.is_mark_at-in-loop-left.ensures.value ∙ c.if-is_mark_at-2.false) (sym c.is_mark_at-in-loop-left-2.ensures.value ∙ c.if-not-is_mark_at.true) c.loop-left.invariant

pub items_read-loop-left-preserved : goal.items_read-loop-left-preserved
items_read-loop-left-preserved t c = items_more (read_to c.args.enums.now c.args.parts.now c.args.depth c.args.item.now) c.args.parts.now c.loop-left.left (c.loop-left.left - 1) c.loop-left.values c.push.new.self c.loop-left.place _ c.in_ok-found.field-0 c.in-Some.found c.loop-left-test.true refl (sym c.is_mark_at.ensures.value ∙ c.if-is_mark_at.false) c.in_ok-found.ensures c.in-Some.is c.in_ok-push.ensures.ok (sym c.is_mark_at-in-loop-left.ensures.value ∙ c.if-is_mark_at-2.false) (sym c.is_mark_at-in-loop-left-2.ensures.value ∙ c.if-not-is_mark_at.false) c.loop-left.invariant

pub fields_read-returns : goal.fields_read-returns
fields_read-returns t c = let none : c.loop-left.left ≡ 0 = omega (arith, c.loop-left-test.false) in fields_out (read_to c.args.enums.now c.args.parts.now c.args.depth) c.args.fields.now c.args.parts.now c.loop-left.left c.loop-left.made c.loop-left.place _ none c.loop-left.invariant

pub fields_read-returns-then-is_mark_at : goal.fields_read-returns-then-is_mark_at
fields_read-returns-then-is_mark_at t c = fields_end (read_to c.args.enums.now c.args.parts.now c.args.depth) c.args.fields.now c.args.parts.now c.loop-left.left c.loop-left.made c.loop-left.place _ c.loop-left-test.true (sym c.is_mark_at.ensures.value ∙ c.if-is_mark_at.true) c.loop-left.invariant

pub fields_read-returns-in_default : goal.fields_read-returns-in_default
fields_read-returns-in_default t c = fields_wordless (read_to c.args.enums.now c.args.parts.now c.args.depth) c.args.fields.now c.args.parts.now c.loop-left.left (c.loop-left.left - 1) c.loop-left.made c.loop-left.place _ (option_copied c.word_at.result) c.loop-left-test.true refl (sym c.is_mark_at.ensures.value ∙ c.if-is_mark_at.false) c.word_at.ensures.value (ap (λ o. option_copied o) c.in_default.is) c.loop-left.invariant

pub fields_read-returns-in_default-2 : goal.fields_read-returns-in_default-2
fields_read-returns-in_default-2 t c = fields_stop (read_to c.args.enums.now c.args.parts.now c.args.depth) c.args.fields.now c.args.parts.now c.loop-left.left (c.loop-left.left - 1) c.loop-left.made c.loop-left.place _ (option_copied c.word_at.result) c.in-Some.word.now c.in_ok-found.field-0 c.loop-left-test.true refl (sym c.is_mark_at.ensures.value ∙ c.if-is_mark_at.false) c.word_at.ensures.value (ap (λ o. option_copied o) c.in-Some.is) (c.in_ok-found.ensures ∙ ap (λ w. field_read (read_to c.args.enums.now c.args.parts.now c.args.depth) c.args.fields.now c.args.parts.now c.loop-left.made c.loop-left.place w) c.as_slice.ensures) c.in_default-2.is c.loop-left.invariant

pub fields_read-returns-then-is_mark_at-2 : goal.fields_read-returns-then-is_mark_at-2
fields_read-returns-then-is_mark_at-2 t c =
    fields_last (read_to c.args.enums.now c.args.parts.now c.args.depth) c.args.fields.now c.args.parts.now c.loop-left.left (c.loop-left.left - 1) c.loop-left.made c.push.new.self c.loop-left.place _ (option_copied c.word_at.result) c.in-Some.word.now c.in_ok-from_slice.field-0 c.in_ok-found.field-0 c.in-Some-2.found c.loop-left-test.true refl (sym c.is_mark_at.ensures.value ∙ c.if-is_mark_at.false) c.word_at.ensures.value (ap (λ o. option_copied o) c.in-Some.is) (c.in_ok-found.ensures ∙ ap (λ w. field_read (read_to c.args.enums.now c.args.parts.now c.args.depth) c.args.fields.now c.args.parts.now c.loop-left.made c.loop-left.place w) c.as_slice.ensures) c.in-Some-2.is (c.in_ok-from_slice.ensures ∙ c.as_slice-in-loop-left.ensures) c.in_ok-push.ensures.ok (sym c.is_mark_at-in-loop-left.ensures.value ∙ c.if-is_mark_at-2.true) c.loop-left.invariant

pub fields_read-returns-then-not-is_mark_at : goal.fields_read-returns-then-not-is_mark_at
fields_read-returns-then-not-is_mark_at t c =
    fields_lost (read_to c.args.enums.now c.args.parts.now c.args.depth) c.args.fields.now c.args.parts.now c.loop-left.left (c.loop-left.left - 1) c.loop-left.made c.loop-left.place _ (option_copied c.word_at.result) c.in-Some.word.now c.in_ok-found.field-0 c.in-Some-2.found c.loop-left-test.true refl (sym c.is_mark_at.ensures.value ∙ c.if-is_mark_at.false) c.word_at.ensures.value (ap (λ o. option_copied o) c.in-Some.is) (c.in_ok-found.ensures ∙ ap (λ w. field_read (read_to c.args.enums.now c.args.parts.now c.args.depth) c.args.fields.now c.args.parts.now c.loop-left.made c.loop-left.place w) c.as_slice.ensures) c.in-Some-2.is (sym c.is_mark_at-in-loop-left.ensures.value ∙ c.if-is_mark_at-2.false) (sym c.is_mark_at-in-loop-left-2.ensures.value ∙ c.if-not-is_mark_at.true) c.loop-left.invariant

pub fields_read-loop-left-preserved : goal.fields_read-loop-left-preserved
fields_read-loop-left-preserved t c =
    fields_more (read_to c.args.enums.now c.args.parts.now c.args.depth) c.args.fields.now c.args.parts.now c.loop-left.left (c.loop-left.left - 1) c.loop-left.made c.push.new.self c.loop-left.place _ (option_copied c.word_at.result) c.in-Some.word.now c.in_ok-from_slice.field-0 c.in_ok-found.field-0 c.in-Some-2.found c.loop-left-test.true refl (sym c.is_mark_at.ensures.value ∙ c.if-is_mark_at.false) c.word_at.ensures.value (ap (λ o. option_copied o) c.in-Some.is) (c.in_ok-found.ensures ∙ ap (λ w. field_read (read_to c.args.enums.now c.args.parts.now c.args.depth) c.args.fields.now c.args.parts.now c.loop-left.made c.loop-left.place w) c.as_slice.ensures) c.in-Some-2.is (c.in_ok-from_slice.ensures ∙ c.as_slice-in-loop-left.ensures) c.in_ok-push.ensures.ok (sym c.is_mark_at-in-loop-left.ensures.value ∙ c.if-is_mark_at-2.false) (sym c.is_mark_at-in-loop-left-2.ensures.value ∙ c.if-not-is_mark_at.false) c.loop-left.invariant
