use Rattle.std.proofs.Common.{rules, refl, sym}
use Rattle.slint_grammar.specs.Parts as parts
use Rattle.slint_grammar.specs.Grammar.{Alt as alts}
use Rattle.slint_parser.proofs.Joining.{alt_error, part_error, took_by, end_all, and_one, and_same, and_deep, at_one, at_same, at_deep, past_one, past_same, past_deep, chosen_reads, chosen_took, chosen_stuck}
use Rattle.slint_parser.proofs.Among.{unlike}
use Rattle.slint_parser.proofs.Shorter.{shorter}
use Rattle.slint_parser.proofs.HeadForks as heads
use Rattle.slint_parser.proofs.ChosenItems as chosen
use Rattle.slint_parser.proofs.bodies.+items.Goals as goal

pub body-returns-in_err-symbol : goal.body-returns-in_err-symbol
body-returns-in_err-symbol t c =
    part_error parts.Body c.args.depth c.args.cursor.now c.symbol.new.self _ c.from_residual.result c.from_residual.ensures.1 (chosen_stuck (chosen.chosen_body c.args.depth c.args.cursor.now) (at_one c.in_err-symbol.ensures))

pub body-returns-in_err-all : goal.body-returns-in_err-all
body-returns-in_err-all t c =
    part_error parts.Body c.args.depth c.args.cursor.now c.items.new.cursor _ c.from_residual-in_err-all.result c.from_residual-in_err-all.ensures.1 (chosen_stuck (chosen.chosen_body c.args.depth c.args.cursor.now) (past_one c.in_ok-symbol.ensures (at_same c.in_err-all.ensures)))

pub body-returns : goal.body-returns
body-returns t c =
    chosen_took (chosen.chosen_body c.args.depth c.args.cursor.now) (took_by alts.body (and_one c.in_ok-symbol.ensures (and_same c.in_ok-all.ensures (end_all c.args.depth c.items.new.cursor))))

pub items-turns-init : goal.items-turns-init
items-turns-init t c =
    rw c.new-all.ensures (chosen.items_begin c.args.depth c.args.cursor.now)

pub items-turns-preserved : goal.items-turns-preserved
items-turns-preserved t c =
    chosen.items_next c.args.depth c.args.cursor.now c.turns.cursor c.item.new.cursor c.turns.all c.push.new.self c.in_ok-one.one c.turns.invariant (unlike c.sees.result c.turns-test.true c.sees.ensures.1) c.in_ok-one.ensures c.in_ok-push.ensures.ok

pub items-turns-smaller : goal.items-turns-smaller
items-turns-smaller t c =
    shorter c.in_ok-one.ensures.x refl

pub items-returns-in_err-one : goal.items-returns-in_err-one
items-returns-in_err-one t c =
    part_error parts.Items c.args.depth c.args.cursor.now c.item.new.cursor _ c.from_residual.result c.from_residual.ensures.1 (chosen.items_no_item c.args.depth c.args.cursor.now c.turns.cursor c.turns.all _ c.turns.invariant (unlike c.sees.result c.turns-test.true c.sees.ensures.1) c.in_err-one.ensures)

pub items-returns-in_err-symbol : goal.items-returns-in_err-symbol
items-returns-in_err-symbol t c =
    part_error parts.Items c.args.depth c.args.cursor.now c.symbol.new.self _ c.from_residual-in_err-symbol.result c.from_residual-in_err-symbol.ensures.1 (chosen.items_open c.args.depth c.args.cursor.now c.turns.cursor c.turns.all _ c.turns.invariant (c.sees.ensures.0 c.turns-test.false) c.in_err-symbol.ensures)

pub items-returns : goal.items-returns
items-returns t c =
    chosen.items_took c.args.depth c.args.cursor.now c.turns.cursor c.symbol.new.self c.turns.all c.in_ok-symbol.field-0 c.turns.invariant (c.sees.ensures.0 c.turns-test.false) c.in_ok-symbol.ensures

pub item-returns-in-Property : goal.item-returns-in-Property
item-returns-in-Property t c =
    chosen_reads alts.property_item c.args.depth c.args.cursor.now c.property_item.new.cursor c.property_item.result (heads.item_property c.args.depth c.args.cursor.now (sym c.in-Property.ensures)) c.property_item.ensures

pub item-returns-in-Callback : goal.item-returns-in-Callback
item-returns-in-Callback t c =
    chosen_reads alts.callback_item c.args.depth c.args.cursor.now c.callback_item.new.cursor c.callback_item.result (heads.item_callback c.args.depth c.args.cursor.now (sym c.in-Callback.ensures)) c.callback_item.ensures

pub item-returns-in-Function : goal.item-returns-in-Function
item-returns-in-Function t c =
    chosen_reads alts.function_item c.args.depth c.args.cursor.now c.function_item.new.cursor c.function_item.result (heads.item_function c.args.depth c.args.cursor.now (sym c.in-Function.ensures)) c.function_item.ensures

pub item-returns-in-Changed : goal.item-returns-in-Changed
item-returns-in-Changed t c =
    chosen_reads alts.changed_item c.args.depth c.args.cursor.now c.changed_item.new.cursor c.changed_item.result (heads.item_changed c.args.depth c.args.cursor.now (sym c.in-Changed.ensures)) c.changed_item.ensures

pub item-returns-in-States : goal.item-returns-in-States
item-returns-in-States t c =
    chosen_reads alts.states_item c.args.depth c.args.cursor.now c.states_item.new.cursor c.states_item.result (heads.item_states c.args.depth c.args.cursor.now (sym c.in-States.ensures)) c.states_item.ensures

pub item-returns-in-If : goal.item-returns-in-If
item-returns-in-If t c =
    chosen_reads alts.if_item c.args.depth c.args.cursor.now c.if_item.new.cursor c.if_item.result (heads.item_if c.args.depth c.args.cursor.now (sym c.in-If.ensures)) c.if_item.ensures

pub item-returns-in-For : goal.item-returns-in-For
item-returns-in-For t c =
    chosen_reads alts.for_item c.args.depth c.args.cursor.now c.for_item.new.cursor c.for_item.result (heads.item_for c.args.depth c.args.cursor.now (sym c.in-For.ensures)) c.for_item.ensures

pub item-returns-in-Nameless : goal.item-returns-in-Nameless
item-returns-in-Nameless t c =
    chosen_reads alts.children_item c.args.depth c.args.cursor.now c.children_item.new.cursor c.children_item.result (heads.item_nameless c.args.depth c.args.cursor.now (sym c.in-Nameless.ensures)) c.children_item.ensures

pub item-named_item-requires : goal.item-named_item-requires
item-named_item-requires t c =
    (search rules, heads.may_name c.args.cursor.now (sym c.in-Name.ensures))

pub named_item-returns-then-shows_ahead : goal.named_item-returns-then-shows_ahead
named_item-returns-then-shows_ahead t c =
    chosen_reads alts.binding_item c.args.depth c.args.cursor.now c.binding_item.new.cursor c.binding_item.result (chosen.chosen_binding c.args.depth c.args.cursor.now c.requires.named (c.shows_ahead.ensures.0 c.if-shows_ahead.true)) c.binding_item.ensures

pub named_item-returns-then-shows_ahead-2 : goal.named_item-returns-then-shows_ahead-2
named_item-returns-then-shows_ahead-2 t c =
    chosen_reads alts.link_item c.args.depth c.args.cursor.now c.link_item.new.cursor c.link_item.result (chosen.chosen_link c.args.depth c.args.cursor.now c.requires.named (c.shows_ahead-2.ensures.0 c.if-shows_ahead-2.true)) c.link_item.ensures

pub named_item-returns-then-shows_ahead-3 : goal.named_item-returns-then-shows_ahead-3
named_item-returns-then-shows_ahead-3 t c =
    chosen_reads alts.element_item c.args.depth c.args.cursor.now c.element_item.new.cursor c.element_item.result (chosen.chosen_element_item c.args.depth c.args.cursor.now c.requires.named (c.shows_ahead-3.ensures.0 c.if-shows_ahead-3.true)) c.element_item.ensures

pub named_item-returns-then-shows_ahead-4 : goal.named_item-returns-then-shows_ahead-4
named_item-returns-then-shows_ahead-4 t c =
    chosen_reads alts.named_element_item c.args.depth c.args.cursor.now c.named_element_item.new.cursor c.named_element_item.result (chosen.chosen_named_item c.args.depth c.args.cursor.now c.requires.named (c.shows_ahead-4.ensures.0 c.if-shows_ahead-4.true)) c.named_element_item.ensures

pub named_item-returns : goal.named_item-returns
named_item-returns t c =
    chosen_reads alts.handler_item c.args.depth c.args.cursor.now c.handler_item.new.cursor c.handler_item.result (chosen.chosen_handler c.args.depth c.args.cursor.now c.requires.named (unlike c.shows_ahead.result c.if-shows_ahead.false c.shows_ahead.ensures.1) (unlike c.shows_ahead-2.result c.if-shows_ahead-2.false c.shows_ahead-2.ensures.1) (unlike c.shows_ahead-3.result c.if-shows_ahead-3.false c.shows_ahead-3.ensures.1) (unlike c.shows_ahead-4.result c.if-shows_ahead-4.false c.shows_ahead-4.ensures.1)) c.handler_item.ensures

pub element_item-returns-in_err-element : goal.element_item-returns-in_err-element
element_item-returns-in_err-element t c =
    alt_error alts.element_item c.args.depth c.args.cursor.now c.plain_element.new.cursor _ c.from_residual.result c.from_residual.ensures.1 (chosen.but_stuck c.requires.named c.in_err-element.ensures)

pub element_item-returns : goal.element_item-returns
element_item-returns t c =
    chosen.element_item_took c.args.depth c.args.cursor.now c.plain_element.new.cursor c.in_ok-element.element c.requires.named c.in_ok-element.ensures

pub named_element_item-returns-in_err-element : goal.named_element_item-returns-in_err-element
named_element_item-returns-in_err-element t c =
    alt_error alts.named_element_item c.args.depth c.args.cursor.now c.named_element.new.cursor _ c.from_residual.result c.from_residual.ensures.1 (chosen.but_stuck c.requires.named c.in_err-element.ensures)

pub named_element_item-returns : goal.named_element_item-returns
named_element_item-returns t c =
    chosen.named_item_took c.args.depth c.args.cursor.now c.named_element.new.cursor c.in_ok-element.element c.requires.named c.in_ok-element.ensures

pub element-returns-then-shows_ahead : goal.element-returns-then-shows_ahead
element-returns-then-shows_ahead t c =
    chosen_reads alts.named_element c.args.depth c.args.cursor.now c.named_element.new.cursor c.named_element.result (chosen.chosen_named c.args.depth c.args.cursor.now (c.shows_ahead.ensures.0 c.if-shows_ahead.true)) c.named_element.ensures

pub element-returns : goal.element-returns
element-returns t c =
    chosen_reads alts.element c.args.depth c.args.cursor.now c.plain_element.new.cursor c.plain_element.result (chosen.chosen_element c.args.depth c.args.cursor.now (unlike c.shows_ahead.result c.if-shows_ahead.false c.shows_ahead.ensures.1)) c.plain_element.ensures

pub plain_element-returns-in_err-ty : goal.plain_element-returns-in_err-ty
plain_element-returns-in_err-ty t c =
    alt_error alts.element c.args.depth c.args.cursor.now c.name.new.self _ c.from_residual.result c.from_residual.ensures.1 (at_one c.in_err-ty.ensures)

pub plain_element-returns-in_err-body : goal.plain_element-returns-in_err-body
plain_element-returns-in_err-body t c =
    alt_error alts.element c.args.depth c.args.cursor.now c.body.new.cursor _ c.from_residual-in_err-body.result c.from_residual-in_err-body.ensures.1 (past_one c.in_ok-ty.ensures (at_deep c.args.depth c.in_err-body.ensures))

pub plain_element-returns : goal.plain_element-returns
plain_element-returns t c =
    took_by alts.element (and_one c.in_ok-ty.ensures (and_deep c.args.depth c.in_ok-body.ensures (end_all c.args.depth c.body.new.cursor)))

pub named_element-returns-in_err-id : goal.named_element-returns-in_err-id
named_element-returns-in_err-id t c =
    alt_error alts.named_element c.args.depth c.args.cursor.now c.name.new.self _ c.from_residual.result c.from_residual.ensures.1 (at_one c.in_err-id.ensures)

pub named_element-returns-in_err-symbol : goal.named_element-returns-in_err-symbol
named_element-returns-in_err-symbol t c =
    alt_error alts.named_element c.args.depth c.args.cursor.now c.symbol.new.self _ c.from_residual-in_err-symbol.result c.from_residual-in_err-symbol.ensures.1 (past_one c.in_ok-id.ensures (at_one c.in_err-symbol.ensures))

pub named_element-returns-in_err-ty : goal.named_element-returns-in_err-ty
named_element-returns-in_err-ty t c =
    alt_error alts.named_element c.args.depth c.args.cursor.now c.name-2.new.self _ c.from_residual-in_err-ty.result c.from_residual-in_err-ty.ensures.1 (past_one c.in_ok-id.ensures (past_one c.in_ok-symbol.ensures (at_one c.in_err-ty.ensures)))

pub named_element-returns-in_err-body : goal.named_element-returns-in_err-body
named_element-returns-in_err-body t c =
    alt_error alts.named_element c.args.depth c.args.cursor.now c.body.new.cursor _ c.from_residual-in_err-body.result c.from_residual-in_err-body.ensures.1 (past_one c.in_ok-id.ensures (past_one c.in_ok-symbol.ensures (past_one c.in_ok-ty.ensures (at_deep c.args.depth c.in_err-body.ensures))))

pub named_element-returns : goal.named_element-returns
named_element-returns t c =
    took_by alts.named_element (and_one c.in_ok-id.ensures (and_one c.in_ok-symbol.ensures (and_one c.in_ok-ty.ensures (and_deep c.args.depth c.in_ok-body.ensures (end_all c.args.depth c.body.new.cursor)))))

pub if_item-returns-in_err-word : goal.if_item-returns-in_err-word
if_item-returns-in_err-word t c =
    alt_error alts.if_item c.args.depth c.args.cursor.now c.word.new.self _ c.from_residual.result c.from_residual.ensures.1 (at_one c.in_err-word.ensures)

pub if_item-returns-in_err-condition : goal.if_item-returns-in_err-condition
if_item-returns-in_err-condition t c =
    alt_error alts.if_item c.args.depth c.args.cursor.now c.guarded.new.cursor _ c.from_residual-in_err-condition.result c.from_residual-in_err-condition.ensures.1 (past_one c.in_ok-word.ensures c.in_err-condition.ensures)

pub if_item-returns : goal.if_item-returns
if_item-returns t c =
    took_by alts.if_item (and_one c.in_ok-word.ensures c.in_ok-condition.ensures.1)

pub for_item-returns-in_err-word : goal.for_item-returns-in_err-word
for_item-returns-in_err-word t c =
    alt_error alts.for_item c.args.depth c.args.cursor.now c.word.new.self _ c.from_residual.result c.from_residual.ensures.1 (at_one c.in_err-word.ensures)

pub for_item-returns-in_err-item : goal.for_item-returns-in_err-item
for_item-returns-in_err-item t c =
    alt_error alts.for_item c.args.depth c.args.cursor.now c.name.new.self _ c.from_residual-in_err-item.result c.from_residual-in_err-item.ensures.1 (past_one c.in_ok-word.ensures (at_one c.in_err-item.ensures))

pub for_item-returns-in_err-number : goal.for_item-returns-in_err-number
for_item-returns-in_err-number t c =
    alt_error alts.for_item c.args.depth c.args.cursor.now c.may_row_number.new.cursor _ c.from_residual-in_err-number.result c.from_residual-in_err-number.ensures.1 (past_one c.in_ok-word.ensures (past_one c.in_ok-item.ensures (at_same c.in_err-number.ensures)))

pub for_item-returns-in_err-word-2 : goal.for_item-returns-in_err-word-2
for_item-returns-in_err-word-2 t c =
    alt_error alts.for_item c.args.depth c.args.cursor.now c.word-2.new.self _ c.from_residual-in_err-word-2.result c.from_residual-in_err-word-2.ensures.1 (past_one c.in_ok-word.ensures (past_one c.in_ok-item.ensures (past_same c.in_ok-number.ensures (at_one c.in_err-word-2.ensures))))

pub for_item-returns-in_err-model : goal.for_item-returns-in_err-model
for_item-returns-in_err-model t c =
    alt_error alts.for_item c.args.depth c.args.cursor.now c.guarded.new.cursor _ c.from_residual-in_err-model.result c.from_residual-in_err-model.ensures.1 (past_one c.in_ok-word.ensures (past_one c.in_ok-item.ensures (past_same c.in_ok-number.ensures (past_one c.in_ok-word-2.ensures c.in_err-model.ensures))))

pub for_item-returns : goal.for_item-returns
for_item-returns t c =
    took_by alts.for_item (and_one c.in_ok-word.ensures (and_one c.in_ok-item.ensures (and_same c.in_ok-number.ensures (and_one c.in_ok-word-2.ensures c.in_ok-model.ensures.1))))

pub guarded-returns-in_err-guard : goal.guarded-returns-in_err-guard
guarded-returns-in_err-guard t c =
    chosen.guarded_error c.args.depth c.args.cursor.now c.expr.new.cursor _ c.from_residual.result c.from_residual.ensures.1 (at_deep c.args.depth c.in_err-guard.ensures)

pub guarded-returns-in_err-symbol : goal.guarded-returns-in_err-symbol
guarded-returns-in_err-symbol t c =
    chosen.guarded_error c.args.depth c.args.cursor.now c.symbol.new.self _ c.from_residual-in_err-symbol.result c.from_residual-in_err-symbol.ensures.1 (past_deep c.args.depth c.in_ok-guard.ensures (at_one c.in_err-symbol.ensures))

pub guarded-returns-in_err-element : goal.guarded-returns-in_err-element
guarded-returns-in_err-element t c =
    chosen.guarded_error c.args.depth c.args.cursor.now c.element.new.cursor _ c.from_residual-in_err-element.result c.from_residual-in_err-element.ensures.1 (past_deep c.args.depth c.in_ok-guard.ensures (past_one c.in_ok-symbol.ensures (at_same c.in_err-element.ensures)))

pub guarded-returns : goal.guarded-returns
guarded-returns t c =
    rw c.into_inner.ensures (_, (and_deep c.args.depth c.in_ok-guard.ensures (and_one c.in_ok-symbol.ensures (and_same c.in_ok-element.ensures (end_all c.args.depth c.element.new.cursor)))))
