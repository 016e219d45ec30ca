use Rattle.std.proofs.Common.{sym, ◌∙◌}
use Rattle.slint_grammar.specs.Grammar.{Alt as alts}
use Rattle.slint_parser.proofs.Joining.{chosen_reads}
use Rattle.slint_parser.proofs.HeadForks as heads
use Rattle.slint_parser.proofs.ChosenGlobals as chosen
use Rattle.slint_parser.proofs.globals.global_item.Goals as goal

pub returns-in-Property : goal.returns-in-Property
returns-in-Property c =
    chosen_reads alts.global_property c.args.depth c.args.cursor.now c.property_item.new.cursor c.property_item.result (heads.global_property c.args.depth c.args.cursor.now (sym c.item_head.ensures ∙ c.in-Property.is))
    (chosen.property_by c.args.depth c.args.cursor.now c.property_item.new.cursor c.property_item.result c.property_item.ensures)

pub returns-in-Callback : goal.returns-in-Callback
returns-in-Callback c =
    chosen_reads alts.global_callback c.args.depth c.args.cursor.now c.callback_item.new.cursor c.callback_item.result (heads.global_callback c.args.depth c.args.cursor.now (sym c.item_head.ensures ∙ c.in-Callback.is))
    (chosen.callback_by c.args.depth c.args.cursor.now c.callback_item.new.cursor c.callback_item.result c.callback_item.ensures)

pub returns-in-Function : goal.returns-in-Function
returns-in-Function c =
    chosen_reads alts.global_function c.args.depth c.args.cursor.now c.function_item.new.cursor c.function_item.result (heads.global_function c.args.depth c.args.cursor.now (sym c.item_head.ensures ∙ c.in-Function.is))
    (chosen.function_by c.args.depth c.args.cursor.now c.function_item.new.cursor c.function_item.result c.function_item.ensures)

pub returns-in-Name : goal.returns-in-Name
returns-in-Name c =
    chosen_reads alts.global_handler c.args.depth c.args.cursor.now c.handler_item.new.cursor c.handler_item.result (heads.global_handler c.args.depth c.args.cursor.now (sym c.item_head.ensures ∙ c.in-Name.is))
    (chosen.handler_by c.args.depth c.args.cursor.now c.handler_item.new.cursor c.handler_item.result c.handler_item.ensures)

pub handler_item-requires : goal.handler_item-requires
handler_item-requires c = record { named = heads.may_name c.args.cursor.now (sym c.item_head.ensures ∙ c.in-Name.is) }

pub returns-in-Changed : goal.returns-in-Changed
returns-in-Changed c = heads.no_global c.args.depth c.args.cursor.now c.refuse.result c.item_head.result c.item_head.ensures c.in-Changed.is c.refuse.ensures
