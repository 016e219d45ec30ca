use Rattle.std.proofs.Common.{sym}
use Rattle.syntax_tree.specs.declared.items.Element.{fold_out-Element}
use Rattle.syntax_tree.specs.declared.items.For.{fold_out-For}
use Rattle.syntax_tree.specs.declared.items.IfElement.{fold_out-IfElement}
use Rattle.syntax_tree.specs.Printed.{Kinds, item_layer, element_layer, for_layer, if_layer, tokens_of_items, tokens_of_item}
use Rattle.syntax_tree.proofs.InOrder.{behind, as_told, turn, end_of_turns, at_slice}
use Rattle.syntax_tree.proofs.print_items.+print_items.Goals as goal

pub print_items-loop-item-init : goal.print_items-loop-item-init
print_items-loop-item-init t c = λ end w. w

pub print_items-loop-item-preserved : goal.print_items-loop-item-preserved
print_items-loop-item-preserved t c = λ end w. c.loop-item.invariant end (turn tokens_of_item c.args.items.now c.loop-item.item-index c.item-item.result c.item-item.is c.loop-item-test.true c.in_ok-print_item.ensures w)

pub print_items-returns : goal.print_items-returns
print_items-returns t c = behind (c.loop-item.invariant _ (end_of_turns tokens_of_item c.args.items.now c.loop-item.item-index _ c.loop-item-test.false)) c.in_ok-write_symbol.ensures

pub print_element-returns : goal.print_element-returns
print_element-returns t c = as_told (sym (fold_out-Element Kinds Kinds Kinds Kinds item_layer element_layer for_layer if_layer c.args.element.now)) (behind c.in_ok-print_some_id.ensures (behind c.in_ok-write_name.ensures (behind c.in_ok-write_symbol.ensures (at_slice tokens_of_items c.as_slice.ensures c.in_ok-print_items.ensures))))

pub print_if-returns : goal.print_if-returns
print_if-returns t c = as_told (sym (fold_out-IfElement Kinds Kinds Kinds Kinds item_layer element_layer for_layer if_layer c.args.element.now)) (behind c.in_ok-write_word.ensures (behind c.in_ok-print_expr.ensures (behind c.in_ok-write_symbol.ensures c.in_ok-print_element.ensures)))

pub print_for-returns : goal.print_for-returns
print_for-returns t c = as_told (sym (fold_out-For Kinds Kinds Kinds Kinds item_layer element_layer for_layer if_layer c.args.element.now)) (behind c.in_ok-write_word.ensures (behind c.in_ok-write_name.ensures (behind c.in_ok-print_some_number.ensures (behind c.in_ok-write_word-2.ensures c.in_ok-print_model.ensures))))

pub print_model-returns : goal.print_model-returns
print_model-returns t c = behind c.in_ok-print_expr.ensures (behind c.in_ok-write_symbol.ensures c.in_ok-print_element.ensures)
