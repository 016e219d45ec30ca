use Rattle.std.proofs.Common.{arith}
use Rattle.slint_parser.proofs.Shorter.{taken_shorter, no_longer}
use Rattle.slint_parser.proofs.Links as links
use Rattle.slint_parser.proofs.Listing.{another}
use Rattle.slint_parser.proofs.grammar.Grammar.more.Goals as goal

pub returns-in_err-end-clause-arguments : goal.returns-in_err-end-clause-arguments
returns-in_err-end-clause-arguments g c k =
    links.arguments_error c.args.self.now.depth c.args.all c.args.cursor.now c.behind_item.new.self _ c.from_residual.result c.from_residual.ensures.1 (links.arguments_no_sign_of c.args.self.now.depth c.args.closer c.args.cursor.now c.items.cursor c.args.all c.items.all _ k (c.items.invariant.of_arguments k) c.in_err-end.ensures)

pub returns-in_err-end-clause-elements : goal.returns-in_err-end-clause-elements
returns-in_err-end-clause-elements g c k =
    links.elements_error c.args.self.now.depth c.args.all c.args.cursor.now c.behind_item.new.self _ c.from_residual.result c.from_residual.ensures.1 (links.elements_no_sign_of c.args.self.now.depth c.args.closer c.args.cursor.now c.items.cursor c.args.all c.items.all _ k (c.items.invariant.of_elements k) c.in_err-end.ensures)

pub returns-in-Some-clause-arguments : goal.returns-in-Some-clause-arguments
returns-in-Some-clause-arguments g c k =
    links.arguments_end_of c.args.self.now.depth c.args.closer c.args.cursor.now c.items.cursor c.behind_item.new.self c.args.all c.items.all c.in_ok-end.field-0 c.in-Some.end k (c.items.invariant.of_arguments k) c.in-Some.is c.in_ok-end.ensures

pub returns-in-Some-clause-elements : goal.returns-in-Some-clause-elements
returns-in-Some-clause-elements g c k =
    links.elements_end_of c.args.self.now.depth c.args.closer c.args.cursor.now c.items.cursor c.behind_item.new.self c.args.all c.items.all c.in_ok-end.field-0 c.in-Some.end k (c.items.invariant.of_elements k) c.in-Some.is c.in_ok-end.ensures

pub returns-in_err-item-clause-arguments : goal.returns-in_err-item-clause-arguments
returns-in_err-item-clause-arguments g c k =
    links.arguments_error c.args.self.now.depth c.args.all c.args.cursor.now c.expr.new.cursor _ c.from_residual-in_err-item.result c.from_residual-in_err-item.ensures.1 (links.arguments_no_item_of c.args.self.now.depth c.args.closer c.args.cursor.now c.items.cursor c.behind_item.new.self c.args.all c.items.all c.in_ok-end.field-0 _ k (c.items.invariant.of_arguments k) c.in_default.not-Some c.in_ok-end.ensures c.in_err-item.ensures)

pub returns-in_err-item-clause-elements : goal.returns-in_err-item-clause-elements
returns-in_err-item-clause-elements g c k =
    links.elements_error c.args.self.now.depth c.args.all c.args.cursor.now c.expr.new.cursor _ c.from_residual-in_err-item.result c.from_residual-in_err-item.ensures.1 (links.elements_no_item_of c.args.self.now.depth c.args.closer c.args.cursor.now c.items.cursor c.behind_item.new.self c.args.all c.items.all c.in_ok-end.field-0 _ k (c.items.invariant.of_elements k) c.in_default.not-Some c.in_ok-end.ensures c.in_err-item.ensures)

pub returns-in_err-push_expr-clause-arguments : goal.returns-in_err-push_expr-clause-arguments
returns-in_err-push_expr-clause-arguments g c k =
    links.arguments_memory c.args.self.now.depth c.args.all c.args.cursor.now c.expr.new.cursor c.from_residual-in_err-push_expr.result c.from_residual-in_err-push_expr.ensures.1

pub returns-in_err-push_expr-clause-elements : goal.returns-in_err-push_expr-clause-elements
returns-in_err-push_expr-clause-elements g c k =
    links.elements_memory c.args.self.now.depth c.args.all c.args.cursor.now c.expr.new.cursor c.from_residual-in_err-push_expr.result c.from_residual-in_err-push_expr.ensures.1

pub items-init : goal.items-init
items-init g c =
    record { of_arguments = λ k. links.arguments_begin c.args.self.now.depth c.args.cursor.now c.args.all; of_elements = λ k. links.elements_begin c.args.self.now.depth c.args.cursor.now c.args.all }

pub items-preserved : goal.items-preserved
items-preserved g c =
    record { of_arguments = λ k. links.arguments_next_of c.args.self.now.depth c.args.closer c.args.cursor.now c.items.cursor c.behind_item.new.self c.expr.new.cursor c.args.all c.items.all c.push_expr.new.exprs c.in_ok-item.item c.in_ok-end.field-0 k (c.items.invariant.of_arguments k) c.in_default.not-Some c.in_ok-end.ensures c.in_ok-item.ensures c.in_ok-push_expr.ensures; of_elements = λ k. links.elements_next_of c.args.self.now.depth c.args.closer c.args.cursor.now c.items.cursor c.behind_item.new.self c.expr.new.cursor c.args.all c.items.all c.push_expr.new.exprs c.in_ok-item.item c.in_ok-end.field-0 k (c.items.invariant.of_elements k) c.in_default.not-Some c.in_ok-end.ensures c.in_ok-item.ensures c.in_ok-push_expr.ensures }

pub items-smaller : goal.items-smaller
items-smaller g c =
    let b = another c.args.closer c.args.self.now.depth c.items.cursor c.behind_item.new.self c.in_ok-end.field-0 c.in_default.not-Some c.in_ok-end.ensures in omega (arith, taken_shorter b.2.1.x, no_longer c.in_ok-item.ensures.x)

pub expr-requires : goal.expr-requires
expr-requires g c =
    let b = another c.args.closer c.args.self.now.depth c.items.cursor c.behind_item.new.self c.in_ok-end.field-0 c.in_default.not-Some c.in_ok-end.ensures in record { nests = c.requires.nests; low = b.2.1.low }
