use Rattle.std.proofs.Common.{ap, ◌∙◌, [], ◌∷◌, ◌++◌}
use Rattle.slint_grammar.specs.Parts as p
use Rattle.slint_parser.proofs.Joining.{part_error, part_memory}
use Rattle.slint_parser.proofs.Links as links
use Rattle.slint_parser.proofs.Listing.{none_error, none_closed}
use Rattle.slint_parser.proofs.grammar.Grammar.listed.Goals as goal

pub returns-in_err-end-clause-arguments : goal.returns-in_err-end-clause-arguments
returns-in_err-end-clause-arguments g c k =
    part_error (p.Listing p.Arguments) c.args.self.now.depth c.args.cursor.now c.closes.new.self _ c.from_residual.result c.from_residual.ensures.1 (none_error p.Arguments c.args.closer c.args.self.now.depth c.args.cursor.now _ k c.in_err-end.ensures)

pub returns-in-Some-clause-arguments : goal.returns-in-Some-clause-arguments
returns-in-Some-clause-arguments g c k =
    rw c.new-all.ensures (none_closed p.Arguments c.args.closer c.args.self.now.depth c.args.cursor.now c.closes.new.self c.in_ok-end.field-0 c.in-Some.end k c.in-Some.is c.in_ok-end.ensures)

pub returns-in_err-first-clause-arguments : goal.returns-in_err-first-clause-arguments
returns-in_err-first-clause-arguments g c k =
    part_error (p.Listing p.Arguments) c.args.self.now.depth c.args.cursor.now c.expr.new.cursor _ c.from_residual-in_err-first.result c.from_residual-in_err-first.ensures.1 (links.arguments_no_first_of c.args.self.now.depth c.args.closer c.args.cursor.now c.closes.new.self c.in_ok-end.field-0 _ k c.in_default.not-Some c.in_ok-end.ensures c.in_err-first.ensures)

pub returns-in_err-push_expr-clause-arguments : goal.returns-in_err-push_expr-clause-arguments
returns-in_err-push_expr-clause-arguments g c k =
    part_memory (p.Listing p.Arguments) c.args.self.now.depth c.args.cursor.now c.expr.new.cursor c.from_residual-in_err-push_expr.result c.from_residual-in_err-push_expr.ensures.1

pub returns-clause-arguments : goal.returns-clause-arguments
returns-clause-arguments g c k =
    links.arguments_listing_of c.args.self.now.depth c.args.closer c.args.cursor.now c.closes.new.self c.expr.new.cursor c.more.new.cursor c.in_ok-first.first c.push_expr.new.exprs c.more.result c.in_ok-end.field-0 k c.in_default.not-Some c.in_ok-end.ensures c.in_ok-first.ensures (c.in_ok-push_expr.ensures ∙ ap (λ z. z ++ c.in_ok-first.first ∷ []) c.new-all.ensures) (c.more.ensures.arguments k)

pub returns-in_err-end-clause-elements : goal.returns-in_err-end-clause-elements
returns-in_err-end-clause-elements g c k =
    part_error (p.Listing p.Elements) c.args.self.now.depth c.args.cursor.now c.closes.new.self _ c.from_residual.result c.from_residual.ensures.1 (none_error p.Elements c.args.closer c.args.self.now.depth c.args.cursor.now _ k c.in_err-end.ensures)

pub returns-in-Some-clause-elements : goal.returns-in-Some-clause-elements
returns-in-Some-clause-elements g c k =
    rw c.new-all.ensures (none_closed p.Elements c.args.closer c.args.self.now.depth c.args.cursor.now c.closes.new.self c.in_ok-end.field-0 c.in-Some.end k c.in-Some.is c.in_ok-end.ensures)

pub returns-in_err-first-clause-elements : goal.returns-in_err-first-clause-elements
returns-in_err-first-clause-elements g c k =
    part_error (p.Listing p.Elements) c.args.self.now.depth c.args.cursor.now c.expr.new.cursor _ c.from_residual-in_err-first.result c.from_residual-in_err-first.ensures.1 (links.elements_no_first_of c.args.self.now.depth c.args.closer c.args.cursor.now c.closes.new.self c.in_ok-end.field-0 _ k c.in_default.not-Some c.in_ok-end.ensures c.in_err-first.ensures)

pub returns-in_err-push_expr-clause-elements : goal.returns-in_err-push_expr-clause-elements
returns-in_err-push_expr-clause-elements g c k =
    part_memory (p.Listing p.Elements) c.args.self.now.depth c.args.cursor.now c.expr.new.cursor c.from_residual-in_err-push_expr.result c.from_residual-in_err-push_expr.ensures.1

pub returns-clause-elements : goal.returns-clause-elements
returns-clause-elements g c k =
    links.elements_listing_of c.args.self.now.depth c.args.closer c.args.cursor.now c.closes.new.self c.expr.new.cursor c.more.new.cursor c.in_ok-first.first c.push_expr.new.exprs c.more.result c.in_ok-end.field-0 k c.in_default.not-Some c.in_ok-end.ensures c.in_ok-first.ensures (c.in_ok-push_expr.ensures ∙ ap (λ z. z ++ c.in_ok-first.first ∷ []) c.new-all.ensures) (c.more.ensures.elements k)
