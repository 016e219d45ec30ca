use Rattle.std.proofs.Common.{refl}
use Rattle.slint_grammar.specs.Parts as p
use Rattle.slint_parser.proofs.Among.{unlike}
use Rattle.slint_parser.proofs.Joining.{chosen_took, chosen_stuck}
use Rattle.slint_parser.proofs.Links as links
use Rattle.slint_parser.specs.Readings.{suffix_classes}
use Rattle.slint_parser.proofs.Links.{may_error}
use Rattle.slint_parser.proofs.grammar.Grammar.may_suffix.Goals as goal

pub returns-in_err-member : goal.returns-in_err-member
returns-in_err-member g c =
    may_error p.Suffix suffix_classes c.args.self.now.depth c.args.cursor.now c.member.new.cursor _ c.from_residual.result c.from_residual.ensures.1 (links.member_begun c.args.cursor.now (c.sees.ensures.0 c.if-sees.true), chosen_stuck (links.chosen_member c.args.self.now.depth c.args.cursor.now (c.sees.ensures.0 c.if-sees.true)) c.in_err-member.ensures)

pub returns-then-sees : goal.returns-then-sees
returns-then-sees g c =
    (links.member_begun c.args.cursor.now (c.sees.ensures.0 c.if-sees.true), chosen_took (links.chosen_member c.args.self.now.depth c.args.cursor.now (c.sees.ensures.0 c.if-sees.true)) c.in_ok-member.ensures)

pub returns-in_err-call : goal.returns-in_err-call
returns-in_err-call g c =
    may_error p.Suffix suffix_classes c.args.self.now.depth c.args.cursor.now c.call.new.cursor _ c.from_residual-in_err-call.result c.from_residual-in_err-call.ensures.1 (links.call_begun c.args.cursor.now (c.sees-2.ensures.0 c.if-sees-2.true), chosen_stuck (links.chosen_call c.args.self.now.depth c.args.cursor.now (c.sees-2.ensures.0 c.if-sees-2.true)) c.in_err-call.ensures)

pub returns-then-sees-2 : goal.returns-then-sees-2
returns-then-sees-2 g c =
    (links.call_begun c.args.cursor.now (c.sees-2.ensures.0 c.if-sees-2.true), chosen_took (links.chosen_call c.args.self.now.depth c.args.cursor.now (c.sees-2.ensures.0 c.if-sees-2.true)) c.in_ok-call.ensures)

pub returns-in_err-index : goal.returns-in_err-index
returns-in_err-index g c =
    may_error p.Suffix suffix_classes c.args.self.now.depth c.args.cursor.now c.index.new.cursor _ c.from_residual-in_err-index.result c.from_residual-in_err-index.ensures.1 (links.index_begun c.args.cursor.now (c.sees-3.ensures.0 c.if-sees-3.true), chosen_stuck (links.chosen_index c.args.self.now.depth c.args.cursor.now (c.sees-3.ensures.0 c.if-sees-3.true)) c.in_err-index.ensures)

pub returns-then-sees-3 : goal.returns-then-sees-3
returns-then-sees-3 g c =
    (links.index_begun c.args.cursor.now (c.sees-3.ensures.0 c.if-sees-3.true), chosen_took (links.chosen_index c.args.self.now.depth c.args.cursor.now (c.sees-3.ensures.0 c.if-sees-3.true)) c.in_ok-index.ensures)

pub returns : goal.returns
returns g c =
    (refl, links.no_suffix_here c.args.self.now.depth c.args.cursor.now (unlike c.sees.result c.if-sees.false c.sees.ensures.1) (unlike c.sees-2.result c.if-sees-2.false c.sees-2.ensures.1) (unlike c.sees-3.result c.if-sees-3.false c.sees-3.ensures.1))
