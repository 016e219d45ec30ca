use Rattle.std.proofs.Common.{sym}
use Rattle.slint_grammar.specs.Parts as p
use Rattle.slint_parser.specs.Starts.{start_of}
use Rattle.slint_grammar.specs.Grammar.{Alt as alts}
use Rattle.slint_parser.proofs.Joining.{took_as, and_same, end_all, at_same, past_same, chosen_took, chosen_stuck, part_error, part_memory}
use Rattle.slint_parser.proofs.Links as links
use Rattle.slint_parser.proofs.grammar.Grammar.postfix.Goals as goal

pub returns-in_err-first : goal.returns-in_err-first
returns-in_err-first g c =
    part_error (p.Post (start_of c.args.start)) c.args.self.now.depth c.args.cursor.now c.primary.new.cursor _ c.from_residual.result c.from_residual.ensures.1 (chosen_stuck (links.chosen_post (start_of c.args.start) c.args.self.now.depth c.args.cursor.now) (at_same c.in_err-first.ensures))

pub returns-in_err-suffixes : goal.returns-in_err-suffixes
returns-in_err-suffixes g c =
    part_error (p.Post (start_of c.args.start)) c.args.self.now.depth c.args.cursor.now c.suffixes.new.cursor _ c.from_residual-in_err-suffixes.result c.from_residual-in_err-suffixes.ensures.1 (chosen_stuck (links.chosen_post (start_of c.args.start) c.args.self.now.depth c.args.cursor.now) (past_same c.in_ok-first.ensures (at_same c.in_err-suffixes.ensures)))

pub returns-in_err-postfix : goal.returns-in_err-postfix
returns-in_err-postfix g c =
    part_memory (p.Post (start_of c.args.start)) c.args.self.now.depth c.args.cursor.now c.suffixes.new.cursor c.from_residual-in_err-postfix.result c.from_residual-in_err-postfix.ensures.1

pub returns : goal.returns
returns g c =
    chosen_took (links.chosen_post (start_of c.args.start) c.args.self.now.depth c.args.cursor.now) (took_as (alts.post {h = (start_of c.args.start)}) (and_same c.in_ok-first.ensures (and_same c.in_ok-suffixes.ensures (end_all c.args.self.now.depth c.suffixes.new.cursor))) (sym c.in_ok-postfix.ensures))
