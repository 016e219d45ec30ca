use Rattle.std.proofs.Common.{refl}
use Rattle.slint_grammar.specs.Parts as p
use Rattle.slint_parser.proofs.Joining.{part_error, part_memory}
use Rattle.slint_parser.proofs.Links as links
use Rattle.slint_parser.specs.Readings.{suffix_classes}
use Rattle.slint_parser.proofs.Shorter.{shorter}
use Rattle.slint_parser.proofs.grammar.Grammar.suffixes.Goals as goal

pub suffixes-init : goal.suffixes-init
suffixes-init g c =
    links.suffixes_begin c.args.self.now.depth c.args.cursor.now c.new-all.result c.new-all.ensures

pub suffixes-preserved : goal.suffixes-preserved
suffixes-preserved g c =
    links.suffixes_next c.args.self.now.depth c.args.cursor.now c.suffixes.cursor c.may_suffix.new.cursor c.suffixes.all c.push.new.self c.in_ok-suffix.field-0 c.in-Some.suffix c.suffixes.invariant c.in-Some.is c.in_ok-suffix.ensures c.in_ok-push.ensures.ok

pub returns-in_err-suffix : goal.returns-in_err-suffix
returns-in_err-suffix g c =
    part_error p.Suffixes c.args.self.now.depth c.args.cursor.now c.may_suffix.new.cursor _ c.from_residual.result c.from_residual.ensures.1 (links.suffixes_no_suffix c.args.self.now.depth c.args.cursor.now c.suffixes.cursor c.suffixes.all _ c.suffixes.invariant c.in_err-suffix.ensures)

pub returns-in_err-push : goal.returns-in_err-push
returns-in_err-push g c =
    part_memory p.Suffixes c.args.self.now.depth c.args.cursor.now c.may_suffix.new.cursor c.from_residual-in_err-push.result c.from_residual-in_err-push.ensures.1

pub returns : goal.returns
returns g c =
    links.suffixes_end c.args.self.now.depth c.args.cursor.now c.suffixes.cursor c.may_suffix.new.cursor c.suffixes.all c.in_ok-suffix.field-0 c.suffixes.invariant c.in_default.not-Some c.in_ok-suffix.ensures

pub suffixes-smaller : goal.suffixes-smaller
suffixes-smaller g c =
    let y = links.may_some p.Suffix suffix_classes c.args.self.now.depth c.suffixes.cursor c.may_suffix.new.cursor c.in_ok-suffix.field-0 c.in-Some.suffix c.in-Some.is c.in_ok-suffix.ensures in shorter y.1.x refl
