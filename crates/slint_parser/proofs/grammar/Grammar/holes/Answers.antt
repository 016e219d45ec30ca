use Rattle.std.proofs.Common.{arith}
use Rattle.slint_parser.proofs.Among.{unlike}
use Rattle.slint_parser.proofs.Shorter.{taken_shorter, no_longer}
use Rattle.slint_parser.proofs.Links as links
use Rattle.slint_parser.proofs.grammar.Grammar.holes.Goals as goal

pub holes-init : goal.holes-init
holes-init g c =
    links.holes_begin c.args.self.now.depth c.args.cursor.now c.args.first c.new-all.result c.new-all.ensures

pub holes-preserved : goal.holes-preserved
holes-preserved g c =
    links.holes_next c.args.self.now.depth c.args.cursor.now c.holes.cursor c.mid.new.self c.expr.new.cursor c.args.first c.holes.value c.holes.all c.push_hole.new.holes c.in_ok-behind.behind c.in_ok-value.value c.holes.invariant (c.shows.ensures.0 c.holes-test.true) c.in_ok-behind.ensures c.in_ok-value.ensures c.in_ok-push_hole.ensures

pub holes-smaller : goal.holes-smaller
holes-smaller g c =
    omega (arith, taken_shorter c.in_ok-behind.ensures.x, no_longer c.in_ok-value.ensures.x)

pub returns-in_err-behind : goal.returns-in_err-behind
returns-in_err-behind g c =
    links.holes_error c.args.self.now.depth c.args.first c.args.cursor.now c.mid.new.self _ c.from_residual.result c.from_residual.ensures.1 (links.holes_no_mid c.args.self.now.depth c.args.cursor.now c.holes.cursor c.args.first c.holes.value c.holes.all _ c.holes.invariant (c.shows.ensures.0 c.holes-test.true) c.in_err-behind.ensures)

pub returns-in_err-push_hole : goal.returns-in_err-push_hole
returns-in_err-push_hole g c =
    links.holes_memory c.args.self.now.depth c.args.first c.args.cursor.now c.mid.new.self c.from_residual-in_err-push_hole.result c.from_residual-in_err-push_hole.ensures.1

pub returns-in_err-value : goal.returns-in_err-value
returns-in_err-value g c =
    links.holes_error c.args.self.now.depth c.args.first c.args.cursor.now c.expr.new.cursor _ c.from_residual-in_err-value.result c.from_residual-in_err-value.ensures.1 (links.holes_no_value c.args.self.now.depth c.args.cursor.now c.holes.cursor c.mid.new.self c.args.first c.holes.value c.holes.all c.in_ok-behind.behind _ c.holes.invariant (c.shows.ensures.0 c.holes-test.true) c.in_ok-behind.ensures c.in_err-value.ensures)

pub expr-requires : goal.expr-requires
expr-requires g c =
    record { nests = c.requires.nests; low = c.in_ok-behind.ensures.low }

pub returns-in_err-behind-2 : goal.returns-in_err-behind-2
returns-in_err-behind-2 g c =
    links.holes_error c.args.self.now.depth c.args.first c.args.cursor.now c.tail.new.self _ c.from_residual-in_err-behind-2.result c.from_residual-in_err-behind-2.ensures.1 (links.holes_no_tail c.args.self.now.depth c.args.cursor.now c.holes.cursor c.args.first c.holes.value c.holes.all _ c.holes.invariant (unlike c.shows.result c.holes-test.false c.shows.ensures.1) c.in_err-behind-2.ensures)

pub returns-in_err-push_hole-2 : goal.returns-in_err-push_hole-2
returns-in_err-push_hole-2 g c =
    links.holes_memory c.args.self.now.depth c.args.first c.args.cursor.now c.tail.new.self c.from_residual-in_err-push_hole-2.result c.from_residual-in_err-push_hole-2.ensures.1

pub returns : goal.returns
returns g c =
    links.holes_end c.args.self.now.depth c.args.cursor.now c.holes.cursor c.tail.new.self c.args.first c.holes.value c.holes.all c.push_hole-2.new.holes c.in_ok-behind-2.behind c.holes.invariant (unlike c.shows.result c.holes-test.false c.shows.ensures.1) c.in_ok-behind-2.ensures c.in_ok-push_hole-2.ensures
