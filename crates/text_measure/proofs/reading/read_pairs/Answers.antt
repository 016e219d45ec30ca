use Rattle.std.proofs.Common.{ap, sym, refl, ◌∙◌, rules}
use Rattle.text_measure.specs.Tables.{Table}
use Rattle.text_measure.specs.Reading.{lines_in}
use Rattle.text_measure.proofs.Turns.{read-more, read-end, read-unfit, read-fallen}
use Rattle.text_measure.proofs.reading.read_pairs.Goals as goal

pub returns-in_default-pair_of : goal.returns-in_default-pair_of
returns-in_default-pair_of c =
    read-unfit _ c.loop-line.at _ (lines_in c.next.new.self.cut c.next.new.self.bytes.now) c.in-Some.line.now _ c.args.height c.args.default c.loop-line.invariant.read c.in-Some.ensures.line (search rules)

pub returns-then-not-is_above_all : goal.returns-then-not-is_above_all
returns-then-not-is_above_all c =
    read-fallen _ c.loop-line.at _ (lines_in c.next.new.self.cut c.next.new.self.bytes.now) c.in-Some.line.now _ (c.in-Some-pair_of.character, c.in-Some-pair_of.width) c.args.height c.args.default
    c.loop-line.invariant.read c.in-Some.ensures.line (search rules) (sym c.is_above_all.ensures ∙ c.if-not-is_above_all.true)

pub loop-line-preserved : goal.loop-line-preserved
loop-line-preserved c = record {
  read =
      read-more _ c.loop-line.at c.next.new.self.at _ (lines_in c.next.new.self.cut c.next.new.self.bytes.now) c.in-Some.line.now c.loop-line.table.pairs c.push.new.self.pairs (c.in-Some-pair_of.character, c.in-Some-pair_of.width)
      c.loop-line.invariant.read c.in-Some.ensures.line (search rules) (sym c.is_above_all.ensures ∙ c.if-not-is_above_all.false) (search rules) (ap (λ (t : Table). t.pairs) c.in_ok-push.ensures.ok);
  at = refl;
  line = ap (λ (t : Table). t.line) c.in_ok-push.ensures.ok ∙ c.loop-line.invariant.line;
  default = ap (λ (t : Table). t.default) c.in_ok-push.ensures.ok ∙ c.loop-line.invariant.default;
}

pub returns : goal.returns
returns c =
    read-end _ c.loop-line.at _ c.loop-line.table c.args.height c.args.default c.loop-line.invariant.read c.in_default.ensures.line c.loop-line.invariant.line c.loop-line.invariant.default
