use Rattle.std.proofs.Common.{◌∙◌, ◌∷◌, ◌++◌, [], ap}
use Rattle.fault_order.specs.Order.{first_of}
use Rattle.declaration_rules.specs.Repeats.{name_of, repeat_in, repeat_of}
use Rattle.declaration_rules.proofs.Gathering.{maps-next}
use Rattle.declaration_rules.proofs.Telling.{turn_tells-all, turn_tells-next}
use Rattle.declaration_rules.proofs.repeats.repeated.Goals as goal

pub loop-word-preserved : goal.loop-word-preserved
loop-word-preserved c =
    let held = c.loop-word.invariant in
    record {
      names = maps-next name_of [] c.loop-word.names c.push.new.self c.args.words.now c.loop-word.word-index c.word-item.result c.loop-word-test.true c.word-item.is held.names
          (c.in_ok-push.ensures ∙ ap (λ name. c.loop-word.names ++ name ∷ []) c.name.ensures);
      first = turn_tells-next repeat_of c.loop-word.first c.repeat_in.result c.earlier-first.result c.args.words.now c.loop-word.word-index c.word-item.result c.loop-word-test.true c.word-item.is held.first
          (c.repeat_in.ensures ∙ ap (λ names. first_of (repeat_in names c.word-item.result)) held.names) c.earlier-first.ensures;
    }

pub returns : goal.returns
returns c = turn_tells-all repeat_of c.loop-word.first c.args.words.now c.loop-word.word-index c.loop-word-test.false c.loop-word.invariant.first
