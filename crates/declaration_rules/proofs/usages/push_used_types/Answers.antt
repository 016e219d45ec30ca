use Rattle.declaration_rules.specs.Circles.{usage_of_type}
use Rattle.declaration_rules.proofs.Gathering.{gathers-all, gathers-next}
use Rattle.declaration_rules.proofs.Using.{used-type}
use Rattle.declaration_rules.proofs.usages.push_used_types.Goals as goal

pub loop-word-preserved : goal.loop-word-preserved
loop-word-preserved c =
    gathers-next (usage_of_type c.args.scopes.now c.args.from c.args.file) c.args.out.now c.loop-word.out c.push_struct_usage.new.out c.args.words.now c.loop-word.word-index c.word-item.result c.loop-word-test.true c.word-item.is c.loop-word.invariant
    (used-type c.args.scopes.now c.args.from c.args.file c.word-item.result c.span.result c.meaning_of-meaning.result c.loop-word.out c.push_struct_usage.new.out c.span.ensures c.meaning_of-meaning.ensures c.in_ok-push_struct_usage.ensures)

pub returns : goal.returns
returns c = gathers-all (usage_of_type c.args.scopes.now c.args.from c.args.file) c.args.out.now c.loop-word.out c.args.words.now c.loop-word.word-index c.loop-word-test.false c.loop-word.invariant
