use Rattle.std.proofs.Common.{sym, ◌∙◌}
use Rattle.typed_tree.proofs.FirstNumbers.{noted}
use Rattle.typed_tree.proofs.member_indexes.add_first.Goals as goal

pub returns-in_ok-insert : goal.returns-in_ok-insert
returns-in_ok-insert c = rw c.in-Some.is (noted c.args.numbers.now c.insert.new.self c.args.element c.in-Some.first c.args.number c.in_ok-insert.ensures.updates (sym c.contains_key.ensures ∙ c.if-not-contains_key.true))
