use Rattle.typed_tree.proofs.FirstNumbers.{finds}
use Rattle.typed_tree.proofs.member_indexes.member_index.Goals as goal

pub returns : goal.returns
returns c = finds c.in_ok-names.names c.args.members.now c.in_ok-numbers.numbers c.in_ok-names.ensures c.in_ok-numbers.ensures
