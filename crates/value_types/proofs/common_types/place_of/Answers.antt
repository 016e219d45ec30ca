use Rattle.std.proofs.Common.{rules}
use Rattle.value_types.proofs.CommonLemmas.{found_at}
use Rattle.value_types.proofs.common_types.place_of.Goals as goal

pub returns-then-eq-clause-field : goal.returns-then-eq-clause-field
returns-then-eq-clause-field c = found_at c.args.name.now c.args.fields.now c.loop-place.place c.field-item.result (search rules) (search rules) (search rules) c.loop-place.invariant
