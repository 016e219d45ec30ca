use Rattle.value_types.specs.declared.types.Ty.TheVariants as ty
use Rattle.name_lookup.specs.Leads.{body_scope}
use Rattle.item_types.proofs.Leaves.{expression_sound}
use Rattle.item_types.proofs.laws.one_condition.Goals as goal

pub returns-clause-one : goal.returns-clause-one
returns-clause-one c = λ outline here rows e x y p q. (expression_sound (body_scope outline here rows) ty.Bool e).one x y p q

pub returns-clause-no_fault : goal.returns-clause-no_fault
returns-clause-no_fault c = λ outline here rows e x f p q. (expression_sound (body_scope outline here rows) ty.Bool e).apart x f p q
