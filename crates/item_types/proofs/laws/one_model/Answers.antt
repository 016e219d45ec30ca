use Rattle.name_lookup.specs.Leads.{body_scope}
use Rattle.item_types.proofs.Sounds.{model_sound}
use Rattle.item_types.proofs.laws.one_model.Goals as goal

pub returns-clause-one : goal.returns-clause-one
returns-clause-one c = λ outline here rows e x y p q. (model_sound (body_scope outline here rows) e).one x y p q

pub returns-clause-no_fault : goal.returns-clause-no_fault
returns-clause-no_fault c = λ outline here rows e x f p q. (model_sound (body_scope outline here rows) e).apart x f p q
