use Rattle.syntax_tree.specs.declared.items.Item.{out-Item}
use Rattle.value_types.specs.declared.types.Ty.TheVariants as ty
use Rattle.name_lookup.specs.Leads.{body_scope}
use Rattle.item_types.proofs.Leaves.{expression_some}
use Rattle.item_types.proofs.Sounds.{item_some, model_some}
use Rattle.item_types.proofs.laws.some_verdict.Goals as goal

pub returns-clause-item : goal.returns-clause-item
returns-clause-item c = λ outline here rows item. item_some (body_scope outline here rows) (out-Item item)

pub returns-clause-condition : goal.returns-clause-condition
returns-clause-condition c = λ outline here rows e. expression_some (body_scope outline here rows) ty.Bool e

pub returns-clause-model : goal.returns-clause-model
returns-clause-model c = λ outline here rows e. model_some (body_scope outline here rows) e
