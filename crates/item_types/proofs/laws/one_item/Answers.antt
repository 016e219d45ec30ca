use Rattle.syntax_tree.specs.declared.items.Item.{out-Item}
use Rattle.name_lookup.specs.Leads.{body_scope}
use Rattle.item_types.proofs.Sounds.{item_sound}
use Rattle.item_types.proofs.laws.one_item.Goals as goal

pub returns-clause-one : goal.returns-clause-one
returns-clause-one c = λ outline here rows item x y p q. (item_sound (body_scope outline here rows) (out-Item item)).one x y p q

pub returns-clause-no_fault : goal.returns-clause-no_fault
returns-clause-no_fault c = λ outline here rows item x f p q. (item_sound (body_scope outline here rows) (out-Item item)).apart x f p q
