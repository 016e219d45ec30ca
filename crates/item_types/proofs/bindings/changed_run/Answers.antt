use Rattle.value_types.specs.declared.types.Ty.TheVariants as ty
use Rattle.typed_tree.specs.declared.trees.TypedItem.TheVariants as typed_items
use Rattle.item_types.specs.Values.{value_judging}
use Rattle.item_types.proofs.Sounds.{value_sound}
use Rattle.item_types.proofs.Telling.{made_in_ok, made_in_err}
use Rattle.item_types.proofs.bindings.changed_run.Goals as goal

pub returns-in-Ok : goal.returns-in-Ok
returns-in-Ok c = made_in_ok (value_judging c.args.scope.now ty.Void c.args.run.now) (λ x. typed_items.Changed (record { property = c.args.property.0; run = x })) (value_sound c.args.scope.now ty.Void c.args.run.now) c.in-Ok.is c.in_ok-verdict.ensures

pub returns : goal.returns
returns c = made_in_err (value_judging c.args.scope.now ty.Void c.args.run.now) (λ x. typed_items.Changed (record { property = c.args.property.0; run = x })) (value_sound c.args.scope.now ty.Void c.args.run.now) c.in-Err.is c.in_ok-verdict.ensures
