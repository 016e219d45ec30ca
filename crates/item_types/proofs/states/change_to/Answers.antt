use Rattle.item_types.specs.Items.{change_of}
use Rattle.item_types.specs.Values.{value_judging}
use Rattle.item_types.proofs.Sounds.{value_sound}
use Rattle.item_types.proofs.Telling.{owned_in_ok, owned_in_err}
use Rattle.item_types.proofs.states.change_to.Goals as goal

pub returns-in-Ok : goal.returns-in-Ok
returns-in-Ok c = owned_in_ok (value_judging c.args.scope.now c.args.property.1 c.args.change.now.value) (change_of c.args.property.0 c.args.change.now) (value_sound c.args.scope.now c.args.property.1 c.args.change.now.value) c.in-Ok.is c.change_of.ensures c.in_ok-verdict.ensures

pub returns : goal.returns
returns c = owned_in_err (value_judging c.args.scope.now c.args.property.1 c.args.change.now.value) (change_of c.args.property.0 c.args.change.now) (value_sound c.args.scope.now c.args.property.1 c.args.change.now.value) c.in-Err.is c.in_ok-verdict.ensures
