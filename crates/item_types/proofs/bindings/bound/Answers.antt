use Rattle.std.proofs.Common.{Ok, ap, sym}
use Rattle.item_types.specs.Items.{binding_of, bound}
use Rattle.item_types.specs.Values.{bound_value, value_span}
use Rattle.item_types.proofs.Sounds.{bound_value_sound}
use Rattle.item_types.proofs.Telling.{made_in_ok, made_in_err, told_at}
use Rattle.item_types.proofs.bindings.bound.Goals as goal

pub returns-in-Ok : goal.returns-in-Ok
returns-in-Ok c = told_at (bound c.args.scope.now c.args.value.now c.args.property) (ap (λ z. Ok (binding_of c.args.property.0 z c.in-Ok.bound)) (sym c.value_span.ensures))
    (made_in_ok (bound_value c.args.scope.now c.args.property.0 c.args.property.1 c.args.value.now) (binding_of c.args.property.0 (value_span c.args.value.now)) (bound_value_sound c.args.scope.now c.args.property.0 c.args.property.1 c.args.value.now) c.in-Ok.is c.in_ok-verdict.ensures)

pub returns : goal.returns
returns c = made_in_err (bound_value c.args.scope.now c.args.property.0 c.args.property.1 c.args.value.now) (binding_of c.args.property.0 (value_span c.args.value.now)) (bound_value_sound c.args.scope.now c.args.property.0 c.args.property.1 c.args.value.now) c.in-Err.is c.in_ok-verdict.ensures
