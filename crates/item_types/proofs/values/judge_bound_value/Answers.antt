use Rattle.std.proofs.Common.{ap, ◌∙◌}
use Rattle.std.specs.Prelude.{◌&&◌}
use Rattle.item_types.specs.Members.{is_below_root, is_size}
use Rattle.item_types.proofs.Inside.{constant_at, sized_as}
use Rattle.item_types.proofs.values.judge_bound_value.Goals as goal

pub returns-then-is_grid_number : goal.returns-then-is_grid_number
returns-then-is_grid_number c = constant_at c.args.scope.now c.args.member c.args.ty.now c.args.value.now c.is_grid_number.result c.constant_value.result c.is_grid_number.ensures c.if-is_grid_number.true c.constant_value.ensures

pub returns : goal.returns
returns c = sized_as c.args.scope.now c.args.member c.args.ty.now c.args.value.now c.is_grid_number.result c.takes_shares-shares.result c.sized_value.result c.is_grid_number.ensures c.if-is_grid_number.false (c.takes_shares-shares.ensures ∙ ap (λ z. is_below_root z && is_size c.args.member) c.site.ensures) c.sized_value.ensures
