use Rattle.expr_types.specs.Nodes.{FieldName}
use Rattle.expr_types.proofs.Telling.{own_told, none_seen}
use Rattle.expr_types.proofs.fronts.see_name.Goals as goal

pub returns : goal.returns
returns c = λ s. let n = FieldName c.args.name.now c.args.before.now in c.in_ok-all.ensures s n (own_told n _ none_seen none_seen c.own_field_name-verdict.ensures)
