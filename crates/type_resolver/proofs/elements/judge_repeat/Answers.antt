use Rattle.std.proofs.Common.{ap}
use Rattle.source_elements.specs.Views.{how_often}
use Rattle.type_resolver.proofs.Walking.{once_told}
use Rattle.type_resolver.proofs.elements.judge_repeat.Goals as goal

pub returns-in_ok-rows-in-Once : goal.returns-in_ok-rows-in-Once
returns-in_ok-rows-in-Once c =
    once_told c.args.names.now c.args.around c.args.e (how_often c.args.repeating.now) c.args.rows.now c.in_ok-rows-in-Once.rows (ap how_often c.in-Once.is) c.in_ok-rows-in-Once.ensures
