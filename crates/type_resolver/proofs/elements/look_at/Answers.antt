use Rattle.std.proofs.Common.{ap}
use Rattle.std.specs.Option.{option_copied}
use Rattle.type_resolver.proofs.Walking.{looked_by, skipped_by}
use Rattle.type_resolver.proofs.elements.look_at.Goals as goal

pub returns-in-None-clause-told : goal.returns-in-None-clause-told
returns-in-None-clause-told c = skipped_by c.args.names.now c.args.component c.args.e c.args.written.now (option_copied c.args.around) (ap option_copied c.in-None.is)
