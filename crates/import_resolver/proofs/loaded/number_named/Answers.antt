use Rattle.std.proofs.Common.{sym}
use Rattle.import_resolver.proofs.Numbering.{place_there}
use Rattle.import_resolver.proofs.loaded.number_named.Goals as goal

pub unreachable-requires : goal.unreachable-requires
unreachable-requires c = place_there c.args.names.now c.args.name.now c.in-None.ensures c.requires.there

pub returns : goal.returns
returns c = sym c.in-Some.ensures
