use Rattle.std.specs.List.{filter_map}
use Rattle.item_rules.specs.declared.names.NameKind.TheVariants as names
use Rattle.item_rules.specs.Named.{name_by}
use Rattle.item_rules.specs.Twice.{twice_in}
use Rattle.fault_order.proofs.Told.{both_told}
use Rattle.item_rules.proofs.names.twice_heard.Goals as goal

pub returns : goal.returns
returns c = both_told (twice_in (filter_map (name_by names.Handled) c.args.items.now)) (twice_in (filter_map (name_by names.Watched) c.args.items.now)) c.earlier.ensures c.in_ok-handled.ensures c.in_ok-watched.ensures
