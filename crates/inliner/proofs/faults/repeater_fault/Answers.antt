use Rattle.std.proofs.Common.{◌∙◌}
use Rattle.inliner.proofs.Measures.{repeater_is}
use Rattle.inliner.proofs.faults.repeater_fault.Goals as goal

pub returns : goal.returns
returns c = c.deep_of.ensures ∙ repeater_is c.args.comps.now c.args.table.now c.args.root c.requires
