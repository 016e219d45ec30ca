use Rattle.std.specs.Prelude.{map}
use Rattle.std.proofs.Common.{◌∙◌, ap}
use Rattle.child_rules.specs.Jumps.{kind_of}
use Rattle.child_rules.proofs.TakerWalks.{kinds_are}
use Rattle.child_rules.proofs.landing.landings.Goals as goal

pub returns : goal.returns
returns c = kinds_are c.args.comps.now c.in_ok-ends.ends c.in_ok-kinds.kinds (c.in_ok-kinds.ensures ∙ ap (map kind_of) c.as_slice-2.ensures) c.in_ok-ends.ensures
