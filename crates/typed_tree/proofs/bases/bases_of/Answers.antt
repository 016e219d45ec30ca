use Rattle.std.specs.Prelude.{map}
use Rattle.std.proofs.Common.{◌∙◌, ap}
use Rattle.typed_tree.specs.Bases.{kind_of}
use Rattle.typed_tree.proofs.BaseWalks.{kinds_are}
use Rattle.typed_tree.proofs.bases.bases_of.Goals as goal

pub returns : goal.returns
returns c = record {
  types = c.in_ok-types.ensures;
  kinds = kinds_are c.args.comps.now c.in_ok-ends.ends c.in_ok-kinds.kinds (c.in_ok-kinds.ensures ∙ ap (map kind_of) c.as_slice-2.ensures) c.in_ok-ends.ensures;
}
