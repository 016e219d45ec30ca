use Rattle.finite_graphs.proofs.Marking.{same_label_is}
use Rattle.finite_graphs.proofs.circles.is_labelled_once.Goals as goal

pub returns : goal.returns
returns c = same_label_is c.args.labels.now c.args.edge c.requires.from c.requires.to
