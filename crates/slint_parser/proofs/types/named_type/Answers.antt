use Rattle.slint_grammar.specs.Grammar.{Alt as alts}
use Rattle.slint_parser.proofs.Joining.{took_by, end_all, and_one}
use Rattle.slint_parser.proofs.types.named_type.Goals as goal

pub returns : goal.returns
returns c = took_by alts.named_type (and_one c.in_ok-name.ensures (end_all c.args.depth c.name.new.self))
