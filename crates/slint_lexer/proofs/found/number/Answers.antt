use Rattle.std.proofs.Common.{ap, ◌∙◌}
use Rattle.slint_lexer.specs.Found.{found_of}
use Rattle.slint_lexer.specs.Pieces.{number_what}
use Rattle.slint_lexer.proofs.Fronts.{number_is}
use Rattle.slint_lexer.proofs.found.number.Goals as goal

pub returns : goal.returns
returns c =
    number_is c.args.ends c.args.bytes.now c.number_length-length.result c.number_found.result c.requires c.number_length-length.ensures
    (c.number_found.ensures ∙ ap (λ v. found_of (number_what v) c.number_length-length.result) c.read_number.ensures)
