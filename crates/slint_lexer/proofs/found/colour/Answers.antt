use Rattle.std.proofs.Common.{◌+◌, arith, ap, ◌∙◌}
use Rattle.std.specs.Char.{is_ascii_alphanumeric}
use Rattle.std.proofs.lemmas.List.Sums.{prefix_len-le-length}
use Rattle.slint_lexer.specs.Found.{found_of}
use Rattle.slint_lexer.specs.Pieces.{colour_what}
use Rattle.slint_lexer.proofs.Fronts.{colour_is}
use Rattle.slint_lexer.proofs.found.colour.Goals as goal

pub split_at-requires-2 : goal.split_at-requires-2
split_at-requires-2 c = omega (arith, prefix_len-le-length is_ascii_alphanumeric c.split_at.result.1.now)

pub returns : goal.returns
returns c =
    colour_is c.args.ends c.args.bytes.now c.split_at.result.1.now c.split_at-2.result.0.now c.hash_length-length.result c.colour_found.result c.requires c.split_at.ensures.back c.hash_length-length.ensures c.split_at-2.ensures.front
    (c.colour_found.ensures ∙ ap (λ v. found_of (colour_what v) (c.hash_length-length.result + 1)) c.read_colour.ensures)
