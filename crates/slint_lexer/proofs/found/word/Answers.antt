use Rattle.std.proofs.Common.{ap, ◌∙◌}
use Rattle.slint_base.specs.Names.{normal_name}
use Rattle.slint_lexer.proofs.Fronts.{word_is, word_utf8}
use Rattle.slint_lexer.proofs.found.word.Goals as goal

pub text_of-requires : goal.text_of-requires
text_of-requires c = word_utf8 c.args.bytes.now c.split_at.result.0.now c.name_length-length.result c.name_length-length.ensures c.split_at.ensures.front

pub returns : goal.returns
returns c =
    word_is c.args.ends c.args.bytes.now c.split_at.result.0.now c.in_ok-name.name c.name_length-length.result c.requires c.name_length-length.ensures c.split_at.ensures.front
    (c.in_ok-name.ensures ∙ ap normal_name c.text_of.ensures)
