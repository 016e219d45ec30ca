use Rattle.slint_lexer.proofs.Fronts.{text_is}
use Rattle.slint_lexer.proofs.found.string.Goals as goal

pub returns : goal.returns
returns c =
    text_is c.args.first c.args.ends c.args.bytes.now c.split_at.result.1.now c.in_ok-run.run'.text c.split_at-2.result.1.now c.in_ok-run.run'.length c.text_look-look.result c.text_found.result
    c.requires c.split_at.ensures.back c.in_ok-run.ensures.run c.in_ok-run.ensures.within c.split_at-2.ensures.back c.text_look-look.ensures.value c.text_found.ensures
