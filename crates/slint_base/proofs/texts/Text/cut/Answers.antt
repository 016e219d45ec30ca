use Rattle.std.proofs.Common.{rules}
use Rattle.slint_base.proofs.Fitting.{cut_text_at}
use Rattle.slint_base.proofs.texts.Text.cut.Goals as goal

pub returns : goal.returns
returns c =
    let end = c.floor_char_boundary-end in
    let cut = cut_text_at c.args.text.now end.result c.utf8.text end.ensures.bound end.ensures.boundary end.ensures.nearest in
    search (rules, c.from_str.ensures, c.split_at.ensures.front, cut)
