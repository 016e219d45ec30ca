use Rattle.slint_base.proofs.Fitting.{cut_text_whole}
use Rattle.slint_base.proofs.laws.short_texts_stay_whole.Goals as goal

pub returns : goal.returns
returns c = cut_text_whole
