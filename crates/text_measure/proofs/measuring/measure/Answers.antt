use Rattle.std.proofs.Common.{◌≡◌, w64, ap, ◌∙◌}
use Rattle.std.proofs.lemmas.Int.{to_z-of_z}
use Rattle.std.specs.Str.{chars}
use Rattle.text_measure.specs.Measures.{font_size, scaled, text_width, text_rows}
use Rattle.text_measure.proofs.Pens.{cap}
use Rattle.text_measure.proofs.Sizes.{size-is}
use Rattle.text_measure.proofs.measuring.measure.Goals as goal

pub returns : goal.returns
returns c =
    let size : c.font_size-size.result ≡ font_size c.args.font = c.font_size-size.ensures ∙ ap font_size (to_z-of_z w64 c.args.font c.ranges.font) in
    let t = c.args.table.now in
    let w = c.written-pen.ensures in
    size-is _ _ _ _ _ (text_width t (font_size c.args.font) (chars c.args.text.now)) (text_rows t (font_size c.args.font) c.args.width (chars c.args.text.now)) (scaled (font_size c.args.font) t.line)
    (ap cap c.from.ensures ∙ w.width ∙ ap (λ n. cap (text_width t n (chars c.args.text.now))) size)
    (ap cap c.from-2.ensures ∙ w.rows ∙ ap (λ n. cap (text_rows t n c.args.width (chars c.args.text.now))) size)
    (c.from-3.ensures ∙ c.scaled.ensures ∙ ap (λ n. cap (scaled n c.line.result)) size ∙ ap (λ n. cap (scaled (font_size c.args.font) n)) c.line.ensures)
    c.saturated.ensures
    c.saturated-2.ensures
