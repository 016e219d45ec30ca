use Rattle.std.proofs.Common.{refl, ap, ◌∙◌}
use Rattle.slint_base.specs.Texts.{cut_text}
use Rattle.value_reading.proofs.PartLemmas.{no_string, a_string}
use Rattle.value_reading.proofs.parts.string_found.Goals as goal

pub returns-then-not-is_quoted : goal.returns-then-not-is_quoted
returns-then-not-is_quoted c =
    no_string c.args.bytes.now c.in_ok-run.run'.text _ c.in_ok-run.ensures.run (λ rest h. c.if-not-is_quoted.ensures rest (c.split_at.ensures.back ∙ h))

pub returns : goal.returns
returns c =
    let quote = c.if-not-is_quoted.ensures in
    a_string c.args.bytes.now c.in_ok-run.run'.text quote.0 c.split_at.result.1.now c.in_ok-run.run'.length _ c.in_ok-text.text c.in_ok-run.ensures.run c.split_at.ensures.back quote.1 (c.in_ok-text.ensures ∙ ap cut_text c.as_str.ensures) refl refl
